-- Elements and what is read of them, place by place; names that differ.
use Rattle.std.proofs.Common.{◌≡◌, ◌≢◌, ℕ, ◌+◌, ◌≤◌, Bool, true, false, List, [], ◌∷◌, ◌++◌, length, map, Result, Ok, refl, sym, ap, ◌∙◌, arith, append_assoc}
use Rattle.std.specs.Prelude.{IfOk}
use Rattle.std.specs.List.{list_any}
use Rattle.std.specs.Str.{bytes_eq}
use Rattle.std.proofs.lemmas.Bool.{or_parts, false_from_ne_true, true_from_ne_false}
use Rattle.std.proofs.lemmas.Bool.Decides.{not_from_Decides}
use Rattle.std.proofs.lemmas.List.{append-nil, length_push}
use Rattle.std.proofs.lemmas.List.Sums.{sum_by-cons, sum_by_push}
use Rattle.std.proofs.lemmas.Slice.Eq.{bytes_eq-Decides}
use Rattle.file_text.specs.Node.{Node}
use Rattle.file_text.specs.Grammar.{Each}
use Rattle.graph_reader.specs.declared.error.ReadError.{ReadError}
use Rattle.graph_reader.specs.TreeSteps.{each}
use Rattle.graph_reader.specs.declared.actors.Actor.{Actor}
use Rattle.graph_reader.specs.Sections.{is_among, port_count}
use Rattle.graph_reader.specs.Spelled.{Pairwise, EachTwo}
use Rattle.graph_reader.proofs.ReaderSteps.{then, weaker, then-ok}

-- the fact holds of each value and those before it
abbrev pub AfterEach : {X : Type 0} → (List X → X → Type 0) → List X → List X → Type 0
AfterEach C done [] = Unit {0}
AfterEach C done (x ∷ xs) = C done x × AfterEach C (done ++ x ∷ []) xs

-- what is read is, place by place, what each element gives after the earlier ones
abbrev pub Follows : {X : Type 0} → (Node → X → Type 0) → (List X → X → Type 0) → List X → List Node → List X → Type 0
Follows {X} P C done es ys = (xs : List X) × (ys ≡ done ++ xs) × Pairwise P es xs × AfterEach C done xs

pub each-gives : {X : Type 0} (P : Node → X → Type 0) (C : List X → X → Type 0) (read : List X → Node → Result X ReadError) → ((done : List X) (e : Node) → IfOk (read done e) (λ x. P e x × C done x))
    → (done : List X) (es : List Node) → IfOk (each read done es) (Follows P C done es)
each-gives P C read gives done [] = ([], sym (append-nil done), tt, tt)
each-gives P C read gives done (e ∷ es) =
    then (λ x. P e x × C done x) (Follows P C done (e ∷ es)) (read done e) (λ x. each read (done ++ x ∷ []) es) (gives done e) (λ x h.
    weaker (Follows P C (done ++ x ∷ []) es) (Follows P C done (e ∷ es)) (each read (done ++ x ∷ []) es) (each-gives P C read gives (done ++ x ∷ []) es) (λ ys f.
    (x ∷ f.0, f.1 ∙ append_assoc done (x ∷ []) f.0, (h.0, f.2), (h.1, f.3))))

pub each-given : {X : Type 0} (P : Node → X → Type 0) (C : List X → X → Type 0) (read : List X → Node → Result X ReadError) → ((done : List X) (e : Node) (x : X) → P e x → C done x → read done e ≡ Ok x)
    → (done : List X) (es : List Node) (xs : List X) → Pairwise P es xs → AfterEach C done xs → each read done es ≡ Ok (done ++ xs)
each-given P C read given done [] [] pairs after = ap Ok (sym (append-nil done))
each-given P C read given done [] (x ∷ xs) pairs after = absurd pairs
each-given P C read given done (e ∷ es) [] pairs after = absurd pairs
each-given P C read given done (e ∷ es) (x ∷ xs) pairs after =
    then-ok (read done e) (λ y. each read (done ++ y ∷ []) es) x (Ok (done ++ x ∷ xs)) (given done e x pairs.0 after.0)
    (each-given P C read given (done ++ x ∷ []) es xs pairs.1 after.1 ∙ ap Ok (append_assoc done (x ∷ []) xs))

-- ---- each two

Each-push : {X : Type 0} (Q : X → Type 0) (xs : List X) (x : X) → Each Q xs → Q x → Each Q (xs ++ x ∷ [])
Each-push Q [] x all last = (last, tt)
Each-push Q (y ∷ ys) x all last = (all.0, Each-push Q ys x all.1 last)

Each-pushed : {X : Type 0} (Q : X → Type 0) (xs : List X) (x : X) → Each Q (xs ++ x ∷ []) → Each Q xs × Q x
Each-pushed Q [] x all = (tt, all.0)
Each-pushed Q (y ∷ ys) x all =
    let rest = Each-pushed Q ys x all.1 in
    ((all.0, rest.0), rest.1)

pub Each-both : {X : Type 0} (P Q R : X → Type 0) (xs : List X) → Each P xs → Each Q xs → ((x : X) → P x → Q x → R x) → Each R xs
Each-both P Q R [] p q f = tt
Each-both P Q R (x ∷ xs) p q f = (f x p.0 q.0, Each-both P Q R xs p.1 q.1 f)

pub Each-weaker : {X : Type 0} (P Q : X → Type 0) (xs : List X) → Each P xs → ((x : X) → P x → Q x) → Each Q xs
Each-weaker P Q [] p f = tt
Each-weaker P Q (x ∷ xs) p f = (f x p.0, Each-weaker P Q xs p.1 f)

Each-none : {X : Type 0} (R : X → X → Type 0) (done : List X) → Each (λ y. Each (R y) []) done
Each-none R [] = tt
Each-none R (y ∷ done) = (tt, Each-none R done)

-- each value is related to those before it, and something else holds of it
abbrev pub Related : {X : Type 0} → (X → X → Type 0) → (List X → X → Type 0) → List X → X → Type 0
Related R N done x = Each (λ y. R y x) done × N done x

record Split {X : Type 0} (R : X → X → Type 0) (N : List X → X → Type 0) (done xs : List X) : Type 0 where
  two : EachTwo R xs
  others : Each (λ y. Each (R y) xs) done
  after : AfterEach N done xs

split : {X : Type 0} (R : X → X → Type 0) (N : List X → X → Type 0) (done xs : List X) → AfterEach (Related R N) done xs → Split R N done xs
split R N done [] h = record { two = tt; others = Each-none R done; after = tt }
split R N done (x ∷ xs) h =
    let rest = split R N (done ++ x ∷ []) xs h.1 in
    let parts = Each-pushed (λ y. Each (R y) xs) done x rest.others in
    record {
      two = (parts.1, rest.two);
      others = Each-both (λ y. R y x) (λ y. Each (R y) xs) (λ y. Each (R y) (x ∷ xs)) done h.0.0 parts.0 (λ y p q. (p, q));
      after = (h.0.1, rest.after);
    }

pub two-from_after : {X : Type 0} (R : X → X → Type 0) (N : List X → X → Type 0) (xs : List X) → AfterEach (Related R N) [] xs → EachTwo R xs
two-from_after R N xs h = (split R N [] xs h).two

pub count-from_after : {X : Type 0} (R : X → X → Type 0) (N : List X → X → Type 0) (xs : List X) → AfterEach (Related R N) [] xs → AfterEach N [] xs
count-from_after R N xs h = (split R N [] xs h).after

join : {X : Type 0} (R : X → X → Type 0) (N : List X → X → Type 0) (done xs : List X) → EachTwo R xs → Each (λ y. Each (R y) xs) done → AfterEach N done xs → AfterEach (Related R N) done xs
join R N done [] two others after = tt
join R N done (x ∷ xs) two others after = (
  (Each-weaker (λ y. Each (R y) (x ∷ xs)) (λ y. R y x) done others (λ y h. h.0), after.0),
  join R N (done ++ x ∷ []) xs two.1 (Each-push (λ y. Each (R y) xs) done x (Each-weaker (λ y. Each (R y) (x ∷ xs)) (λ y. Each (R y) xs) done others (λ y h. h.1)) two.0) after.1,
)

pub after-from_two : {X : Type 0} (R : X → X → Type 0) (N : List X → X → Type 0) (xs : List X) → EachTwo R xs → AfterEach N [] xs → AfterEach (Related R N) [] xs
after-from_two R N xs two after = join R N [] xs two tt after

-- ---- counts

-- a count from a start on is within a limit
abbrev pub Counted : {X : Type 0} → ℕ → ℕ → List X → X → Type 0
Counted start limit done x = start + length done + 1 ≤ limit

pub few-from_counted : {X : Type 0} (start limit : ℕ) (done xs : List X) → start + length done ≤ limit → AfterEach (Counted start limit) done xs → start + length done + length xs ≤ limit
few-from_counted start limit done [] few after = omega arith
few-from_counted start limit done (x ∷ xs) few after =
    let here : start + length done + 1 ≤ limit = after.0 in
    let push = length_push done x in
    let next : start + length (done ++ x ∷ []) ≤ limit = omega arith in
    let rest = few-from_counted start limit (done ++ x ∷ []) xs next after.1 in
    omega arith

pub counted-from_few : {X : Type 0} (start limit : ℕ) (done xs : List X) → start + length done + length xs ≤ limit → AfterEach (Counted start limit) done xs
counted-from_few start limit done [] few = tt
counted-from_few start limit done (x ∷ xs) few =
    let push = length_push done x in
    let next : start + length (done ++ x ∷ []) + length xs ≤ limit = omega arith in
    (omega arith, counted-from_few start limit (done ++ x ∷ []) xs next)

pub no-count : {X : Type 0} (done xs : List X) → AfterEach (λ d x. Unit {0}) done xs
no-count done [] = tt
no-count done (x ∷ xs) = (tt, no-count (done ++ x ∷ []) xs)

pub port_count-cons : (a : Actor) (actors : List Actor) → port_count (a ∷ actors) ≡ length a.ports + port_count actors
port_count-cons a actors = sum_by-cons (λ (b : Actor). length b.ports) a actors

pub port_count-push : (done : List Actor) (a : Actor) → port_count (done ++ a ∷ []) ≡ port_count done + length a.ports
port_count-push done a = sum_by_push (λ (b : Actor). length b.ports) done a

-- ---- names

pub Each-from_none : {X : Type 0} (test : X → Bool) (xs : List X) → list_any test xs ≡ false → Each (λ x. test x ≡ false) xs
Each-from_none test [] h = tt
Each-from_none test (x ∷ xs) h =
    let parts = or_parts (test x) (list_any test xs) h in
    (parts.0, Each-from_none test xs parts.1)

pub none-from_Each : {X : Type 0} (test : X → Bool) (xs : List X) → Each (λ x. test x ≡ false) xs → list_any test xs ≡ false
none-from_Each test [] h = refl
none-from_Each test (x ∷ xs) h = rw h.0 (none-from_Each test xs h.1)

pub differ : {X : Type 0} (f : X → List ℕ) (name : List ℕ) (xs : List X) → is_among name (map f xs) ≡ false → Each (λ x. f x ≢ name) xs
differ f name [] h = tt
differ f name (x ∷ xs) h =
    let parts = or_parts (bytes_eq (f x) name) (is_among name (map f xs)) h in
    (not_from_Decides (bytes_eq (f x) name) (bytes_eq-Decides (f x) name) parts.0, differ f name xs parts.1)

pub not-among : {X : Type 0} (f : X → List ℕ) (name : List ℕ) (xs : List X) → Each (λ x. f x ≢ name) xs → is_among name (map f xs) ≡ false
not-among f name [] h = refl
not-among f name (x ∷ xs) h =
    let first : bytes_eq (f x) name ≡ false = false_from_ne_true (bytes_eq (f x) name) (λ e. h.0 ((bytes_eq-Decides (f x) name).0 e)) in
    rw first (not-among f name xs h.1)

pub among : {X : Type 0} (f : X → List ℕ) (name : List ℕ) (xs : List X) → (Each (λ x. f x ≢ name) xs → ⊥) → is_among name (map f xs) ≡ true
among f name xs h = true_from_ne_false (is_among name (map f xs)) (λ e. h (differ f name xs e))
