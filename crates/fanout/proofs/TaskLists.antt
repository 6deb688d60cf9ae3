-- Lists of tasks and of their answers: what jobs have kept of them, turned round, taken off the end one by one; and the list
-- behind a slice that was lent.
use Rattle.std.proofs.Common.{◌≡◌, suc, ◌+◌, ◌-◌, List, [], ◌∷◌, ◌++◌, length, map, reverse, take, drop, append_assoc, refl, sym, ap, ◌∙◌, subst, arith}
use Rattle.std.specs.Prelude.{All}
use Rattle.std.proofs.lemmas.List.{get_or_append_left, get_or-append-add, get_or-reverse, length-append, length-reverse, map-append, reverse-append, reverse-reverse}
use Rattle.fanout.specs.JobRuns.{EachRan}

pub slice-back : {A : Type 0} (new old : List A) → length new ≡ length old → take (length old) (new ++ drop (length new) old) ≡ new
slice-back [] [] same = refl
slice-back [] (y ∷ ys) same = absurd (omega arith)
slice-back (x ∷ xs) [] same = absurd (omega arith)
slice-back (x ∷ xs) (y ∷ ys) same = ap (λ zs. x ∷ zs) (slice-back xs ys (omega arith))

pub map-same : {A B : Type 0} (R : A → A → Type 0) (f : A → B) → ((x y : A) → R x y → f y ≡ f x) → (before after : List A) → EachRan R before after → map f after ≡ map f before
map-same R f keeps [] [] ran = refl
map-same R f keeps [] (y ∷ ys) ran = absurd (omega (arith, ran.many))
map-same R f keeps (x ∷ xs) [] ran = absurd (omega (arith, ran.many))
map-same R f keeps (x ∷ xs) (y ∷ ys) ran =
    let here : f y ≡ f x = keeps x y (ran.each 0 x (omega arith)) in
    let later : EachRan R xs ys = record { many = omega (arith, ran.many); each = λ k d below. ran.each (suc k) d (omega arith) } in
    ap (λ z. z ∷ map f ys) here ∙ ap (λ zs. f x ∷ zs) (map-same R f keeps xs ys later)

map-reverse : {A B : Type 0} (f : A → B) (xs : List A) → map f (reverse xs) ≡ reverse (map f xs)
map-reverse f [] = refl
map-reverse f (x ∷ xs) = ap (map f) (reverse-append (x ∷ []) xs) ∙ (map-append f (reverse xs) (x ∷ []) ∙ (ap (λ ys. ys ++ f x ∷ []) (map-reverse f xs) ∙ sym (reverse-append (f x ∷ []) (map f xs))))

-- a map of a list that was turned round, turned round
pub turned-back : {A B : Type 0} (f : A → B) (xs : List A) → reverse (map f (reverse xs)) ≡ map f xs
turned-back f xs = ap reverse (map-reverse f xs) ∙ reverse-reverse (map f xs)

pub all-reverse : {A : Type 0} (P : A → Type 0) (xs : List A) → All P xs → All P (reverse xs)
all-reverse P xs all = λ k d below. subst P (sym (get_or-reverse xs k d (omega (arith, below, length-reverse xs)))) (all (length xs - 1 - k) d (omega (arith, below, length-reverse xs)))

-- all of a list, and its last element
pub all-front : {A : Type 0} (P : A → Type 0) (xs : List A) (x : A) → All P (xs ++ x ∷ []) → All P xs
all-front P xs x all = λ k d below. subst P (get_or_append_left xs (x ∷ []) d k below) (all k d (omega (arith, below, length-append xs (x ∷ []))))

pub all-last : {A : Type 0} (P : A → Type 0) (xs : List A) (x : A) → All P (xs ++ x ∷ []) → P x
all-last P xs x all = subst P (get_or-append-add xs (x ∷ []) 0 x) (all (length xs + 0) x (omega (arith, length-append xs (x ∷ []))))

-- one more task is taken off the end, and its answer put last
pub drained-more : {A B C : Type 0} (f : A → C) (h : B → C) (tasks rest : List A) (t : A) (answers new : List B) (a : B) → tasks ≡ rest ++ t ∷ [] →
    new ≡ answers ++ a ∷ [] → f t ≡ h a → map h answers ++ reverse (map f tasks) ≡ map h new ++ reverse (map f rest)
drained-more f h tasks rest t answers new a taken pushed same =
    ap (λ xs. map h answers ++ reverse (map f xs)) taken
    ∙ (ap (λ ys. map h answers ++ reverse ys) (map-append f rest (t ∷ []))
    ∙ (ap (λ ys. map h answers ++ ys) (reverse-append (map f rest) (f t ∷ []))
    ∙ (ap (λ x. map h answers ++ (x ∷ reverse (map f rest))) same
    ∙ (sym (append_assoc (map h answers) (h a ∷ []) (reverse (map f rest)))
    ∙ (ap (λ ys. ys ++ reverse (map f rest)) (sym (map-append h answers (a ∷ [])))
    ∙ ap (λ xs. map h xs ++ reverse (map f rest)) (sym pushed))))))
