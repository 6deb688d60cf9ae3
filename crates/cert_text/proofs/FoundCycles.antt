-- Cycles that are found among those before them, by their texts.
use Rattle.std.proofs.Common.{◌≡◌, ◌≢◌, ℕ, zero, suc, ◌+◌, ◌-◌, ◌<◌, ◌≤◌, ◌⊎◌, Bool, true, false, List, [], ◌∷◌, ◌++◌, length, take, Ok, Err, Some, None, refl, sym, ap, ◌∙◌, subst, append_assoc, arith, inl, inr, Bor, Ordering, length-append, take_at}
use Rattle.std.specs.Prelude.{not, ◌||◌, cond, if◌then◌else◌}
use Rattle.std.specs.BTreeMap.{BTreeMap, get, is_at}
use Rattle.std.specs.Cmp.Lexicographic.{slice_cmp}
use Rattle.std.specs.List.{list_any, position_or_len}
use Rattle.std.specs.Ordering.{nat_cmp}
use Rattle.std.specs.Str.{bytes_eq}
use Rattle.std.proofs.lemmas.List.{append-nil}
use Rattle.std.proofs.lemmas.List.Folds.{list_any-append}
use Rattle.std.proofs.lemmas.Map.Text.{is_eq-slice_cmp}
use Rattle.std.proofs.lemmas.Slice.Eq.{bytes_eq-Decides}
use Rattle.sd_base.proofs.ByteTestsDecide.{same_bytes}
use Rattle.cert_text.specs.declared.certificates.LinkCycle.{LinkCycle}
use Rattle.cert_text.specs.declared.reading.fault.Fault.{Fault}
use Rattle.cert_text.specs.declared.reading.fault.Fault.TheVariants.{Memory}
use Rattle.cert_text.specs.CycleLines.{cycle_lines}
use Rattle.cert_text.specs.Found.{HasTexts, has_text, number_of}
use Rattle.cert_text.specs.LineForms.{same}
use Rattle.cert_text.specs.MemberLines.{cycle_at, no_cycle}
use Rattle.cert_text.specs.Orderly.{Differ}
use Rattle.std.proofs.lemmas.Bool.{cases_lt}
use Rattle.std.proofs.Math.ListN.{get_or-append}
use Rattle.std.proofs.Math.Seq.{get_or-append_seam}
use Rattle.cert_text.specs.Reads.{Reads, ◌>>=◌, handing}
use Rattle.cert_text.specs.Sections.{place_of, same_cycle, with_cycle, new_cycle_from, new_cycles_from}

-- ---- the map of the texts

same-itself : (c d : LinkCycle) → c ≡ d → same_cycle d c ≡ true
same-itself c d e = ap (λ (x : LinkCycle). same_cycle d x) e ∙ same_bytes (cycle_lines d)

abbrev pub by_text : Bor (List ℕ) → Bor (List ℕ) → Ordering
by_text a b = slice_cmp nat_cmp a.now b.now

-- where a text has a number, it is that of its cycle
pub found-number : (cycles : List LinkCycle) (text : List ℕ) (c : LinkCycle) (n : ℕ) → text ≡ cycle_lines c → Some n ≡ number_of cycles text → (n ≡ place_of cycles c) × (list_any (same_cycle c) cycles ≡ true)
found-number cycles text c n is found = known (list_any (same_cycle c) cycles) refl (found ∙ ap (λ (t : List ℕ). number_of cycles t) is)
  where
    known : (b : Bool) → list_any (same_cycle c) cycles ≡ b → Some n ≡ (if b then Some (place_of cycles c) else None) → (n ≡ place_of cycles c) × (list_any (same_cycle c) cycles ≡ true)
    known true e f = (cc, e)
    known false e f = absurd cc

pub found-none : (cycles : List LinkCycle) (text : List ℕ) (c : LinkCycle) → text ≡ cycle_lines c → None ≡ number_of cycles text → list_any (same_cycle c) cycles ≡ false
found-none cycles text c is found = known (list_any (same_cycle c) cycles) refl (found ∙ ap (λ (t : List ℕ). number_of cycles t) is)
  where
    known : (b : Bool) → list_any (same_cycle c) cycles ≡ b → None ≡ (if b then Some (place_of cycles c) else None) → list_any (same_cycle c) cycles ≡ false
    known true e f = absurd cc
    known false e f = e

-- an element that passes keeps its place, and a new one stands behind all where none passes
place-pushed : {X : Type 0} (p : X → Bool) (xs : List X) (y : X) → list_any p xs ≡ true → position_or_len p (xs ++ y ∷ []) ≡ position_or_len p xs
place-pushed p [] y some = absurd cc
place-pushed p (x ∷ xs) y some = first (λ f. place-pushed p xs y f) (p x) refl some
  where
    first : (list_any p xs ≡ true → position_or_len p (xs ++ y ∷ []) ≡ position_or_len p xs) → (b : Bool) → p x ≡ b → (b || list_any p xs) ≡ true → position_or_len p ((x ∷ xs) ++ y ∷ []) ≡ position_or_len p (x ∷ xs)
    first rest true e f = rw e refl
    first rest false e f = rw e (ap (λ (n : ℕ). 1 + n) (rest f))

place-last : {X : Type 0} (p : X → Bool) (xs : List X) (y : X) → list_any p xs ≡ false → p y ≡ true → position_or_len p (xs ++ y ∷ []) ≡ length xs
place-last p [] y none here = rw here refl
place-last p (x ∷ xs) y none here = first (λ f. place-last p xs y f here) (p x) refl none
  where
    first : (list_any p xs ≡ false → position_or_len p (xs ++ y ∷ []) ≡ length xs) → (b : Bool) → p x ≡ b → (b || list_any p xs) ≡ false → position_or_len p ((x ∷ xs) ++ y ∷ []) ≡ length (x ∷ xs)
    first rest true e f = absurd cc
    first rest false e f = rw e (omega (arith, rest f))

-- the numbers once a cycle stands behind the others
number-other : (cycles : List LinkCycle) (c : LinkCycle) (text : List ℕ) → same text (cycle_lines c) ≡ false → number_of (cycles ++ c ∷ []) text ≡ number_of cycles text
number-other cycles c text other = known (list_any (has_text text) cycles) refl
  where
    any : list_any (has_text text) (cycles ++ c ∷ []) ≡ (list_any (has_text text) cycles || (same text (cycle_lines c) || false))
    any = list_any-append (has_text text) cycles (c ∷ [])

    known : (b : Bool) → list_any (has_text text) cycles ≡ b → number_of (cycles ++ c ∷ []) text ≡ number_of cycles text
    known true e = rw (any, e, place-pushed (has_text text) cycles c e) refl
    known false e = rw (any, e, other) refl

number-last : (cycles : List LinkCycle) (c : LinkCycle) (text : List ℕ) → list_any (has_text text) cycles ≡ false → same text (cycle_lines c) ≡ true → number_of (cycles ++ c ∷ []) text ≡ Some (length cycles)
number-last cycles c text none here =
    let any : list_any (has_text text) (cycles ++ c ∷ []) ≡ true = rw (list_any-append (has_text text) cycles (c ∷ []), none, here) refl in
    rw (any, place-last (has_text text) cycles c none here) refl

pub texts-more : (numbers more : BTreeMap (Bor (List ℕ)) ℕ) (old new : List LinkCycle) (c : LinkCycle) (text : Bor (List ℕ)) (n : ℕ) → text.now ≡ cycle_lines c → list_any (same_cycle c) old ≡ false → n ≡ length old
    → ((q : Bor (List ℕ)) → get by_text more q ≡ cond (is_at (by_text text) q) (Some n) (get by_text numbers q)) → HasTexts numbers old → new ≡ old ++ c ∷ [] → HasTexts more new
texts-more numbers more old new c text n is none count updates known pushed q = split (bytes_eq text.now q.now) refl
  where
    at-key : is_at (by_text text) q ≡ bytes_eq text.now q.now
    at-key = is_eq-slice_cmp text.now q.now

    split : (b : Bool) → bytes_eq text.now q.now ≡ b → get by_text more q ≡ number_of new q.now
    split true e =
        let alike : text.now ≡ q.now = (bytes_eq-Decides text.now q.now).0 e in
        let lines : q.now ≡ cycle_lines c = sym alike ∙ is in
        let last : number_of (old ++ c ∷ []) (cycle_lines c) ≡ Some (length old) = number-last old c (cycle_lines c) none (same-itself c c refl) in
        updates q ∙ (ap (λ (b : Bool). cond b (Some n) (get by_text numbers q)) (at-key ∙ e) ∙ (ap (λ (k : ℕ). Some k) count ∙ (sym last ∙ (ap (λ (t : List ℕ). number_of (old ++ c ∷ []) t) (sym lines) ∙ ap (λ (l : List LinkCycle). number_of l q.now) (sym pushed)))))
    split false e =
        let apart : text.now ≢ q.now = λ (alike : text.now ≡ q.now). absurd (cc (e, (bytes_eq-Decides text.now q.now).1 alike)) in
        let other : same q.now (cycle_lines c) ≡ false = differs (same q.now (cycle_lines c)) refl (λ alike. apart (is ∙ sym alike)) in
        updates q ∙ (ap (λ (b : Bool). cond b (Some n) (get by_text numbers q)) (at-key ∙ e) ∙ (known q ∙ (sym (number-other old c q.now other) ∙ ap (λ (l : List LinkCycle). number_of l q.now) (sym pushed))))
      where
        differs : (b : Bool) → same q.now (cycle_lines c) ≡ b → q.now ≢ cycle_lines c → b ≡ false
        differs true f apart = absurd (apart ((bytes_eq-Decides q.now (cycle_lines c)).0 f))
        differs false f apart = refl

pub text-taken : (old new lines taken : List ℕ) (n : ℕ) → old ≡ lines ++ new → n ≡ length old - length new → taken ≡ take n old → taken ≡ lines
text-taken old new lines taken n is size front =
    let all : length old ≡ length lines + length new = ap length is ∙ length-append lines new in
    let same : length lines ≡ n = omega (arith, all, size) in
    front ∙ (ap (λ (l : List ℕ). take n l) is ∙ take_at lines new n same)

pub with-new : (old new : List LinkCycle) (c : LinkCycle) → list_any (same_cycle c) old ≡ false → new ≡ old ++ c ∷ [] → new ≡ with_cycle old c
with-new old new c none pushed = rw none pushed

pub with-old : (old : List LinkCycle) (c : LinkCycle) → list_any (same_cycle c) old ≡ true → old ≡ with_cycle old c
with-old old c some = rw some refl

-- ---- what is read with something known

abbrev pub with_members : {S A : Type 0} → List A → Reads (S × List A) → Reads (S × List A)
with_members front read = read >>= λ r. Ok ((r.0.0, front ++ r.0.1), r.1)

module _ {S A : Type 0} (f : S → List (List ℕ) → Reads (S × A)) where
  regroup : (front : List A) (x : A) (read : Reads (S × List A)) → with_members front (read >>= λ r. Ok ((r.0.0, x ∷ r.0.1), r.1)) ≡ with_members (front ++ x ∷ []) read
  regroup front x (Ok r) = ap (λ (xs : List A). let y : Reads (S × List A) = Ok ((r.0.0, xs), r.1) in y) (sym (append_assoc front (x ∷ []) r.0.1))
  regroup front x (Err e) = refl

  pub handing-start : (count : ℕ) (known : S) (lines : List (List ℕ)) → with_members [] (handing f (count - 0) known lines) ≡ handing f count known lines
  handing-start count known lines = let k : count - 0 ≡ count = omega arith in rw k (none (handing f count known lines))
    where
      none : (read : Reads (S × List A)) → with_members [] read ≡ read
      none (Ok r) = refl
      none (Err e) = refl

  pub handing-more : (front all : List A) (count i : ℕ) (known more : S) (lines left : List (List ℕ)) (x : A) (total : Reads (S × List A)) → i < count → f known lines ≡ Ok ((more, x), left) → all ≡ front ++ x ∷ []
      → with_members front (handing f (count - i) known lines) ≡ total → with_members all (handing f (count - (i + 1)) more left) ≡ total
  unfolding handing
  handing-more front all count i known more lines left x total less read pushed so_far =
      let k : count - i ≡ suc (count - (i + 1)) = omega arith in
      let one : with_members front (handing f (count - i) known lines) ≡ with_members (front ++ x ∷ []) (handing f (count - (i + 1)) more left) = rw (k, read) (regroup front x (handing f (count - (i + 1)) more left)) in
      rw pushed (sym one ∙ so_far)

  pub handing-fails : (front : List A) (count i : ℕ) (known : S) (lines left : List (List ℕ)) (e : Fault) (total : Reads (S × List A)) → i < count → (e ≡ Memory) ⊎ (f known lines ≡ Err (e, left))
      → with_members front (handing f (count - i) known lines) ≡ total → (e ≡ Memory) ⊎ (total ≡ Err (e, left))
  unfolding handing
  handing-fails front count i known lines left e total less (inl memory) so_far = inl memory
  handing-fails front count i known lines left e total less (inr read) so_far =
      let k : count - i ≡ suc (count - (i + 1)) = omega arith in
      let one : with_members front (handing f (count - i) known lines) ≡ Err (e, left) = rw (k, read) refl in
      inr (sym so_far ∙ one)

  pub handing-ends : (front : List A) (count i : ℕ) (known : S) (lines : List (List ℕ)) (total : Reads (S × List A)) → count ≤ i → with_members front (handing f (count - i) known lines) ≡ total → total ≡ Ok ((known, front), lines)
  unfolding handing
  handing-ends front count i known lines total past so_far =
      let k : count - i ≡ 0 = omega arith in
      let one : with_members front (handing f (count - i) known lines) ≡ Ok ((known, front), lines) = rw k (ap (λ (xs : List A). let y : Reads (S × List A) = Ok ((known, xs), lines) in y) (append-nil front)) in
      sym so_far ∙ one

-- ---- the list of the cycles

pub cycles-more : (count i : ℕ) (cycles more : List LinkCycle) (lines left : List (List ℕ)) (total : Reads (List LinkCycle)) → i < count → new_cycle_from cycles lines ≡ Ok (more, left)
    → new_cycles_from (count - i) cycles lines ≡ total → new_cycles_from (count - (i + 1)) more left ≡ total
unfolding new_cycles_from
cycles-more count i cycles more lines left total less read so_far =
    let k : count - i ≡ suc (count - (i + 1)) = omega arith in
    let one : new_cycles_from (count - i) cycles lines ≡ new_cycles_from (count - (i + 1)) more left = rw (k, read) refl in
    sym one ∙ so_far

pub cycles-fails : (count i : ℕ) (cycles : List LinkCycle) (lines left : List (List ℕ)) (e : Fault) (total : Reads (List LinkCycle)) → i < count → (e ≡ Memory) ⊎ (new_cycle_from cycles lines ≡ Err (e, left))
    → new_cycles_from (count - i) cycles lines ≡ total → (e ≡ Memory) ⊎ (total ≡ Err (e, left))
unfolding new_cycles_from
cycles-fails count i cycles lines left e total less (inl memory) so_far = inl memory
cycles-fails count i cycles lines left e total less (inr read) so_far =
    let k : count - i ≡ suc (count - (i + 1)) = omega arith in
    let one : new_cycles_from (count - i) cycles lines ≡ Err (e, left) = rw (k, read) refl in
    inr (sym so_far ∙ one)

pub cycles-ends : (count i : ℕ) (cycles : List LinkCycle) (lines : List (List ℕ)) (total : Reads (List LinkCycle)) → count ≤ i → new_cycles_from (count - i) cycles lines ≡ total → total ≡ Ok (cycles, lines)
unfolding new_cycles_from
cycles-ends count i cycles lines total past so_far =
    let k : count - i ≡ 0 = omega arith in
    let one : new_cycles_from (count - i) cycles lines ≡ Ok (cycles, lines) = rw k refl in
    sym so_far ∙ one

-- ---- cycles that differ

none-same : (cycles : List LinkCycle) (c : LinkCycle) (i : ℕ) → list_any (same_cycle c) cycles ≡ false → i < length cycles → cycle_at cycles i ≢ c
none-same [] c i none within = absurd (omega (arith, within))
none-same (x ∷ xs) c zero none within = λ e. let yes = same-itself x c e in absurd (cc (none, ap (λ (b : Bool). b || list_any (same_cycle c) xs) yes))
none-same (x ∷ xs) c (suc i) none within = none-same xs c i (right (same_cycle c x) none) (omega (arith, within))
  where
    right : (b : Bool) → (b || list_any (same_cycle c) xs) ≡ false → list_any (same_cycle c) xs ≡ false
    right true e = absurd cc
    right false e = e

pub differ-more : (cycles all : List LinkCycle) (c : LinkCycle) → Differ cycles → list_any (same_cycle c) cycles ≡ false → all ≡ cycles ++ c ∷ [] → Differ all
differ-more cycles all c differ none pushed = subst Differ (sym pushed) (λ i j less within.
    let size : length (cycles ++ c ∷ []) ≡ length cycles + 1 = length-append cycles (c ∷ []) in
    elim (cases_lt j (length cycles)) [
      | inl lt ↦ let a = get_or-append cycles (c ∷ []) no_cycle i (omega (arith, lt, less)) in let b = get_or-append cycles (c ∷ []) no_cycle j lt in λ e. differ i j less lt (sym a ∙ (e ∙ b))
      | inr le ↦
          let last : j ≡ length cycles = omega (arith, le, within, size) in
          let a = get_or-append cycles (c ∷ []) no_cycle i (omega (arith, last, less)) in
          let b : cycle_at (cycles ++ c ∷ []) j ≡ c = rw last (get_or-append_seam cycles c [] no_cycle) in
          λ e. none-same cycles c i none (omega (arith, last, less)) (sym a ∙ (e ∙ b))
    ])

pub fresh-cycle : (old new : List LinkCycle) (c : LinkCycle) (is_new : Bool) → not is_new ≡ false → is_new ≡ not (list_any (same_cycle c) old) → new ≡ with_cycle old c → (list_any (same_cycle c) old ≡ false) × (new ≡ old ++ c ∷ [])
fresh-cycle old new c is_new holds is made = split (list_any (same_cycle c) old) refl (sym (ap not is) ∙ holds)
  where
    split : (known : Bool) → list_any (same_cycle c) old ≡ known → not (not known) ≡ false → (list_any (same_cycle c) old ≡ false) × (new ≡ old ++ c ∷ [])
    split true e t = absurd cc
    split false e t = (e, made ∙ rw e refl)
