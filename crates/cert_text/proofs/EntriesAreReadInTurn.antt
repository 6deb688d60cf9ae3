-- The entries of a line are read one after the other, each within its limits.
use Rattle.std.proofs.Common.{◌≡◌, ℕ, zero, suc, ◌<◌, ◌≤◌, ◌^◌, Bool, true, false, List, [], ◌∷◌, ◌++◌, Option, Some, None, All, length, Result, Ok, Err, refl, sym, ap, ◌∙◌, subst, append_assoc, arith, inr}
use Rattle.std.specs.Prelude.{nat_lt, if◌then◌else◌, IfOk, codes, ◌==◌}
use Rattle.std.specs.List.{flat_map, AllByRecursion}
use Rattle.std.specs.Fmt.{decimal}
use Rattle.std.proofs.lemmas.Bool.{lt-ltb, le-ltb, leb-true, eqb-true}
use Rattle.std.proofs.Math.Dec.{leb}
use Rattle.std.proofs.lemmas.List.Elements.{All-from_recursion}
use Rattle.std.proofs.lemmas.List.{append-nil}
use Rattle.cert_text.specs.declared.reading.fault.Fault.{Fault}
use Rattle.cert_text.specs.declared.reading.fault.Fault.TheVariants.{Large}
use Rattle.cert_text.specs.Reads.{◌>>=◌, GivesLine}
use Rattle.cert_text.specs.Collected.{collected, one_more}
use Rattle.cert_text.specs.Fields.{behind, number_in, worded_in, ended, entries_of, each_by, limited}
use Rattle.cert_text.specs.LineForms.{numbers_due, limited_long, capacity_in, capacity_limited, capacities_due, hyphen_or_number_in}
use Rattle.cert_text.specs.MemberLines.{capacity_text, member_line}
use Rattle.cert_text.specs.NumberLines.{spaced, numbers_line}
use Rattle.cert_text.proofs.WordsLeaveTheRest.{behind-sound, ended-sound, fine, ok-is}
use Rattle.cert_text.proofs.DigitsSpellValues.{number-sound}

-- what stands in front was read, and the rest of the text is
pub record Goes {A B : Type 0} (f : List ℕ → Result (A × List ℕ) Fault) (g : List A → Result B Fault) (front : List A) (text : List ℕ) (total : Result B Fault) : Type 0 where
  pub fuel : ℕ
  pub enough : length text ≤ fuel
  pub goes : (entries_of f fuel text >>= λ xs. g (front ++ xs)) ≡ total

module _ {A B : Type 0} (f : List ℕ → Result (A × List ℕ) Fault) (g : List A → Result B Fault) where
  regroup : (front : List A) (x : A) (r : Result (List A) Fault) → ((r >>= λ xs. Ok (x ∷ xs)) >>= λ xs. g (front ++ xs)) ≡ (r >>= λ xs. g ((front ++ x ∷ []) ++ xs))
  regroup front x (Ok xs) = ap g (sym (append_assoc front (x ∷ []) xs))
  regroup front x (Err e) = refl

  pub goes-start : (text : List ℕ) (total : Result B Fault) → (entries_of f (length text) text >>= g) ≡ total → Goes f g [] text total
  goes-start text total e = record { fuel = length text; enough = omega arith; goes = e }

  pub goes-more : (front : List A) (text : List ℕ) (total : Result B Fault) (x : A) (left : List ℕ) → Goes f g front text total → 1 < length text → f text ≡ Ok (x, left) → length left < length text
      → Goes f g (front ++ x ∷ []) left total
  unfolding entries_of
  goes-more front text total x left h more read less = step h.fuel h.enough h.goes
    where
      step : (fuel : ℕ) → length text ≤ fuel → (entries_of f fuel text >>= λ xs. g (front ++ xs)) ≡ total → Goes f g (front ++ x ∷ []) left total
      step zero enough goes = absurd (omega (arith, more, enough))
      step (suc fuel) enough goes =
          let opened : (entries_of f (suc fuel) text >>= λ xs. g (front ++ xs)) ≡ (entries_of f fuel left >>= λ xs. g ((front ++ x ∷ []) ++ xs)) = rw (lt-ltb 1 (length text) more, read) (regroup front x (entries_of f fuel left)) in
          record { fuel = fuel; enough = omega (arith, less, enough); goes = sym opened ∙ goes }

  pub goes-fails : (front : List A) (text : List ℕ) (total : Result B Fault) (e : Fault) → Goes f g front text total → 1 < length text → f text ≡ Err e → total ≡ Err e
  unfolding entries_of
  goes-fails front text total e h more read = step h.fuel h.enough h.goes
    where
      step : (fuel : ℕ) → length text ≤ fuel → (entries_of f fuel text >>= λ xs. g (front ++ xs)) ≡ total → total ≡ Err e
      step zero enough goes = absurd (omega (arith, more, enough))
      step (suc fuel) enough goes =
          let opened : (entries_of f (suc fuel) text >>= λ xs. g (front ++ xs)) ≡ Err e = rw (lt-ltb 1 (length text) more, read) refl in
          sym goes ∙ opened

  pub goes-ends : (front : List A) (text left : List ℕ) (total : Result B Fault) → Goes f g front text total → length text ≤ 1 → ended text ≡ Ok left → total ≡ g front
  unfolding entries_of
  goes-ends front text left total h last end = step h.fuel h.goes
    where
      step : (fuel : ℕ) → (entries_of f fuel text >>= λ xs. g (front ++ xs)) ≡ total → total ≡ g front
      step zero goes =
          let opened : (entries_of f zero text >>= λ xs. g (front ++ xs)) ≡ g front = rw end (ap g (append-nil front)) in
          sym goes ∙ opened
      step (suc fuel) goes =
          let opened : (entries_of f (suc fuel) text >>= λ xs. g (front ++ xs)) ≡ g front = rw (le-ltb 1 (length text) last, end) (ap g (append-nil front)) in
          sym goes ∙ opened

  pub goes-unended : (front : List A) (text : List ℕ) (total : Result B Fault) (e : Fault) → Goes f g front text total → length text ≤ 1 → ended text ≡ Err e → total ≡ Err e
  unfolding entries_of
  goes-unended front text total e h last end = step h.fuel h.goes
    where
      step : (fuel : ℕ) → (entries_of f fuel text >>= λ xs. g (front ++ xs)) ≡ total → total ≡ Err e
      step zero goes =
          let opened : (entries_of f zero text >>= λ xs. g (front ++ xs)) ≡ Err e = rw end refl in
          sym goes ∙ opened
      step (suc fuel) goes =
          let opened : (entries_of f (suc fuel) text >>= λ xs. g (front ++ xs)) ≡ Err e = rw (le-ltb 1 (length text) last, end) refl in
          sym goes ∙ opened

module _ {A B : Type 0} (f : A → Result B Fault) where
  regrouped : (a : Result B Fault) (b : Result (List B) Fault) (c : Result B Fault) → (a >>= λ y. one_more b c >>= λ ys. Ok (y ∷ ys)) ≡ one_more (a >>= λ y. b >>= λ ys. Ok (y ∷ ys)) c
  regrouped (Err e) b c = refl
  regrouped (Ok y) (Err e) c = refl
  regrouped (Ok y) (Ok ys) (Err e) = refl
  regrouped (Ok y) (Ok ys) (Ok w) = refl

  pub each-more : (xs : List A) (x : A) → each_by f (xs ++ x ∷ []) ≡ one_more (each_by f xs) (f x)
  unfolding each_by
  each-more [] x = refl
  each-more (z ∷ zs) x = rw (each-more zs x) (regrouped (f z) (each_by f zs) (f x))

-- the entries that were read, and their values within limits
pub record Collects {A B : Type 0} (f : List ℕ → Result (A × List ℕ) Fault) (g : List A → Result (List B) Fault) (limit : A → Result B Fault) (items : List B) (large : Bool) (text : List ℕ) (total : Result (List B) Fault) : Type 0 where
  pub front : List A
  pub goes : Goes f g front text total
  pub values : each_by limit front ≡ collected items large

pub collects-more : {A B : Type 0} (f : List ℕ → Result (A × List ℕ) Fault) (g : List A → Result (List B) Fault) (limit : A → Result B Fault) (items more_items : List B) (large more_large : Bool) (text left : List ℕ) (total : Result (List B) Fault) (x : A) (value : Result B Fault)
    → Collects f g limit items large text total → 1 < length text → f text ≡ Ok (x, left) → length left < length text → collected more_items more_large ≡ one_more (collected items large) value → value ≡ limit x
    → Collects f g limit more_items more_large left total
collects-more {B = B} f g limit items more_items large more_large text left total x value h more read less pushed is = record {
  front = h.front ++ x ∷ [];
  goes = goes-more f g h.front text total x left h.goes more read less;
  values = each-more limit h.front x ∙ (ap (λ (r : Result (List B) Fault). one_more r (limit x)) h.values ∙ (ap (λ (v : Result B Fault). one_more (collected items large) v) (sym is) ∙ sym pushed));
}

-- numbers
pub numbers-start : (limit : ℕ) (line left items old_items : List ℕ) (large old_large : Bool) (n : ℕ) (value : Result ℕ Fault) → number_in line ≡ Ok (n, left) → collected old_items old_large ≡ Ok []
    → collected items large ≡ one_more (collected old_items old_large) value → value ≡ limited limit n → Collects (worded_in (codes " ")) (each_by (limited limit)) (limited limit) items large left (numbers_due limit line)
unfolding numbers_due each_by
numbers-start limit line left items old_items large old_large n value read none pushed is = record {
  front = n ∷ [];
  goes = record { fuel = length left; enough = omega arith; goes = rw read refl };
  values = single (limited limit n) ∙ (ap (λ (v : Result ℕ Fault). one_more (Ok []) v) (sym is) ∙ (ap (λ (r : Result (List ℕ) Fault). one_more r value) (sym none) ∙ sym pushed));
}
  where
    single : (r : Result ℕ Fault) → (r >>= λ y. Ok (y ∷ [])) ≡ one_more (Ok []) r
    single (Ok y) = refl
    single (Err e) = refl

pub numbers-none : (limit : ℕ) (line : List ℕ) (e : Fault) → number_in line ≡ Err e → numbers_due limit line ≡ Err e
unfolding numbers_due
numbers-none limit line e read = rw read refl

pub collects-ends : {A B : Type 0} (f : List ℕ → Result (A × List ℕ) Fault) (limit : A → Result B Fault) (items : List B) (large : Bool) (text left : List ℕ) (total : Result (List B) Fault)
    → Collects f (each_by limit) limit items large text total → length text ≤ 1 → ended text ≡ Ok left → total ≡ collected items large
collects-ends f limit items large text left total h last end = goes-ends f (each_by limit) h.front text left total h.goes last end ∙ h.values

pub gives-same : {A : Type 0} (r read : Result A Fault) → read ≡ r → GivesLine r read
gives-same (Ok x) read is = is
gives-same (Err e) read is = inr is

pub if-ok : {A : Type 0} (P : A → Type 0) (r read : Result A Fault) → read ≡ r → ((x : A) → read ≡ Ok x → P x) → IfOk r P
if-ok P (Ok x) read is sound = sound x is
if-ok P (Err e) read is sound = tt

-- ---- what is read is spelled so

pub bind-ok : {A B E : Type 0} (r : Result A E) (f : A → Result B E) (y : B) → (r >>= f) ≡ Ok y → (x : A) × (r ≡ Ok x) × (f x ≡ Ok y)
bind-ok (Ok x) f y e = (x, refl, e)
bind-ok (Err d) f y e = absurd cc

pub entries-sound : {A : Type 0} (f : List ℕ → Result (A × List ℕ) Fault) (spell : A → List ℕ) (P : A → Type 0) → ((text : List ℕ) (x : A) (left : List ℕ) → f text ≡ Ok (x, left) → P x → text ≡ spell x ++ left)
    → (fuel : ℕ) (text : List ℕ) (xs : List A) → entries_of f fuel text ≡ Ok xs → AllByRecursion P xs → text ≡ flat_map spell xs ++ 10 ∷ []
unfolding entries_of
entries-sound {A} f spell P sound zero text xs read all =
    let end = bind-ok (ended text) (λ left. Ok []) xs read in
    let none : [] ≡ xs = ok-is [] xs end.2 in
    subst (λ (ys : List A). text ≡ flat_map spell ys ++ 10 ∷ []) none (ended-sound text end.0 end.1)
entries-sound {A} f spell P sound (suc fuel) text xs read all = by_test (nat_lt 1 (length text)) read (entries-sound f spell P sound fuel)
  where
    by_test : (b : Bool) → (if b then (f text >>= λ x. entries_of f fuel x.1 >>= λ ys. Ok (x.0 ∷ ys)) else (ended text >>= λ left. Ok [])) ≡ Ok xs → ((left : List ℕ) (ys : List A) → entries_of f fuel left ≡ Ok ys → AllByRecursion P ys → left ≡ flat_map spell ys ++ 10 ∷ []) → text ≡ flat_map spell xs ++ 10 ∷ []
    by_test false e others =
        let end = bind-ok (ended text) (λ left. Ok []) xs e in
        let none : [] ≡ xs = ok-is [] xs end.2 in
        subst (λ (ys : List A). text ≡ flat_map spell ys ++ 10 ∷ []) none (ended-sound text end.0 end.1)
    by_test true e others =
        let a = bind-ok (f text) (λ x. entries_of f fuel x.1 >>= λ ys. Ok (x.0 ∷ ys)) xs e in
        let b = bind-ok (entries_of f fuel a.0.1) (λ ys. Ok (a.0.0 ∷ ys)) xs a.2 in
        let is : a.0.0 ∷ b.0 ≡ xs = ok-is (a.0.0 ∷ b.0) xs b.2 in
        let each = subst (λ (ys : List A). AllByRecursion P ys) (sym is) all in
        let rest = others a.0.1 b.0 b.1 each.1 in
        let first = sound text a.0.0 a.0.1 a.1 each.0 in
        subst (λ (ys : List A). text ≡ flat_map spell ys ++ 10 ∷ []) is (first ∙ (ap (λ (l : List ℕ). spell a.0.0 ++ l) rest ∙ sym (append_assoc (spell a.0.0) (flat_map spell b.0) (10 ∷ []))))

pub limited-is : (limit n m : ℕ) → limited limit n ≡ Ok m → (n ≡ m) × (n ≤ limit)
limited-is limit n m e = by_test (leb n limit) refl e
  where
    by_test : (b : Bool) → leb n limit ≡ b → (if b then fine n else Err Large) ≡ Ok m → (n ≡ m) × (n ≤ limit)
    by_test true test is = (ok-is n m is, leb-true n limit test)
    by_test false test is = absurd cc

pub each-limited : (limit : ℕ) (ns xs : List ℕ) → each_by (limited limit) ns ≡ Ok xs → (ns ≡ xs) × AllByRecursion (λ n. n ≤ limit) ns
unfolding each_by
each-limited limit [] xs e = (ok-is [] xs e, tt)
each-limited limit (n ∷ ns) xs e =
    let a = bind-ok (limited limit n) (λ y. each_by (limited limit) ns >>= λ ys. Ok (y ∷ ys)) xs e in
    let b = bind-ok (each_by (limited limit) ns) (λ ys. Ok (a.0 ∷ ys)) xs a.2 in
    let first = limited-is limit n a.0 a.1 in
    let rest = each-limited limit ns b.0 b.1 in
    (ap (λ (k : ℕ). k ∷ ns) first.0 ∙ (ap (λ (ks : List ℕ). a.0 ∷ ks) rest.0 ∙ ok-is (a.0 ∷ b.0) xs b.2), (first.1, rest.1))

pub worded-number-sound : (word text : List ℕ) (n : ℕ) (left : List ℕ) → worded_in word text ≡ Ok (n, left) → n < 10 ^ 64 → text ≡ word ++ (decimal n ++ left)
unfolding worded_in
worded-number-sound word text n left read small =
    let a = bind-ok (behind word text) (λ rest. number_in rest) (n, left) read in
    behind-sound word text a.0 a.1 ∙ ap (λ (l : List ℕ). word ++ l) (number-sound a.0 n left a.2 small)

spaced-sound : (text : List ℕ) (n : ℕ) (left : List ℕ) → worded_in (codes " ") text ≡ Ok (n, left) → n < 10 ^ 64 → text ≡ spaced n ++ left
unfolding spaced
spaced-sound text n left read small = worded-number-sound (codes " ") text n left read small

small-ones : (limit : ℕ) (ns : List ℕ) → limit < 10 ^ 64 → AllByRecursion (λ n. n ≤ limit) ns → AllByRecursion (λ n. n < 10 ^ 64) ns
small-ones limit [] small all = tt
small-ones limit (n ∷ ns) small all = let low : n ≤ limit = all.0 in (omega (arith, low, small), small-ones limit ns small all.1)

pub numbers-sound : (limit : ℕ) (line xs : List ℕ) → limit < 10 ^ 64 → numbers_due limit line ≡ Ok xs → (line ≡ numbers_line xs) × (0 < length xs) × All (λ n. n ≤ limit) xs
unfolding numbers_due numbers_line
numbers-sound limit line xs small read =
    let a = bind-ok (number_in line) (λ first. entries_of (worded_in (codes " ")) (length first.1) first.1 >>= λ others. each_by (limited limit) (first.0 ∷ others)) xs read in
    let b = bind-ok (entries_of (worded_in (codes " ")) (length a.0.1) a.0.1) (λ others. each_by (limited limit) (a.0.0 ∷ others)) xs a.2 in
    let each = each-limited limit (a.0.0 ∷ b.0) xs b.2 in
    let low = small-ones limit (a.0.0 ∷ b.0) small each.1 in
    let first = number-sound line a.0.0 a.0.1 a.1 low.0 in
    let rest = entries-sound (worded_in (codes " ")) spaced (λ n. n < 10 ^ 64) spaced-sound (length a.0.1) a.0.1 b.0 b.1 low.1 in
    let whole : line ≡ numbers_line (a.0.0 ∷ b.0) = first ∙ ap (λ (l : List ℕ). decimal a.0.0 ++ l) rest in
    subst (λ (ys : List ℕ). (line ≡ numbers_line ys) × (0 < length ys) × All (λ n. n ≤ limit) ys) each.0 (whole, omega arith, All-from_recursion (λ n. n ≤ limit) (a.0.0 ∷ b.0) each.1)

-- ---- capacities

pub capacities-start : (line left : List ℕ) (items : List (Option ℕ)) (large : Bool) → behind (codes "member") line ≡ Ok left → collected items large ≡ Ok []
    → Collects capacity_in (each_by capacity_limited) capacity_limited items large left (capacities_due line)
unfolding capacities_due each_by
capacities-start line left items large read none = record { front = []; goes = goes-start capacity_in (each_by capacity_limited) left (capacities_due line) (rw read refl); values = sym none }

pub capacities-none : (line : List ℕ) (e : Fault) → behind (codes "member") line ≡ Err e → capacities_due line ≡ Err e
unfolding capacities_due
capacities-none line e read = rw read refl

abbrev IsSmall : Option ℕ → Type 0
IsSmall None = Unit {0}
IsSmall (Some n) = n < 10 ^ 64

hyphen-sound : (text : List ℕ) (c : Option ℕ) (left : List ℕ) → hyphen_or_number_in text ≡ Ok (c, left) → IsSmall c → 32 ∷ text ≡ capacity_text c ++ left
unfolding hyphen_or_number_in capacity_text spaced
hyphen-sound [] c left read small = absurd cc
hyphen-sound (b ∷ text) c left read small = by_test (b == 45) refl read
  where
    by_test : (same : Bool) → (b == 45) ≡ same → (if same then fine (let p : Option ℕ × List ℕ = (None, text) in p) else (number_in (b ∷ text) >>= λ n. Ok (Some n.0, n.1))) ≡ Ok (c, left) → 32 ∷ b ∷ text ≡ capacity_text c ++ left
    by_test true e found =
        let both : (let p : Option ℕ × List ℕ = (None, text) in p) ≡ (c, left) = ok-is (let p : Option ℕ × List ℕ = (None, text) in p) (c, left) found in
        subst (λ (p : Option ℕ × List ℕ). 32 ∷ b ∷ text ≡ capacity_text p.0 ++ p.1) both (ap (λ (x : ℕ). 32 ∷ x ∷ text) (eqb-true b 45 e))
    by_test false e found =
        let a = bind-ok (number_in (b ∷ text)) (λ n. Ok (Some n.0, n.1)) (c, left) found in
        let both = ok-is (let p : Option ℕ × List ℕ = (Some a.0.0, a.0.1) in p) (c, left) a.2 in
        let back = subst IsSmall (sym (ap (λ (p : Option ℕ × List ℕ). p.0) both)) small in
        subst (λ (p : Option ℕ × List ℕ). 32 ∷ b ∷ text ≡ capacity_text p.0 ++ p.1) both (ap (λ (l : List ℕ). 32 ∷ l) (number-sound (b ∷ text) a.0.0 a.0.1 a.1 back))

capacity-sound : (text : List ℕ) (c : Option ℕ) (left : List ℕ) → capacity_in text ≡ Ok (c, left) → IsSmall c → text ≡ capacity_text c ++ left
unfolding capacity_in
capacity-sound text c left read small =
    let a = bind-ok (behind (codes " ") text) (λ rest. hyphen_or_number_in rest) (c, left) read in
    behind-sound (codes " ") text a.0 a.1 ∙ hyphen-sound a.0 c left a.2 small

capacity-limited : (n x : Option ℕ) → capacity_limited n ≡ Ok x → (n ≡ x) × IsSmall n
capacity-limited None x e = (ok-is None x e, tt)
capacity-limited (Some n) x e =
    let a = bind-ok (limited_long n) (λ c. fine (Some c)) x e in
    let is = limited-is 18446744073709551615 n a.0 a.1 in
    (ap Some is.0 ∙ ok-is (Some a.0) x a.2, omega (arith, is.1))

each-capacity : (ns xs : List (Option ℕ)) → each_by capacity_limited ns ≡ Ok xs → (ns ≡ xs) × AllByRecursion IsSmall ns
unfolding each_by
each-capacity [] xs e = (ok-is [] xs e, tt)
each-capacity (n ∷ ns) xs e =
    let a = bind-ok (capacity_limited n) (λ y. each_by capacity_limited ns >>= λ ys. Ok (y ∷ ys)) xs e in
    let b = bind-ok (each_by capacity_limited ns) (λ ys. Ok (a.0 ∷ ys)) xs a.2 in
    let first = capacity-limited n a.0 a.1 in
    let rest = each-capacity ns b.0 b.1 in
    (ap (λ (k : Option ℕ). k ∷ ns) first.0 ∙ (ap (λ (ks : List (Option ℕ)). a.0 ∷ ks) rest.0 ∙ ok-is (a.0 ∷ b.0) xs b.2), (first.1, rest.1))

pub capacities-sound : (line : List ℕ) (cs : List (Option ℕ)) → capacities_due line ≡ Ok cs → line ≡ member_line cs
unfolding capacities_due member_line
capacities-sound line cs read =
    let a = bind-ok (behind (codes "member") line) (λ rest. entries_of capacity_in (length rest) rest >>= λ ns. each_by capacity_limited ns) cs read in
    let b = bind-ok (entries_of capacity_in (length a.0) a.0) (λ ns. each_by capacity_limited ns) cs a.2 in
    let each = each-capacity b.0 cs b.2 in
    let rest = entries-sound capacity_in capacity_text IsSmall capacity-sound (length a.0) a.0 b.0 b.1 each.1 in
    subst (λ (xs : List (Option ℕ)). line ≡ member_line xs) each.0 (behind-sound (codes "member") line a.0 a.1 ∙ ap (λ (l : List ℕ). codes "member" ++ l) rest)
