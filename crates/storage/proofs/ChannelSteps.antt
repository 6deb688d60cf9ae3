-- The step of a channel divides each of its rates, and is the greatest that does.
use Rattle.std.proofs.Common.{◌≡◌, ℕ, zero, suc, ◌+◌, ◌-◌, ◌*◌, ◌/◌, ◌%◌, ◌≤◌, ◌<◌, List, [], ◌∷◌, ◌++◌, length, sum, ⊎_elim, subst, sym, refl, ap, ◌∙◌, arith, mod-lt}
use Rattle.std.specs.Prelude.{◌↔◌, slice_index}
use Rattle.std.specs.Int.{IsGcd, ◌∣◌}
use Rattle.std.proofs.Math.Nat.{mul-div_cancel'}
use Rattle.std.proofs.lemmas.Bool.{cases_lt}
use Rattle.std.proofs.lemmas.List.{get_or_append_left, get_or-append_right, get_or-append-add, get_or_past}
use Rattle.std.proofs.lemmas.Nat.Gcd.{IsGcd-from_zero, IsGcd-from_mod, dvd-zero, dvd_trans, dvd_antisymm}
use Rattle.sd_base.specs.declared.limits.TheConstants.{RATE}
use Rattle.sd_base.specs.Net.{Channel, total}
use Rattle.sd_base.proofs.SumsRepeatByTurns.{total-turn, total-bound}
use Rattle.storage.specs.Steps.{euclid, divisor_of, step_of}

euclid-is : (fuel a b : ℕ) → b < fuel → IsGcd a b (euclid fuel a b)
unfolding euclid
euclid-is zero a b below = absurd (omega arith)
euclid-is (suc fuel) a zero below = IsGcd-from_zero a 0 refl
euclid-is (suc fuel) a (suc b) below = let rest : a % suc b < suc b = mod-lt a (omega arith) in IsGcd-from_mod a (suc b) (euclid fuel (suc b) (a % suc b)) (euclid-is fuel (suc b) (a % suc b) (omega arith))

divisor-divides : (xs : List ℕ) (p : ℕ) → divisor_of xs ∣ slice_index xs p
unfolding divisor_of
divisor-divides [] p = dvd-zero 0
divisor-divides (x ∷ xs) zero = (euclid-is (suc (divisor_of xs)) x (divisor_of xs) (omega arith)).0
divisor-divides (x ∷ xs) (suc p) = dvd_trans (euclid (suc (divisor_of xs)) x (divisor_of xs)) (euclid-is (suc (divisor_of xs)) x (divisor_of xs) (omega arith)).1 (divisor-divides xs p)

abbrev pub AreWhole : ℕ → List ℕ → Type 0
AreWhole g xs = (p : ℕ) → (k : ℕ) × (slice_index xs p ≡ k * g)

whole-from : (g n : ℕ) → g ∣ n → (k : ℕ) × (n ≡ k * g)
whole-from g n divides = (n / g, let e : g * (n / g) ≡ n = mul-div_cancel' g divides in omega arith)

pub made-whole : (c : Channel) → AreWhole (step_of c) c.made
unfolding step_of
made-whole c p = ⊎_elim (λ (here : p < length c.made). let divides : divisor_of (c.made ++ c.taken) ∣ slice_index (c.made ++ c.taken) p = divisor-divides (c.made ++ c.taken) p in whole-from (divisor_of (c.made ++ c.taken)) (slice_index c.made p) (subst (λ (n : ℕ). divisor_of (c.made ++ c.taken) ∣ n) (get_or_append_left c.made c.taken 0 p here) divides)) (λ (past : length c.made ≤ p). (0, get_or_past c.made p 0 past ∙ omega arith)) (cases_lt p (length c.made))

pub taken-whole : (c : Channel) → AreWhole (step_of c) c.taken
unfolding step_of
taken-whole c p = let divides : divisor_of (c.made ++ c.taken) ∣ slice_index (c.made ++ c.taken) (length c.made + p) = divisor-divides (c.made ++ c.taken) (length c.made + p) in whole-from (divisor_of (c.made ++ c.taken)) (slice_index c.taken p) (subst (λ (n : ℕ). divisor_of (c.made ++ c.taken) ∣ n) (get_or-append-add c.made c.taken p 0) divides)

pub some-step : (c : Channel) → 1 ≤ sum c.made → 1 ≤ step_of c
some-step c some = ⊎_elim (λ (none : step_of c < 1). absurd (let zero_here : step_of c ≡ 0 = omega arith in let nothing : (p : ℕ) → slice_index c.made p ≤ 0 = λ p. let whole = made-whole c p in let product : whole.0 * step_of c ≡ whole.0 * 0 = ap (λ (n : ℕ). whole.0 * n) zero_here in omega (arith, whole.1) in let few : total c.made (length c.made) ≤ length c.made * 0 = total-bound c.made 0 (length c.made) nothing in omega (arith, total-turn c.made))) (λ (h : 1 ≤ step_of c). h) (cases_lt (step_of c) 1)

pub none-divide : (xs : List ℕ) (d : ℕ) → d ∣ 0 ↔ ((p : ℕ) → p < 0 → d ∣ slice_index xs p)
none-divide xs d = (λ divides p below. absurd (omega arith), λ all. dvd-zero d)

pub more-divide : (xs : List ℕ) (old next phase : ℕ) → IsGcd old (slice_index xs phase) next → ((d : ℕ) → d ∣ old ↔ ((p : ℕ) → p < phase → d ∣ slice_index xs p)) → (d : ℕ) → d ∣ next ↔ ((p : ℕ) → p < phase + 1 → d ∣ slice_index xs p)
more-divide xs old next phase is before d = (
  λ divides p below. ⊎_elim (λ (less : p < phase). (before d).0 (dvd_trans d divides is.0) p less) (λ (last : phase ≤ p). let same : p ≡ phase = omega arith in subst (λ (n : ℕ). d ∣ slice_index xs n) (sym same) (dvd_trans d divides is.1)) (cases_lt p phase),
  λ all. is.2 d ((before d).1 (λ p below. all p (omega arith))) (all phase (omega arith)),
)

pub all-divide : (xs : List ℕ) (g phase : ℕ) → length xs ≤ phase → ((d : ℕ) → d ∣ g ↔ ((p : ℕ) → p < phase → d ∣ slice_index xs p)) → (d : ℕ) → d ∣ g ↔ ((p : ℕ) → d ∣ slice_index xs p)
all-divide xs g phase whole is d = (
  λ divides p. ⊎_elim (λ (below : p < phase). (is d).0 divides p below) (λ (past : phase ≤ p). subst (λ (n : ℕ). d ∣ n) (sym (get_or_past xs p 0 (omega arith))) (dvd-zero d)) (cases_lt p phase),
  λ all. (is d).1 (λ p below. all p),
)

divisor-least : (xs : List ℕ) (d : ℕ) → ((p : ℕ) → d ∣ slice_index xs p) → d ∣ divisor_of xs
unfolding divisor_of
divisor-least [] d all = dvd-zero d
divisor-least (x ∷ xs) d all = (euclid-is (suc (divisor_of xs)) x (divisor_of xs) (omega arith)).2 d (all 0) (divisor-least xs d (λ p. all (suc p)))

pub step-is : (c : Channel) (made taken g : ℕ) → IsGcd made taken g → ((d : ℕ) → d ∣ made ↔ ((p : ℕ) → d ∣ slice_index c.made p)) → ((d : ℕ) → d ∣ taken ↔ ((p : ℕ) → d ∣ slice_index c.taken p)) → g ≡ step_of c
unfolding step_of
step-is c made taken g is first second = dvd_antisymm (divisor-least (c.made ++ c.taken) g all) (is.2 (divisor_of (c.made ++ c.taken)) ((first _).1 made_all) ((second _).1 taken_all))
  where
    all : (p : ℕ) → g ∣ slice_index (c.made ++ c.taken) p
    all p = ⊎_elim (λ (here : p < length c.made). subst (λ (n : ℕ). g ∣ n) (sym (get_or_append_left c.made c.taken 0 p here)) ((first g).0 is.0 p)) (λ (past : length c.made ≤ p). subst (λ (n : ℕ). g ∣ n) (sym (get_or-append_right c.made c.taken (length c.made) p 0 refl past)) ((second g).0 is.1 (p - length c.made))) (cases_lt p (length c.made))

    made_all : (p : ℕ) → divisor_of (c.made ++ c.taken) ∣ slice_index c.made p
    made_all p = ⊎_elim (λ (here : p < length c.made). subst (λ (n : ℕ). divisor_of (c.made ++ c.taken) ∣ n) (get_or_append_left c.made c.taken 0 p here) (divisor-divides (c.made ++ c.taken) p)) (λ (past : length c.made ≤ p). subst (λ (n : ℕ). divisor_of (c.made ++ c.taken) ∣ n) (sym (get_or_past c.made p 0 past)) (dvd-zero (divisor_of (c.made ++ c.taken)))) (cases_lt p (length c.made))

    taken_all : (p : ℕ) → divisor_of (c.made ++ c.taken) ∣ slice_index c.taken p
    taken_all p = subst (λ (n : ℕ). divisor_of (c.made ++ c.taken) ∣ n) (get_or-append-add c.made c.taken p 0) (divisor-divides (c.made ++ c.taken) (length c.made + p))

pub step-small : (c : Channel) (most : ℕ) → 1 ≤ sum c.made → ((p : ℕ) → slice_index c.made p ≤ most) → step_of c ≤ most
step-small c most some small = ⊎_elim (λ (more : most < step_of c). absurd (let nothing : (p : ℕ) → slice_index c.made p ≤ 0 = λ p. let whole = made-whole c p in zero-times whole.0 (step_of c) (slice_index c.made p) most whole.1 (small p) more in let few : total c.made (length c.made) ≤ length c.made * 0 = total-bound c.made 0 (length c.made) nothing in omega (arith, total-turn c.made))) (λ (h : step_of c ≤ most). h) (cases_lt most (step_of c))
  where
    zero-times : (k s r most : ℕ) → r ≡ k * s → r ≤ most → most < s → r ≤ 0
    zero-times zero s r most is small more = omega arith
    zero-times (suc k) s r most is small more = let split : suc k * s ≡ k * s + s = omega arith in absurd (omega arith)

pub more-greatest : (xs : List ℕ) (old rate new phase : ℕ) → rate ≡ slice_index xs phase → rate ≤ RATE → old ≤ new → rate ≤ new → ((k : ℕ) → old ≤ k → rate ≤ k → new ≤ k) → ((p : ℕ) → p < phase → slice_index xs p ≤ old) × ((k : ℕ) → ((p : ℕ) → slice_index xs p ≤ k) → old ≤ k) × (old ≤ RATE) → ((p : ℕ) → p < phase + 1 → slice_index xs p ≤ new) × ((k : ℕ) → ((p : ℕ) → slice_index xs p ≤ k) → new ≤ k) × (new ≤ RATE)
more-greatest xs old rate new phase is few first second both (covers, least, small) = (
  λ p below. ⊎_elim (λ (less : p < phase). omega (arith, covers p less)) (λ (last : phase ≤ p). let same : p ≡ phase = omega arith in rw same (omega (arith, is))) (cases_lt p phase),
  λ k all. both k (least k all) (omega (arith, is, all phase)),
  both RATE small few,
)
