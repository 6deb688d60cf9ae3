-- Sums over firings: they rise, and repeat by whole turns of the phases.
use Rattle.std.proofs.Common.{◌≡◌, ℕ, zero, suc, ◌+◌, ◌-◌, ◌*◌, ◌/◌, ◌%◌, ◌≤◌, ◌<◌, List, [], ◌∷◌, length, sum, subst, sym, refl, ap, ◌∙◌, arith, add-one, zero-add, div-add-mod'}
use Rattle.std.proofs.Math.Nat.{add-mul-mod_self_right, mod-eq_of_lt}
use Rattle.std.specs.Prelude.{slice_index, take}
use Rattle.std.proofs.lemmas.List.{take_all}
use Rattle.std.proofs.lemmas.List.Sums.{sum_by_more}
use Rattle.sd_base.specs.Net.{Channel, phase_entry, total}
use Rattle.sd_base.specs.Schedules.{Needs, LastNeed}

pub total-zero : (xs : List ℕ) → total xs 0 ≡ 0
unfolding total
total-zero xs = refl

pub total-more : (xs : List ℕ) (n : ℕ) → total xs (n + 1) ≡ total xs n + phase_entry xs n
unfolding total
total-more xs n = rw add-one refl

pub total-suc : (xs : List ℕ) (n : ℕ) → total xs (suc n) ≡ total xs n + phase_entry xs n
unfolding total
total-suc xs n = refl

total-rises : (xs : List ℕ) (m d : ℕ) → total xs m ≤ total xs (d + m)
total-rises xs m zero = let e : 0 + m ≡ m = omega arith in rw e (omega arith)
total-rises xs m (suc d) =
    let e : suc d + m ≡ (d + m) + 1 = omega arith in
    rw (e, total-more) (omega (arith, total-rises xs m d))

pub total-le : (xs : List ℕ) {m n : ℕ} → m ≤ n → total xs m ≤ total xs n
total-le xs {m} {n} h =
    let e : (n - m) + m ≡ n = omega arith in
    subst (λ (k : ℕ). total xs m ≤ total xs k) e (total-rises xs m (n - m))

pub entry-shift : (xs : List ℕ) (k q : ℕ) → phase_entry xs (k + q * length xs) ≡ phase_entry xs k
entry-shift xs k q = ap (slice_index xs) (add-mul-mod_self_right k q (length xs))

pub total-shift : (xs : List ℕ) (k q : ℕ) → total xs (k + q * length xs) ≡ total xs k + total xs (q * length xs)
total-shift xs zero q = rw (zero-add, total-zero) (sym (zero-add _))
total-shift xs (suc k) q =
    let e : suc k + q * length xs ≡ (k + q * length xs) + 1 = omega arith in
    rw (e, total-more, total-suc, entry-shift) (omega (arith, total-shift xs k q))

pub total-turns : (xs : List ℕ) (q : ℕ) → total xs (q * length xs) ≡ q * total xs (length xs)
total-turns xs zero = let e : 0 * length xs ≡ 0 = omega arith in rw (e, total-zero) (omega arith)
total-turns xs (suc q) =
    let e : suc q * length xs ≡ q * length xs + 1 * length xs = omega arith in
    let one : 1 * length xs ≡ length xs = omega arith in
    let whole : total xs (q * length xs + 1 * length xs) ≡ total xs (q * length xs) + total xs (1 * length xs) = total-shift xs (q * length xs) 1 in
    rw e (rw whole (rw one (omega (arith, total-turns xs q))))

-- the sum as whole turns and a rest
pub total-split : (xs : List ℕ) (n : ℕ) → total xs n ≡ (n / length xs) * total xs (length xs) + total xs (n % length xs)
total-split xs n =
    let e : n % length xs + n / length xs * length xs ≡ n = omega (arith, div-add-mod' n (length xs)) in
    let shift : total xs (n % length xs + n / length xs * length xs) ≡ total xs (n % length xs) + total xs (n / length xs * length xs) = total-shift xs (n % length xs) (n / length xs) in
    subst (λ (k : ℕ). total xs k ≡ (n / length xs) * total xs (length xs) + total xs (n % length xs)) e
    (omega (arith, shift, total-turns xs (n / length xs)))

-- within the first turn the sum is that of the first numbers of the list
pub total-take : (xs : List ℕ) (n : ℕ) → n ≤ length xs → total xs n ≡ sum (take n xs)
total-take xs zero h = total-zero xs
total-take xs (suc n) h =
    let below : n < length xs = omega arith in
    let same : phase_entry xs n ≡ slice_index xs n = ap (slice_index xs) (mod-eq_of_lt below) in
    let more : sum (take (n + 1) xs) ≡ sum (take n xs) + slice_index xs n = sum_by_more (λ x. x) xs n 0 below in
    let e : suc n ≡ n + 1 = omega arith in
    rw (e, total-more) (omega (arith, same, more, total-take xs n (omega arith)))

pub total-turn : (xs : List ℕ) → total xs (length xs) ≡ sum xs
total-turn xs = total-take xs (length xs) (omega arith) ∙ ap sum (take_all (length xs) xs (omega arith))

-- what v firings of whole turns add
pub total-whole : (xs : List ℕ) (k v q : ℕ) → v ≡ q * length xs → total xs (k + v) ≡ total xs k + total xs v
total-whole xs k v q e = rw e (total-shift xs k q)

pub total-times : (xs : List ℕ) (v q i : ℕ) → v ≡ q * length xs → total xs (i * v) ≡ i * total xs v
total-times xs v q i e =
    let turns : i * v ≡ (i * q) * length xs = rw e (omega arith) in
    let long : total xs ((i * q) * length xs) ≡ (i * q) * total xs (length xs) = total-turns xs (i * q) in
    let short : total xs (q * length xs) ≡ q * total xs (length xs) = total-turns xs q in
    let here : total xs v ≡ q * total xs (length xs) = ap (total xs) e ∙ short in
    rw (turns, long, here) (omega arith)

-- a list of one number has it at each firing
pub one-entry : (xs : List ℕ) (k : ℕ) → length xs ≡ 1 → phase_entry xs k ≡ slice_index xs 0
one-entry [] k one = absurd (omega arith)
one-entry (x ∷ []) k one = ap (λ (n : ℕ). slice_index (x ∷ []) n) (let e : k % 1 ≡ 0 = omega arith in e)
one-entry (x ∷ y ∷ xs) k one = absurd (omega arith)

pub one-total : (xs : List ℕ) (n rate : ℕ) → length xs ≡ 1 → rate ≡ slice_index xs 0 → total xs n ≡ n * rate
one-total xs zero rate one is = total-zero xs ∙ omega arith
one-total xs (suc n) rate one is = total-suc xs n ∙ omega (arith, one-total xs n rate one is, one-entry xs n one, is)

-- each firing moves at most the greatest rate
pub total-bound : (xs : List ℕ) (most n : ℕ) → ((p : ℕ) → slice_index xs p ≤ most) → total xs n ≤ n * most
total-bound xs most zero small = rw total-zero (omega arith)
total-bound xs most (suc n) small = rw total-suc (omega (arith, total-bound xs most n small, small (n % length xs)))

-- each whole turn moves something
pub total-grows : (xs : List ℕ) (q : ℕ) → 1 ≤ sum xs → q ≤ total xs (q * length xs)
total-grows xs q some =
    let many : q * 1 ≤ q * sum xs = Rattle.std.proofs.Common.mul-le-mul_left q some in
    rw (total-turns, total-turn) (omega arith)

-- a need of firing j is one of each later firing, and with it all earlier firings are needed
pub needs-later : (c : Channel) (j k m : ℕ) → j ≤ k → Needs c j m → Needs c k m
needs-later c j k m h need =
    let le : total c.taken (j + 1) ≤ total c.taken (k + 1) = total-le c.taken (omega arith) in omega arith

pub fewer-needed : (c : Channel) (j m n : ℕ) → m ≤ n → Needs c j n → Needs c j m
fewer-needed c j m n h need =
    let le : total c.made m ≤ total c.made n = total-le c.made h in omega arith

-- a firing has at most one last need
pub one-last-need : (c : Channel) (j m n : ℕ) → LastNeed c j m → LastNeed c j n → m ≤ n
one-last-need c j m n a b = Rattle.std.proofs.Common.⊎_elim (λ (late : n < m). absurd (
    let le : total c.made (n + 1) ≤ total c.made m = total-le c.made (omega arith) in
    let enough : total c.taken (j + 1) ≤ c.tokens + total c.made (n + 1) = b.enough in
    let needed : c.tokens + total c.made m < total c.taken (j + 1) = a.needed in omega arith)) (λ (h : m ≤ n). h) (Rattle.std.proofs.lemmas.Bool.cases_lt n m)
