-- How a fingerprint changes with the tokens of a channel, and with the times left of an actor's firings.
use Rattle.std.proofs.Common.{◌≡◌, ℕ, zero, suc, ◌+◌, ◌-◌, ◌*◌, ◌/◌, ◌%◌, ◌^◌, ◌≤◌, ◌<◌, List, [], ◌∷◌, ◌++◌, length, set, sym, ap, ◌∙◌, arith}
use Rattle.std.specs.Prelude.{slice_index}
use Rattle.std.proofs.Math.Nat.{mod-add-mod, mod-add-div, mod-lt, add-mul-mod_self_left, mul-add}
use Rattle.selftimed.specs.Fingerprints.{weight, weighed_from, fingerprint_of}

pub weighed-push : (i : ℕ) (ts : List ℕ) (x : ℕ) → weighed_from i (ts ++ x ∷ []) ≡ weighed_from i ts + weight (i + length ts) * x
unfolding weighed_from
weighed-push i [] x = let e : i + 0 ≡ i = omega arith in rw e (omega arith)
weighed-push i (t ∷ ts) x =
    let e : i + suc (length ts) ≡ i + 1 + length ts = omega arith in
    rw e (omega (arith, weighed-push (i + 1) ts x))

pub weighed-set : (i : ℕ) (ts : List ℕ) (k y : ℕ) → k < length ts → weighed_from i (set ts k y) + weight (i + k) * slice_index ts k ≡ weighed_from i ts + weight (i + k) * y
unfolding weighed_from
weighed-set i [] k y below = absurd (omega arith)
weighed-set i (t ∷ ts) zero y below = let e : i + 0 ≡ i = omega arith in rw e (omega arith)
weighed-set i (t ∷ ts) (suc k) y below =
    let e : i + suc k ≡ i + 1 + k = omega arith in
    rw e (omega (arith, weighed-set (i + 1) ts k y (omega arith)))

-- a sum of remainders
pub mod-sum : (p q m : ℕ) → (p % m + q % m) % m ≡ (p + q) % m
mod-sum p q m =
    let turn : p + q % m ≡ q % m + p = omega arith in
    let back : q + p ≡ p + q = omega arith in
    mod-add-mod p m (q % m) ∙ (ap (λ (x : ℕ). x % m) turn ∙ (mod-add-mod q m p ∙ ap (λ (x : ℕ). x % m) back))

pub mod-less : (p q w m : ℕ) → 0 < m → q + w ≡ p → (p % m + (m - w % m)) % m ≡ q % m
mod-less p q w m some whole =
    let rest : w % m < m = mod-lt w some in
    let parts : w % m + m * (w / m) ≡ w = mod-add-div w m in
    let more : m * (w / m + 1) ≡ m * (w / m) + m = omega arith in
    let there : p + (m - w % m) ≡ q + m * (w / m + 1) = omega (arith, parts, more, whole, rest) in
    mod-add-mod p m (m - w % m) ∙ (ap (λ (x : ℕ). x % m) there ∙ add-mul-mod_self_left q m (w / m + 1))

pub fingerprint-push : (ts : List ℕ) (x fingerprint w add : ℕ) → fingerprint ≡ fingerprint_of ts → w ≡ weight (length ts) → add ≡ (w * x) % 2 ^ 64 → (fingerprint + add) % 2 ^ 64 ≡ fingerprint_of (ts ++ x ∷ [])
fingerprint-push ts x fingerprint w add is weighs added =
    let start : 0 + length ts ≡ length ts = omega arith in
    let pushed : weighed_from 0 (ts ++ x ∷ []) ≡ weighed_from 0 ts + weight (length ts) * x = weighed-push 0 ts x ∙ ap (λ (n : ℕ). weighed_from 0 ts + weight n * x) start in
    rw (is, added, weighs, pushed) (mod-sum (weighed_from 0 ts) (weight (length ts) * x) (2 ^ 64))

pub fingerprint-put : (ts : List ℕ) (k n fingerprint w add : ℕ) → k < length ts → fingerprint ≡ fingerprint_of ts → w ≡ weight k → add ≡ (w * n) % 2 ^ 64 → (fingerprint + add) % 2 ^ 64 ≡ fingerprint_of (set ts k (slice_index ts k + n))
fingerprint-put ts k n fingerprint w add below is weighs added =
    let start : 0 + k ≡ k = omega arith in
    let moved : weighed_from 0 (set ts k (slice_index ts k + n)) + weight k * slice_index ts k ≡ weighed_from 0 ts + weight k * (slice_index ts k + n) = rw start at (weighed-set 0 ts k (slice_index ts k + n) below) in
    let spread : weight k * (slice_index ts k + n) ≡ weight k * slice_index ts k + weight k * n = mul-add (weight k) (slice_index ts k) n in
    let put : weighed_from 0 (set ts k (slice_index ts k + n)) ≡ weighed_from 0 ts + weight k * n = omega (arith, moved, spread) in
    rw (is, added, weighs, put) (mod-sum (weighed_from 0 ts) (weight k * n) (2 ^ 64))

pub fingerprint-take : (ts : List ℕ) (k n fingerprint w sub : ℕ) → k < length ts → n ≤ slice_index ts k → fingerprint ≡ fingerprint_of ts → w ≡ weight k → sub ≡ (w * n) % 2 ^ 64 → (fingerprint + (2 ^ 64 - sub)) % 2 ^ 64 ≡ fingerprint_of (set ts k (slice_index ts k - n))
fingerprint-take ts k n fingerprint w sub below enough is weighs taken =
    let start : 0 + k ≡ k = omega arith in
    let moved : weighed_from 0 (set ts k (slice_index ts k - n)) + weight k * slice_index ts k ≡ weighed_from 0 ts + weight k * (slice_index ts k - n) = rw start at (weighed-set 0 ts k (slice_index ts k - n) below) in
    let whole : slice_index ts k - n + n ≡ slice_index ts k = omega arith in
    let spread : weight k * (slice_index ts k - n + n) ≡ weight k * (slice_index ts k - n) + weight k * n = mul-add (weight k) (slice_index ts k - n) n in
    let all : weight k * slice_index ts k ≡ weight k * (slice_index ts k - n) + weight k * n = sym (ap (λ (x : ℕ). weight k * x) whole) ∙ spread in
    let left : weighed_from 0 (set ts k (slice_index ts k - n)) + weight k * n ≡ weighed_from 0 ts = omega (arith, moved, all) in
    rw (is, taken, weighs) (mod-less (weighed_from 0 ts) (weighed_from 0 (set ts k (slice_index ts k - n))) (weight k * n) (2 ^ 64) (omega arith) left)
