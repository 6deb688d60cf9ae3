-- Sums of whole multiples are whole multiples, and such sums don't tell a number from it rounded down.
use Rattle.std.proofs.Common.{◌≡◌, ℕ, zero, suc, ◌+◌, ◌*◌, ◌/◌, ◌%◌, ◌≤◌, ◌<◌, List, length, ⊎_elim, ◌∙◌, arith, mod-lt, mul-le-mul_right, div-add-mod'}
use Rattle.std.proofs.lemmas.Bool.{cases_lt}
use Rattle.sd_base.specs.Net.{total}
use Rattle.sd_base.proofs.SumsRepeatByTurns.{total-zero, total-suc}
use Rattle.storage.proofs.ChannelSteps.{AreWhole}

pub whole-total : (g : ℕ) (xs : List ℕ) → AreWhole g xs → (n : ℕ) → (k : ℕ) × (total xs n ≡ k * g)
whole-total g xs whole zero = (0, total-zero xs ∙ omega arith)
whole-total g xs whole (suc n) = let before = whole-total g xs whole n in let last = whole (n % length xs) in (before.0 + last.0, total-suc xs n ∙ omega (arith, before.1, last.1))

pub floor-less : (s x a b : ℕ) → 1 ≤ s → x / s * s + a * s < b * s → x + a * s < b * s
floor-less s x a b some less = ⊎_elim (λ (room : x / s + a < b). let parts : x / s * s + x % s ≡ x = div-add-mod' x s in let rest : x % s < s = mod-lt x some in let up : (x / s + a + 1) * s ≤ b * s = mul-le-mul_right s (omega arith) in omega arith) (λ (full : b ≤ x / s + a). absurd (let up : b * s ≤ (x / s + a) * s = mul-le-mul_right s full in omega arith)) (cases_lt (x / s + a) b)

pub less-floor : (s x a b : ℕ) → x + a * s < b * s → x / s * s + a * s < b * s
less-floor s x a b less = let parts : x / s * s + x % s ≡ x = div-add-mod' x s in omega arith
