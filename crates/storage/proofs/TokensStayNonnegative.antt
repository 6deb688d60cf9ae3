-- In an order of firings, before each firing of an actor no channel has fewer tokens than none.
use Rattle.std.proofs.Common.{◌≡◌, ℕ, ◌+◌, ◌≤◌, ◌<◌, List, [], ◌∷◌, length, ⊎_elim, sym, ap, ◌∙◌, arith, add-one-le}
use Rattle.std.proofs.lemmas.Bool.{cases_eq}
use Rattle.std.proofs.Math.Numerals.{lt_of_le_of_ne}
use Rattle.sd_base.specs.Net.{Net, channel_at, total}
use Rattle.sd_base.specs.Untimed.{none_fired, one_more, CanFire, Fires, counts_after}
use Rattle.sd_base.proofs.SumsRepeatByTurns.{total-zero, total-le}
use Rattle.sd_base.proofs.ClosedCountsBoundRuns.{bump-same, bump-other, bump-more}

pub record IsPaid (net : Net) (v : ℕ → ℕ) : Type 0 where
  pub each : (i : ℕ) → i < length net.channels → total (channel_at net i).taken (v (channel_at net i).target) ≤ (channel_at net i).tokens + total (channel_at net i).made (v (channel_at net i).source)

pub none-paid : (net : Net) → IsPaid net none_fired
none-paid net = record { each = λ i below. rw total-zero (omega arith) }

pub paid-more : (net : Net) (v : ℕ → ℕ) (a : ℕ) → IsPaid net v → CanFire net v a → IsPaid net (one_more v a)
paid-more net v a paid can = record { each = each }
  where
    each : (i : ℕ) → i < length net.channels → total (channel_at net i).taken (one_more v a (channel_at net i).target) ≤ (channel_at net i).tokens + total (channel_at net i).made (one_more v a (channel_at net i).source)
    each i below = ⊎_elim (λ (same : (channel_at net i).target ≡ a). let given : total (channel_at net i).taken (v a + 1) ≤ (channel_at net i).tokens + total (channel_at net i).made (v (channel_at net i).source) = can i below same in let now : one_more v a (channel_at net i).target ≡ v a + 1 = ap (one_more v a) same ∙ bump-same v a in rw now (omega (arith, makes))) (λ (apart : (channel_at net i).target ≡ a → ⊥). let before : total (channel_at net i).taken (v (channel_at net i).target) ≤ (channel_at net i).tokens + total (channel_at net i).made (v (channel_at net i).source) = paid.each i below in let now : one_more v a (channel_at net i).target ≡ v (channel_at net i).target = bump-other v a (channel_at net i).target apart in rw now (omega (arith, makes))) (cases_eq (channel_at net i).target a)
      where
        makes : total (channel_at net i).made (v (channel_at net i).source) ≤ total (channel_at net i).made (one_more v a (channel_at net i).source)
        makes = total-le (channel_at net i).made (bump-more v a (channel_at net i).source)

pub record IsBefore (net : Net) (a p : ℕ) : Type 0 where
  pub counts : ℕ → ℕ
  pub next : counts a ≡ p
  pub can : CanFire net counts a
  pub paid : IsPaid net counts

pub before-firing : (net : Net) (order : List ℕ) (v : ℕ → ℕ) (a p : ℕ) → Fires net v order → IsPaid net v → v a ≤ p → p < counts_after v order a → IsBefore net a p
before-firing net [] v a p fires paid low high = absurd (omega arith)
before-firing net (b ∷ order) v a p fires paid low high = ⊎_elim (λ (same : b ≡ a). ⊎_elim (λ (now : v a ≡ p). record { counts = v; next = now; can = rw same at fires.2; paid = paid }) (λ (later : v a ≡ p → ⊥). before-firing net order (one_more v b) a p fires.3 (paid-more net v b paid fires.2) (rw same (rw (bump-same v a) (add-one-le (lt_of_le_of_ne low later)))) high) (cases_eq (v a) p)) (λ (apart : b ≡ a → ⊥). before-firing net order (one_more v b) a p fires.3 (paid-more net v b paid fires.2) (rw (bump-other v b a (λ e. apart (sym e))) low) high) (cases_eq b a)
