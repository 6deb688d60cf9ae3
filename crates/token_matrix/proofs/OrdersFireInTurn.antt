-- The firing at each place of an order can be done after those before it.
use Rattle.std.proofs.Common.{◌≡◌, ℕ, zero, suc, ◌+◌, ◌≤◌, ◌<◌, List, [], ◌∷◌, length, take, refl, subst, ⊎_elim, arith}
use Rattle.std.specs.Prelude.{slice_index}
use Rattle.std.proofs.lemmas.Bool.{cases_eq}
use Rattle.sd_base.specs.Net.{Net}
use Rattle.sd_base.specs.Untimed.{one_more, CanFire, Fires, counts_after}
use Rattle.sd_base.proofs.ClosedCountsBoundRuns.{bump-same, bump-other}

-- the firing at a place can be done after those before it
pub record FiresAt (net : Net) (v : ℕ → ℕ) (a : ℕ) : Type 0 where
  pub actor : a < length net.times
  pub below : v a < slice_index net.round a
  pub can : CanFire net v a

pub fires_at : (net : Net) (v : ℕ → ℕ) (order : List ℕ) (k : ℕ) → Fires net v order → k < length order → FiresAt net (counts_after v (take k order)) (slice_index order k)
fires_at net v [] k fires below = absurd (omega arith)
fires_at net v (a ∷ order) zero fires below = record { actor = fires.0; below = fires.1; can = fires.2 }
fires_at net v (a ∷ order) (suc k) fires below = fires_at net (one_more v a) order k fires.3 (omega arith)

one_after : (v : ℕ → ℕ) (order : List ℕ) (k : ℕ) → k < length order → counts_after v (take (suc k) order) ≡ one_more (counts_after v (take k order)) (slice_index order k)
one_after v [] k below = absurd (omega arith)
one_after v (a ∷ order) zero below = refl
one_after v (a ∷ order) (suc k) below = one_after (one_more v a) order k (omega arith)

-- one place further is one firing more
pub after_more : (v : ℕ → ℕ) (order : List ℕ) (k : ℕ) → k < length order → counts_after v (take (k + 1) order) ≡ one_more (counts_after v (take k order)) (slice_index order k)
after_more v order k below = subst (λ (n : ℕ). counts_after v (take n order) ≡ one_more (counts_after v (take k order)) (slice_index order k)) (let e : suc k ≡ k + 1 = omega arith in e) (one_after v order k below)

-- no actor fires more often than in a round
pub after_within : (net : Net) (v : ℕ → ℕ) (order : List ℕ) (k : ℕ) → Fires net v order → ((b : ℕ) → b < length net.times → v b ≤ slice_index net.round b)
    → (b : ℕ) → b < length net.times → counts_after v (take k order) b ≤ slice_index net.round b
after_within net v order zero fires within b there = within b there
after_within net v [] (suc k) fires within b there = within b there
after_within net v (a ∷ order) (suc k) fires within b there = after_within net (one_more v a) order k fires.3 more b there
  where
    more : (d : ℕ) → d < length net.times → one_more v a d ≤ slice_index net.round d
    more d here = ⊎_elim (λ (same : d ≡ a). rw same (rw (bump-same v a) (let h : v a < slice_index net.round a = fires.1 in omega arith))) (λ (apart : d ≡ a → ⊥). rw (bump-other v a d apart) (within d here)) (cases_eq d a)
