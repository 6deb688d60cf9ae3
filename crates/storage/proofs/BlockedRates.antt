-- A strongly connected net that some counts block has rate 0: no admissible schedule goes past those counts.
use Rattle.std.proofs.Common.{ℕ, ◌+◌, ◌*◌, ◌≤◌, ◌<◌, ◌⊎◌, List, [], ◌∷◌, length, inl, inr, ⊎_elim, subst, sym, refl, ◌∙◌, arith}
use Rattle.std.specs.Prelude.{slice_index_or, nat_lt}
use Rattle.std.proofs.lemmas.Bool.{cases_lt}
use Rattle.std.proofs.lemmas.List.Sums.{count_by-le-length}
use Rattle.std.proofs.lemmas.Nat.Gcd.{IsGcd-from_zero, IsGcd-swap}
use Rattle.sd_base.specs.Net.{Net, channel_at, total}
use Rattle.sd_base.specs.Schedules.{Schedule, count_of, Admissible, HasInputs}
use Rattle.sd_base.specs.SelfTimed.{earliest}
use Rattle.sd_base.specs.Lawful.{Lawful}
use Rattle.sd_base.specs.Rates.{Rate}
use Rattle.sd_base.specs.Untimed.{Blocks}
use Rattle.sd_base.specs.Connection.{IsPath, IsStronglyConnected, ends_of}
use Rattle.sd_base.proofs.PathsAreWalks.{channel-of}
use Rattle.sd_base.proofs.SumsRepeatByTurns.{total-le, total-grows}
use Rattle.sd_base.proofs.LawfulIsRegular.{regular, timed, wired, balanced}
use Rattle.sd_base.proofs.FiringsKeepOrder.{needed-tokens}
use Rattle.sd_base.proofs.ClosedCountsBoundRuns.{blocked-bounds}
use Rattle.sd_base.proofs.EarliestExists.{earliest-is}
use Rattle.sd_base.proofs.FiringOrdersEnd.{sum_to}
use Rattle.sd_base.proofs.LoopRates.{sum_to-part}

unfoldable most_along : Net → List ℕ → ℕ → ℕ
most_along net [] n = n
most_along net (i ∷ path) n = most_along net path (((channel_at net i).tokens + total (channel_at net i).made n + 1) * length (channel_at net i).taken)

module _ (net : Net) (laws : Lawful net) (s : Schedule) (good : Admissible net s) where
  fed-few : (i n : ℕ) → i < length net.channels → count_of s (channel_at net i).source ≤ n → count_of s (channel_at net i).target ≤ ((channel_at net i).tokens + total (channel_at net i).made n + 1) * length (channel_at net i).taken
  fed-few i n place few = ⊎_elim (λ (many : ((channel_at net i).tokens + total (channel_at net i).made n + 1) * length (channel_at net i).taken < count_of s (channel_at net i).target). absurd (let takes : (channel_at net i).tokens + total (channel_at net i).made n + 1 ≤ total (channel_at net i).taken (((channel_at net i).tokens + total (channel_at net i).made n + 1) * length (channel_at net i).taken) = total-grows (channel_at net i).taken ((channel_at net i).tokens + total (channel_at net i).made n + 1) (laws.some_taken i place) in let more : total (channel_at net i).taken (((channel_at net i).tokens + total (channel_at net i).made n + 1) * length (channel_at net i).taken) ≤ total (channel_at net i).taken (count_of s (channel_at net i).target) = total-le (channel_at net i).taken (omega arith) in
      let has : total (channel_at net i).taken (count_of s (channel_at net i).target) ≤ (channel_at net i).tokens + total (channel_at net i).made (count_of s (channel_at net i).source) = needed-tokens net s good i place in let makes : total (channel_at net i).made (count_of s (channel_at net i).source) ≤ total (channel_at net i).made n = total-le (channel_at net i).made few in omega arith)) (λ (h : count_of s (channel_at net i).target ≤ ((channel_at net i).tokens + total (channel_at net i).made n + 1) * length (channel_at net i).taken). h) (cases_lt (((channel_at net i).tokens + total (channel_at net i).made n + 1) * length (channel_at net i).taken) (count_of s (channel_at net i).target))

  along-few : (path : List ℕ) (a b n : ℕ) → IsPath (ends_of net) a path b → count_of s a ≤ n → count_of s b ≤ most_along net path n
  unfolding most_along
  along-few [] a b n same few = subst (λ (x : ℕ). count_of s x ≤ n) same few
  along-few (i ∷ path) a b n (e, is, from, rest) few =
      let c = channel-of net i e is in
      let most = ((channel_at net i).tokens + total (channel_at net i).made n + 1) * length (channel_at net i).taken in
      along-few path e.1 b most rest (subst (λ (x : ℕ). count_of s x ≤ most) c.target (fed-few i n c.place (subst (λ (x : ℕ). count_of s x ≤ n) (from ∙ sym c.source) few)))

module _ (net : Net) (laws : Lawful net) (inputs : HasInputs net) (strong : IsStronglyConnected net) (v : ℕ → ℕ) (blocks : Blocks net v) where
  most_at : (b : ℕ) → (b < length net.times) ⊎ (length net.times ≤ b) → ℕ
  most_at b (inl here) = most_along net (strong blocks.short.0 b blocks.short.1 here).0 (v blocks.short.0)
  most_at b (inr past) = 0

  most_of : ℕ → ℕ
  most_of b = most_at b (cases_lt b (length net.times))

  few-at : (s : Schedule) → Admissible net s → (b : ℕ) (w : (b < length net.times) ⊎ (length net.times ≤ b)) → b < length net.times → count_of s b ≤ most_at b w
  unfolding most_at
  few-at s good b (inl here) actor = let short : count_of s blocks.short.0 ≤ v blocks.short.0 = blocked-bounds net v (timed net laws) (wired net laws) (balanced net laws) blocks s good blocks.short.0 blocks.short.1 blocks.short.2 in along-few net laws s good (strong blocks.short.0 b blocks.short.1 here).0 blocks.short.0 b (v blocks.short.0) (strong blocks.short.0 b blocks.short.1 here).1 short
  few-at s good b (inr past) actor = absurd (omega arith)

  few : (s : Schedule) → Admissible net s → (b : ℕ) → b < length net.times → count_of s b ≤ sum_to most_of (length net.times)
  unfolding most_of
  few s good b actor = let mine : count_of s b ≤ most_at b (cases_lt b (length net.times)) = few-at s good b (cases_lt b (length net.times)) actor in let part : most_at b (cases_lt b (length net.times)) ≤ sum_to most_of (length net.times) = sum_to-part most_of (length net.times) b actor in omega arith

  pub blocked-rate : Rate net 0 1
  blocked-rate = record {
    positive = omega arith;
    lowest = IsGcd-swap 1 0 1 (IsGcd-from_zero 1 0 refl);
    slack = sum_to most_of (length net.times);
    bounds = record { above = λ s t a good actor. omega (arith, count_by-le-length (λ x. nat_lt x t) (slice_index_or s a []), few s good a actor); below = λ t. (earliest net t, earliest-is net (regular net laws) inputs t, λ a actor. omega arith) };
  }
