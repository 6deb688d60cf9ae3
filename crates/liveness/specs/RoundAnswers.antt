-- What is answered of a round.
use Rattle.std.specs.Prelude.{◌≡◌, ℕ, ◌<◌, Bool, true, false, List, length, slice_index}
use Rattle.sd_base.specs.Net.{Net}
use Rattle.sd_base.specs.Untimed.{none_fired, Fires, counts_after, IsLive, IsRoundOrder, IsBlockedBy}
use Rattle.liveness.specs.declared.round.Round.{Round}
use Rattle.liveness.specs.declared.round.Round.TheVariants.{Live, Blocked}
use Rattle.liveness.specs.declared.ending.Ending.{Ending}
use Rattle.liveness.specs.declared.ending.Ending.TheVariants as endings

abbrev pub IsRoundAnswer : Net → Round → Type 0
IsRoundAnswer net (Live order) = IsRoundOrder net order
IsRoundAnswer net (Blocked counts lacks) = IsBlockedBy net counts lacks

abbrev pub is_live : Round → Bool
is_live (Live order) = true
is_live (Blocked counts lacks) = false

-- these are the counts after some order of firings, none more often than in a round
pub record AreReachedCounts (net : Net) (counts : List ℕ) : Type 0 where
  pub actors : length counts ≡ length net.times
  pub order : List ℕ
  pub fires : Fires net none_fired order
  pub reached : (a : ℕ) → a < length net.times → counts_after none_fired order a ≡ slice_index counts a

-- a round can be completed; or firing one actor after another ends in these counts, which block the net
abbrev pub IsEnding : Net → Ending → Type 0
IsEnding net endings.Whole = IsLive net
IsEnding net (endings.Blocked counts lacks) = IsBlockedBy net counts lacks
