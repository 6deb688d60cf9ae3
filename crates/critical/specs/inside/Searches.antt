-- The search for a way round along tight needs on no free space: the way on which it stands, marks on the firings that it has met,
-- and those firings that it has left for good.
use Rattle.std.specs.Prelude.{◌≡◌, ℕ, suc, ◌+◌, ◌*◌, ◌≤◌, ◌<◌, List, [], length, Option, Some, None, slice_index_or}
use Rattle.std.specs.List.{sum_by}
use Rattle.sd_base.specs.declared.limits.TheConstants.{STARTS, TIME}
use Rattle.sd_base.specs.declared.role.Role.TheVariants.{Space}
use Rattle.firing.specs.declared.table.LoopTable.{LoopTable}
use Rattle.critical.specs.declared.cycle.FiringNo.{FiringNo}
use Rattle.critical.specs.declared.tight.ReadNeed.{ReadNeed}
use Rattle.critical.specs.declared.walk.Met.{Met}
use Rattle.sd_base.specs.Net.{Net, channel_at}
use Rattle.critical.specs.inside.Trails.{offset_of, IsSecond, class_at, IsTightNeed, Leads, met_at, ComesAgain}

-- channel i is no free space
abbrev pub IsNoSpace : Net → ℕ → Type 0
IsNoSpace net i = (c : ℕ) → ¬ ((channel_at net i).role ≡ Space c)

-- a firing of the second pass has a tight last need on a channel that is no free space
pub record IsUnspacedNeed (net : Net) (table : LoopTable) (later : FiringNo) (need : ReadNeed) : Type 0 where
  pub tight : IsTightNeed net table later need
  pub unspaced : IsNoSpace net need.channel

-- the firings of the second pass can be ranked so that what a firing needs so ranks below it
pub record HasRanks (net : Net) (table : LoopTable) : Type 0 where
  pub rank : ℕ → ℕ
  pub falls : (x : FiringNo) (need : ReadNeed) → IsSecond table x → IsUnspacedNeed net table x need → rank (class_at table need.firing) < rank (class_at table x)

-- the firing with a place among all of the second pass has been met
abbrev pub IsMarked : List (Option ℕ) → ℕ → Type 0
IsMarked marks c = (p : ℕ) × (slice_index_or marks c None ≡ Some p)

abbrev pub blank : Option ℕ → ℕ
blank None = 1
blank (Some p) = 0

-- how many have not
abbrev pub unmarked : List (Option ℕ) → ℕ
unmarked marks = sum_by blank marks

-- a firing stands on the way
abbrev pub StandsOn : List Met → FiringNo → Type 0
StandsOn met x = (i : ℕ) × (i < length met) × ((met_at met i).firing ≡ x)

-- a firing has been met, and no longer stands on the way
pub record IsLeft (table : LoopTable) (met : List Met) (marks : List (Option ℕ)) (x : FiringNo) : Type 0 where
  pub marked : IsMarked marks (class_at table x)
  pub off : ¬ StandsOn met x

-- where a firing has a mark, it stands on the way there
abbrev pub IsOpen : LoopTable → List Met → List (Option ℕ) → FiringNo → Type 0
IsOpen table met marks x = (p : ℕ) → slice_index_or marks (class_at table x) None ≡ Some p → (p < length met) × ((met_at met p).firing ≡ x)

-- the search can go on from a firing to one that it needs
pub record IsOpenNeed (net : Net) (table : LoopTable) (met : List Met) (marks : List (Option ℕ)) (later : FiringNo) (need : ReadNeed) : Type 0 where
  pub needs : IsUnspacedNeed net table later need
  pub is_open : IsOpen table met marks need.firing

-- what a firing needs so on channel i has been left
abbrev pub HasLeftOn : Net → LoopTable → List Met → List (Option ℕ) → FiringNo → ℕ → Type 0
HasLeftOn net table met marks later i = (need : ReadNeed) → IsUnspacedNeed net table later need → need.channel ≡ i → IsLeft table met marks need.firing

-- all that it needs so has been left
abbrev pub HasLeftAll : Net → LoopTable → List Met → List (Option ℕ) → FiringNo → Type 0
HasLeftAll net table met marks later = (need : ReadNeed) → IsUnspacedNeed net table later need → IsLeft table met marks need.firing

-- all that a firing that has been left needs so was left before it, as ranks tell, which are below a bound
pub record AreRanked (net : Net) (table : LoopTable) (met : List Met) (marks : List (Option ℕ)) : Type 0 where
  pub rank : ℕ → ℕ
  pub bound : ℕ
  pub below : (x : FiringNo) → IsSecond table x → IsLeft table met marks x → rank (class_at table x) < bound
  pub needed : (x : FiringNo) (need : ReadNeed) → IsSecond table x → IsLeft table met marks x → IsUnspacedNeed net table x need → IsLeft table met marks need.firing
  pub falls : (x : FiringNo) (need : ReadNeed) → IsSecond table x → IsLeft table met marks x → IsUnspacedNeed net table x need →
      rank (class_at table need.firing) < rank (class_at table x)

-- on the way each firing but the first is a tight need of the one before on no free space
pub record IsWay (net : Net) (table : LoopTable) (met : List Met) : Type 0 where
  pub second : (i : ℕ) → i < length met → IsSecond table (met_at met i).firing
  pub leads : (i : ℕ) → suc i < length met → Leads net table (met_at met i) (met_at met (suc i))
  pub unspaced : (i : ℕ) → suc i < length met → IsNoSpace net (met_at met (suc i)).channel
  pub near : (i : ℕ) → i < length met → (met_at met i).passes * table.rounds ≤ i * (2 * STARTS)
  pub soon : (i : ℕ) → i < length met → (met_at met i).time ≤ i * TIME

-- how far a search has come that has found no way round
pub record IsSearch (net : Net) (table : LoopTable) (met : List Met) (marks : List (Option ℕ)) : Type 0 where
  pub long : length marks ≡ offset_of table.starts (length table.starts)
  pub few : length met + unmarked marks ≤ length marks
  pub way : IsWay net table met
  pub marked : (i : ℕ) → i < length met → slice_index_or marks (class_at table (met_at met i).firing) None ≡ Some i
  pub ranked : AreRanked net table met marks

-- it has gone on, or back by a firing
pub record TurnsTo (net : Net) (table : LoopTable) (met : List Met) (marks : List (Option ℕ)) (new_met : List Met) (new_marks : List (Option ℕ)) : Type 0 where
  pub so_far : IsSearch net table new_met new_marks
  pub kept : (c : ℕ) → IsMarked marks c → IsMarked new_marks c
  pub less : 2 * unmarked new_marks + length new_met < 2 * unmarked marks + length met

-- it has gone on from some marks, and back to where no way is left
pub record GoesOn (net : Net) (table : LoopTable) (marks new_marks : List (Option ℕ)) : Type 0 where
  pub so_far : IsSearch net table [] new_marks
  pub kept : (c : ℕ) → IsMarked marks c → IsMarked new_marks c

-- a way comes round on no free space
pub record ComesRound (net : Net) (table : LoopTable) (met : List Met) (from : ℕ) : Type 0 where
  pub again : ComesAgain net table met from
  pub unspaced : (i : ℕ) → from < i → i < length met → IsNoSpace net (met_at met i).channel
