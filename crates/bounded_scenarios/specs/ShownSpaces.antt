-- Shared channels that show a bound of the worst rate: of a distribution that agrees on their capacities, and has no less of the
-- others, the worst rate is no greater.
use Rattle.std.specs.Prelude.{◌≡◌, ℕ, ◌*◌, ◌≤◌, Contains, Option, Some, List, [], slice_get}
use Rattle.sd_base.specs.declared.tables.GraphFile.{GraphFile}
use Rattle.sd_base.specs.declared.tables.ScenarioFile.{ScenarioFile}
use Rattle.sd_base.specs.declared.tables.ScenarioRow.{ScenarioRow}
use Rattle.sd_base.specs.declared.tables.SharedRow.{SharedRow}
use Rattle.sd_base.specs.Net.{IsRepetitionOf}
use Rattle.sd_base.specs.Untimed.{Blocks}
use Rattle.automaton.specs.declared.graph.Edge.{Edge}
use Rattle.automaton.specs.declared.graph.TimedGraph.{TimedGraph}
use Rattle.automaton.specs.CriticalCycles.{IsCritical}
use Rattle.automaton.specs.TimedGraphs.{IsTimedGraph}
use Rattle.storage.specs.ClosedLists.{AgreesOn}
use Rattle.storage.specs.Distributions.{AtMost, IsDistribution, storage_of}
use Rattle.storage.specs.Steps.{rounded}
use Rattle.bounded_scenarios.specs.BoundedFiles.{bounded_file}
use Rattle.bounded_scenarios.specs.Boundings.{CanBeBounded}
use Rattle.bounded_scenarios.specs.ScenarioGuides.{IsHeldUp, IsSpaceFor, IsWayOf}
use Rattle.bounded_scenarios.specs.SharedChannels.{shared_channels}
use Rattle.bounded_scenarios.specs.StorageRates.{AllRun, HasWorstRate, bounded_net}

-- each shared channel whose free space holds up an actor after v firings is shown
abbrev pub ShowsHeldUp : ScenarioFile → List (Option ℕ) → GraphFile → List ℕ → (ℕ → ℕ) → List ℕ → Type 0
ShowsHeldUp file m g gamma v shown = (c : ℕ) (row : SharedRow) → slice_get file.shared c ≡ Some row → IsHeldUp file m g gamma v row.name → Contains shown c

-- some scenario is blocked, and what holds it up is shown
pub record IsShownBlocked (file : ScenarioFile) (m : List (Option ℕ)) (shown : List ℕ) : Type 0 where
  pub place : ℕ
  pub row : ScenarioRow
  pub at : slice_get file.scenarios place ≡ Some row
  pub gamma : List ℕ
  pub gives : IsRepetitionOf row.graph gamma
  pub counts : ℕ → ℕ
  pub blocks : Blocks (bounded_net file.shared m row.graph gamma) counts
  pub shows : ShowsHeldUp file m row.graph gamma counts shown

-- each free space that is taken on these channels of a scenario is that of a shared channel that is shown
abbrev pub ShowsTaken : ScenarioFile → List (Option ℕ) → GraphFile → List ℕ → List ℕ → Type 0
ShowsTaken file m g channels shown = (c i : ℕ) (row : SharedRow) → slice_get file.shared c ≡ Some row → Contains channels i → IsSpaceFor file m g row.name i → Contains shown c

-- each edge of a cycle has a way whose spaces are shown
abbrev pub ShowsWays : ScenarioFile → List (Option ℕ) → TimedGraph → List ℕ → List ℕ → Type 0
ShowsWays file m graph cycle shown =
    (n : ℕ) (e : Edge) → Contains cycle n → slice_get graph.edges n ≡ Some e →
    (row : ScenarioRow) × (channels : List ℕ) × IsWayOf file m graph.tokens e row channels × ShowsTaken file m row.graph channels shown

-- each scenario runs, and what makes a critical cycle of the rate l/w as long as it is is shown
pub record IsShownLive (file : ScenarioFile) (m : List (Option ℕ)) (l w : ℕ) (shown : List ℕ) : Type 0 where
  pub runs : AllRun file m
  pub graph : TimedGraph
  pub timed : IsTimedGraph (bounded_file file m) graph
  pub cycle : List ℕ
  pub critical : IsCritical graph l w cycle
  pub shows : ShowsWays file m graph cycle shown

-- a distribution within the limit that, rounded down, is at least m and agrees with it on what is shown
pub record IsAbove (file : ScenarioFile) (total : ℕ) (m : List (Option ℕ)) (shown : List ℕ) (ds : List (Option ℕ)) : Type 0 where
  pub member : IsDistribution (shared_channels file) m
  pub distribution : IsDistribution (shared_channels file) ds
  pub within : storage_of (shared_channels file) ds ≤ total
  pub most : AtMost m (rounded (shared_channels file) ds)
  pub agrees : AgreesOn shown m (rounded (shared_channels file) ds)

-- no distribution above a blocked one that agrees on what is shown has a worst rate above 0
abbrev pub BlockedBounds : Type 0
BlockedBounds = (file : ScenarioFile) (total : ℕ) (m : List (Option ℕ)) (shown : List ℕ) (ds : List (Option ℕ)) (p q : ℕ) → CanBeBounded file total →
    IsShownBlocked file m shown → IsAbove file total m shown ds → HasWorstRate file ds p q → 1 ≤ p → ⊥

-- no distribution above a live one that agrees on what is shown has a greater worst rate
abbrev pub LiveBounds : Type 0
LiveBounds = (file : ScenarioFile) (total : ℕ) (m : List (Option ℕ)) (l w : ℕ) (shown : List ℕ) (ds : List (Option ℕ)) (p q : ℕ) → CanBeBounded file total →
    IsShownLive file m l w shown → IsAbove file total m shown ds → HasWorstRate file ds p q → 1 ≤ p → p * w ≤ l * q

-- no distribution at all has a worst rate above that of a critical cycle whose ways take no free space
abbrev pub SpacelessBounds : Type 0
SpacelessBounds = (file : ScenarioFile) (total : ℕ) (m : List (Option ℕ)) (l w : ℕ) (ds : List (Option ℕ)) (p q : ℕ) → CanBeBounded file total → IsDistribution (shared_channels file) m →
    storage_of (shared_channels file) m ≤ total → IsShownLive file m l w [] → IsDistribution (shared_channels file) ds → storage_of (shared_channels file) ds ≤ total → HasWorstRate file ds p q →
    p * w ≤ l * q
