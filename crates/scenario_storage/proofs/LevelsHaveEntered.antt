-- The distributions of a level more have entered.
use Rattle.std.proofs.Common.{◌≡◌, ℕ, ◌<◌, Option, List, ◌++◌, length, map, subst, arith, ap}
use Rattle.std.specs.Prelude.{All, slice_index_or}
use Rattle.std.proofs.lemmas.List.{length-map}
use Rattle.std.proofs.lemmas.List.Elements.{All-contains, Contains-get_or}
use Rattle.sd_base.specs.declared.tables.ScenarioFile.{ScenarioFile}
use Rattle.sd_base.proofs.ContainedHavePlaces.{contains-unmap}
use Rattle.storage.specs.Distributions.{storage_of}
use Rattle.storage.specs.declared.distribution.Distribution.{Distribution}
use Rattle.fanout.specs.JobRuns.{EachEntered}
use Rattle.levels.specs.declared.found.Found.{Found}
use Rattle.levels.specs.declared.found.Level.{Level}
use Rattle.levels.specs.Entrances.{EnterByLevels}
use Rattle.levels.specs.Frontiers.{distributions_of}
use Rattle.levels.specs.Visits.{visited, visits_of}
use Rattle.levels.proofs.NextLevelEnters.{level-entered}
use Rattle.bounded_scenarios.specs.SharedChannels.{shared_channels}
use Rattle.scenario_storage.specs.declared.level.Answered.{Answered}
use Rattle.scenario_storage.specs.declared.point.ScenarioLimits.{ScenarioLimits}
use Rattle.scenario_storage.specs.declared.search.Search.{Search}
use Rattle.scenario_storage.specs.inside.Searches.{IsTurn}

module _ (file : ScenarioFile) (limits : ScenarioLimits) (level : Level Unit) (s : Search) (turn : IsTurn file limits level s) where
  level-totals : All (λ (ds : List (Option ℕ)). storage_of (shared_channels file) ds ≡ level.total) (distributions_of level.visits.items)
  level-totals k d below =
      let f = contains-unmap (λ (f : Found Unit). f.capacities.capacities) level.visits.items (slice_index_or (distributions_of level.visits.items) k d) (Contains-get_or (distributions_of level.visits.items) k d below) in
      subst (λ (ds : List (Option ℕ)). storage_of (shared_channels file) ds ≡ level.total) f.2 (All-contains (λ (f : Found Unit). storage_of (shared_channels file) f.capacities.capacities ≡ level.total) level.visits.items f.0 turn.totals f.1)

  pub turn-entered : (entered : ℕ → ℕ → Type 0) (answers : List Answered) → map (λ (a : Answered). a.capacities) answers ≡ map (λ (f : Found Unit). f.capacities) level.visits.items → EachEntered (entered level.total) answers →
      (all : List (List (Option ℕ))) → visited (visits_of turn.search.entries) ≡ all → EnterByLevels (shared_channels file) entered all → EnterByLevels (shared_channels file) entered (all ++ distributions_of level.visits.items)
  turn-entered entered answers order each all same before =
      let long : length (map (λ (a : Answered). a.capacities) answers) ≡ length (map (λ (f : Found Unit). f.capacities) level.visits.items) = ap (λ (ds : List Distribution). length ds) order in
      level-entered (shared_channels file) entered level.total all (distributions_of level.visits.items) (subst (All (λ (ds : List (Option ℕ)). storage_of (shared_channels file) ds < level.total)) same turn.low) level-totals
      (λ k below.
      each k
      (omega (arith, below, long, length-map answers (λ (a : Answered). a.capacities), length-map level.visits.items (λ (f : Found Unit). f.capacities), length-map level.visits.items (λ (f : Found Unit). f.capacities.capacities))))
      before
