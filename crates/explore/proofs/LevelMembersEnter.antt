-- The members of a level more have entered.
use Rattle.std.proofs.Common.{◌≡◌, ℕ, ◌<◌, Option, List, ◌++◌, map, sym, subst, arith}
use Rattle.std.specs.Prelude.{All, slice_index_or}
use Rattle.std.proofs.lemmas.List.{length-map}
use Rattle.std.proofs.lemmas.List.Elements.{All-contains, Contains-get_or}
use Rattle.sd_base.specs.declared.limits.Limits.{Limits}
use Rattle.sd_base.specs.Net.{Net}
use Rattle.sd_base.proofs.ContainedHavePlaces.{contains-unmap}
use Rattle.storage.specs.Distributions.{storage_of}
use Rattle.fanout.specs.JobRuns.{EachEntered}
use Rattle.levels.specs.declared.found.Found.{Found}
use Rattle.levels.specs.declared.found.Level.{Level}
use Rattle.levels.specs.Entrances.{EnterByLevels}
use Rattle.levels.specs.Frontiers.{distributions_of}
use Rattle.levels.proofs.NextLevelEnters.{level-entered}
use Rattle.evaluations.specs.declared.evaluating.Answered.{Answered}
use Rattle.explore.specs.declared.exploration.Member.{Member}
use Rattle.explore.specs.declared.search.Search.{Search}
use Rattle.explore.specs.Explorations.{capacities_of}
use Rattle.explore.specs.inside.Searches.{EntersOn, IsTurn, answered_of}
use Rattle.explore.proofs.TurnsTakeLevels.{answered-level}

module _ (net : Net) (limits : Limits) (level : Level (Option ℕ)) (s : Search) (turn : IsTurn net limits level s) where
  low : All (λ (ds : List (Option ℕ)). storage_of net.channels ds < level.total) (capacities_of s.members.items)
  low k d below =
      let m = contains-unmap (λ (m : Member). m.capacities.capacities) s.members.items (slice_index_or (capacities_of s.members.items) k d) (Contains-get_or (capacities_of s.members.items) k d below) in
      subst (λ (ds : List (Option ℕ)). storage_of net.channels ds < level.total) m.2 (turn.before m.0 m.1)

  level-totals : All (λ (ds : List (Option ℕ)). storage_of net.channels ds ≡ level.total) (distributions_of level.visits.items)
  level-totals k d below =
      let f = contains-unmap (λ (f : Found (Option ℕ)). f.capacities.capacities) level.visits.items (slice_index_or (distributions_of level.visits.items) k d) (Contains-get_or (distributions_of level.visits.items) k d below) in
      subst (λ (ds : List (Option ℕ)). storage_of net.channels ds ≡ level.total) f.2 (All-contains (λ (f : Found (Option ℕ)). storage_of net.channels f.capacities.capacities ≡ level.total) level.visits.items f.0 turn.totals f.1)

  pub turn-entered : (entered : ℕ → ℕ → Type 0) (answers : List Answered) (new : List Member) → map (λ (a : Answered). a.capacities) answers ≡ map (λ (f : Found (Option ℕ)). f.capacities) level.visits.items → EachEntered (entered level.total) answers
      → capacities_of new ≡ capacities_of s.members.items ++ answered_of answers → EntersOn net entered s.members.items new
  turn-entered entered answers new order each added before =
      let whole = level-entered net.channels entered level.total (capacities_of s.members.items) (answered_of answers) low
      (subst (All (λ (ds : List (Option ℕ)). storage_of net.channels ds ≡ level.total)) (sym (answered-level answers level.visits.items order)) level-totals)
      (λ k below. each k (omega (arith, below, length-map answers (λ (a : Answered). a.capacities.capacities)))) before in
      subst (EnterByLevels net.channels entered) (sym added) whole
