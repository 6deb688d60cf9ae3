use Rattle.std.proofs.Common.{◌-◌, ℕ, List, Option}
use Rattle.levels.specs.Entrances.{EnterByLevels}
use Rattle.bounded_scenarios.specs.SharedChannels.{shared_channels}
use Rattle.scenario_storage.specs.inside.Searches.{IsStanding, taken_off}
use Rattle.scenario_storage.proofs.search.take_turns.Given as goal

abbrev pub invariant-loop-level : goal.invariant-loop-level
invariant-loop-level g l = (all : List (List (Option ℕ))) × IsStanding l.plan.file.now l.plan.limits all l.search × EnterByLevels (shared_channels l.plan.file.now) (g.G.Gate.entered l.gate) all

abbrev pub decreases-loop-level : goal.decreases-loop-level
decreases-loop-level g l = l.plan.limits.distributions - taken_off l.search
