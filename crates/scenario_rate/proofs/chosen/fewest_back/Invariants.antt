use Rattle.std.proofs.Common.{MatchOption}
use Rattle.scenario_rate.specs.inside.Choosing.{NoneBack, IsFewest}
use Rattle.scenario_rate.proofs.chosen.fewest_back.Given as goal

abbrev pub invariant-loop-number : goal.invariant-loop-number
invariant-loop-number l = MatchOption l.fewest (NoneBack l.edges l.out l.steps l.number-index) (IsFewest l.edges l.out l.steps l.number-index)
