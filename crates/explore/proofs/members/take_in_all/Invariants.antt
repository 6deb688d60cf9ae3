use Rattle.std.proofs.Common.{◌≡◌, ◌+◌, ◌++◌, drop, length}
use Rattle.sd_base.specs.declared.numbers.Fraction.{Fraction}
use Rattle.evaluations.specs.Evaluating.{least_loops, most_loops, sum_of}
use Rattle.explore.specs.Explorations.{capacities_of, cycles_in}
use Rattle.explore.specs.inside.Members.{IsBest}
use Rattle.explore.specs.inside.Searches.{IsSearch, answered_of}
use Rattle.explore.proofs.members.take_in_all.Given as goal

abbrev pub invariant-loop-answered : goal.invariant-loop-answered
invariant-loop-answered g l =
    IsSearch (g.F.Firing.net l.exploring.net.now) l.exploring.limits (l.total + 1) (answered_of (drop (length l.yielded) l.fn.answers.items)) l.search
    × (length l.search.members.items ≡ length l.initial.search.members.items + length l.yielded)
    × (cycles_in l.search.members.items ≡ cycles_in l.initial.search.members.items + sum_of least_loops l.yielded)
    × (cycles_in l.search.members.items ≡ cycles_in l.initial.search.members.items + sum_of most_loops l.yielded)
    × ((best : Fraction) → IsBest (g.F.Firing.net l.exploring.net.now) best l.total l.initial.search.members.items → IsBest (g.F.Firing.net l.exploring.net.now) best l.total l.search.members.items)
    × (capacities_of l.search.members.items ≡ capacities_of l.initial.search.members.items ++ answered_of l.yielded)
