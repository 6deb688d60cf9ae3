use Rattle.std.proofs.Common.{◌≡◌, ◌+◌, ◌-◌, length}
use Rattle.explore.specs.Explorations.{cycles_in}
use Rattle.explore.specs.inside.Searches.{EntersOn, IsStanding}
use Rattle.explore.proofs.search.take_turns.Given as goal

abbrev pub invariant-loop-level : goal.invariant-loop-level
invariant-loop-level g l =
    IsStanding (g.F.Firing.net l.exploring.net.now) l.exploring.limits l.search
    × (l.steps.count ≡ l.initial.steps.count + cycles_in l.search.members.items)
    × (l.steps.share ≡ l.initial.steps.share)
    × EntersOn (g.F.Firing.net l.exploring.net.now) (g.G.Gate.entered l.gate) l.initial.search.members.items l.search.members.items

abbrev pub decreases-loop-level : goal.decreases-loop-level
decreases-loop-level g l = l.exploring.limits.distributions + 1 - length l.search.members.items
