use Rattle.levels.proofs.PutsKeepSets.{popped-level}
use Rattle.levels.proofs.sets.Waiting.next.Goals as goal

pub returns : goal.returns
returns g c =
    popped-level c.in-Some.total c.in-Some.set c.self.inside.sets.entries c.pop_first.new.self.entries c.args.self.now c.in_ok-visits.visits.items c.self.invariant c.in-Some.ensures.removal c.self.view_is
    c.in_ok-visits.ensures.same c.in_ok-visits.ensures.sorted
