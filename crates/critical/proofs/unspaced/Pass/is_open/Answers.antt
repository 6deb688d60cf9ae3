use Rattle.std.proofs.Common.{sym, ◌∙◌}
use Rattle.critical.proofs.SearchTurns.{is-open, by-mark}
use Rattle.critical.proofs.unspaced.Pass.is_open.Goals as goal

pub returns-in-None : goal.returns-in-None
returns-in-None g c =
    is-open (g.F.Firing.net c.args.self.now.wired.now.net.now) c.args.self.now.table.now c.args.met.now c.args.marks.now c.requires.so_far c.args.firing
    (sym (rw c.class_of.ensures.class at c.mark_at-before.ensures) ∙ c.in-None.is)

pub returns-in-Some : goal.returns-in-Some
returns-in-Some g c =
    by-mark (g.F.Firing.net c.args.self.now.wired.now.net.now) c.args.self.now.table.now c.args.met.now c.args.marks.now c.requires.so_far c.args.firing c.in-Some.place c.stands_at.result
    (sym (rw c.class_of.ensures.class at c.mark_at-before.ensures) ∙ c.in-Some.is) c.stands_at.ensures
