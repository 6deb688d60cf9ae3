use Rattle.cert_checker.proofs.ChildMarks.{AreMarked}
use Rattle.cert_checker.proofs.children.mark_children.Given as goal

abbrev pub invariant-loop-channel : goal.invariant-loop-channel
invariant-loop-channel g l = AreMarked (g.F.Firing.net l.net) l.certificate l.members l.member l.initial.marks.items l.channel l.marks.items
