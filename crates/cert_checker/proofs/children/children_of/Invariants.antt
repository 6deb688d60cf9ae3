use Rattle.cert_checker.proofs.ChildMarks.{AreFirst}
use Rattle.cert_checker.proofs.children.children_of.Given as goal

abbrev pub invariant-loop-member : goal.invariant-loop-member
invariant-loop-member g l = AreFirst (g.F.Firing.net l.net) l.certificate l.members l.member-index l.marks.items
