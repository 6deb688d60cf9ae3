use Rattle.std.proofs.Common.{ℕ, ◌<◌}
use Rattle.cert_checker.specs.ShownChannels.{member_at}
use Rattle.cert_checker.specs.inside.BelowPoints.{IsMemberBelow}
use Rattle.cert_checker.proofs.points.are_below.Given as goal

abbrev pub invariant-loop-member : goal.invariant-loop-member
invariant-loop-member g l = (i : ℕ) → i < l.member-index → IsMemberBelow (g.F.Firing.net l.net) l.certificate.points (member_at l.certificate.members i)
