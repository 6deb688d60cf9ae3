use Rattle.std.proofs.Common.{◌≡◌}
use Rattle.cert_checker.specs.StorageLines.{member_line}
use Rattle.cert_checker.specs.inside.FirstFaults.{kept_number}
use Rattle.cert_checker.proofs.trade_offs.points_line.Given as goal

abbrev pub invariant-loop-member : goal.invariant-loop-member
invariant-loop-member l = l.line ≡ kept_number (member_line l.version l.certificate l.member-index)
