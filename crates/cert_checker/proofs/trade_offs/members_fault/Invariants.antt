use Rattle.std.proofs.Common.{◌≡◌, ℕ, ◌<◌}
use Rattle.cert_checker.specs.StorageLines.{member_line}
use Rattle.cert_checker.specs.StorageCertificates.{IsMemberRight}
use Rattle.cert_checker.specs.inside.FirstFaults.{kept_number}
use Rattle.cert_checker.proofs.trade_offs.members_fault.Given as goal

abbrev pub invariant-loop-number : goal.invariant-loop-number
invariant-loop-number g l =
    (l.line ≡ kept_number (member_line l.version l.certificate l.number))
    × ((i : ℕ) → i < l.number → IsMemberRight (g.F.Firing.net l.net) l.certificate i)
