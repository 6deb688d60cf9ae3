use Rattle.std.proofs.Common.{◌≡◌, ℕ, ◌<◌}
use Rattle.cert_checker.specs.StorageLines.{point_line}
use Rattle.cert_checker.specs.StorageCertificates.{IsPointRight}
use Rattle.cert_checker.specs.inside.FirstFaults.{kept_number}
use Rattle.cert_checker.proofs.trade_offs.points_fault.Given as goal

abbrev pub invariant-loop-number : goal.invariant-loop-number
invariant-loop-number g l =
    (l.line ≡ kept_number (point_line l.version l.certificate l.number))
    × ((i : ℕ) → i < l.number → IsPointRight (g.F.Firing.net l.net) l.certificate i)
