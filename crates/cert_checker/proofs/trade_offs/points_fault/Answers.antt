use Rattle.std.proofs.Common.{◌≡◌, ◌+◌, ◌<◌, length, below_more, subst, ap, ◌∙◌, Option, arith}
use Rattle.cert_checker.specs.declared.fault.Fault.{Fault}
use Rattle.cert_checker.specs.Verdicts.{IsFirst}
use Rattle.cert_checker.specs.inside.FirstFaults.{Judges}
use Rattle.cert_text.specs.declared.certificates.PointLine.{PointLine}
use Rattle.cert_checker.specs.StorageLines.{point_line, point_size}
use Rattle.cert_checker.specs.StorageCertificates.{IsPointRight, no_point, point_at}
use Rattle.cert_checker.specs.StorageFaults.{IsPointFault}
use Rattle.cert_checker.proofs.AnswersJudgeLines.{item-of}
use Rattle.cert_checker.proofs.StorageFirsts.{first-point, point-more}
use Rattle.cert_checker.proofs.trade_offs.points_fault.Goals as goal

pub returns-in-Some : goal.returns-in-Some
returns-in-Some g c =
    let net = g.F.Firing.net c.args.net.now in
    let cert = c.args.certificate.now in
    let n = c.loop-number.number in
    let below : n < length cert.points = omega (arith, c.loop-number-test.true, c.len-number-end.ensures) in
    let first : IsFirst (IsPointFault net cert n) c.in-Some.fault.line c.in-Some.fault.reason = subst (λ (o : Option Fault). Judges (IsPointFault net cert n) (IsPointRight net cert n) o) c.in-Some.is c.in_ok-fault.ensures in
    (point_line c.args.version cert n + c.in-Some.fault.line, first-point net c.args.version cert n c.in-Some.fault.line c.in-Some.fault.reason below c.loop-number.invariant.1 first, omega (arith, c.loop-number.invariant.0, c.saturating_add.ensures))

pub loop-number-preserved : goal.loop-number-preserved
loop-number-preserved g c =
    let net = g.F.Firing.net c.args.net.now in
    let cert = c.args.certificate.now in
    let n = c.loop-number.number in
    let below : n < length cert.points = omega (arith, c.loop-number-test.true, c.len-number-end.ensures) in
    let p : c.index-as_slice-number.result ≡ point_at cert.points n = item-of c.as_slice.result.now cert.points n c.index-as_slice-number.result no_point c.as_slice.ensures below c.index-as_slice-number.is in
    let size : c.point_size.result ≡ point_size (point_at cert.points n) = c.point_size.ensures ∙ ap (λ (x : PointLine). point_size x) p in
    let right : IsPointRight net cert n = subst (λ (o : Option Fault). Judges (IsPointFault net cert n) (IsPointRight net cert n) o) c.in_default.is c.in_ok-fault.ensures in
    (omega (arith, c.loop-number.invariant.0, c.saturating_add-line.ensures, size, point-more c.args.version cert n below), below_more (IsPointRight net cert) n c.loop-number.invariant.1 right)
