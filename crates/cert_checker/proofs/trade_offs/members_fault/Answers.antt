use Rattle.std.proofs.Common.{◌≡◌, ◌+◌, ◌<◌, List, length, below_more, subst, ap₂, ◌∙◌, Option, arith}
use Rattle.cert_checker.specs.declared.fault.Fault.{Fault}
use Rattle.cert_checker.specs.Verdicts.{IsFirst}
use Rattle.cert_checker.specs.inside.FirstFaults.{Judges}
use Rattle.cert_text.specs.declared.certificates.LinkCycle.{LinkCycle}
use Rattle.cert_text.specs.declared.certificates.MemberLine.{MemberLine}
use Rattle.cert_checker.specs.ShownChannels.{member_at, no_member}
use Rattle.cert_checker.specs.StorageLines.{member_line, member_size}
use Rattle.cert_checker.specs.StorageCertificates.{IsMemberRight}
use Rattle.cert_checker.specs.StorageFaults.{IsMemberFault}
use Rattle.cert_checker.proofs.AnswersJudgeLines.{item-of}
use Rattle.cert_checker.proofs.StorageFirsts.{first-member, member-more}
use Rattle.cert_checker.proofs.trade_offs.members_fault.Goals as goal

pub returns-in-Some : goal.returns-in-Some
returns-in-Some g c =
    let net = g.F.Firing.net c.args.net.now in
    let cert = c.args.certificate.now in
    let n = c.loop-number.number in
    let below : n < length cert.members = omega (arith, c.loop-number-test.true, c.len-number-end.ensures) in
    let first : IsFirst (IsMemberFault net c.args.version cert n) c.in-Some.fault.line c.in-Some.fault.reason = subst (λ (o : Option Fault). Judges (IsMemberFault net c.args.version cert n) (IsMemberRight net cert n) o) c.in-Some.is c.in_ok-fault.ensures in
    (member_line c.args.version cert n + c.in-Some.fault.line, first-member net c.args.version cert n c.in-Some.fault.line c.in-Some.fault.reason below c.loop-number.invariant.1 first, omega (arith, c.loop-number.invariant.0, c.saturating_add.ensures))

pub loop-number-preserved : goal.loop-number-preserved
loop-number-preserved g c =
    let net = g.F.Firing.net c.args.net.now in
    let cert = c.args.certificate.now in
    let n = c.loop-number.number in
    let below : n < length cert.members = omega (arith, c.loop-number-test.true, c.len-number-end.ensures) in
    let m : c.index-as_slice-number.result ≡ member_at cert.members n = item-of c.as_slice-in-loop-number.result.now cert.members n c.index-as_slice-number.result no_member c.as_slice-in-loop-number.ensures below c.index-as_slice-number.is in
    let size : c.member_size.result ≡ member_size c.args.version cert.cycles (member_at cert.members n) = c.member_size.ensures ∙ ap₂ (λ (cs : List LinkCycle) (x : MemberLine). member_size c.args.version cs x) c.as_slice.ensures m in
    let right : IsMemberRight net cert n = subst (λ (o : Option Fault). Judges (IsMemberFault net c.args.version cert n) (IsMemberRight net cert n) o) c.in_default.is c.in_ok-fault.ensures in
    (omega (arith, c.loop-number.invariant.0, c.saturating_add-line.ensures, size, member-more c.args.version cert n below), below_more (IsMemberRight net cert) n c.loop-number.invariant.1 right)
