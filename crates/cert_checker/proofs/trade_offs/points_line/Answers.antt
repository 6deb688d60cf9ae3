use Rattle.std.proofs.Common.{◌≡◌, ◌<◌, List, length, ap₂, subst, ◌∙◌, arith}
use Rattle.cert_text.specs.declared.certificates.LinkCycle.{LinkCycle}
use Rattle.cert_text.specs.declared.certificates.MemberLine.{MemberLine}
use Rattle.cert_checker.specs.ShownChannels.{member_at, no_member}
use Rattle.cert_checker.specs.StorageLines.{member_size}
use Rattle.cert_checker.proofs.AnswersJudgeLines.{item-of}
use Rattle.cert_checker.proofs.StorageFirsts.{member-more}
use Rattle.cert_checker.proofs.trade_offs.points_line.Goals as goal

pub loop-member-preserved : goal.loop-member-preserved
loop-member-preserved c =
    let cert = c.args.certificate.now in
    let i = c.loop-member.member-index in
    let below : i < length cert.members = subst (λ (ms : List MemberLine). i < length ms) c.as_slice-member-items.ensures c.loop-member-test.true in
    let m : c.member-item.result ≡ member_at cert.members i = item-of c.as_slice-member-items.result.now cert.members i c.member-item.result no_member c.as_slice-member-items.ensures below c.member-item.is in
    let size : c.member_size-size.result ≡ member_size c.args.version cert.cycles (member_at cert.members i) = c.member_size-size.ensures ∙ ap₂ (λ (cs : List LinkCycle) (x : MemberLine). member_size c.args.version cs x) c.as_slice.ensures m in
    omega (arith, member-more c.args.version cert i below, c.loop-member.invariant, c.saturating_add-line-in-loop-member.ensures, size)
