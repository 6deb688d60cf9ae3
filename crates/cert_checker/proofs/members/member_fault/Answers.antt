use Rattle.std.proofs.Common.{◌≡◌, subst, sym}
use Rattle.cert_text.specs.declared.certificates.MemberLine.{MemberLine}
use Rattle.cert_checker.specs.ShownChannels.{IsWithin, member_at, no_member}
use Rattle.cert_checker.proofs.FileNets.{bounded-few, within-can}
use Rattle.cert_checker.proofs.AnswersJudgeLines.{item-of, judge-member}
use Rattle.cert_checker.proofs.members.member_fault.Goals as goal

pub new-requires-clause-can : goal.new-requires-clause-can
new-requires-clause-can g c =
    let net = g.F.Firing.net c.args.net.now in
    let m : c.index-as_slice-number.result ≡ member_at c.args.certificate.now.members c.args.number =
    item-of c.as_slice.result.now c.args.certificate.now.members c.args.number c.index-as_slice-number.result no_member c.as_slice.ensures c.requires.number c.index-as_slice-number.is in
    within-can net c.requires.file c.args.certificate.now.limit c.index-as_slice-number.result.capacities.capacities c.requires.limit
    (subst (λ (x : MemberLine). IsWithin net c.args.certificate.now.limit x.capacities.capacities) (sym m) (c.is_in_place.ensures.0 c.if-not-is_in_place.false).within)

pub new-requires-clause-few : goal.new-requires-clause-few
new-requires-clause-few g c = bounded-few (g.F.Firing.net c.args.net.now) c.requires.file c.index-as_slice-number.result.capacities.capacities

pub returns : goal.returns
returns g c =
    let m : c.index-as_slice-number.result ≡ member_at c.args.certificate.now.members c.args.number =
    item-of c.as_slice.result.now c.args.certificate.now.members c.args.number c.index-as_slice-number.result no_member c.as_slice.ensures c.requires.number c.index-as_slice-number.is in
    judge-member (g.F.Firing.net c.args.net.now) c.args.version c.args.certificate.now c.args.number c.index-as_slice-number.result m (c.is_in_place.ensures.0 c.if-not-is_in_place.false) (c.in_ok-is_closed_at.ensures.0 c.if-not-branch.false)
    _ c.in_ok-bounded.ensures _ c.as_slice-2.ensures c.shown_fault.result c.shown_fault.ensures
