use Rattle.std.proofs.Common.{◌≡◌, ◌<◌, ap, length, subst, sym, ◌∙◌}
use Rattle.cert_text.specs.declared.certificates.MemberLine.{MemberLine}
use Rattle.cert_text.specs.declared.certificates.PointLine.{PointLine}
use Rattle.cert_checker.specs.ShownChannels.{IsWithin, member_at, no_member}
use Rattle.cert_checker.specs.StorageCertificates.{no_point, point_at}
use Rattle.cert_checker.proofs.FileNets.{bounded-few, within-can}
use Rattle.cert_checker.proofs.AnswersJudgeLines.{item-of, judge-point}
use Rattle.cert_checker.proofs.points.point_fault.Goals as goal

pub new-requires-clause-can : goal.new-requires-clause-can
new-requires-clause-can g c =
    let net = g.F.Firing.net c.args.net.now in
    let cert = c.args.certificate.now in
    let p : c.index-as_slice-number.result ≡ point_at cert.points c.args.number = item-of c.as_slice.result.now cert.points c.args.number c.index-as_slice-number.result no_point c.as_slice.ensures c.requires.number c.index-as_slice-number.is in
    let right = c.is_point.ensures.0 c.if-not-is_point.false in
    let below : c.index-as_slice-number.result.member < length cert.members = subst (λ (x : PointLine). x.member < length cert.members) (sym p) right.member in
    let m : c.index-as_slice-point.result ≡ member_at cert.members c.index-as_slice-number.result.member = item-of c.as_slice-2.result.now cert.members c.index-as_slice-number.result.member c.index-as_slice-point.result no_member c.as_slice-2.ensures below c.index-as_slice-point.is in
    within-can net c.requires.file cert.limit c.index-as_slice-point.result.capacities.capacities c.requires.limit
    (subst (λ (x : MemberLine). IsWithin net cert.limit x.capacities.capacities) (sym m) (c.requires.within c.index-as_slice-number.result.member below))

pub new-requires-clause-few : goal.new-requires-clause-few
new-requires-clause-few g c = bounded-few (g.F.Firing.net c.args.net.now) c.requires.file c.index-as_slice-point.result.capacities.capacities

pub returns : goal.returns
returns g c =
    let net = g.F.Firing.net c.args.net.now in
    let cert = c.args.certificate.now in
    let p : c.index-as_slice-number.result ≡ point_at cert.points c.args.number = item-of c.as_slice.result.now cert.points c.args.number c.index-as_slice-number.result no_point c.as_slice.ensures c.requires.number c.index-as_slice-number.is in
    let right = c.is_point.ensures.0 c.if-not-is_point.false in
    let below : c.index-as_slice-number.result.member < length cert.members = subst (λ (x : PointLine). x.member < length cert.members) (sym p) right.member in
    let m : c.index-as_slice-point.result ≡ member_at cert.members c.index-as_slice-number.result.member = item-of c.as_slice-2.result.now cert.members c.index-as_slice-number.result.member c.index-as_slice-point.result no_member c.as_slice-2.ensures below c.index-as_slice-point.is in
    judge-point net cert c.args.number right c.index-as_slice-point.result (m ∙ ap (λ (x : PointLine). member_at cert.members x.member) p) c.index-as_slice-number.result p _ c.in_ok-bounded.ensures c.schedule_fault.result c.schedule_fault.ensures
