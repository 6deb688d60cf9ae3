use Rattle.std.proofs.Common.{◌≡◌, ◌<◌, length, subst, sym, ◌∙◌, true≢false}
use Rattle.std.specs.Prelude.{List}
use Rattle.cert_text.specs.declared.certificates.MemberLine.{MemberLine}
use Rattle.cert_text.specs.declared.certificates.PointLine.{PointLine}
use Rattle.cert_checker.specs.ShownChannels.{member_at, no_member}
use Rattle.cert_checker.specs.inside.BelowPoints.{IsMemberBelow}
use Rattle.cert_checker.specs.inside.Bests.{AreBestRates}
use Rattle.cert_checker.proofs.AnswersJudgeLines.{item-of, member-below}
use Rattle.cert_checker.proofs.points.are_below.Goals as goal

pub returns-then-not-is_member_below : goal.returns-then-not-is_member_below
returns-then-not-is_member_below g c =
    let net = g.F.Firing.net c.args.net.now in
    let below : c.loop-member.member-index < length c.args.certificate.now.members = subst (λ (ms : List MemberLine). c.loop-member.member-index < length ms) c.as_slice-member-items.ensures c.loop-member-test.true in
    let m : c.member-item.result ≡ member_at c.args.certificate.now.members c.loop-member.member-index =
    item-of c.as_slice-member-items.result.now c.args.certificate.now.members c.loop-member.member-index c.member-item.result no_member c.as_slice-member-items.ensures below c.member-item.is in (
      λ no. absurd (true≢false (sym no)),
      λ are.
          (let one = subst (IsMemberBelow net c.args.certificate.now.points) (sym m) (member-below net c.args.certificate.now c.loop-member.member-index are below) in
          let best : AreBestRates c.args.certificate.now.points c.in_ok-best.best = subst (λ (ps : List PointLine). AreBestRates ps c.in_ok-best.best) c.as_slice.ensures c.in_ok-best.ensures in
          absurd (true≢false (sym ((c.is_member_below.ensures c.args.certificate.now.points best).1 one) ∙ c.if-not-is_member_below.true))),
    )
