use Rattle.std.proofs.Common.{◌≡◌, ◌≤◌, length, sym, ◌∙◌, arith}
use Rattle.std.specs.Prelude.{slice_index_or}
use Rattle.cert_checker.specs.ShownChannels.{member_at, no_member}
use Rattle.cert_checker.proofs.AnswersJudgeLines.{begins-empty, begins-first, corner-length, empty-tests, first-tests, item-of, some-there}
use Rattle.cert_checker.proofs.trade_offs.begins_at.Goals as goal

pub total_within-requires : goal.total_within-requires
total_within-requires g c = corner-length (g.F.Firing.net c.args.net.now).channels c.args.corner.now.capacities c.requires.corner

pub returns-then-not-is_empty : goal.returns-then-not-is_empty
returns-then-not-is_empty g c =
    let cert = c.args.certificate.now in
    let some : 1 ≤ length cert.members = some-there c.as_slice-members.result.now cert.members c.is_empty.result c.if-not-is_empty.true c.is_empty.ensures c.as_slice-members.ensures in
    let here : slice_index_or c.as_slice-members.result.now 0 c.index-members-0.result ≡ member_at cert.members 0 =
    sym c.index-members-0.is ∙ item-of c.as_slice-members.result.now cert.members 0 c.index-members-0.result no_member c.as_slice-members.ensures some c.index-members-0.is in
    begins-first (g.F.Firing.net c.args.net.now) cert c.args.corner.now.capacities c.requires.corner (omega (arith, c.in-Some.ensures.0, c.in-Some.ensures.1)) c.eq.result
    (first-tests cert.members (slice_index_or c.as_slice-members.result.now 0 c.index-members-0.result) c.args.corner.now.capacities c.eq.result some here c.eq.ensures)

pub returns-in-None : goal.returns-in-None
returns-in-None g c =
    begins-empty (g.F.Firing.net c.args.net.now) c.args.certificate.now c.args.corner.now.capacities c.requires.corner c.in-None.ensures c.is_empty-in-None.result
    (empty-tests c.as_slice-members.result.now c.args.certificate.now.members c.is_empty-in-None.result c.is_empty-in-None.ensures c.as_slice-members.ensures)
