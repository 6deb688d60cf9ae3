use Rattle.std.proofs.Common.{◌≡◌, ◌-◌, ◌↔◌, ap, length, subst, sym, ◌∙◌, arith}
use Rattle.std.specs.Prelude.{IsTrue, slice_index_or}
use Rattle.storage.specs.StorageOrder.{IsBefore}
use Rattle.cert_text.specs.declared.certificates.MemberLine.{MemberLine}
use Rattle.cert_checker.specs.ShownChannels.{IsWithin, capacities_at, member_at, no_member}
use Rattle.cert_checker.specs.inside.KnownSets.{IsChildOfFirst}
use Rattle.cert_checker.proofs.AnswersJudgeLines.{item-of, later-place}
use Rattle.cert_checker.proofs.members.is_in_place.Goals as goal

pub returns-then-is_before : goal.returns-then-is_before
returns-then-is_before g c =
    let net = g.F.Firing.net c.args.net.now in
    let cert = c.args.certificate.now in
    let n = c.args.number in
    let here : slice_index_or c.as_slice-members.result.now n c.index-members-number.result ≡ member_at cert.members n =
    sym c.index-members-number.is ∙ item-of c.as_slice-members.result.now cert.members n c.index-members-number.result no_member c.as_slice-members.ensures c.requires.number c.index-members-number.is in
    let before : slice_index_or c.as_slice-members.result.now (n - 1) c.index-members-number-else-number-eq0.result ≡ member_at cert.members (n - 1) =
    sym c.index-members-number-else-number-eq0.is
    ∙ item-of c.as_slice-members.result.now cert.members (n - 1) c.index-members-number-else-number-eq0.result no_member c.as_slice-members.ensures (omega (arith, c.requires.number)) c.index-members-number-else-number-eq0.is in
    let fit : IsWithin net cert.limit (capacities_at cert.members n) = subst (λ (x : MemberLine). IsWithin net cert.limit x.capacities.capacities) here (c.is_within.ensures.0 c.if-is_within.true) in
    let one = c.is_before.ensures.0 c.if-is_before.true in
    let two : IsBefore net.channels (capacities_at cert.members (n - 1)) (slice_index_or c.as_slice-members.result.now n c.index-members-number.result).capacities.capacities =
    subst (λ (x : MemberLine). IsBefore net.channels x.capacities.capacities (slice_index_or c.as_slice-members.result.now n c.index-members-number.result).capacities.capacities) before one in
    let after : IsBefore net.channels (capacities_at cert.members (n - 1)) (capacities_at cert.members n) = subst (λ (x : MemberLine). IsBefore net.channels (capacities_at cert.members (n - 1)) x.capacities.capacities) here two in
    later-place net cert n c.if-number-eq0.false fit after c.is_child.result
    (subst (λ (x : MemberLine). IsTrue c.is_child.result ↔ IsChildOfFirst net cert (length cert.members) x.capacities.capacities) here
    (c.is_child.ensures net cert c.requires.listing (n, c.requires.number, ap (λ (x : MemberLine). x.capacities.capacities) (sym here))))
