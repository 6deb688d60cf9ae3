use Rattle.std.proofs.Common.{◌≡◌, ◌∙◌, sym, subst}
use Rattle.std.specs.Prelude.{slice_index_or}
use Rattle.liveness.specs.RoundAnswers.{AreReachedCounts}
use Rattle.storage.specs.BoundedNets.{bound}
use Rattle.storage.proofs.BoundingKeepsLaws.{bound-lawful}
use Rattle.evaluations.specs.Starts.{counts_at}
use Rattle.explore.specs.declared.exploration.Member.{Member}
use Rattle.explore.specs.inside.Hints.{IsHintAt}
use Rattle.explore.proofs.StartCountsReached.{get-same, member-reached}
use Rattle.explore.proofs.hints.led_to.Goals as goal

pub returns-in-Some : goal.returns-in-Some
returns-in-Some g c =
    let net = g.F.Firing.net c.args.net.now in
    let ds = c.args.found.now.capacities.capacities in
    let fits = c.requires.fits in
    let h : IsHintAt (g.F.Firing.net c.args.net.now) c.requires.hinted.0 c.args.members.now c.in-Some.place c.args.found.now.capacities.capacities = rw c.in-Some.is at c.requires.hinted.1 in
    let same : slice_index_or c.args.members.now c.in-Some.place c.index-members-place.result ≡ h.member = sym c.index-members-place.is ∙ get-same c.args.members.now c.in-Some.place h.member c.index-members-place.result h.at c.index-members-place.is in
    let reached = member-reached net c.know_laws.ensures c.args.starts.now c.requires.starts ds (bound-lawful net c.know_laws.ensures ds fits.none fits.can fits.few)
    (λ es counts most. c.counts_are_reached_with_more_room.ensures.reached net es ds counts most) (λ es most. c.counts_are_reached_with_more_room.ensures.live net es ds most) c.requires.hinted.0 h.member h.evaluated h.most in
    subst (AreReachedCounts (bound net ds)) (sym c.at.ensures) (subst (λ (m : Member). AreReachedCounts (bound net ds) (counts_at c.args.starts.now m.shown)) (sym same) reached)
