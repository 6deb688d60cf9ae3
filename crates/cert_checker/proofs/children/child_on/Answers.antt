use Rattle.std.proofs.Common.{◌≤◌, List, Option, ℕ, length, subst, sym, arith}
use Rattle.storage.specs.Distributions.{enlarged}
use Rattle.storage.proofs.EnlargingAddsRoom.{distribution-length, enlarged-distribution, hold-small}
use Rattle.storage.proofs.DistributionsShareLaws.{can-hold}
use Rattle.cert_checker.proofs.children.child_on.Goals as goal

pub enlarge-requires : goal.enlarge-requires
enlarge-requires g c = λ k at.
    let cs = (g.F.Firing.net c.args.net.now).channels in
    let ds = c.args.member.now.capacities.capacities in
    let small = hold-small cs ds c.args.channel k (can-hold cs ds c.know_laws.ensures.some_size c.requires.within.distribution (omega (arith, c.requires.within.storage, c.requires.limit))) at in
    omega (arith, small, c.step.ensures.small)

pub total_within-requires : goal.total_within-requires
total_within-requires g c =
    let net = g.F.Firing.net c.args.net.now in
    subst (λ (ds : List (Option ℕ)). length ds ≤ length net.channels) (sym c.in_ok-child.ensures)
    (distribution-length net.channels (enlarged c.args.member.now.capacities.capacities c.args.channel c.step.result) (enlarged-distribution net.channels c.args.member.now.capacities.capacities c.args.channel c.step.result c.requires.within.distribution))
