use Rattle.std.proofs.Common.{◌≡◌, ◌<◌, ℕ, List, length, ap, subst, arith}
use Rattle.std.specs.Prelude.{ℤ}
use Rattle.cert_checker.specs.ListedNodes.{FitsAt, IsClosedWalk, ListsNodes}
use Rattle.cert_checker.proofs.RateClaims.{lowest-stays}
use Rattle.cert_checker.proofs.ScenarioFaults.{first-unfit, no-fault}
use Rattle.cert_checker.proofs.WorstClaims.{worst-shown}
use Rattle.cert_checker.proofs.scenarios.check_scenario.Goals as goal

pub returns-in-Some : goal.returns-in-Some
returns-in-Some c =
    let rate = c.is_rate_line.ensures.0 c.if-not-is_rate_line.false in
    let walk : IsClosedWalk c.args.graph.now c.args.certificate.now.rate c.args.certificate.now.time c.args.certificate.now.nodes =
    subst (λ (ns : List (ℕ × ℕ)). IsClosedWalk c.args.graph.now c.args.certificate.now.rate c.args.certificate.now.time ns) c.as_slice-nodes.ensures (c.in_ok-is_closed_walk.ensures.0 c.if-not-branch.false) in
    let lists : ListsNodes c.args.graph.now c.args.certificate.now.potentials = subst (ListsNodes c.args.graph.now) c.as_slice-potentials.ensures (c.lists_nodes.ensures.0 c.if-not-lists_nodes.false) in
    let long : length c.as_slice-nodes.result.now ≡ length c.args.certificate.now.nodes = ap (λ (ns : List (ℕ × ℕ)). length ns) c.as_slice-nodes.ensures in
    first-unfit c.args.graph.now c.args.certificate.now rate walk lists c.in-Some.place _
    (subst (λ (ps : List (ℕ × ℕ × ℤ)). (c.in-Some.place < length ps) × (FitsAt c.args.graph.now c.args.certificate.now.rate ps c.in-Some.place → ⊥) × ((j : ℕ) → j < c.in-Some.place → FitsAt c.args.graph.now c.args.certificate.now.rate ps j))
    c.as_slice-potentials.ensures c.in-Some.ensures)
    (omega arith)

pub returns : goal.returns
returns c =
    let rate = c.is_rate_line.ensures.0 c.if-not-is_rate_line.false in
    let walk : IsClosedWalk c.args.graph.now c.args.certificate.now.rate c.args.certificate.now.time c.args.certificate.now.nodes =
    subst (λ (ns : List (ℕ × ℕ)). IsClosedWalk c.args.graph.now c.args.certificate.now.rate c.args.certificate.now.time ns) c.as_slice-nodes.ensures (c.in_ok-is_closed_walk.ensures.0 c.if-not-branch.false) in
    let lists : ListsNodes c.args.graph.now c.args.certificate.now.potentials = subst (ListsNodes c.args.graph.now) c.as_slice-potentials.ensures (c.lists_nodes.ensures.0 c.if-not-lists_nodes.false) in
    let fits : (i : ℕ) → i < length c.args.certificate.now.potentials → FitsAt c.args.graph.now c.args.certificate.now.rate c.args.certificate.now.potentials i =
    subst (λ (ps : List (ℕ × ℕ × ℤ)). (i : ℕ) → i < length ps → FitsAt c.args.graph.now c.args.certificate.now.rate ps i) c.as_slice-potentials.ensures c.in_default.ensures in
    let parts = lowest-stays c.args.certificate.now.rate.0 c.args.certificate.now.rate.1 c.new-rate.result.num c.new-rate.result.den rate.positive rate.lowest c.new-rate.ensures.common in (
      no-fault c.args.graph.now c.args.certificate.now rate walk lists fits,
      (
        parts.0,
        parts.1,
        worst-shown c.worst_is_shown.ensures c.args.graph.now c.args.certificate.now.rate c.args.certificate.now.time c.args.certificate.now.nodes c.args.certificate.now.potentials rate walk lists fits
            c.new-rate.result.num c.new-rate.result.den parts,
      ),
    )
