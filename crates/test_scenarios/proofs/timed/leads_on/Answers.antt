use Rattle.std.proofs.Common.{◌≡◌, ℕ, ◌*◌, ◌≤◌, ◌<◌, ◌∙◌, ap, subst, ⊎_elim, arith, rules}
use Rattle.std.proofs.lemmas.Bool.{cases_lt}
use Rattle.automaton.specs.SoundGraphs.{node_count}
use Rattle.test_scenarios.specs.Leading.{LeadsFrom}
use Rattle.test_scenarios.proofs.WalksOutgrowNumbers.{grows}
use Rattle.test_scenarios.proofs.timed.leads_on.Goals as goal

pub loop-node-preserved : goal.loop-node-preserved
loop-node-preserved c = λ v below.
    let here : LeadsFrom c.args.graph.now.edges c.loop-node.node = subst (λ es. LeadsFrom es c.loop-node.node) c.as_slice.ensures (c.leads_from.ensures (search rules)) in
    ⊎_elim
    (λ (less : v < c.loop-node.node). c.loop-node.invariant v less)
    (λ (past : c.loop-node.node ≤ v). let same : c.loop-node.node ≡ v = omega arith in subst (LeadsFrom c.args.graph.now.edges) same here)
    (cases_lt v c.loop-node.node)

pub returns : goal.returns
returns c = λ holds.
    let many : c.from.result * c.from-2.result ≡ node_count c.args.graph.now = ap (λ (k : ℕ). k * c.from-2.result) c.from.ensures ∙ ap (λ (k : ℕ). c.args.graph.now.states * k) c.from-2.ensures in
    grows c.args.graph.now c.requires (λ v below. c.loop-node.invariant v (omega (arith, below, many, c.loop-node-test.false)))
