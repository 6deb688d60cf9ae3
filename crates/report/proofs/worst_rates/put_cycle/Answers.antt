use Rattle.report.proofs.WorstPieces.{cycle-end}
use Rattle.report.proofs.worst_rates.put_cycle.Goals as goal

pub returns : goal.returns
returns c =
    cycle-end c.args.nodes.now.states.now c.args.nodes.now.shared.now c.args.graph.now c.args.cycle.now c.as_slice-edges.result.now c.time_of-time.result c.loop-k.k-index _ _ _ c.as_slice-edges.ensures c.time_of-time.ensures c.loop-k-test.false c.in_ok-put_header.ensures
    c.loop-k.invariant
