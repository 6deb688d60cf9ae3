use Rattle.report.proofs.WorstPieces.{shown-end}
use Rattle.report.proofs.worst_rates.put_shown.Goals as goal

pub returns : goal.returns
returns c =
    let nodes = c.args.nodes.now in
    let cycle = rw c.as_slice.ensures at c.in_ok-put_cycle.ensures in
    let count = rw c.as_slice-2.ensures at c.count_potentials.ensures in
    let potentials = rw c.as_slice-3.ensures at c.in_ok-put_potentials.ensures in
    shown-end nodes.states.now nodes.shared.now c.args.graph.now c.args.worst.now _ _ _ _ c.count_potentials.result cycle c.in_ok-put_count.ensures count potentials
