use Rattle.std.proofs.Common.{◌≡◌, ◌++◌, take}
use Rattle.std.specs.String.{string_bytes}
use Rattle.std.specs.List.{flat_map}
use Rattle.report.specs.WorstTexts.{edge_on}
use Rattle.report.proofs.worst_rates.put_cycle.Given as goal

abbrev pub invariant-loop-k : goal.invariant-loop-k
invariant-loop-k l = string_bytes l.text ≡ string_bytes l.initial.text ++ flat_map (edge_on l.nodes.states.now l.nodes.shared.now l.graph) (take l.k-index l.cycle)
