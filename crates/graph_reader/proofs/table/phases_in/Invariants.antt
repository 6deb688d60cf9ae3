use Rattle.std.proofs.Common.{◌≡◌, ◌≤◌, drop, map, max}
use Rattle.graph_reader.specs.declared.actors.Port.{Port}
use Rattle.graph_reader.specs.Sections.{longest, phases_in}
use Rattle.graph_reader.proofs.table.phases_in.Given as goal

abbrev pub invariant-loop-port : goal.invariant-loop-port
invariant-loop-port l = record {
  same : max l.phases (longest (map (λ (p : Port). p.rates) (drop l.port-index l.actor.ports))) ≡ phases_in l.times l.actor;
  some : 1 ≤ l.phases;
  few : l.phases ≤ 4096;
}
