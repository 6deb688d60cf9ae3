use Rattle.std.proofs.Common.{[], length, map, arith, rules}
use Rattle.graph_reader.specs.declared.actors.Port.{Port}
use Rattle.graph_reader.specs.Sections.{times_at}
use Rattle.graph_reader.proofs.PhaseLists.{phases-first, phases-more, port-short}
use Rattle.graph_reader.proofs.table.phases_in.Goals as goal

pub loop-port-init : goal.loop-port-init
loop-port-init c =
    let few = c.requires 0 [] (omega arith) in
    record {
      same = phases-first c.max-phases.result (length (times_at c.args.times.now c.args.actor.now.name)) (map (λ (p : Port). p.rates) c.args.actor.now.ports) (search rules);
      some = omega (arith, c.max-phases.ensures);
      few = search rules;
    }

pub loop-port-preserved : goal.loop-port-preserved
loop-port-preserved c =
    let below = rw c.as_slice-port-items.ensures at c.loop-port-test.true in
    let here = rw c.as_slice-port-items.ensures at c.port-item.is in
    record {
      same = phases-more c.args.actor.now.ports c.loop-port.port-index c.loop-port.phases c.max-phases-in-loop-port.result _ c.port-item.result below here (search rules) c.loop-port.invariant.same;
      some = omega (arith, c.max-phases-in-loop-port.ensures, c.loop-port.invariant.some);
      few =
          let short = port-short (times_at c.args.times.now c.args.actor.now.name) c.args.actor.now.ports c.loop-port.port-index c.port-item.result c.requires below here in
          omega (arith, c.max-phases-in-loop-port.ensures, c.loop-port.invariant.few, c.len.ensures, short);
    }
