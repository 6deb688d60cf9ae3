use Rattle.std.proofs.Common.{◌≡◌, true, rules}
use Rattle.graph_reader.specs.Sections.{fits_phases, phases_in, times_at}
use Rattle.graph_reader.proofs.PhaseLists.{ports-fit}
use Rattle.graph_reader.proofs.table.is_even.Goals as goal

pub returns-then-fits_phases : goal.returns-then-fits_phases
returns-then-fits_phases c =
    let phases = phases_in c.args.times.now c.args.actor.now in
    let first : fits_phases phases (times_at c.args.times.now c.args.actor.now.name) ≡ true = search rules in
    let ports = ports-fit phases c.args.actor.now.ports c.do_ports_fit.result (search rules) in
    rw first ports
