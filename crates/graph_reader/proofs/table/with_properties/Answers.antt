use Rattle.graph_reader.proofs.TablesKeepRules.{short_lists}
use Rattle.graph_reader.proofs.table.with_properties.Goals as goal

pub timed_table-requires-clause-short : goal.timed_table-requires-clause-short
timed_table-requires-clause-short c = short_lists c.args.kind c.args.of.now c.args.actors.now _ c.in_ok-times.times c.in_ok-times.ensures c.requires.short
