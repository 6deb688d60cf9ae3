use Rattle.graph_reader.proofs.TablesKeepRules.{short_ports, join}
use Rattle.graph_reader.proofs.table.graph_in.Goals as goal

pub with_properties-requires-clause-short : goal.with_properties-requires-clause-short
with_properties-requires-clause-short c = short_ports _ _ _ c.in_ok-actors.actors c.in_ok-actors.ensures.gives

pub with_properties-requires-clause-join : goal.with_properties-requires-clause-join
with_properties-requires-clause-join c = join _ c.in_ok-actors.actors _ c.in_ok-channels.channels c.in_ok-channels.ensures
