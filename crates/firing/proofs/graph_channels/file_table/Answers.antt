use Rattle.std.proofs.Common.{◌∙◌}
use Rattle.firing.proofs.GraphTables.{file-more, file-all}
use Rattle.firing.proofs.graph_channels.file_table.Goals as goal

pub loop-i-preserved : goal.loop-i-preserved
loop-i-preserved g c =
    file-more g.C.NetChannel.plain c.args.graph.now c.loop-i.table.items c.push.new.self.items c.loop-i.i c.in_ok-of_file.field-0 c.row-item.result
    c.loop-i.invariant c.in_ok-push.ensures.items (rw c.as_slice-row-items.ensures at c.loop-i-test.true) (rw c.as_slice-row-items.ensures at c.row-item.is) c.in_ok-of_file.ensures

pub returns : goal.returns
returns g c = c.loop-i.invariant ∙ file-all c.args.graph.now c.loop-i.i (rw c.as_slice-row-items.ensures at c.loop-i-test.false)
