use Rattle.std.proofs.Common.{get_or, refl, rules}
use Rattle.graph_reader.specs.declared.numbers.Item.{Item}
use Rattle.graph_reader.proofs.ItemLists.{numbers-more}
use Rattle.graph_reader.proofs.numbers.numbers_of.Goals as goal

none : Item
none = record { count = 0; value = 0 }

pub loop-item-preserved : goal.loop-item-preserved
unfolding none
loop-item-preserved c =
    numbers-more c.args.items.now c.loop-item.item-index (get_or c.args.items.now c.loop-item.item-index none) none c.loop-item.list c.push_run.new.list c.loop-item-test.true refl c.loop-item.invariant (search rules)
