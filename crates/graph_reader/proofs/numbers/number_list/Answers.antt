use Rattle.std.proofs.Common.{subst}
use Rattle.graph_reader.specs.TreeSteps.{Gives}
use Rattle.graph_reader.specs.NumberTexts.{number_list, items_in}
use Rattle.graph_reader.proofs.ItemLists.{list-read}
use Rattle.graph_reader.proofs.numbers.number_list.Goals as goal

pub returns-in-Some : goal.returns-in-Some
unfolding number_list
returns-in-Some c =
    subst (λ read. Gives (λ ns. ns) c.tested_items.result read)
    (list-read c.args.least c.args.meaning.now.what c.args.meaning.now.of.now c.args.meaning.now.quantity c.args.meaning.now.limit (items_in c.args.text.now) c.in-Some.items.items c.requires.limit c.requires.least (rw c.in-Some.is at c.in_ok-items.ensures))
    (rw c.as_slice.ensures.value at c.tested_items.ensures)
