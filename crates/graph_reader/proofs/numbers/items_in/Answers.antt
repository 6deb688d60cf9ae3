use Rattle.std.proofs.Common.{◌∙◌, arith, rules}
use Rattle.std.proofs.lemmas.Str.Pattern.{split_once_first}
use Rattle.graph_reader.proofs.ItemLists.{items-more, items-bad, items-last, last-bad, items-are}
use Rattle.graph_reader.proofs.numbers.items_in.Goals as goal

pub returns-in_default-item_in : goal.returns-in_default-item_in
returns-in_default-item_in c =
    let found = rw c.in-Some.is at (split_once_first 44 c.loop-first.left.now c.split_once.result c.split_once.ensures.cases (omega arith)) in
    items-bad c.loop-first.items.items c.loop-first.left.now c.in-Some.first.now _ found.0 found.1 (rw c.in_default-item_in.is at c.item_in.ensures) c.loop-first.invariant.same ∙ items-are c.args.text.now

pub loop-first-preserved : goal.loop-first-preserved
loop-first-preserved c =
    let found = rw c.in-Some.is at (split_once_first 44 c.loop-first.left.now c.split_once.result c.split_once.ensures.cases (omega arith)) in
    record {
      text = search rules;
      same = items-more c.loop-first.items.items c.push.new.self.items c.in-Some-item_in.item c.loop-first.left.now c.in-Some.first.now c.in-Some.rest.now _ c.in_ok-push.ensures.items found.0 found.1 found.2
          (rw c.in-Some-item_in.is at c.item_in.ensures) c.loop-first.invariant.same;
    }

pub returns-in_default-item_in-2 : goal.returns-in_default-item_in-2
returns-in_default-item_in-2 c =
    let none = rw c.in_default.is at (split_once_first 44 c.loop-first.left.now c.split_once.result c.split_once.ensures.cases (omega arith)) in
    last-bad c.loop-first.items.items c.loop-first.left.now _ none (rw c.in_default-item_in-2.is at c.item_in-2.ensures) c.loop-first.invariant.same ∙ items-are c.args.text.now

pub returns : goal.returns
returns c =
    let none = rw c.in_default.is at (split_once_first 44 c.loop-first.left.now c.split_once.result c.split_once.ensures.cases (omega arith)) in
    items-last c.loop-first.items.items c.push-2.new.self.items c.in-Some-item_in-2.item c.loop-first.left.now _ c.in_ok-push-2.ensures.items none (rw c.in-Some-item_in-2.is at c.item_in-2.ensures) c.loop-first.invariant.same ∙ items-are c.args.text.now
