use Rattle.std.proofs.Common.{◌≡◌, ℕ, ◌<◌, List, Some, length, arith}
use Rattle.std.specs.Prelude.{slice_get, slice_index_or}
use Rattle.std.proofs.lemmas.Option.{slice_get-get_or}
use Rattle.balance.proofs.MarksFollowPaths.{marked_more}
use Rattle.balance.proofs.connection.mark_all.Goals as goal

pub loop-to-preserved : goal.loop-to-preserved
loop-to-preserved c =
    let next : List ℕ = c.args.next.now in
    let k : ℕ = c.loop-to.to-index in
    let u : ℕ = slice_index_or next k 0 in
    let at : slice_get next k ≡ Some u = slice_get-get_or next k 0 c.loop-to-test.true in
    let lt : u < length c.args.marked.now.marks.items = c.requires.actors k 0 c.loop-to-test.true in
    let size = c.loop-to.invariant.size in
    marked_more next k u c.args.marked.now.queue.items c.loop-to.marked.queue.items c.mark.new.marked.queue.items
    c.args.marked.now.marks.items c.loop-to.marked.marks.items c.mark.new.marked.marks.items at (omega arith) c.in_ok-mark.ensures c.loop-to.invariant
