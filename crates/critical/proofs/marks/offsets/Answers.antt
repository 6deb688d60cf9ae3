use Rattle.std.proofs.Common.{◌<◌, List, ℕ, length, subst, arith}
use Rattle.critical.proofs.PlacesTellFirings.{row-many, sum-next}
use Rattle.critical.proofs.marks.offsets.Goals as goal

pub overflow_add-sum : goal.overflow_add-sum
overflow_add-sum c =
    let rows = c.loop-row.invariant.rows in
    let below = subst (λ (xs : List (List ℕ)). c.loop-row.row-index < length xs) rows c.loop-row-test.true in
    omega (
      arith,
      (sum-next c.args.table.now c.loop-row.row-index c.loop-row.sum c.len-sum.result c.requires below c.loop-row.invariant.sum
          (row-many c.args.table.now.starts c.row-item.result c.loop-row.row-index c.len-sum.result below (rw rows at c.row-item.is) c.len-sum.ensures)).1,
    )
