use Rattle.std.proofs.Common.{arith}
use Rattle.critical.proofs.PlacesTellFirings.{class-below}
use Rattle.critical.proofs.marks.class_of.Goals as goal

pub overflow_add-result : goal.overflow_add-result
overflow_add-result c =
    omega (
      arith,
      c.second_of.ensures,
      c.requires.offsets.each c.args.firing.actor (omega (arith, c.requires.second.actor)),
      class-below c.args.table.now c.args.firing c.requires.second,
      c.requires.short.all,
    )

pub returns-clause-place : goal.returns-clause-place
returns-clause-place c =
    omega (
      arith,
      c.second_of.ensures,
      c.requires.offsets.each c.args.firing.actor (omega (arith, c.requires.second.actor)),
      class-below c.args.table.now c.args.firing c.requires.second,
    )
