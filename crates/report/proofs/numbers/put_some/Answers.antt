use Rattle.std.proofs.Common.{◌-◌, drop, arith, take_all, length-drop}
use Rattle.std.proofs.lemmas.Str.{IsUtf8-from_ascii}
use Rattle.report.proofs.NumbersAreSpaced.{IsAscii-spaced}
use Rattle.report.proofs.numbers.put_some.Goals as goal

pub unreachable-requires : goal.unreachable-requires
unreachable-requires c =
    let w = c.write_spaced-from in
    c.in_default.ensures.cases.0
    (rw (take_all (4000 - w.result) (drop w.result w.new.room) (omega (arith, length-drop w.result w.new.room, w.array_long)), w.ensures.written)
    (IsUtf8-from_ascii _ (IsAscii-spaced c.args.numbers.now c.type_inv.numbers)))
