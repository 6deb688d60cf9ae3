use Rattle.std.proofs.Common.{◌≡◌, ◌+◌, ◌-◌, length, arith, refl}
use Rattle.std.proofs.lemmas.List.{drop-set, drop_all}
use Rattle.report.proofs.NumbersAreSpaced.{spaced-from}
use Rattle.report.proofs.numbers.write_spaced.Goals as goal

pub loop-i-init : goal.loop-i-init
loop-i-init c = record {
  before = omega arith;
  within = omega arith;
  written = rw (drop_all 4000 c.args.room.now (omega arith), drop_all (length c.args.numbers.now) c.args.numbers.now (omega arith)) refl;
}

pub loop-i-preserved : goal.loop-i-preserved
loop-i-preserved c =
    let w = c.write_number-at in
    let back : w.result - 1 + 1 ≡ w.result = omega arith in
    let next : c.loop-i.i - 1 + 1 ≡ c.loop-i.i = omega arith in
    record {
      before = omega arith;
      within = omega arith;
      written = rw (drop-set w.new.room (w.result - 1) 32 (omega arith), back, w.ensures.written, c.loop-i.invariant.written, spaced-from c.args.numbers.now (c.loop-i.i - 1) (omega arith), next) refl;
    }
