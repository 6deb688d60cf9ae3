use Rattle.std.proofs.Common.{◌≡◌, ◌+◌, ◌++◌, take}
use Rattle.std.specs.List.{flat_map}
use Rattle.std.specs.String.{string_bytes}
use Rattle.std.proofs.lemmas.Result.{err_from_is_err_and}
use Rattle.sd_base.proofs.ElementsKeepPlaces.{flat_end}
use Rattle.cert_text.proofs.GivenUp.{up-at, up-in}
use Rattle.cert_text.specs.CycleLines.{cycle_lines}
use Rattle.cert_text.proofs.PiecesMakeTexts.{all-end, all-item, flat-item}
use Rattle.cert_text.proofs.writing.trade_offs.put_each_cycle.Goals as goal
use Rattle.cert_text.specs.Limits.{IsCycleWithin}

pub returns-clause-text : goal.returns-clause-text
returns-clause-text c = flat_end cycle_lines _ _ c.args.cycles.now c.loop-cycle.cycle-index c.loop-cycle-test.false c.loop-cycle.invariant.text

pub returns-clause-within : goal.returns-clause-within
returns-clause-within c = all-end IsCycleWithin c.args.cycles.now c.loop-cycle.cycle-index c.loop-cycle-test.false c.loop-cycle.invariant.within

pub loop-cycle-preserved : goal.loop-cycle-preserved
loop-cycle-preserved c = record {
  text = flat-item cycle_lines _ _ _ c.args.cycles.now c.loop-cycle.cycle-index c.cycle-item.result c.loop-cycle-test.true c.cycle-item.is c.loop-cycle.invariant.text c.in_ok-put_cycle.ensures.text;
  within = all-item IsCycleWithin c.args.cycles.now c.loop-cycle.cycle-index c.cycle-item.result c.loop-cycle-test.true c.cycle-item.is c.loop-cycle.invariant.within c.in_ok-put_cycle.ensures.within;
}

pub returns-in_err-keep_within-clause-long : goal.returns-in_err-keep_within-clause-long
returns-in_err-keep_within-clause-long c =
    let p = err_from_is_err_and c.from_residual-in_err-keep_within.result c.from_residual-in_err-keep_within.ensures.1 in
    let put : string_bytes c.put_cycle.new.text ≡ string_bytes c.args.text.now ++ flat_map cycle_lines (take (c.loop-cycle.cycle-index + 1) c.args.cycles.now) = flat-item cycle_lines _ _ _ c.args.cycles.now c.loop-cycle.cycle-index c.cycle-item.result c.loop-cycle-test.true c.cycle-item.is c.loop-cycle.invariant.text c.in_ok-put_cycle.ensures.text in
    rw (p.1, p.2) (up-at cycle_lines (string_bytes c.args.text.now) (string_bytes c.put_cycle.new.text) c.args.cycles.now (c.loop-cycle.cycle-index + 1) c.in_err-keep_within.field-0.0 put c.in_err-keep_within.ensures.long)

pub returns-in_err-put_cycle-clause-long : goal.returns-in_err-put_cycle-clause-long
returns-in_err-put_cycle-clause-long c =
    let p = err_from_is_err_and c.from_residual.result c.from_residual.ensures.1 in
    rw (p.1, p.2) (up-in cycle_lines (string_bytes c.args.text.now) (string_bytes c.loop-cycle.text) c.args.cycles.now c.loop-cycle.cycle-index c.cycle-item.result c.in_err-put_cycle.field-0.0 c.loop-cycle-test.true c.cycle-item.is c.loop-cycle.invariant.text c.in_err-put_cycle.ensures.long)
