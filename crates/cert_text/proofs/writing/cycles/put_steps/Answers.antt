use Rattle.std.proofs.Common.{◌≡◌, ◌+◌, ◌++◌, take}
use Rattle.std.specs.List.{flat_map}
use Rattle.std.specs.String.{string_bytes}
use Rattle.std.proofs.lemmas.Result.{err_from_is_err_and}
use Rattle.std.proofs.lemmas.List.Elements.{All-more}
use Rattle.sd_base.proofs.ElementsKeepPlaces.{flat_next, flat_end}
use Rattle.cert_text.proofs.GivenUp.{up-at}
use Rattle.cert_text.specs.CycleLines.{step_line}
use Rattle.cert_text.proofs.PiecesMakeTexts.{all-end}
use Rattle.cert_text.proofs.writing.cycles.put_steps.Goals as goal
use Rattle.cert_text.specs.Limits.{IsStepWithin}

pub returns-clause-text : goal.returns-clause-text
returns-clause-text c = flat_end step_line _ _ c.args.steps.now c.loop-step.step-index c.loop-step-test.false c.loop-step.invariant.text

pub returns-clause-within : goal.returns-clause-within
returns-clause-within c = all-end IsStepWithin c.args.steps.now c.loop-step.step-index c.loop-step-test.false c.loop-step.invariant.within

pub loop-step-preserved : goal.loop-step-preserved
loop-step-preserved c = record {
  text = flat_next step_line _ _ _ c.args.steps.now c.loop-step.step-index _ c.loop-step-test.true c.loop-step.invariant.text c.in_ok-put_step.ensures.text;
  within = All-more IsStepWithin c.args.steps.now c.loop-step.step-index _ c.loop-step-test.true c.loop-step.invariant.within c.put_step.ensures.within;
}

pub returns-in_err-keep_within-clause-long : goal.returns-in_err-keep_within-clause-long
returns-in_err-keep_within-clause-long c =
    let p = err_from_is_err_and c.from_residual-in_err-keep_within.result c.from_residual-in_err-keep_within.ensures.1 in
    let put : string_bytes c.put_step.new.text ≡ string_bytes c.args.text.now ++ flat_map step_line (take (c.loop-step.step-index + 1) c.args.steps.now) = flat_next step_line _ _ _ c.args.steps.now c.loop-step.step-index _ c.loop-step-test.true c.loop-step.invariant.text c.in_ok-put_step.ensures.text in
    rw (p.1, p.2) (up-at step_line (string_bytes c.args.text.now) (string_bytes c.put_step.new.text) c.args.steps.now (c.loop-step.step-index + 1) c.in_err-keep_within.field-0.0 put c.in_err-keep_within.ensures.long)
