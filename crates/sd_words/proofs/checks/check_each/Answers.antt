use Rattle.std.proofs.Common.{◌∙◌, ◌++◌, ◌∷◌, [], ◌+◌, drop, map, sym, refl, ap, subst}
use Rattle.std.proofs.lemmas.Result.{err_from_is_err_and}
use Rattle.sd_words.specs.declared.names.OptionName.TheVariants as option
use Rattle.sd_words.specs.OptionWords.{options}
use Rattle.sd_words.specs.Asked.{Fails, readings}
use Rattle.sd_words.proofs.TurnsGoOrEnd.{fails, all_checked-fails, all_checked-goes, all_checked-end, map-at, map-end}
use Rattle.sd_words.specs.Given.{values_given}
use Rattle.sd_words.proofs.checks.check_each.Goals as goal

pub returns-in_err-value-clause-tested : goal.returns-in_err-value-clause-tested
returns-in_err-value-clause-tested c =
    let p = err_from_is_err_and c.from_residual.result c.from_residual.ensures.1 in
    let part = fails c.in_err-value.field-0.0 _ _ (λ cause h. all_checked-fails c.args.algo (values_given c.args.given.now) options c.loop-option.option-index option.Algo cause c.loop-option-test.true h) c.in_err-value.ensures.tested in
    rw (p.1, p.2) (subst (λ r. Fails c.in_err-value.field-0.0 r) c.loop-option.invariant.same part)

pub loop-option-preserved : goal.loop-option-preserved
loop-option-preserved c =
    let f = readings c.args.algo (values_given c.args.given.now) in
    record {
      these = refl;
      same = all_checked-goes c.args.algo (values_given c.args.given.now) options c.loop-option.option-index option.Algo c.loop-option-test.true c.in_ok-value.ensures.tested
          ∙ c.loop-option.invariant.same;
      read = ap (λ l. l ++ map f (drop (c.loop-option.option-index + 1) options)) (c.in_ok-push.ensures.items ∙ ap (λ x. c.loop-option.values.items ++ x ∷ []) c.in_ok-value.ensures.read)
          ∙ map-at f c.loop-option.values.items options c.loop-option.option-index option.Algo c.loop-option-test.true
          ∙ c.loop-option.invariant.read;
    }

pub returns-clause-tested : goal.returns-clause-tested
returns-clause-tested c = sym c.loop-option.invariant.same ∙ all_checked-end c.args.algo (values_given c.args.given.now) options c.loop-option.option-index c.loop-option-test.false

pub returns-clause-read : goal.returns-clause-read
returns-clause-read c =
    sym (map-end (readings c.args.algo (values_given c.args.given.now)) c.loop-option.values.items options c.loop-option.option-index c.loop-option-test.false)
    ∙ c.loop-option.invariant.read
