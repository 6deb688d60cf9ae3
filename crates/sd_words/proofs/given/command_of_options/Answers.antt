use Rattle.std.proofs.Common.{◌∙◌, ap, refl, sym, drop, ◌+◌}
use Rattle.std.specs.List.{fold}
use Rattle.std.proofs.lemmas.List.{drop_all}
use Rattle.clap.specs.Words.{App, app_of, with_rule}
use Rattle.sd_words.specs.declared.names.OptionName.TheVariants as opt
use Rattle.sd_words.specs.OptionWords.{options}
use Rattle.sd_words.specs.Given.{argument_of, command_of_options}
use Rattle.sd_words.proofs.TurnsGoOrEnd.{fold-at}
use Rattle.sd_words.proofs.given.command_of_options.Goals as goal

pub loop-option-preserved : goal.loop-option-preserved
loop-option-preserved c = record {
  these = refl;
  same =
      ap (λ app. fold (λ (a : App) o. with_rule a (argument_of o)) app (drop (c.loop-option.option-index + 1) options)) c.in_ok-command.ensures
      ∙ sym (fold-at (λ (a : App) o. with_rule a (argument_of o)) _ options c.loop-option.option-index opt.Algo c.loop-option-test.true)
      ∙ c.loop-option.invariant.same;
}

pub returns : goal.returns
unfolding command_of_options
returns c =
    ap (fold (λ (a : App) o. with_rule a (argument_of o)) (app_of c.loop-option.command)) (sym (drop_all c.loop-option.option-index options c.loop-option-test.false))
    ∙ c.loop-option.invariant.same
