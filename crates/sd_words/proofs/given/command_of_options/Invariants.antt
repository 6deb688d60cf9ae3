use Rattle.std.proofs.Common.{◌≡◌, drop}
use Rattle.std.specs.List.{fold}
use Rattle.clap.specs.Words.{app_of, with_rule}
use Rattle.sd_words.specs.OptionWords.{options}
use Rattle.sd_words.specs.Given.{argument_of, empty_command}
use Rattle.sd_words.proofs.given.command_of_options.Given as goal

abbrev pub invariant-loop-option : goal.invariant-loop-option
invariant-loop-option l = record {
  these : l.option-items ≡ options;
  same : fold (λ app o. with_rule app (argument_of o)) (app_of l.command) (drop l.option-index options) ≡ fold (λ app o. with_rule app (argument_of o)) empty_command options;
}
