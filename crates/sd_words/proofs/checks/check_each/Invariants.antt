use Rattle.std.proofs.Common.{◌≡◌, ◌++◌, drop, map}
use Rattle.sd_words.specs.OptionWords.{options}
use Rattle.sd_words.specs.Asked.{all_checked, readings}
use Rattle.sd_words.specs.Given.{values_given}
use Rattle.sd_words.proofs.checks.check_each.Given as goal

abbrev pub invariant-loop-option : goal.invariant-loop-option
invariant-loop-option l = record {
  these : l.option-items ≡ options;
  same : all_checked l.algo (values_given l.given) (drop l.option-index options) ≡ all_checked l.algo (values_given l.given) options;
  read : l.values.items ++ map (readings l.algo (values_given l.given)) (drop l.option-index options) ≡ map (readings l.algo (values_given l.given)) options;
}
