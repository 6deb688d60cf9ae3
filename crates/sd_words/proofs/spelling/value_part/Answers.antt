use Rattle.std.proofs.Common.{◌≡◌, true, refl, rules}
use Rattle.sd_words.specs.Values.{is_value}
use Rattle.sd_words.specs.Reading.{with_value}
use Rattle.sd_words.proofs.spelling.value_part.Goals as goal

pub returns-then-is_value : goal.returns-then-is_value
unfolding with_value
returns-then-is_value c =
    let good : is_value c.args.value.now ≡ true = search rules in
    λ p. (c.args.value.now, rw good refl)
