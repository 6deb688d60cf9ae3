-- What stands at the places of the options.
use Rattle.std.proofs.Common.{◌≡◌, ◌≢◌, List, Option, true, false, nat_eq, map, refl, ap, ◌∙◌}
use Rattle.std.specs.Prelude.{unwrap_or}
use Rattle.sd_words.specs.declared.names.OptionName.{OptionName}
use Rattle.sd_words.specs.declared.names.OptionName.TheVariants as opt
use Rattle.sd_words.specs.declared.form.Value.{Value}
use Rattle.sd_words.specs.OptionWords.{option_word, options}
use Rattle.sd_words.specs.Asked.{Readings}
use Rattle.sd_words.specs.Readings.{place_of, seen_in}

-- a list that has the readings of the options in turn
pub all-seen : (r : Readings) → seen_in (map r options) ≡ r
unfolding seen_in place_of option_word
all-seen r = λ i o. each o i
  where
    each : (o : OptionName) → seen_in (map r options) o ≡ r o
    each opt.Algo = refl
    each opt.Graph = refl
    each opt.Certificate = refl
    each opt.Buffers = refl
    each opt.States = refl
    each opt.Distributions = refl
    each opt.Limit = refl
    each opt.Seed = refl
    each opt.Actors = refl
    each opt.Output = refl
    each opt.Order = refl
    each opt.Rounds = refl
    each opt.NoOverlap = refl

pub seen-list : (values : List (Option Value)) (r : Readings) → values ≡ map r options → seen_in values ≡ r
seen-list values r is = ap seen_in is ∙ all-seen r

-- the two options whose values a request takes one after the other
pub buffers-apart : place_of opt.Buffers ≢ place_of opt.Order
unfolding place_of option_word
buffers-apart = λ e.
    let differ : true ≡ false = ap (λ place. nat_eq (unwrap_or place 0) (unwrap_or (place_of opt.Buffers) 0)) e in
    cc
