-- How contracts see what is made of the values.
use Rattle.std.specs.Prelude.{ℕ, List, Option, Some, None}
use Rattle.std.specs.List.{position, slice_index_or}
use Rattle.std.specs.Str.{bytes_eq}
use Rattle.sd_words.specs.declared.names.OptionName.{OptionName}
use Rattle.sd_words.specs.declared.form.Value.{Value}
use Rattle.sd_words.specs.declared.readings.Readings.{Readings}
use Rattle.sd_words.specs.OptionWords.{option_word, options}
use Rattle.sd_words.specs.Asked.{Readings as ReadBy}

-- the place of an option among the options
unfoldable pub place_of : OptionName → Option ℕ
place_of o = position (λ p. bytes_eq (option_word p) (option_word o)) options

-- what stands at the place of an option
unfoldable pub seen_in : List (Option Value) → ReadBy
seen_in values o = elim (place_of o) [ None ↦ None | Some place ↦ slice_index_or values place None ]

abbrev pub seen : Readings → ReadBy
seen r = seen_in r.values.items
