-- The value of `--buffers`: capacities of channels by their names.
use Rattle.std.specs.Prelude.{ℕ, ◌==◌, nat_lt, List, [], ◌∷◌, ◌++◌, length, Option, Some, None, option_and_then, if◌then◌else◌}
use Rattle.std.specs.List.{list_any, position_or_len, before_first, after_first, slice_split}
use Rattle.std.specs.Option.{option_map}
use Rattle.std.specs.Str.{bytes_eq}
use Rattle.sd_base.specs.declared.limits.TheConstants.{CAPACITY}
use Rattle.escapes.specs.SpelledNames.{unescaped}
use Rattle.sd_words.specs.Values.{number_within}

-- the name of a channel, and its capacity
abbrev pub Buffer : Type 0
Buffer = List ℕ × ℕ

-- a name and a number
abbrev pub named_number : List ℕ → List ℕ → Option Buffer
named_number name number = option_and_then (λ n. option_map (λ k. (n, k)) (number_within 0 CAPACITY number)) (unescaped name)

-- one part of the value: the name stands before the first `=`, the capacity after it
unfoldable pub buffer_of : List ℕ → Option Buffer
buffer_of part =
    if nat_lt (position_or_len (λ b. b == 61) part) (length part)
    then named_number (before_first (λ b. b == 61) part) (after_first (λ b. b == 61) part)
    else None

-- one buffer more, whose channel is that of none before it
unfoldable pub with_buffer : List Buffer → Buffer → Option (List Buffer)
with_buffer buffers b = if list_any (λ a. bytes_eq b.0 a.0) buffers then None else Some (buffers ++ b ∷ [])

-- the buffers of more parts
unfoldable pub with_parts : List Buffer → List (List ℕ) → Option (List Buffer)
with_parts buffers [] = Some buffers
with_parts buffers (p ∷ ps) = option_and_then (λ b. option_and_then (λ more. with_parts more ps) (with_buffer buffers b)) (buffer_of p)

-- the buffers of a value, whose parts stand between commas
unfoldable pub buffers_of : List ℕ → Option (List Buffer)
buffers_of value = with_parts [] (slice_split (λ b. b == 44) value)
