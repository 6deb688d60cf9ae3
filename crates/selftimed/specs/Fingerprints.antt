-- The fingerprints of tokens and of running firings: equal ones have equal fingerprints.
use Rattle.std.specs.Prelude.{ℕ, ◌+◌, ◌*◌, ◌%◌, ◌^◌, List, [], ◌∷◌, map, sum}

-- what the tokens of a channel count in a fingerprint
unfoldable pub spread : ℕ → ℕ
spread channel = (channel + 1) % 2 ^ 64 * 11400714819323198485 % 2 ^ 64

-- so that channels beside each other weigh very differently
unfoldable pub weight : ℕ → ℕ
weight channel = spread channel * spread channel % 2 ^ 64 * ((spread channel * spread channel % 2 ^ 64 + spread channel) % 2 ^ 64) % 2 ^ 64

-- the weighted sum of tokens on the channels from a number on
unfoldable pub weighed_from : ℕ → List ℕ → ℕ
weighed_from channel [] = 0
weighed_from channel (t ∷ ts) = weight channel * t + weighed_from (channel + 1) ts

-- the weighted sum of the tokens, in 64 bits
abbrev pub fingerprint_of : List ℕ → ℕ
fingerprint_of tokens = weighed_from 0 tokens % 2 ^ 64

-- the weighted sum of the actors' remaining times, in 64 bits
abbrev pub running_fingerprint_of : List (List ℕ) → ℕ
running_fingerprint_of remaining = fingerprint_of (map sum remaining)
