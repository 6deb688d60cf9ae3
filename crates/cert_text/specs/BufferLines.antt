-- The line of the bounded channels.
use Rattle.std.specs.Prelude.{ℕ, List, [], ◌∷◌, ◌++◌, codes}
use Rattle.std.specs.List.{flat_map}
use Rattle.std.specs.Fmt.{decimal}

-- a channel and its capacity, after a space
unfoldable pub buffer_text : ℕ × ℕ → List ℕ
buffer_text buffer = codes " " ++ (decimal buffer.0 ++ (codes "=" ++ decimal buffer.1))

-- all of them, or a hyphen where there is none
unfoldable pub buffers_line : List (ℕ × ℕ) → List ℕ
buffers_line [] = codes "buffers -" ++ 10 ∷ []
buffers_line (b ∷ bs) = codes "buffers" ++ (flat_map buffer_text (b ∷ bs) ++ 10 ∷ [])
