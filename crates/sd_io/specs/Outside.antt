-- What a shelf's files, a count of faults and a sink's bytes say of a call.
use Rattle.std.specs.Prelude.{◌≡◌, ◌≢◌, ℕ, ◌+◌, ◌-◌, ◌^◌, min, List, ◌++◌, take, Option, None, Some, is_some}
use Rattle.std.specs.Option.{option_map}

-- what a shelf tells of its files: nothing, or the bytes of the file of each name, where there is one
abbrev pub Files : Type 0
Files = Option (List ℕ → Option (List ℕ))

-- the file of a name, where the shelf tells its files and there is one
abbrev pub file_under : Files → List ℕ → Option (List ℕ)
file_under None name = None
file_under (Some files) name = files name

-- after a call a shelf tells its files if it did before, and all but that of a name are the same
abbrev pub OthersStay : List ℕ → Files → Files → Type 0
OthersStay name before after = (is_some after ≡ is_some before) × ((other : List ℕ) → other ≢ name → file_under after other ≡ file_under before other)

-- a count after one more; at its end, the greatest number of 64 bits, it stays
abbrev pub next_count : ℕ → ℕ
next_count count = min (count + 1) (2 ^ 64 - 1)

-- one fault was counted between two moments
abbrev pub Rose : ℕ → ℕ → Type 0
Rose old new = new ≡ next_count old

-- what a sink that tells its bytes tells after it got more of them
abbrev pub with_sent : List ℕ → Option (List ℕ) → Option (List ℕ)
with_sent piece sent = option_map (λ bytes. bytes ++ piece) sent

-- a sink got a first part of a text
abbrev pub SentPart : List ℕ → Option (List ℕ) → Option (List ℕ) → Type 0
SentPart text old new = (n : ℕ) × (new ≡ with_sent (take n text) old)
