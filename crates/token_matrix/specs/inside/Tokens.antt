-- The shared tokens on the channels of a graph, before a round and after it.
use Rattle.std.specs.Prelude.{◌≡◌, ℕ, ◌+◌, ◌<◌, List, [], length, slice_index_or, Option}
use Rattle.sd_base.specs.declared.tables.GraphFile.{GraphFile}
use Rattle.sd_base.specs.declared.tables.SharedRow.{SharedRow}
use Rattle.sd_base.specs.Scenarios.{shared_count}
use Rattle.token_matrix.specs.Stamps.{no_row, first_of}
use Rattle.token_matrix.specs.inside.LaterRows.{IsUnit}

-- so many tokens with the numbers from first on, of which each waits for itself alone
pub record IsFirstLine (size first tokens : ℕ) (rows : List (List (Option ℕ))) : Type 0 where
  pub long : length rows ≡ tokens
  pub each : (k : ℕ) → k < tokens → IsUnit size (first + k) (slice_index_or rows k [])

-- by channel its shared tokens before a round
pub record AreFirstLines (shared : List SharedRow) (g : GraphFile) (lines : List (List (List (Option ℕ)))) : Type 0 where
  pub long : length lines ≡ length g.channels
  pub each : (i : ℕ) → i < length g.channels →
      IsFirstLine (shared_count shared) (first_of shared g i) (slice_index_or g.channels i no_row).tokens (slice_index_or lines i [])

-- i is a channel of a name
abbrev pub IsNumberOf : GraphFile → List ℕ → ℕ → Type 0
IsNumberOf g name i = (i < length g.channels) × ((slice_index_or g.channels i no_row).name ≡ name)

-- by channel as many rows as it has shared tokens
abbrev pub AreHeld : GraphFile → List (List (List (Option ℕ))) → Type 0
AreHeld g lines = (i : ℕ) → i < length g.channels → length (slice_index_or lines i []) ≡ (slice_index_or g.channels i no_row).tokens

-- the rows of all channels in the order of the shared tokens in whose places their tokens are
pub record AreLeftRows (shared : List SharedRow) (g : GraphFile) (lines : List (List (List (Option ℕ)))) (rows : List (List (Option ℕ))) : Type 0 where
  pub long : length rows ≡ shared_count shared
  pub each : (i k : ℕ) → i < length g.channels → k < (slice_index_or g.channels i no_row).tokens →
      slice_index_or rows (first_of shared g i + k) [] ≡ slice_index_or (slice_index_or lines i []) k []
