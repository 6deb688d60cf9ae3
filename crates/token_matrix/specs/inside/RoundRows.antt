-- The rows of the firings of a round, which stand for their starts whatever the stamps before it are.
use Rattle.std.specs.Prelude.{◌≡◌, ℕ, ◌+◌, ◌*◌, ◌≤◌, ◌<◌, ◌⊎◌, List, [], length, take, slice_index_or, Option, Some, None}
use Rattle.sd_base.specs.declared.limits.TheConstants.{TIME}
use Rattle.sd_base.specs.Net.{Net, channel_at, total}
use Rattle.sd_base.specs.Schedules.{time_of, HasInputs}
use Rattle.sd_base.specs.Untimed.{none_fired, counts_after, IsRoundOrder}
use Rattle.sd_base.proofs.FiringOrdersEnd.{sum_to}
use Rattle.token_matrix.specs.Stamps.{IsTakenBy, IsPutBy}
use Rattle.token_matrix.specs.inside.LaterRows.{AreWide}
use Rattle.token_matrix.specs.inside.Lines.{line_at, HasOnePhase}

-- by actor and firing a row
abbrev pub Table : Type 0
Table = List (List (List (Option ℕ)))

abbrev pub row_at : Table → ℕ → ℕ → List (Option ℕ)
row_at rows a j = slice_index_or (slice_index_or rows a []) j []

-- the row of token m of channel i has entry e in column p: a shared token waits for itself alone, and one that a firing
-- puts comes the firing's time after it
abbrev pub HasEntry : Net → (ℕ → ℕ) → Table → ℕ → ℕ → ℕ → ℕ → Type 0
HasEntry net first rows i m p e =
    ((m < (channel_at net i).tokens) × (p ≡ first i + m) × (e ≡ 0))
    ⊎ ((k : ℕ) × (d : ℕ) × IsPutBy (channel_at net i) m k × (k < length (slice_index_or rows (channel_at net i).source []))
    × (slice_index_or (row_at rows (channel_at net i).source k) p None ≡ Some d) × (e ≡ d + time_of net (channel_at net i).source k))

-- the rows of the first v firings of each actor: each is the latest of those of the tokens that the firing takes
pub record UpTo (net : Net) (first : ℕ → ℕ) (count : ℕ) (rows : Table) (v : ℕ → ℕ) : Type 0 where
  pub actors : length rows ≡ length net.times
  pub whole : (a : ℕ) → a < length net.times → length (slice_index_or rows a []) ≡ v a
  pub fed : (i j : ℕ) → i < length net.channels → j < v (channel_at net i).target → total (channel_at net i).taken (j + 1) ≤ (channel_at net i).tokens + total (channel_at net i).made (v (channel_at net i).source)
  pub wide : (a j : ℕ) → a < length net.times → j < v a → length (row_at rows a j) ≡ count
  pub some : (a j : ℕ) → a < length net.times → j < v a → (p : ℕ) × (e : ℕ) × (slice_index_or (row_at rows a j) p None ≡ Some e)
  pub after : (i m j p e : ℕ) → i < length net.channels → j < v (channel_at net i).target → IsTakenBy (channel_at net i) m j → HasEntry net first rows i m p e
      → (d : ℕ) × (slice_index_or (row_at rows (channel_at net i).target j) p None ≡ Some d) × (e ≤ d)
  pub just : (a j p e : ℕ) → a < length net.times → j < v a → slice_index_or (row_at rows a j) p None ≡ Some e
      → (i : ℕ) × (m : ℕ) × (i < length net.channels) × ((channel_at net i).target ≡ a) × IsTakenBy (channel_at net i) m j × HasEntry net first rows i m p e

-- after v firings the rows' entries are below the time that those firings can take
abbrev pub Small : Net → Table → (ℕ → ℕ) → Type 0
Small net rows v = (b k p e : ℕ) → b < length net.times → k < v b → slice_index_or (row_at rows b k) p None ≡ Some e → e + TIME ≤ TIME * sum_to v (length net.times)

-- the row is the latest of those of the tokens of which P holds
pub record IsRowOf (net : Net) (first : ℕ → ℕ) (rows : Table) (P : ℕ → ℕ → Type 0) (row : List (Option ℕ)) : Type 0 where
  pub after : (i m p e : ℕ) → P i m → HasEntry net first rows i m p e → (d : ℕ) × (slice_index_or row p None ≡ Some d) × (e ≤ d)
  pub just : (p e : ℕ) → slice_index_or row p None ≡ Some e → (i : ℕ) × (m : ℕ) × P i m × HasEntry net first rows i m p e

-- the row of token m of channel i
abbrev pub IsTokenRow : Net → (ℕ → ℕ) → Table → ℕ → ℕ → List (Option ℕ) → Type 0
IsTokenRow net first rows i m row = IsRowOf net first rows (λ j n. (j ≡ i) × (n ≡ m)) row

-- the rows of the tokens of channel i from number m on
pub record AreTokens (net : Net) (first : ℕ → ℕ) (count : ℕ) (rows : Table) (i m : ℕ) (line : List (List (Option ℕ))) : Type 0 where
  pub wide : AreWide count line
  pub each : (k : ℕ) → k < length line → IsTokenRow net first rows i (m + k) (slice_index_or line k [])

-- the lines after v firings, with the rows of all firings so far
pub record Stands (net : Net) (first : ℕ → ℕ) (count : ℕ) (v : ℕ → ℕ) (lines : List (List (List (Option ℕ)))) : Type 0 where
  pub table : Table
  pub up : UpTo net first count table v
  pub small : Small net table v
  pub long : length lines ≡ length net.channels
  pub many : (i : ℕ) → i < length net.channels →
      length (line_at lines i) + total (channel_at net i).taken (v (channel_at net i).target) ≡ (channel_at net i).tokens + total (channel_at net i).made (v (channel_at net i).source)
  pub tokens : (i : ℕ) → i < length net.channels → AreTokens net first count table i (total (channel_at net i).taken (v (channel_at net i).target)) (line_at lines i)

-- the same after the firings of an order
abbrev pub StandsAfter : Net → (ℕ → ℕ) → ℕ → List ℕ → List (List (List (Option ℕ))) → Type 0
StandsAfter net first count order lines = Stands net first count (counts_after none_fired order) lines

-- an order of a round can be carried out on these lines
pub record IsStart (net : Net) (first : ℕ → ℕ) (count : ℕ) (order : List ℕ) (lines : List (List (List (Option ℕ)))) : Type 0 where
  pub round : IsRoundOrder net order
  pub phases : HasOnePhase net
  pub fed : HasInputs net
  pub stands : StandsAfter net first count [] lines

-- the firing at a place of the order is next
pub record IsDue (net : Net) (first : ℕ → ℕ) (count : ℕ) (order : List ℕ) (place : ℕ) (lines : List (List (List (Option ℕ)))) : Type 0 where
  pub round : IsRoundOrder net order
  pub within : place < length order
  pub phases : HasOnePhase net
  pub fed : HasInputs net
  pub stands : StandsAfter net first count (take place order) lines
