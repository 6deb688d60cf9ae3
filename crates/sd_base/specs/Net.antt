-- Plain nets: lists of numbers, as which each dataflow net is seen; sums over firings, and the repetition vector.
use Rattle.std.specs.Prelude.{◌≡◌, ℕ, zero, suc, ◌+◌, ◌≤◌, ◌<◌, ◌%◌, List, [], ◌∷◌, length, slice_index, slice_index_or}
use Rattle.sd_base.specs.declared.role.Role.{Role}
use Rattle.sd_base.specs.declared.role.Role.TheVariants.{Token}
use Rattle.sd_base.specs.declared.tables.GraphFile.{GraphFile}
use Rattle.sd_base.specs.declared.tables.ChannelRow.{ChannelRow}
use Rattle.sd_base.specs.Tables.{phases_of}

-- a channel: what a firing of its source makes and one of its target takes, by phase; its initial tokens; the size
-- of a token; and what it stands for
pub record Channel : Type 0 where
  pub source : ℕ
  pub target : ℕ
  pub made : List ℕ
  pub taken : List ℕ
  pub tokens : ℕ
  pub size : ℕ
  pub role : Role

-- a net: by actor its times by phase; its channels; by actor the firings of a round
pub record Net : Type 0 where
  pub times : List (List ℕ)
  pub channels : List Channel
  pub round : List ℕ

-- what stands for a channel past the last one
abbrev pub nowhere : Channel
nowhere = record { source = 0; target = 0; made = []; taken = []; tokens = 0; size = 0; role = Token 0 }

abbrev pub channel_at : Net → ℕ → Channel
channel_at net i = slice_index_or net.channels i nowhere

-- the number of a list at the phase of firing k
abbrev pub phase_entry : List ℕ → ℕ → ℕ
phase_entry xs k = slice_index xs (k % length xs)

-- the sum over the first n firings
unfoldable pub total : List ℕ → ℕ → ℕ
total xs zero = 0
total xs (suc n) = total xs n + phase_entry xs n

-- v balances channels over actors with these phases: each actor fires, by whole cycles of its phases, and what
-- the source's firings make on a channel is what the target's take from it
pub record Balances (phases : List ℕ) (channels : List Channel) (v : List ℕ) : Type 0 where
  pub actors : length v ≡ length phases
  pub fires : (a : ℕ) → a < length phases → 1 ≤ slice_index v a
  pub cycles : (a : ℕ) → a < length phases → slice_index v a % slice_index phases a ≡ 0
  pub kept : (i : ℕ) → i < length channels →
      total (slice_index_or channels i nowhere).made (slice_index v (slice_index_or channels i nowhere).source)
      ≡ total (slice_index_or channels i nowhere).taken (slice_index v (slice_index_or channels i nowhere).target)

-- v is the repetition vector: it balances, and is no greater than any other vector that does, part by part
pub record IsRepetition (phases : List ℕ) (channels : List Channel) (v : List ℕ) : Type 0 where
  pub balances : Balances phases channels v
  pub least : (w : List ℕ) → Balances phases channels w → (a : ℕ) → a < length phases → slice_index v a ≤ slice_index w a

-- a channel of a graph file, the i-th one
abbrev pub file_channel : ℕ → ChannelRow → Channel
file_channel i c = record { source = c.source; target = c.target; made = c.made; taken = c.taken; tokens = c.tokens; size = c.size; role = Token i }

abbrev pub file_channels_from : ℕ → List ChannelRow → List Channel
file_channels_from i [] = []
file_channels_from i (c ∷ cs) = file_channel i c ∷ file_channels_from (i + 1) cs

-- the channels of a graph file, in file order
abbrev pub file_channels : GraphFile → List Channel
file_channels g = file_channels_from 0 g.channels

-- v is the repetition vector of a graph file
abbrev pub IsRepetitionOf : GraphFile → List ℕ → Type 0
IsRepetitionOf g v = IsRepetition (phases_of g) (file_channels g) v
