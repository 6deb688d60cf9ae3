-- Stamps of the tokens that are shared between rounds, before and after one round of a scenario.
use Rattle.std.specs.Prelude.{◌≡◌, ℕ, ◌+◌, ◌≤◌, ◌<◌, ◌⊎◌, false, List, [], ◌∷◌, length, slice_index, slice_index_or, if◌then◌else◌}
use Rattle.std.specs.Str.{bytes_eq}
use Rattle.sd_base.specs.declared.tables.GraphFile.{GraphFile}
use Rattle.sd_base.specs.declared.tables.ChannelRow.{ChannelRow}
use Rattle.sd_base.specs.Net.{Channel, Net, channel_at, total}
use Rattle.sd_base.specs.FileNet.{net_of}
use Rattle.sd_base.specs.Schedules.{Schedule, count_of, start_of, end_of}
use Rattle.sd_base.specs.declared.tables.SharedRow.{SharedRow}
use Rattle.sd_base.specs.Scenarios.{shared_count}

-- the number of the first shared token of the channel of a name; tokens are numbered through the rows
abbrev pub first_token : List SharedRow → List ℕ → ℕ
first_token [] name = 0
first_token (s ∷ ss) name = if bytes_eq s.name name then 0 else s.tokens + first_token ss name

-- what stands for a row past the last one
abbrev pub no_row : ChannelRow
no_row = record { name = []; source = 0; target = 0; made = []; taken = []; tokens = 0; size = 0 }

-- the number of the first shared token of channel i of a scenario's graph
abbrev pub first_of : List SharedRow → GraphFile → ℕ → ℕ
first_of shared g i = first_token shared (slice_index_or g.channels i no_row).name

-- firing j of the target takes token m of a channel
abbrev pub IsTakenBy : Channel → ℕ → ℕ → Type 0
IsTakenBy c m j = (total c.taken j ≤ m) × (m < total c.taken (j + 1))

-- firing k of the source puts token m, which comes after the initial ones
abbrev pub IsPutBy : Channel → ℕ → ℕ → Type 0
IsPutBy c m k = (c.tokens + total c.made k ≤ m) × (m < c.tokens + total c.made (k + 1))

-- the stamp of token m of channel i: that of the shared token that it is, or the end of the firing of the round that puts it
abbrev pub HasStamp : Net → (ℕ → ℕ) → List ℕ → Schedule → ℕ → ℕ → ℕ → Type 0
HasStamp net first x starts i m z =
    ((m < (channel_at net i).tokens) × (z ≡ slice_index x (first i + m)))
    ⊎ ((k : ℕ) × IsPutBy (channel_at net i) m k × (k < count_of starts (channel_at net i).source)
    × (z ≡ end_of net starts (channel_at net i).source k))

-- the starts of the firings of one round, where x has the stamps of the shared tokens before it: each firing starts as
-- soon as the last of its tokens is there
pub record AreRoundStarts (net : Net) (first : ℕ → ℕ) (x : List ℕ) (starts : Schedule) : Type 0 where
  pub actors : length starts ≡ length net.times
  pub whole : (a : ℕ) → a < length net.times → count_of starts a ≡ slice_index net.round a
  pub after : (i m j z : ℕ) → i < length net.channels → j < count_of starts (channel_at net i).target →
      IsTakenBy (channel_at net i) m j → HasStamp net first x starts i m z → z ≤ start_of starts (channel_at net i).target j
  pub just : (a j : ℕ) → a < length net.times → j < count_of starts a →
      (i : ℕ) × (m : ℕ) × (i < length net.channels) × ((channel_at net i).target ≡ a)
      × IsTakenBy (channel_at net i) m j × HasStamp net first x starts i m (start_of starts a j)

-- the number of the token that is left as token k of channel i after a round
abbrev pub left_token : Net → ℕ → ℕ → ℕ
left_token net i k = total (channel_at net i).taken (slice_index net.round (channel_at net i).target) + k

-- x and y are the stamps of the shared tokens before and after one round
pub record AreStamps (net : Net) (first : ℕ → ℕ) (count : ℕ) (x y : List ℕ) : Type 0 where
  pub before : length x ≡ count
  pub after : length y ≡ count
  pub starts : Schedule
  pub round : AreRoundStarts net first x starts
  pub left : (i k : ℕ) → i < length net.channels → k < (channel_at net i).tokens →
      HasStamp net first x starts i (left_token net i k) (slice_index y (first i + k))

-- the same of a scenario's graph with its repetition vector
abbrev pub AreStampsOf : List SharedRow → GraphFile → List ℕ → List ℕ → List ℕ → Type 0
AreStampsOf shared g gamma x y = AreStamps (net_of g gamma false) (first_of shared g) (shared_count shared) x y
