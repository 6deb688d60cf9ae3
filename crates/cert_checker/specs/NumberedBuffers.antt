-- Capacities by the numbers of channels, and the distribution that they give.
use Rattle.std.specs.Prelude.{◌≡◌, ◌≢◌, ℕ, ◌≤◌, ◌==◌, List, All, Option, Some, map, slice_get}
use Rattle.std.specs.List.{find, range_with_len}
use Rattle.std.specs.Option.{option_map}
use Rattle.sd_base.specs.declared.limits.TheConstants.{CAPACITY}
use Rattle.sd_base.specs.declared.tables.ChannelRow.{ChannelRow}

-- the channel of this number is there and isn't a self-loop, and the capacity covers its tokens and is at most 1,000,000
pub record IsBuffer (channels : List ChannelRow) (b : ℕ × ℕ) : Type 0 where
  pub channel : ChannelRow
  pub there : slice_get channels b.0 ≡ Some channel
  pub apart : channel.source ≢ channel.target
  pub covers : channel.tokens ≤ b.1
  pub limited : b.1 ≤ CAPACITY

abbrev pub AreBuffers : List ChannelRow → List (ℕ × ℕ) → Type 0
AreBuffers channels buffers = All (IsBuffer channels) buffers

-- the capacity of a channel by its number, or none
abbrev pub capacity_in : List (ℕ × ℕ) → ℕ → Option ℕ
capacity_in buffers i = option_map (λ (b : ℕ × ℕ). b.1) (find (λ (b : ℕ × ℕ). b.0 == i) buffers)

-- by channel its capacity, or none
abbrev pub capacities_in : ℕ → List (ℕ × ℕ) → List (Option ℕ)
capacities_in channels buffers = map (capacity_in buffers) (range_with_len 0 channels)
