-- The plain net of an ordered net's parts.
use Rattle.std.specs.Prelude.{◌≡◌, ◌≤◌, ◌<◌, ◌%◌, ◌+◌, ◌++◌, ℕ, Bool, List, [], length, map, slice_index, slice_index_or, All}
use Rattle.std.specs.List.{range_with_len}
use Rattle.sd_base.specs.declared.role.Role.{Role}
use Rattle.sd_base.specs.Net.{Channel, Net, channel_at}
use Rattle.sd_base.specs.Schedules.{phases_at}
use Rattle.sd_base.specs.Lawful.{is_token_role, is_own_role, is_space_role}
use Rattle.ordered.specs.declared.places.NewChannel.{NewChannel}
use Rattle.ordered.specs.declared.places.Place.{Place}
use Rattle.ordered.specs.declared.places.Place.TheVariants.{Kept, New}
use Rattle.ordered.specs.declared.places.Sort.{Sort}
use Rattle.ordered.specs.declared.places.Sort.TheVariants as sort
use Rattle.ordered.specs.OrderedNets.{rephased, unrolled}

-- the plain channel of a new one
abbrev pub new_channel : NewChannel → Channel
new_channel c = record { source = c.source; target = c.target; made = c.made; taken = c.taken; tokens = c.tokens; size = 1; role = c.role }

-- the channel at a place
abbrev pub place_in : Net → (ℕ → ℕ) → Place → Channel
place_in net phases (Kept c) = rephased phases (channel_at net c)
place_in net phases (New c) = new_channel c

-- how many channels a net has at least that has the channel of a place
abbrev pub reach : Place → ℕ
reach (Kept c) = c + 1
reach (New c) = 0

-- a place of a channel of the net, or a new channel
abbrev pub IsPlaceOf : Net → Place → Type 0
IsPlaceOf net p = reach p ≤ length net.channels

-- places of channels, which depend on the phases by actor, were added
pub record Adds (net : Net) (old new : List Place) (more : (ℕ → ℕ) → List Channel) : Type 0 where
  pub over : All (IsPlaceOf net) old → All (IsPlaceOf net) new
  pub channels : (phases : ℕ → ℕ) → map (place_in net phases) new ≡ map (place_in net phases) old ++ more phases

-- by actor some phases, whole turns of those that the net has
pub record AreTurns (net : Net) (phases : List ℕ) : Type 0 where
  pub actors : length phases ≡ length net.times
  pub some : (a : ℕ) → a < length net.times → 1 ≤ slice_index phases a
  pub whole : (a : ℕ) → a < length net.times → slice_index phases a % phases_at net a ≡ 0

-- the net with so many phases by actor, and these channels
unfoldable pub with_places : Net → List ℕ → List Place → Net
with_places net phases places = record {
  times = map (λ a. unrolled (slice_index phases a) (slice_index_or net.times a [])) (range_with_len 0 (length net.times));
  channels = map (place_in net (slice_index phases)) places;
  round = net.round;
}

-- the roles of a sort of channels
abbrev pub is_sort : Sort → Role → Bool
is_sort sort.File r = is_token_role r
is_sort (sort.Own a) r = is_own_role a r
is_sort sort.Space r = is_space_role r
