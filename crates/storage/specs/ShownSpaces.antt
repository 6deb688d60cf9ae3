-- What counts that block a bounded net show: the channels whose free space holds an actor up.
use Rattle.std.specs.Prelude.{◌≡◌, ℕ, ◌<◌, Option, Some, List, length, slice_index}
use Rattle.sd_base.specs.Net.{Net, channel_at}
use Rattle.sd_base.specs.Schedules.{Needs}
use Rattle.sd_base.specs.Untimed.{CanFire}
use Rattle.storage.specs.Distributions.{capacity_at}
use Rattle.storage.specs.BoundedNets.{space_of}

-- after v firings the source of channel c is below its round and lacks no token on a channel of the net, but space for its
-- next firing on c
pub record ShowsSpace (net : Net) (ds : List (Option ℕ)) (v : ℕ → ℕ) (c : ℕ) : Type 0 where
  pub place : c < length net.channels
  pub room : ℕ
  pub has : capacity_at ds c ≡ Some room
  pub short : v (channel_at net c).source < slice_index net.round (channel_at net c).source
  pub fed : CanFire net v (channel_at net c).source
  pub full : Needs (space_of c (channel_at net c) room) (v (channel_at net c).source) (v (channel_at net c).target)
