-- The distributions that an exploration may come to.
use Rattle.std.specs.Prelude.{ℕ, ◌≤◌, Option, List, length}
use Rattle.sd_base.specs.declared.limits.TheConstants.{NET_CHANNELS}
use Rattle.sd_base.specs.Net.{Net}
use Rattle.sd_base.specs.Schedules.{HasInputs}
use Rattle.sd_base.specs.Connection.{IsConnected}
use Rattle.storage.specs.BoundedNets.{bound}
use Rattle.storage.specs.Distributions.{IsDistribution, IsPlain, storage_of}
use Rattle.storage.specs.Steps.{IsCorner}
use Rattle.storage.specs.StorageOrder.{stepped}
use Rattle.guide.specs.Guides.{IsInGuide}

-- the net is connected, its channels are those of a file and self-loops, and each of its distributions gives a net that isn't
-- too large and in which each actor has an input
pub record IsExplorable (net : Net) : Type 0 where
  pub plain : IsPlain net
  pub connected : IsConnected net
  pub inputs : (ds : List (Option ℕ)) → IsDistribution net.channels ds → HasInputs (bound net ds)
  pub few : (ds : List (Option ℕ)) → IsDistribution net.channels ds → length (bound net ds).channels ≤ NET_CHANNELS

-- the corner, if it is within the limit, and with each distribution those that have a step more room on a channel of its
-- guide, if they are within the limit
pub data IsReachable (net : Net) (limit : ℕ) : List (Option ℕ) → Type 0 where
  corner : (ds : List (Option ℕ)) → IsCorner net.channels ds → storage_of net.channels ds ≤ limit → IsReachable net limit ds
  next : (ds : List (Option ℕ)) (c : ℕ) → IsReachable net limit ds → IsInGuide net ds c → storage_of net.channels (stepped net.channels ds c) ≤ limit →
      IsReachable net limit (stepped net.channels ds c)
