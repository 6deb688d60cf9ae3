-- Plain, connected and incident nets without too many channels can be explored, and what they reach is within the limit.
use Rattle.std.proofs.Common.{ℕ, ◌*◌, ◌≤◌, Option, List, length, arith}
use Rattle.sd_base.specs.declared.limits.TheConstants.{NET_CHANNELS}
use Rattle.sd_base.specs.Net.{Net, channel_at}
use Rattle.sd_base.specs.Connection.{IsConnected}
use Rattle.storage.specs.Distributions.{IsDistribution, IsPlain, storage_of}
use Rattle.storage.specs.Steps.{step_of}
use Rattle.storage.proofs.CornerLists.{corner-distribution}
use Rattle.storage.proofs.SpaceChannels.{bound-long, few-spaces}
use Rattle.storage.specs.IncidentActors.{AreIncident}
use Rattle.storage.proofs.IncidentInputs.{incident-inputs}
use Rattle.storage.proofs.EnlargingAddsRoom.{enlarged-distribution}
use Rattle.explore.specs.Reachable.{IsExplorable, IsReachable, corner, next}

pub incident-explorable : (net : Net) → IsPlain net → IsConnected net → AreIncident net → 2 * length net.channels ≤ NET_CHANNELS → IsExplorable net
incident-explorable net plain connected incident few = record {
  plain = plain;
  connected = connected;
  inputs = incident-inputs net incident;
  few = λ ds dist. (let long = bound-long net ds in let spaces = few-spaces 0 net.channels ds in omega (arith, long, spaces, few));
}

-- what can be reached is a distribution within the limit
pub reachable-fits : (net : Net) (limit : ℕ) (ds : List (Option ℕ)) → IsPlain net → IsReachable net limit ds → IsDistribution net.channels ds × (storage_of net.channels ds ≤ limit)
reachable-fits net limit ds plain (corner _ is within) = (corner-distribution net.channels ds plain is, within)
reachable-fits net limit _ plain (next ds c reach shows within) = (enlarged-distribution net.channels ds c (step_of (channel_at net c)) (reachable-fits net limit ds plain reach).0, within)
