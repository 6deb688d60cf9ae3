-- What shows a channel whose capacity is known.
use Rattle.std.specs.Prelude.{◌≡◌, ℕ, ◌<◌, List, length, slice_index, slice_index_or}
use Rattle.sd_base.specs.declared.role.Role.TheVariants.{Space}
use Rattle.sd_base.specs.Net.{Net, channel_at}
use Rattle.sd_base.specs.Schedules.{Needs}
use Rattle.sd_base.specs.Untimed.{CanFire}
use Rattle.storage.specs.BoundedNets.{space_of}
use Rattle.cert_text.specs.declared.certificates.LinkStep.{LinkStep}
use Rattle.cert_checker.specs.ShownChannels.{no_link}

-- some step is along the free space of channel c
abbrev pub HasSpaceLink : List LinkStep → ℕ → Type 0
HasSpaceLink steps c = (i : ℕ) × (i < length steps) × ((slice_index_or steps i no_link).link ≡ Space c)

-- there is a count for each actor, and the source of channel c is below its round and lacks no token, but space
pub record IsFullAt (net : Net) (counts : List ℕ) (c room : ℕ) : Type 0 where
  pub actors : length counts ≡ length net.times
  pub short : slice_index counts (channel_at net c).source < slice_index net.round (channel_at net c).source
  pub full : Needs (space_of c (channel_at net c) room) (slice_index counts (channel_at net c).source) (slice_index counts (channel_at net c).target)
  pub fed : CanFire net (slice_index counts) (channel_at net c).source
