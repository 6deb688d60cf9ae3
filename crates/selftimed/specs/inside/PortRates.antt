-- What firings of actors of one phase move, by channel.
use Rattle.std.specs.Prelude.{◌≡◌, ℕ, ◌<◌, List, length, slice_index, slice_index_or}
use Rattle.sd_base.specs.Net.{Channel, Net, channel_at}
use Rattle.selftimed.specs.declared.rates.Rates.{Rates}
use Rattle.selftimed.specs.Fingerprints.{weight}

-- what stands for a channel past the last one
abbrev pub no_rates : Rates
no_rates = record { target = 0; taken = 0; made = 0; weight = 0 }

-- the target of a channel, its rates in the first phases of its actors, and what its tokens count in a fingerprint
pub record AreOf (i : ℕ) (c : Channel) (r : Rates) : Type 0 where
  pub target : r.target ≡ c.target
  pub taken : r.taken ≡ slice_index c.taken 0
  pub made : r.made ≡ slice_index c.made 0
  pub weight : r.weight ≡ weight i

-- the rates of each channel
pub record AreRates (net : Net) (rows : List Rates) : Type 0 where
  pub long : length rows ≡ length net.channels
  pub each : (i : ℕ) → i < length net.channels → AreOf i (channel_at net i) (slice_index_or rows i no_rates)
