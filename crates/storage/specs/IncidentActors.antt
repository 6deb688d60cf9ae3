-- Actors at which a channel begins or ends.
use Rattle.std.specs.Prelude.{◌≡◌, ℕ, ◌<◌, ◌⊎◌, length}
use Rattle.sd_base.specs.Net.{Net, channel_at}

-- some channel begins or ends at actor a
abbrev pub IsIncident : Net → ℕ → Type 0
IsIncident net a = (i : ℕ) × (i < length net.channels) × (((channel_at net i).source ≡ a) ⊎ ((channel_at net i).target ≡ a))

-- some channel begins or ends at each actor
abbrev pub AreIncident : Net → Type 0
AreIncident net = (a : ℕ) → a < length net.times → IsIncident net a

-- actor a is the first at which no channel begins or ends
pub record IsFirstIsolated (net : Net) (a : ℕ) : Type 0 where
  pub place : a < length net.times
  pub none : IsIncident net a → ⊥
  pub first : (b : ℕ) → b < a → IsIncident net b
