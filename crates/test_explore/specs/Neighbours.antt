-- Nets whose neighbouring actors are joined.
use Rattle.std.specs.Prelude.{◌≡◌, ℕ, suc, ◌<◌, ◌⊎◌, length}
use Rattle.sd_base.specs.Net.{Net, channel_at}

-- channel i leads from a to b or from b to a
abbrev pub JoinsAt : Net → ℕ → ℕ → ℕ → Type 0
JoinsAt net a b i =
    (((channel_at net i).source ≡ a) × ((channel_at net i).target ≡ b)) ⊎ (((channel_at net i).source ≡ b) × ((channel_at net i).target ≡ a))

-- a channel joins a and b
abbrev pub AreJoined : Net → ℕ → ℕ → Type 0
AreJoined net a b = (i : ℕ) × (i < length net.channels) × JoinsAt net a b i

-- a channel joins each actor and the next one
abbrev pub NeighboursAreJoined : Net → Type 0
NeighboursAreJoined net = (a : ℕ) → suc a < length net.times → AreJoined net a (suc a)
