-- Which actors a channel leads into, and which ones share a channel with one before them.
use Rattle.std.specs.Prelude.{◌≡◌, ℕ, ◌<◌, ◌≤◌, ◌⊎◌, length}
use Rattle.sd_base.specs.Net.{Net, channel_at}

-- a channel leads into the actor
abbrev pub HasInput : Net → ℕ → Type 0
HasInput net a = (i : ℕ) × (i < length net.channels) × ((channel_at net i).target ≡ a)

-- channel i leads to the actor from one before it, or back
abbrev pub LinksBack : Net → ℕ → ℕ → Type 0
LinksBack net a i =
    (((channel_at net i).source < a) × ((channel_at net i).target ≡ a)) ⊎ (((channel_at net i).target < a) × ((channel_at net i).source ≡ a))

-- a channel leads to the actor from one before it, or back
abbrev pub IsLinkedBack : Net → ℕ → Type 0
IsLinkedBack net a = (i : ℕ) × (i < length net.channels) × LinksBack net a i

-- each actor but the first one shares a channel with one before it
abbrev pub AreLinkedBack : Net → Type 0
AreLinkedBack net = (a : ℕ) → 1 ≤ a → a < length net.times → IsLinkedBack net a
