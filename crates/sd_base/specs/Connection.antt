-- Paths and walks over channels, each channel seen as the pair of its source and its target.
use Rattle.std.specs.Prelude.{◌≡◌, ℕ, ◌<◌, ◌⊎◌, Some, List, [], ◌∷◌, map, length, slice_get}
use Rattle.sd_base.specs.declared.tables.GraphFile.{GraphFile}
use Rattle.sd_base.specs.declared.tables.ChannelRow.{ChannelRow}
use Rattle.sd_base.specs.Net.{Channel, Net}

-- the pairs with these numbers lead from actor a to actor b, each along its direction from where the one before ends
abbrev pub IsPath : List (ℕ × ℕ) → ℕ → List ℕ → ℕ → Type 0
IsPath ends a [] b = a ≡ b
IsPath ends a (k ∷ ks) b = (e : ℕ × ℕ) × (slice_get ends k ≡ Some e) × (a ≡ e.0) × IsPath ends e.1 ks b

-- a path leads from a to b
abbrev pub Reaches : List (ℕ × ℕ) → ℕ → ℕ → Type 0
Reaches ends a b = (ks : List ℕ) × IsPath ends a ks b

-- the pairs with these numbers lead from actor a to actor b, each along its direction or against it
abbrev pub IsWalk : List (ℕ × ℕ) → ℕ → List ℕ → ℕ → Type 0
IsWalk ends a [] b = a ≡ b
IsWalk ends a (k ∷ ks) b =
    (e : ℕ × ℕ) × (slice_get ends k ≡ Some e) × (((a ≡ e.0) × IsWalk ends e.1 ks b) ⊎ ((a ≡ e.1) × IsWalk ends e.0 ks b))

-- a walk leads from a to b
abbrev pub Meets : List (ℕ × ℕ) → ℕ → ℕ → Type 0
Meets ends a b = (ks : List ℕ) × IsWalk ends a ks b

-- a walk leads from actor 0 to each of so many actors
abbrev pub AreConnected : ℕ → List (ℕ × ℕ) → Type 0
AreConnected actors ends = (a : ℕ) → a < actors → Meets ends 0 a

-- a path leads from each to each
abbrev pub AreStronglyConnected : ℕ → List (ℕ × ℕ) → Type 0
AreStronglyConnected actors ends = (a b : ℕ) → a < actors → b < actors → Reaches ends a b

-- the ends of the channels of a graph
abbrev pub graph_ends : GraphFile → List (ℕ × ℕ)
graph_ends g = map (λ (c : ChannelRow). (c.source, c.target)) g.channels

-- the ends of the channels of a net
abbrev pub ends_of : Net → List (ℕ × ℕ)
ends_of net = map (λ (c : Channel). (c.source, c.target)) net.channels

abbrev pub IsConnected : Net → Type 0
IsConnected net = AreConnected (length net.times) (ends_of net)

abbrev pub IsStronglyConnected : Net → Type 0
IsStronglyConnected net = AreStronglyConnected (length net.times) (ends_of net)
