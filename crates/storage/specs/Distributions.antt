-- Storage distributions: by channel of the file a capacity or none; a channel past the end has none.
use Rattle.std.specs.Prelude.{◌≡◌, ◌≢◌, ℕ, zero, suc, ◌+◌, ◌*◌, ◌≤◌, ◌<◌, ◌⊎◌, false, true, Option, None, Some, List, [], ◌∷◌, length, slice_index_or}
use Rattle.sd_base.specs.declared.limits.TheConstants.{NET_TOKENS}
use Rattle.sd_base.specs.Net.{Channel, Net, channel_at}
use Rattle.sd_base.specs.Lawful.{is_token_role, is_space_role}

-- the capacity of a channel, if it has one
abbrev pub capacity_at : List (Option ℕ) → ℕ → Option ℕ
capacity_at ds c = slice_index_or ds c None

-- no self-loop has a capacity, and each is at least the channel's tokens and at most 2,000,000,000
abbrev pub CanHold : List Channel → List (Option ℕ) → Type 0
CanHold [] [] = Unit {0}
CanHold [] (d ∷ ds) = ⊥
CanHold (c ∷ cs) [] = Unit {0}
CanHold (c ∷ cs) (None ∷ ds) = CanHold cs ds
CanHold (c ∷ cs) (Some k ∷ ds) = (c.source ≢ c.target) × (c.tokens ≤ k) × (k ≤ NET_TOKENS) × CanHold cs ds

-- each channel but the file's is a self-loop, and no free space
abbrev pub IsPlain : Net → Type 0
IsPlain net = (i : ℕ) → i < length net.channels → (is_token_role (channel_at net i).role ≡ true) ⊎ ((is_space_role (channel_at net i).role ≡ false) × ((channel_at net i).source ≡ (channel_at net i).target))

-- the channels of the file have an entry each: a capacity that covers the tokens, or none for a self-loop; all other
-- channels are self-loops
abbrev pub IsDistribution : List Channel → List (Option ℕ) → Type 0
IsDistribution [] [] = Unit {0}
IsDistribution [] (d ∷ ds) = ⊥
IsDistribution (c ∷ cs) [] = (is_token_role c.role ≡ false) × (c.source ≡ c.target) × IsDistribution cs []
IsDistribution (c ∷ cs) (None ∷ ds) = (is_token_role c.role ≡ true) × (c.source ≡ c.target) × IsDistribution cs ds
IsDistribution (c ∷ cs) (Some k ∷ ds) = (is_token_role c.role ≡ true) × (c.source ≢ c.target) × (c.tokens ≤ k) × IsDistribution cs ds

-- both bound the same channels, the first by capacities that are at most the second's
abbrev pub AtMost : List (Option ℕ) → List (Option ℕ) → Type 0
AtMost [] [] = Unit {0}
AtMost (None ∷ ds) (None ∷ es) = AtMost ds es
AtMost (Some a ∷ ds) (Some b ∷ es) = (a ≤ b) × AtMost ds es
AtMost ds es = ⊥

-- the storage that capacities take: each channel that has one adds the sizes of as many tokens
abbrev pub storage_of : List Channel → List (Option ℕ) → ℕ
storage_of [] ds = 0
storage_of (c ∷ cs) [] = 0
storage_of (c ∷ cs) (None ∷ ds) = storage_of cs ds
storage_of (c ∷ cs) (Some k ∷ ds) = k * c.size + storage_of cs ds

-- a capacity with so much more; where there is none, there is none
abbrev pub more_room : Option ℕ → ℕ → Option ℕ
more_room None by = None
more_room (Some k) by = Some (k + by)

-- the distribution with channel c enlarged
abbrev pub enlarged : List (Option ℕ) → ℕ → ℕ → List (Option ℕ)
enlarged [] c by = []
enlarged (d ∷ ds) zero by = more_room d by ∷ ds
enlarged (d ∷ ds) (suc c) by = d ∷ enlarged ds c by

-- the storage of one channel
abbrev pub storage_at : Channel → Option ℕ → ℕ
storage_at c None = 0
storage_at c (Some k) = k * c.size
