-- The links of a chain, followed backwards, and the channels that are marked.
use Rattle.std.specs.Prelude.{◌≡◌, ℕ, ◌+◌, ◌≤◌, ◌<◌, ◌⊎◌, ◌↔◌, true, false, Bool, List, length, slice_index_or, Option, Some, Contains}
use Rattle.sd_base.specs.Net.{Net, channel_at}
use Rattle.sd_base.specs.Schedules.{time_of}
use Rattle.token_matrix.specs.Stamps.{IsTakenBy, IsPutBy}
use Rattle.entry_ways.specs.declared.links.Link.{Link}
use Rattle.entry_ways.specs.declared.links.Link.TheVariants.{Begins, Goes}
use Rattle.entry_ways.specs.inside.Columns.{start_in}

-- the link goes by a firing of the source of channel i from first to end, which ends just at t
abbrev pub IsEndOf : Net → List (List (Option ℕ)) → ℕ → ℕ → ℕ → ℕ → Link → Type 0
IsEndOf net rows i first end t (Begins c) = ⊥
IsEndOf net rows i first end t (Goes c k d) =
    (c ≡ i) × (first ≤ k) × (k < end) × (start_in rows (channel_at net i).source k ≡ Some d) × (t ≡ d + time_of net (channel_at net i).source k)

-- it is a link of firing j on channel i, which starts at t
abbrev pub IsLinkOn : Net → (ℕ → ℕ) → ℕ → List (List (Option ℕ)) → ℕ → ℕ → ℕ → Link → Type 0
IsLinkOn net first p rows i j t (Begins c) = (c ≡ i) × (t ≡ 0) × ((m : ℕ) × IsTakenBy (channel_at net i) m j × (m < (channel_at net i).tokens) × (p ≡ first i + m))
IsLinkOn net first p rows i j t (Goes c k d) =
    (c ≡ i) × (start_in rows (channel_at net i).source k ≡ Some d) × (t ≡ d + time_of net (channel_at net i).source k)
    × ((m : ℕ) × IsTakenBy (channel_at net i) m j × IsPutBy (channel_at net i) m k)

-- on some channel into actor a
abbrev pub IsLinkTo : Net → (ℕ → ℕ) → ℕ → List (List (Option ℕ)) → ℕ → ℕ → ℕ → Link → Type 0
IsLinkTo net first p rows a j t link = (i : ℕ) × (i < length net.channels) × ((channel_at net i).target ≡ a) × IsLinkOn net first p rows i j t link

-- the channels of the list were marked, and no others
pub record AreMarked (cs : List ℕ) (old new : List Bool) : Type 0 where
  pub long : length new ≡ length old
  pub marked : (i : ℕ) → i < length old → (slice_index_or new i false ≡ true) ↔ ((slice_index_or old i false ≡ true) ⊎ Contains cs i)

-- the shared token is one of channel i
pub record IsOnChannel (net : Net) (first : ℕ → ℕ) (p i : ℕ) : Type 0 where
  pub place : i < length net.channels
  pub past : first i ≤ p
  pub there : p < first i + (channel_at net i).tokens

-- no shared token is one of two channels
abbrev pub AreApart : Net → (ℕ → ℕ) → Type 0
AreApart net first = (p i j : ℕ) → IsOnChannel net first p i → IsOnChannel net first p j → i ≡ j
