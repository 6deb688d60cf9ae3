-- The channels that are marked for longest ways of entries of a matrix.
use Rattle.std.specs.Prelude.{◌≡◌, ℕ, ◌≤◌, ◌<◌, ◌⊎◌, ◌↔◌, Bool, true, false, List, [], length, slice_get, slice_index_or, Some, Contains}
use Rattle.sd_base.specs.Net.{Net}
use Rattle.token_matrix.specs.Ways.{IsWay}
use Rattle.entry_ways.specs.declared.marking.EntryPlace.{EntryPlace}

-- a way from shared token p to shared token q, and none takes longer; tokens are taken on cs
pub record IsLongestWay (net : Net) (first : ℕ → ℕ) (p q : ℕ) (cs : List ℕ) : Type 0 where
  pub time : ℕ
  pub way : IsWay net first p q time cs
  pub longest : (e : ℕ) (ds : List ℕ) → IsWay net first p q e ds → e ≤ time

-- an entry has a way
abbrev pub HasWay : Net → (ℕ → ℕ) → EntryPlace → Type 0
HasWay net first entry = (e : ℕ) × (cs : List ℕ) × IsWay net first entry.column entry.row e cs

-- on some of the ways tokens are taken from channel i
abbrev pub IsOnSome : List (List ℕ) → ℕ → Type 0
IsOnSome ways i = (cs : List ℕ) × Contains ways cs × Contains cs i

-- of each entry one longest way, in their order: marked is what was marked before, and the channels on these ways
pub record AreWayMarks (net : Net) (first : ℕ → ℕ) (entries : List EntryPlace) (old new : List Bool) : Type 0 where
  pub ways : List (List ℕ)
  pub each : length ways ≡ length entries
  pub longest : (k : ℕ) (entry : EntryPlace) → slice_get entries k ≡ Some entry → IsLongestWay net first entry.column entry.row (slice_index_or ways k [])
  pub long : length new ≡ length old
  pub marked : (i : ℕ) → i < length old → (slice_index_or new i false ≡ true) ↔ ((slice_index_or old i false ≡ true) ⊎ IsOnSome ways i)
