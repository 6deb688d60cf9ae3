-- From actors to those that they wait for, by named channels.
use Rattle.std.specs.Prelude.{◌≡◌, ◌≢◌, ℕ, zero, suc, ◌≤◌, ◌<◌, Option, None, Some, List, length, slice_index, slice_index_or}
use Rattle.sd_base.specs.Net.{Net, channel_at}

-- actor a is below its round after v firings
abbrev pub IsShort : Net → (ℕ → ℕ) → ℕ → Type 0
IsShort net v a = (a < length net.times) × (v a < slice_index net.round a)

abbrev pub source_of : Net → ℕ → Option ℕ → ℕ
source_of net a None = a
source_of net a (Some i) = (channel_at net i).source

-- the actor that a waits for by its named channel; one that names none waits for itself
abbrev pub awaited : Net → List (Option ℕ) → ℕ → ℕ
awaited net lacks a = source_of net a (slice_index_or lacks a None)

-- the actor that is reached by n steps on from a
abbrev pub after : Net → List (Option ℕ) → ℕ → ℕ → ℕ
after net lacks zero a = a
after net lacks (suc n) a = awaited net lacks (after net lacks n a)

-- a names a channel
abbrev pub IsNamed : Net → List (Option ℕ) → ℕ → Type 0
IsNamed net lacks a = (i : ℕ) × (i < length net.channels) × (slice_index_or lacks a None ≡ Some i)

-- so does each actor that is reached from a
abbrev pub AreNamedFrom : Net → List (Option ℕ) → ℕ → Type 0
AreNamedFrom net lacks a = (n : ℕ) → IsNamed net lacks (after net lacks n a)

-- it can't be that none of as many steps on from a as there are actors leads back to it
abbrev pub ComesBack : Net → List (Option ℕ) → ℕ → Type 0
ComesBack net lacks a = ((n : ℕ) → 0 < n → n ≤ length net.times → after net lacks n a ≢ a) → ⊥

-- these channels are named one after another on the way from start to a, which doesn't come back to start before a
pub record IsFollowed (net : Net) (lacks : List (Option ℕ)) (start : ℕ) (channels : List ℕ) (a : ℕ) : Type 0 where
  pub reached : a ≡ after net lacks (length channels) start
  pub named : (j : ℕ) → j < length channels → slice_index_or lacks (after net lacks j start) None ≡ Some (slice_index channels j)
  pub apart : (n : ℕ) → 0 < n → n < length channels → after net lacks n start ≢ start

-- these are named from start back to it, and it is met nowhere between
pub record IsRoundFrom (net : Net) (lacks : List (Option ℕ)) (start : ℕ) (channels : List ℕ) : Type 0 where
  pub some : 0 < length channels
  pub followed : IsFollowed net lacks start channels start
