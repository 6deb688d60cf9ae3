-- The channels of a net by actor, and the tokens on channels.
use Rattle.std.specs.Prelude.{◌≡◌, ◌≢◌, ℕ, ◌+◌, ◌≤◌, ◌<◌, true, List, [], length, map, slice_index, slice_index_or, ◌==◌}
use Rattle.std.specs.List.{list_any}
use Rattle.sd_base.specs.Net.{Channel, Net, channel_at, phase_entry, total}
use Rattle.sd_base.specs.Connection.{ends_of}
use Rattle.firing.specs.Groups.{AreGroups}
use Rattle.firing.specs.declared.wiring.Wiring.{Wiring}
use Rattle.firing.specs.declared.sums.Port.{Port}
use Rattle.firing.specs.declared.sums.Port.TheVariants.{Made, Taken}

-- the actor at an end of a channel
abbrev pub actor_at : Port → Channel → ℕ
actor_at Made c = c.source
actor_at Taken c = c.target

-- xs are the channels with that end at actor a: all of them, ascending
pub record IsListed (net : Net) (port : Port) (a : ℕ) (xs : List ℕ) : Type 0 where
  pub rising : (j k : ℕ) → j < k → k < length xs → slice_index xs j < slice_index xs k
  pub place : (j : ℕ) → j < length xs → slice_index xs j < length net.channels
  pub there : (j : ℕ) → j < length xs → actor_at port (channel_at net (slice_index xs j)) ≡ a
  pub all : (i : ℕ) → i < length net.channels → actor_at port (channel_at net i) ≡ a → list_any (λ x. x == i) xs ≡ true

-- by actor the channels with that end at it
pub record AreListed (net : Net) (port : Port) (rows : List (List ℕ)) : Type 0 where
  pub actors : length rows ≡ length net.times
  pub each : (a : ℕ) → a < length net.times → IsListed net port a (slice_index_or rows a [])

-- by actor the channels into it and out of it, where channels are pairs of a source and a target
pub record IsWiring (actors : ℕ) (ends : List (ℕ × ℕ)) (w : Wiring) : Type 0 where
  pub inputs : AreGroups (map (λ (e : ℕ × ℕ). e.1) ends) actors w.inputs
  pub outputs : AreGroups (map (λ (e : ℕ × ℕ). e.0) ends) actors w.outputs

-- a wiring of a net is that of its number of actors and of its channels' ends
abbrev pub IsWiringOf : Net → Wiring → Type 0
IsWiringOf net w = IsWiring (length net.times) (ends_of net) w

-- channel i into a has fewer tokens than firing k of a takes
pub record LacksNow (net : Net) (tokens : List ℕ) (a k i : ℕ) : Type 0 where
  pub place : i < length net.channels
  pub into : (channel_at net i).target ≡ a
  pub short : slice_index tokens i < phase_entry (channel_at net i).taken k

-- no channel into a that stands before n has fewer tokens than firing k of a takes
abbrev pub SufficesBefore : Net → List ℕ → ℕ → ℕ → ℕ → Type 0
SufficesBefore net tokens a k n =
    (i : ℕ) → i < n → (channel_at net i).target ≡ a → phase_entry (channel_at net i).taken k ≤ slice_index tokens i

-- the first channel into a that lacks tokens for firing k
pub record IsFirstLack (net : Net) (tokens : List ℕ) (a k i : ℕ) : Type 0 where
  pub lacks : LacksNow net tokens a k i
  pub first : SufficesBefore net tokens a k i

-- n firings of a from k on have taken their tokens, and the other channels are as before
pub record TakesTokens (net : Net) (a k n : ℕ) (old new : List ℕ) : Type 0 where
  pub taken : (i : ℕ) → i < length net.channels → (channel_at net i).target ≡ a →
      slice_index new i + total (channel_at net i).taken (k + n) ≡ slice_index old i + total (channel_at net i).taken k
  pub others : (i : ℕ) → i < length net.channels → (channel_at net i).target ≢ a → slice_index new i ≡ slice_index old i

-- n firings of a from k on have put their tokens, and the other channels are as before
pub record PutsTokens (net : Net) (a k n : ℕ) (old new : List ℕ) : Type 0 where
  pub made : (i : ℕ) → i < length net.channels → (channel_at net i).source ≡ a →
      slice_index new i + total (channel_at net i).made k ≡ slice_index old i + total (channel_at net i).made (k + n)
  pub others : (i : ℕ) → i < length net.channels → (channel_at net i).source ≢ a → slice_index new i ≡ slice_index old i

-- the tokens on each channel are those that firings that have ended made, without those that firings that have started took
pub record IsLevel (net : Net) (started ended : ℕ → ℕ) (tokens : List ℕ) : Type 0 where
  pub long : length tokens ≡ length net.channels
  pub each : (i : ℕ) → i < length net.channels →
      slice_index tokens i + total (channel_at net i).taken (started (channel_at net i).target)
      ≡ (channel_at net i).tokens + total (channel_at net i).made (ended (channel_at net i).source)
