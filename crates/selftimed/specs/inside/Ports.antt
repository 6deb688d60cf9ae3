-- The channels of each actor: its own channel, and the others.
use Rattle.std.specs.Prelude.{◌≡◌, ◌≢◌, ℕ, ◌+◌, ◌<◌, ◌++◌, ◌∷◌, ◌==◌, true, List, [], Option, None, IfSome, length, slice_index, slice_index_or, slice_range}
use Rattle.std.specs.List.{list_any}
use Rattle.sd_base.specs.Net.{Net, channel_at}
use Rattle.sd_base.specs.Schedules.{phases_at}
use Rattle.firing.specs.declared.sums.Port.{Port}
use Rattle.firing.specs.declared.sums.Port.TheVariants.{Made, Taken}
use Rattle.firing.specs.inside.Cuts.{AreCuts}
use Rattle.firing.specs.Wiring.{actor_at}
use Rattle.selftimed.specs.declared.engine.Stage.{Stage}
use Rattle.selftimed.specs.declared.engine.Stage.TheVariants.{OutOfMemory}
use Rattle.selftimed.specs.declared.ports.ChannelRows.{ChannelRows}
use Rattle.selftimed.specs.declared.ports.Ports.{Ports}

-- channel i leads from a, which has one phase, to itself, and each firing takes one token from it and puts one on it
pub record IsOwn (net : Net) (a i : ℕ) : Type 0 where
  pub place : i < length net.channels
  pub source : (channel_at net i).source ≡ a
  pub target : (channel_at net i).target ≡ a
  pub single : phases_at net a ≡ 1
  pub taken : slice_index (channel_at net i).taken 0 ≡ 1
  pub made : slice_index (channel_at net i).made 0 ≡ 1

-- a has this own channel, or none is said
abbrev pub MayOwn : Net → ℕ → Option ℕ → Type 0
MayOwn net a own = IfSome own (IsOwn net a)

-- a channel isn't the own one
abbrev pub IsOther : Option ℕ → ℕ → Type 0
IsOther own i = IfSome own (λ o. i ≢ o)

-- xs are ascending
abbrev pub IsRising : List ℕ → Type 0
IsRising xs = (j k : ℕ) → j < k → k < length xs → slice_index xs j < slice_index xs k

-- xs are the channels with that end at actor a but for the own one: all of them, ascending
pub record IsListedBut (net : Net) (port : Port) (a : ℕ) (own : Option ℕ) (xs : List ℕ) : Type 0 where
  pub rising : IsRising xs
  pub place : (j : ℕ) → j < length xs → slice_index xs j < length net.channels
  pub there : (j : ℕ) → j < length xs → actor_at port (channel_at net (slice_index xs j)) ≡ a
  pub others : (j : ℕ) → j < length xs → IsOther own (slice_index xs j)
  pub all : (i : ℕ) → i < length net.channels → actor_at port (channel_at net i) ≡ a → IsOther own i → list_any (λ x. x == i) xs ≡ true

-- xs are the first n channels of a row but for the own one, ascending
pub record AreOthers (own : Option ℕ) (row : List ℕ) (n : ℕ) (xs : List ℕ) : Type 0 where
  pub rising : IsRising xs
  pub from : (j : ℕ) → j < length xs → (p : ℕ) × (p < n) × (slice_index row p ≡ slice_index xs j)
  pub others : (j : ℕ) → j < length xs → IsOther own (slice_index xs j)
  pub all : (p : ℕ) → p < n → IsOther own (slice_index row p) → (j : ℕ) × (j < length xs) × (slice_index xs j ≡ slice_index row p)

-- there are no rows
pub record AreNone (rows : ChannelRows) : Type 0 where
  pub starts : rows.starts.items ≡ 0 ∷ []
  pub channels : rows.channels.items ≡ []

-- a row is added
pub record Adds (row : List ℕ) (old new : ChannelRows) : Type 0 where
  pub starts : new.starts.items ≡ old.starts.items ++ length new.channels.items ∷ []
  pub channels : new.channels.items ≡ old.channels.items ++ row

-- the row of an actor
abbrev pub row_at : ChannelRows → ℕ → List ℕ
row_at rows a = slice_range rows.channels.items (slice_index rows.starts.items a) (slice_index rows.starts.items (a + 1))

abbrev pub own_at : List (Option ℕ) → ℕ → Option ℕ
own_at owns a = slice_index_or owns a None

-- by actor below n the channels with that end at it but for the own one
pub record AreRows (net : Net) (port : Port) (owns : List (Option ℕ)) (rows : ChannelRows) (n : ℕ) : Type 0 where
  pub cuts : AreCuts rows.starts.items (length rows.channels.items)
  pub long : length rows.starts.items ≡ n + 1
  pub end : slice_index rows.starts.items n ≡ length rows.channels.items
  pub each : (a : ℕ) → a < n → IsListedBut net port a (own_at owns a) (row_at rows a)

-- by actor below n its own channel, and the others into it and out of it
pub record ArePortsBelow (net : Net) (p : Ports) (n : ℕ) : Type 0 where
  pub long : length p.own.items ≡ n
  pub owns : (a : ℕ) → a < n → MayOwn net a (own_at p.own.items a)
  pub inputs : AreRows net Taken p.own.items p.inputs n
  pub outputs : AreRows net Made p.own.items p.outputs n

-- those of each actor
abbrev pub ArePorts : Net → Ports → Type 0
ArePorts net p = ArePortsBelow net p (length net.times)

-- they are those of each actor, unless memory ran out in a step
pub record StillPorts (stage : Stage) (net : Net) (p : Ports) : Type 0 where
  pub here : stage ≢ OutOfMemory → ∥ ArePorts net p ∥₁
