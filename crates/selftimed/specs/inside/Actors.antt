-- Where the actors stand in an execution.
use Rattle.std.specs.Prelude.{◌≡◌, ℕ, ◌+◌, ◌-◌, ◌≤◌, ◌<◌, ◌⊎◌, Bool, true, false, List, [], Option, All, length, drop, slice_index, slice_index_or, ◌==◌, nat_eq}
use Rattle.sd_base.specs.Ranges.{RUN_START_BOUND}
use Rattle.std.specs.List.{list_any, sum_by, IsDistinct}
use Rattle.sd_base.specs.Net.{Net, channel_at, phase_entry}
use Rattle.sd_base.specs.Schedules.{Needs}
use Rattle.sd_base.proofs.NextMomentIsEarliest.{Able}
use Rattle.sd_base.proofs.FiringOrdersEnd.{sum_to}
use Rattle.selftimed.specs.inside.Ports.{IsOther}
use Rattle.selftimed.specs.inside.Starts.{AddsEnds, StartsAll}
use Rattle.firing.specs.Wiring.{IsLevel}
use Rattle.selftimed.specs.declared.actors.ActorState.{ActorState}

-- what stands for an actor past the last one
abbrev pub idle : ActorState
idle = record { started = 0; ended = 0; running = []; touched = false; lacking = 0 }

-- an actor of which nothing has started, to be looked at
abbrev pub fresh_one : ActorState
fresh_one = record { started = 0; ended = 0; running = []; touched = true; lacking = 0 }

abbrev pub started_in : List ActorState → ℕ → ℕ
started_in actors a = (slice_index_or actors a idle).started

abbrev pub ended_in : List ActorState → ℕ → ℕ
ended_in actors a = (slice_index_or actors a idle).ended

abbrev pub running_in : List ActorState → ℕ → List ℕ
running_in actors a = (slice_index_or actors a idle).running

abbrev pub touched_in : List ActorState → ℕ → Bool
touched_in actors a = (slice_index_or actors a idle).touched

abbrev pub lacking_in : List ActorState → ℕ → ℕ
lacking_in actors a = (slice_index_or actors a idle).lacking

-- with what has ended, channel i into a lacks tokens for firing k
abbrev pub LacksAt : Net → (ℕ → ℕ) → ℕ → ℕ → ℕ → Type 0
LacksAt net e a k i = (i < length net.channels) × ((channel_at net i).target ≡ a) × Needs (channel_at net i) k (e (channel_at net i).source)

-- t is the first moment at which a running firing ends
pub record IsFirstEnd (actors : List ActorState) (t : ℕ) : Type 0 where
  pub below : (a : ℕ) → a < length actors → 0 < length (running_in actors a) → t ≤ slice_index (running_in actors a) 0
  pub there : (a : ℕ) × (a < length actors) × (0 < length (running_in actors a)) × (slice_index (running_in actors a) 0 ≡ t)

-- nothing runs
abbrev pub IsQuiet : List ActorState → Type 0
IsQuiet actors = (a : ℕ) → a < length actors → length (running_in actors a) ≡ 0

-- the firings of an actor that ended by a moment are off its list, and the next one ends later
pub record EndsOne (moment : ℕ) (old new : ActorState) : Type 0 where
  pub started : new.started ≡ old.started
  pub later : old.ended ≤ new.ended
  pub within : new.ended - old.ended ≤ length old.running
  pub rest : new.running ≡ drop (new.ended - old.ended) old.running
  pub past : (k : ℕ) → k < new.ended - old.ended → slice_index old.running k ≤ moment
  pub next : new.ended - old.ended < length old.running → moment < slice_index old.running (new.ended - old.ended)

-- the same but for what is touched besides
pub record Kept (old new : List ActorState) : Type 0 where
  pub long : length new ≡ length old
  pub started : (b : ℕ) → started_in new b ≡ started_in old b
  pub ended : (b : ℕ) → ended_in new b ≡ ended_in old b
  pub running : (b : ℕ) → running_in new b ≡ running_in old b
  pub kept : (b : ℕ) → touched_in new b ≡ false → touched_in old b ≡ false
  pub lacking : (b : ℕ) → lacking_in new b ≡ lacking_in old b

-- an actor that lacked tokens on its own channel is touched, and nothing else is changed
pub record TouchesItself (own : Option ℕ) (a : ℕ) (old new : List ActorState) : Type 0 where
  pub kept : Kept old new
  pub other : touched_in new a ≡ false → IsOther own (lacking_in new a)

-- the targets of those of these channels that they lacked are touched, but for those that still lack tokens there, and nothing
-- else is changed
pub record Touches (net : Net) (tokens channels : List ℕ) (old new : List ActorState) : Type 0 where
  pub long : length new ≡ length old
  pub started : (b : ℕ) → started_in new b ≡ started_in old b
  pub ended : (b : ℕ) → ended_in new b ≡ ended_in old b
  pub running : (b : ℕ) → running_in new b ≡ running_in old b
  pub kept : (b : ℕ) → touched_in new b ≡ false → touched_in old b ≡ false
  pub lacking : (b : ℕ) → lacking_in new b ≡ lacking_in old b
  pub there : (j : ℕ) → j < length channels → touched_in new (channel_at net (slice_index channels j)).target ≡ false → lacking_in new (channel_at net (slice_index channels j)).target ≡ slice_index channels j →
      slice_index tokens (slice_index channels j) < phase_entry (channel_at net (slice_index channels j)).taken (started_in new (channel_at net (slice_index channels j)).target)

-- each actor's firings that ended by a moment are off its list, and an actor may be untouched if the channel that it lacked
-- gained nothing, or still lacks tokens
pub record EndsAll (net : Net) (moment : ℕ) (old new : List ActorState) : Type 0 where
  pub long : length new ≡ length old
  pub each : (b : ℕ) → b < length net.times → EndsOne moment (slice_index_or old b idle) (slice_index_or new b idle)
  pub lacking : (b : ℕ) → lacking_in new b ≡ lacking_in old b
  pub untouched : (i : ℕ) → i < length net.channels → touched_in new (channel_at net i).target ≡ false → lacking_in new (channel_at net i).target ≡ i →
      (ended_in new (channel_at net i).source ≡ ended_in old (channel_at net i).source)
      ⊎ Needs (channel_at net i) (started_in new (channel_at net i).target) (ended_in new (channel_at net i).source)

-- where the actors stand fits together
pub record Stand (net : Net) (actors : List ActorState) (tokens : List ℕ) : Type 0 where
  pub long : length actors ≡ length net.times
  pub counts : (a : ℕ) → a < length net.times → ended_in actors a + length (running_in actors a) ≡ started_in actors a
  pub few : (a : ℕ) → a < length net.times → started_in actors a ≤ RUN_START_BOUND
  pub level : IsLevel net (started_in actors) (ended_in actors) tokens

-- n firings of an actor start at a moment, and no more can, for want of tokens on the channel that is noted
pub record StartsOne (net : Net) (a moment n : ℕ) (tokens left : List ℕ) (old new : ActorState) : Type 0 where
  pub started : new.started ≡ old.started + n
  pub ended : new.ended ≡ old.ended
  pub calm : new.touched ≡ false
  pub all : StartsAll net a moment old.started n new.lacking tokens left old.running new.running

-- with what has ended more firings can start than a bound
abbrev pub CanOverrun : Net → (ℕ → ℕ) → ℕ → Type 0
CanOverrun net e most = (m : ℕ → ℕ) × Able net e m × (most < sum_to m (length net.times))

-- each firing that can starts at a moment, and no more can, for want of tokens on the channels that are noted
pub record StartedAll (net : Net) (moment : ℕ) (old new : List ActorState) : Type 0 where
  pub ended : (b : ℕ) → ended_in new b ≡ ended_in old b
  pub more : (b : ℕ) → b < length net.times → started_in old b ≤ started_in new b
  pub ends : (b : ℕ) → b < length net.times → AddsEnds net b moment (started_in old b) (started_in new b - started_in old b) (running_in old b) (running_in new b)
  pub lacks : (b : ℕ) → b < length net.times → LacksAt net (ended_in old) b (started_in new b) (lacking_in new b)
  pub calm : (b : ℕ) → b < length net.times → touched_in new b ≡ false

-- the number of all starts
pub record Counted (actors : List ActorState) (all most : ℕ) : Type 0 where
  pub total : all ≡ sum_by (λ (s : ActorState). s.started) actors
  pub within : all ≤ most

-- the actors of which firings have started since, each once, and none of them is to be looked at
pub record HaveStarted (net : Net) (old new : List ActorState) (list : List ℕ) : Type 0 where
  pub actors : All (λ a. a < length net.times) list
  pub start : All (λ a. started_in old a < started_in new a) list
  pub calm : All (λ a. touched_in new a ≡ false) list
  pub listed : (a : ℕ) → a < length net.times → started_in old a < started_in new a → list_any (λ (x : ℕ). x == a) list ≡ true
  pub once : IsDistinct nat_eq list
