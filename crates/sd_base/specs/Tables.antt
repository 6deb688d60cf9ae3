-- The rules and limits of a graph table on counts, places, lists and numbers.
use Rattle.std.specs.Prelude.{◌≡◌, ℕ, ◌*◌, ◌≤◌, ◌<◌, ◌⊎◌, List, length, map, sum, slice_index, All}
use Rattle.sd_base.specs.declared.limits.TheConstants.{ACTORS, CHANNELS, PHASES, RATE, TIME, TOKENS, SIZE}
use Rattle.sd_base.specs.declared.tables.Kind.{Kind}
use Rattle.sd_base.specs.declared.tables.Kind.TheVariants.{Sdf}
use Rattle.sd_base.specs.declared.tables.GraphFile.{GraphFile}
use Rattle.sd_base.specs.declared.tables.ActorRow.{ActorRow}
use Rattle.sd_base.specs.declared.tables.ChannelRow.{ChannelRow}

-- the phases of each actor
abbrev pub phases_of : GraphFile → List ℕ
phases_of g = map (λ a. a.phases) g.actors

-- an actor has one phase or, in a cyclo-static graph, several; and a time for each phase, or none at all
pub record ActorKeepsRules (kind : Kind) (a : ActorRow) : Type 0 where
  pub some_phase : 1 ≤ a.phases
  pub few_phases : a.phases ≤ PHASES
  pub one_phase : kind ≡ Sdf → a.phases ≡ 1
  pub timed : (length a.times ≡ 0) ⊎ (length a.times ≡ a.phases)
  pub times : All (λ t. (1 ≤ t) × (t ≤ TIME)) a.times

-- a port has a rate for each phase of its actor, and moves at least one token in a cycle of phases
pub record PortKeepsRules (phases : ℕ) (rates : List ℕ) : Type 0 where
  pub listed : length rates ≡ phases
  pub limited : All (λ r. r ≤ RATE) rates
  pub moves : 1 ≤ sum rates

pub record ChannelKeepsRules (phases : List ℕ) (c : ChannelRow) : Type 0 where
  pub source : c.source < length phases
  pub target : c.target < length phases
  pub made : PortKeepsRules (slice_index phases c.source) c.made
  pub taken : PortKeepsRules (slice_index phases c.target) c.taken
  pub tokens : c.tokens ≤ TOKENS
  pub some_size : 1 ≤ c.size
  pub size : c.size ≤ SIZE

-- the rules of a table of at most so many channels
pub record KeepsRulesWithin (most : ℕ) (g : GraphFile) : Type 0 where
  pub some_actor : 1 ≤ length g.actors
  pub few_actors : length g.actors ≤ ACTORS
  pub few_channels : length g.channels ≤ most
  pub actors : All (ActorKeepsRules g.kind) g.actors
  pub channels : All (ChannelKeepsRules (phases_of g)) g.channels

-- what holds of each table that a call takes
abbrev pub KeepsRules : GraphFile → Type 0
KeepsRules = KeepsRulesWithin CHANNELS

-- what holds of such a table with a free space for some of its channels
abbrev pub KeepsWideRules : GraphFile → Type 0
KeepsWideRules = KeepsRulesWithin (2 * CHANNELS)

-- each actor has its times
abbrev pub IsTimed : GraphFile → Type 0
IsTimed g = All (λ (a : ActorRow). length a.times ≡ a.phases) g.actors
