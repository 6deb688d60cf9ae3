-- What a net is tested for before it is executed, and an analysis after that.
use Rattle.std.specs.Prelude.{◌≡◌, ℕ, ◌<◌, List, length, Option, None}
use Rattle.sd_base.specs.declared.tables.GraphFile.{GraphFile}
use Rattle.sd_base.specs.Net.{Net}
use Rattle.sd_base.specs.Connection.{IsStronglyConnected, ends_of}
use Rattle.sd_base.specs.Untimed.{IsLive}
use Rattle.balance.specs.ConnectRefusals.{HasInput, IsConnectRefusal, IsFirstWithoutInput}
use Rattle.balance.specs.declared.connection.ConnectError.TheVariants as connecting
use Rattle.sd_base.specs.Untimed.{IsBlockedBy}
use Rattle.storage.specs.IncidentActors.{AreIncident, IsFirstIsolated}
use Rattle.report.specs.declared.refusal.Refusal.{Refusal}
use Rattle.report.specs.declared.refusal.Refusal.TheVariants.{Deadlock, NoInput, OneWay}
use Rattle.report.specs.LackTexts.{lacks_list}
use Rattle.sd_steps.specs.ActorNames.{actor_shown}
use Rattle.sd_steps.specs.Courses.{Analysis, Ending, After, Step, deciding, ends_by, through}

-- no path leads from one actor to another
pub record IsOneWay (graph : GraphFile) (net : Net) (refusal : Refusal) : Type 0 where
  pub from : ℕ
  pub to : ℕ
  pub is : IsConnectRefusal (length net.times) (ends_of net) (connecting.OneWay from to)
  pub told : refusal ≡ OneWay (actor_shown graph from) (actor_shown graph to)

-- testing that paths lead from each actor to each
abbrev pub joining : GraphFile → Net → Step (Unit {0})
joining graph net = deciding (λ done. IsStronglyConnected net) (λ refusal. IsOneWay graph net refusal)

-- a channel leads into each actor
abbrev pub IsFed : Net → Type 0
IsFed net = (a : ℕ) → a < length net.times → HasInput (ends_of net) a

-- no channel leads into an actor
pub record IsUnfed (graph : GraphFile) (net : Net) (refusal : Refusal) : Type 0 where
  pub actor : ℕ
  pub is : IsFirstWithoutInput (length net.times) (ends_of net) actor
  pub told : refusal ≡ NoInput None (actor_shown graph actor)

abbrev pub feeding : GraphFile → Net → Step (Unit {0})
feeding graph net = deciding (λ done. IsFed net) (λ refusal. IsUnfed graph net refusal)

-- no channel begins or ends at an actor, the first such one, so it has no input, even where each channel has a free space
pub record IsIsolated (graph : GraphFile) (net : Net) (refusal : Refusal) : Type 0 where
  pub actor : ℕ
  pub is : IsFirstIsolated net actor
  pub told : refusal ≡ NoInput None (actor_shown graph actor)

-- testing that a channel begins or ends at each actor: then each has an input where each channel has a free space
abbrev pub testing_incident : GraphFile → Net → Step (Unit {0})
testing_incident graph net = deciding (λ done. AreIncident net) (λ refusal. IsIsolated graph net refusal)

-- no round can be completed
pub record IsDeadlocked (graph : GraphFile) (net : Net) (refusal : Refusal) : Type 0 where
  pub counts : List ℕ
  pub lacks : List (Option ℕ)
  pub is : IsBlockedBy net counts lacks
  pub told : refusal ≡ Deadlock None (lacks_list graph net counts lacks)

abbrev pub completing : GraphFile → Net → Step (Unit {0})
completing graph net = deciding (λ done. IsLive net) (λ refusal. IsDeadlocked graph net refusal)

-- all tests of a net that is executed, one after another
abbrev pub testing : GraphFile → Net → Step (Unit {0})
testing graph net =
    through (joining graph net) λ joined.
    through (feeding graph net) λ fed.
    completing graph net

-- an analysis of a net that passes them
abbrev pub on_live : GraphFile → Net → Analysis → Ending → ℕ → Type 0
on_live graph net analysis = After (testing graph net) λ live. ends_by analysis
