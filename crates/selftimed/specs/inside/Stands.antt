-- Where an execution stands against the earliest schedule.
use Rattle.std.specs.Prelude.{◌≡◌, ℕ, suc, ◌+◌, ◌*◌, ◌≤◌, ◌<◌, true, false, List, length, slice_index, ◌==◌}
use Rattle.sd_base.specs.declared.limits.TheConstants.{TIME}
use Rattle.std.specs.List.{list_any}
use Rattle.sd_base.specs.Net.{Channel, Net}
use Rattle.sd_base.specs.Schedules.{Lacks, count_of, end_of}
use Rattle.sd_base.specs.SelfTimed.{ended_by, earliest, is_event}
use Rattle.sd_base.proofs.FiringOrdersEnd.{sum_to}
use Rattle.selftimed.specs.declared.actors.ActorState.{ActorState}
use Rattle.selftimed.specs.inside.Actors.{started_in, ended_in, running_in, touched_in, lacking_in, LacksAt, Stand, Counted}

-- nothing has started, and an actor that isn't to be looked at lacks tokens on the channel that is noted
pub record IsFresh (net : Net) (most : ℕ) (actors : List ActorState) (tokens : List ℕ) (all : ℕ) : Type 0 where
  pub stand : Stand net actors tokens
  pub counted : Counted actors all most
  pub started : (a : ℕ) → a < length net.times → started_in actors a ≡ 0
  pub lacks : (a : ℕ) → a < length net.times → touched_in actors a ≡ false → LacksAt net (λ b. 0) a 0 (lacking_in actors a)

-- the starts up to and with the moment are those of the earliest schedule, and what has ended by then has ended
pub record Stands (net : Net) (moment most : ℕ) (actors : List ActorState) (tokens : List ℕ) (all : ℕ) : Type 0 where
  pub stand : Stand net actors tokens
  pub counted : Counted actors all most
  pub fed : (a : ℕ) → a < length net.times → list_any (λ (c : Channel). c.target == a) net.channels ≡ true
  pub counts : (a : ℕ) → a < length net.times → started_in actors a ≡ count_of (earliest net (suc moment)) a
  pub ended : (a : ℕ) → a < length net.times → ended_in actors a ≡ ended_by net moment (earliest net (suc moment)) a
  pub ends : (a k : ℕ) → a < length net.times → k < length (running_in actors a) →
      slice_index (running_in actors a) k ≡ end_of net (earliest net (suc moment)) a (ended_in actors a + k)
  pub calm : (a : ℕ) → a < length net.times → touched_in actors a ≡ false
  pub lacks : (a : ℕ) → a < length net.times → LacksAt net (ended_in actors) a (started_in actors a) (lacking_in actors a)
  pub clock : moment ≤ TIME * sum_to (ended_in actors) (length net.times)
  pub event : is_event net moment ≡ true

-- the starts of moment 0 are made: the execution stands at 0, or nothing can start
pub record Begins (net : Net) (most : ℕ) (actors : List ActorState) (tokens : List ℕ) (all : ℕ) : Type 0 where
  pub stands : Stands net 0 most actors tokens all
  pub again : all ≡ 0 → IsFresh net most actors tokens all
  pub stuck : all ≡ 0 → (a : ℕ) → a < length net.times → Lacks net (λ b. 0) a 0
