-- The lists of a shape, as they are read off the actors.
use Rattle.std.specs.Prelude.{ℕ, ◌-◌, ◌%◌, ◌≤◌, ◌<◌, List, length, map, slice_index}
use Rattle.std.specs.List.{range_with_len}
use Rattle.sd_base.specs.Net.{Net}
use Rattle.sd_base.specs.Schedules.{phases_at}
use Rattle.selftimed.specs.declared.actors.ActorState.{ActorState}
use Rattle.selftimed.specs.inside.Actors.{started_in, running_in}

-- by actor the phase of its next firing
abbrev pub phases_now : Net → List ActorState → List ℕ
phases_now net actors = map (λ a. started_in actors a % phases_at net a) (range_with_len 0 (length net.times))

-- by actor the times from a moment to the ends of its running firings
abbrev pub remaining_now : ℕ → List ActorState → List (List ℕ)
remaining_now moment actors = map (λ (s : ActorState). map (λ e. e - moment) s.running) actors

-- no running firing ended before a moment
abbrev pub IsPast : ℕ → List ActorState → Type 0
IsPast moment actors = (a k : ℕ) → a < length actors → k < length (running_in actors a) → moment ≤ slice_index (running_in actors a) k
