-- The starts that an execution has collected.
use Rattle.std.specs.Prelude.{◌≡◌, ℕ, ◌+◌, ◌-◌, ◌<◌, List, [], ◌++◌, length, replicate, slice_index_or}
use Rattle.sd_base.specs.Net.{Net}
use Rattle.sd_base.specs.Schedules.{count_of}
use Rattle.sd_base.specs.SelfTimed.{earliest}
use Rattle.selftimed.specs.declared.engine.Stage.{Stage}
use Rattle.selftimed.specs.declared.engine.Stage.TheVariants.{Fresh, Running, Spent, OutOfMemory}
use Rattle.loops.specs.StartRows.{AreStarts}

-- the rows hold the starts of an engine: none before the first event, then all up to and with the last one
abbrev pub HasStarts : Net → Stage → ℕ → List (List ℕ) → Type 0
HasStarts net Fresh now starts = starts ≡ replicate (length net.times) []
HasStarts net Running now starts = AreStarts net now starts
HasStarts net Spent now starts = ⊥
HasStarts net OutOfMemory now starts = ⊥

-- each row gains a start at a moment for each firing that has started by then and that it lacks
pub record AddsStarts (net : Net) (now : ℕ) (old new : List (List ℕ)) : Type 0 where
  pub rows : length new ≡ length old
  pub each : (a : ℕ) → a < length net.times →
      slice_index_or new a [] ≡ slice_index_or old a [] ++ replicate (count_of (earliest net (now + 1)) a - count_of old a) now
