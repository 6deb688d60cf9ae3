-- What is kept of running firings.
use Rattle.std.specs.Prelude.{◌≡◌, ℕ, ◌%◌, ◌^◌, ◌<◌, List, [], ◌∷◌, length, sum}
use Rattle.selftimed.specs.declared.queue.Run.{Run}
use Rattle.selftimed.specs.inside.Runs.{ends_of, AreRuns}
use Rattle.selftimed.specs.declared.running.Running.TheInside.{Inside}

-- by firing the moment at which it ends: a first run without firings adds none
abbrev pub kept_ends : Inside → List ℕ
kept_ends r = ends_of (r.first ∷ r.later)

-- a first run and the later ones, of which there are none where the first one has no firings
pub record AreKept (first : Run) (later : List Run) : Type 0 where
  pub runs : 0 < first.firings → AreRuns (first ∷ later)
  pub none : first.firings ≡ 0 → later ≡ []

-- the runs with the number of their firings and the sum of their ends
pub record IsKept (r : Inside) : Type 0 where
  pub kept : AreKept r.first r.later
  pub firings : r.firings ≡ length (ends_of (r.first ∷ r.later))
  pub total : r.total ≡ sum (ends_of (r.first ∷ r.later)) % 2 ^ 64
