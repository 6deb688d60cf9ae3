-- Running firings as runs of equal ends.
use Rattle.std.specs.Prelude.{◌≡◌, ◌≢◌, ℕ, ◌+◌, ◌-◌, ◌≤◌, ◌<◌, List, length, replicate, set, slice_index_or}
use Rattle.std.specs.List.{flat_map}
use Rattle.selftimed.specs.declared.queue.Run.{Run}

-- what stands for a run past the last one
abbrev pub no_run : Run
no_run = record { end = 0; firings = 0 }

abbrev pub run_at : List Run → ℕ → Run
run_at runs k = slice_index_or runs k no_run

-- by firing the moment at which it ends
abbrev pub ends_of : List Run → List ℕ
ends_of runs = flat_map (λ (r : Run). replicate r.firings r.end) runs

-- no run is empty, and those beside each other have different ends, so that no other runs have the same ends
pub record AreRuns (runs : List Run) : Type 0 where
  pub some : (k : ℕ) → k < length runs → 0 < (run_at runs k).firings
  pub apart : (k : ℕ) → k + 1 < length runs → (run_at runs k).end ≢ (run_at runs (k + 1)).end

-- there are runs, and the last one ends at a moment
abbrev pub EndsLastAt : List Run → ℕ → Type 0
EndsLastAt runs moment = (0 < length runs) × ((run_at runs (length runs - 1)).end ≡ moment)

-- a run with more firings
abbrev pub more_of : Run → ℕ → Run
more_of r n = record { end = r.end; firings = r.firings + n }

-- the last run has more firings
abbrev pub grown : List Run → ℕ → List Run
grown runs n = set runs (length runs - 1) (more_of (run_at runs (length runs - 1)) n)

-- a run as the time that is left from a moment to its end
abbrev pub left_of : ℕ → Run → Run
left_of moment r = record { end = r.end - moment; firings = r.firings }

-- no run ended before a moment
abbrev pub NoneEnded : ℕ → List Run → Type 0
NoneEnded moment runs = (k : ℕ) → k < length runs → moment ≤ (run_at runs k).end
