-- What stands from a place on, moved to the front.
use Rattle.std.proofs.Common.{◌≡◌, ℕ, ◌+◌, ◌-◌, ◌≤◌, ◌<◌, List, length, take, drop, ap, ◌∙◌, arith}
use Rattle.std.proofs.lemmas.List.{length-take, length-drop, get_or-take, get_or-drop, ext_get_or}
use Rattle.selftimed.specs.declared.queue.Run.{Run}
use Rattle.selftimed.specs.inside.Runs.{no_run, run_at}

-- the first places have what stood further on, and the rest is as it was
pub record Shifted (old now : List Run) (from place : ℕ) : Type 0 where
  pub long : length now ≡ length old
  pub moved : (k : ℕ) → k + from < place → run_at now k ≡ run_at old (k + from)
  pub rest : (k : ℕ) → place ≤ k + from → run_at now k ≡ run_at old k

pub shifted-all : (old now : List Run) (from place : ℕ) → from ≤ length old → length old ≤ place → Shifted old now from place → take (length old - from) now ≡ drop from old
shifted-all old now from place fits past so_far = ext_get_or no_run (take (length old - from) now) (drop from old) lengths reads
  where
    lengths : length (take (length old - from) now) ≡ length (drop from old)
    lengths = omega (arith, length-take (length old - from) now, length-drop from old, so_far.long)

    reads : (k : ℕ) → k < length (take (length old - from) now) → run_at (take (length old - from) now) k ≡ run_at (drop from old) k
    reads k below =
        let inside : k < length old - from = omega (arith, length-take (length old - from) now) in
        rw (get_or-take (length old - from) now k no_run inside, get_or-drop from old k no_run) (so_far.moved k (omega arith) ∙ ap (run_at old) (omega arith))
