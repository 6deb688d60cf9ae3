use Rattle.std.proofs.Common.{◌≡◌, ◌+◌, ◌<◌, ◌≤◌, length, ℕ}
use Rattle.std.specs.Prelude.{slice_index_or}
use Rattle.fanout.proofs.parts.in_turn.Given as goal

abbrev pub invariant-loop-k : goal.invariant-loop-k
invariant-loop-k g l =
    (length l.jobs ≡ length l.initial.jobs)
    × ((i : ℕ) (d : g.row.J.Denot) → l.k ≤ i → slice_index_or l.jobs i d ≡ slice_index_or l.initial.jobs i d)
    × ((i : ℕ) (d : g.row.J.Denot) → i < l.k → i < length l.initial.jobs → g.J.Job.ran (slice_index_or l.initial.jobs i d) (slice_index_or l.jobs i d))
    × ((i : ℕ) → i < l.k → g.G.Gate.entered l.gate l.place.level (l.place.first + i))
