use Rattle.std.proofs.Common.{ℕ, List, ◌++◌, replicate}
use Rattle.liveness.proofs.series.note_series.Given as goal

abbrev pub invariant-loop-firing : goal.invariant-loop-firing
invariant-loop-firing g l = (order : List ℕ) → g.N.Note.holds l.initial.note order → g.N.Note.holds l.note (order ++ replicate l._firing l.actor)
