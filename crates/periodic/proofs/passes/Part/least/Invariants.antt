use Rattle.std.specs.Prelude.{slice_index}
use Rattle.periodic.specs.inside.Passes.{IsLeast}
use Rattle.periodic.proofs.passes.Part.least.Given as goal

abbrev pub invariant-loop-place : goal.invariant-loop-place
invariant-loop-place l = IsLeast (slice_index l.self.starts.now) l.place l.least
