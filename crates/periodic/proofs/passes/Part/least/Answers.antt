use Rattle.std.proofs.Common.{refl}
use Rattle.std.specs.Prelude.{slice_index}
use Rattle.periodic.proofs.MovedBack.{least-more}
use Rattle.periodic.proofs.passes.Part.least.Goals as goal

pub loop-place-preserved : goal.loop-place-preserved
loop-place-preserved c = rw c.min-least.ensures (least-more (slice_index c.args.self.now.starts.now) c.loop-place.place c.loop-place.least _ c.loop-place.invariant refl)
