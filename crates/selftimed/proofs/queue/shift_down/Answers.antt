use Rattle.selftimed.proofs.RunsShiftForward.{shifted-all}
use Rattle.selftimed.proofs.queue.shift_down.Goals as goal

pub returns : goal.returns
returns c = shifted-all c.args.runs.now c.loop-place.runs c.args.from c.loop-place.place c.requires c.loop-place-test.false c.loop-place.invariant
