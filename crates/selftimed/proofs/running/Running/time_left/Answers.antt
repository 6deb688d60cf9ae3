use Rattle.std.proofs.Common.{◌≡◌, ◌%◌, ◌^◌, length, ap, ◌∙◌}
use Rattle.std.specs.Prelude.{sum}
use Rattle.selftimed.proofs.RunningFingerprints.{left-total}
use Rattle.selftimed.proofs.running.Running.time_left.Goals as goal

pub returns : goal.returns
returns c =
    let firings : c.self.inside.firings ≡ length c.args.self.now = c.self.invariant.firings ∙ ap length c.self.view_is in
    let total : c.self.inside.total ≡ sum c.args.self.now % 2 ^ 64 = rw c.self.view_is at c.self.invariant.total in
    rw firings (left-total c.args.moment c.self.inside.total c.args.self.now c.requires total)
