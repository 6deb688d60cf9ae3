use Rattle.std.proofs.Common.{◌≡◌, ◌-◌, length, set, drop, ap, ◌∙◌, refl}
use Rattle.std.proofs.lemmas.List.{length-set, take_at}
use Rattle.selftimed.proofs.RunsListEnds.{grown-drop}
use Rattle.selftimed.specs.inside.Runs.{more_of, run_at}
use Rattle.selftimed.proofs.queue.Queue.grow_last.Goals as goal

pub returns : goal.returns
returns c =
    let written : c.grow.new.runs ≡ set c.self.inside.runs.items (length c.self.inside.runs.items - 1) (more_of (run_at c.self.inside.runs.items (length c.self.inside.runs.items - 1)) c.args.firings) =
    rw (c.as_mut_slice.ensures.value, c.len-last.ensures.value) at c.grow.ensures in
    let long : length c.grow.new.runs ≡ length c.self.inside.runs.items = ap length written ∙ length-set c.self.inside.runs.items (length c.self.inside.runs.items - 1) _ in
    ap (drop c.self.inside.head) (take_at c.grow.new.runs (drop (length c.grow.new.runs) c.self.inside.runs.items) (length c.self.inside.runs.items) long ∙ written)
    ∙ grown-drop c.self.inside.runs.items c.args.self.now c.self.inside.head c.args.firings (length c.self.inside.runs.items - 1) c.self.view_is c.requires.some refl
