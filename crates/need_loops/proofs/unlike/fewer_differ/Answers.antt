use Rattle.std.proofs.Common.{◌≡◌, ◌≤◌, ◌<◌, ⊎_elim, arith}
use Rattle.std.proofs.lemmas.Bool.{cases_lt}
use Rattle.need_loops.specs.inside.Showing.{Differ}
use Rattle.need_loops.proofs.unlike.fewer_differ.Goals as goal

pub loop-fewer-preserved : goal.loop-fewer-preserved
loop-fewer-preserved g c =
    let here : Differ (g.F.Firing.net c.args.net.now) c.args.starts.now c.args.after c.loop-fewer.fewer = c.differ.ensures c.if-not-differ.false in
    λ k some below. ⊎_elim
    (λ (old : k < c.loop-fewer.fewer). c.loop-fewer.invariant k some old)
    (λ (last : c.loop-fewer.fewer ≤ k). let same : k ≡ c.loop-fewer.fewer = omega arith in rw same here)
    (cases_lt k c.loop-fewer.fewer)
