use Rattle.std.proofs.Common.{◌≡◌, ◌∙◌, replicate}
use Rattle.liveness.proofs.CountsAreReached.{none-reached}
use Rattle.liveness.proofs.ending.no_counts.Goals as goal

pub returns : goal.returns
returns g c = λ other same.
    let zeros : c.from_vec.result ≡ replicate c.actors.result 0 = c.from_vec.ensures ∙ c.in_ok-counts.ensures.items_if_clones_equal (λ y e. e) in
    none-reached other c.from_vec.result c.actors.result zeros (rw c.actors.ensures same)
