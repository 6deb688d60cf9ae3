use Rattle.std.proofs.Common.{ℕ, List, ◌<◌, length, subst, sym, ◌∙◌}
use Rattle.std.specs.Prelude.{slice_index}
use Rattle.firing.proofs.GroupsMakeWirings.{ends-below}
use Rattle.firing.proofs.wiring.channels_by_actor.Goals as goal

pub new-requires-clause-below : goal.new-requires-clause-below
new-requires-clause-below g c =
    subst (λ (list : List ℕ). (i : ℕ) → i < length list → slice_index list i < c.actors.result) (sym (c.as_slice.ensures.value ∙ c.in_ok-ends.ensures))
    (rw c.actors.ensures (ends-below (g.F.Firing.net c.args.net.now) c.args.port c.know_laws.ensures))
