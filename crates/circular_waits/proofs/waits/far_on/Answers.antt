use Rattle.std.proofs.Common.{subst, sym}
use Rattle.circular_waits.specs.inside.Following.{IsNamed}
use Rattle.circular_waits.proofs.waits.far_on.Goals as goal

pub awaited-actor-requires : goal.awaited-actor-requires
awaited-actor-requires g c =
    subst (IsNamed (g.F.Firing.net c.args.net.now) c.args.lacks.now) (sym c.loop-step.invariant) (c.requires c.loop-step._step)
