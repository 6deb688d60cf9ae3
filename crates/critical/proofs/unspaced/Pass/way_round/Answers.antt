use Rattle.std.proofs.Common.{arith}
use Rattle.critical.proofs.PassesRepeat.{actors-same}
use Rattle.critical.proofs.SearchTurns.{ranks-all, marked-actor}
use Rattle.critical.proofs.unspaced.Pass.way_round.Goals as goal

pub loop-actor-init : goal.loop-actor-init
loop-actor-init g c = record {
  so_far = c.requires.marks;
  marked = λ x second below. absurd (omega arith);
}

pub way_from_actor-requires-clause-actor : goal.way_from_actor-requires-clause-actor
way_from_actor-requires-clause-actor g c =
    omega (arith, c.actors-actor-end.ensures, actors-same (g.F.Firing.net c.args.self.now.wired.now.net.now) c.requires.pass.short.laws c.requires.pass.short.inputs c.args.self.now.table.now c.requires.pass.short.loop)

pub loop-actor-preserved : goal.loop-actor-preserved
loop-actor-preserved g c = let next = rw c.in_default.is at c.in_ok-way.ensures in record {
  so_far = next.0.so_far;
  marked = marked-actor (g.F.Firing.net c.args.self.now.wired.now.net.now) c.args.self.now.table.now c.loop-actor.marks c.way_from_actor.new.marks c.loop-actor.actor c.loop-actor.invariant.marked next.0 next.1;
}

pub returns : goal.returns
returns g c =
    ranks-all (g.F.Firing.net c.args.self.now.wired.now.net.now) c.args.self.now.table.now c.loop-actor.marks c.loop-actor.invariant.so_far
    (λ x second. c.loop-actor.invariant.marked x second (omega (
      arith,
      second.actor,
      c.loop-actor-test.false,
      c.actors-actor-end.ensures,
      actors-same (g.F.Firing.net c.args.self.now.wired.now.net.now) c.requires.pass.short.laws c.requires.pass.short.inputs c.args.self.now.table.now c.requires.pass.short.loop,
    )))
