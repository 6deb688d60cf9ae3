use Rattle.std.proofs.Common.{ℕ, ◌+◌, ap, refl, arith}
use Rattle.sd_base.specs.Schedules.{count_of}
use Rattle.critical.specs.inside.Trails.{second_of}
use Rattle.critical.proofs.SearchTurns.{goes-none, goes-further, marked-more}
use Rattle.critical.proofs.unspaced.Pass.way_from_actor.Goals as goal

pub loop-behind-init : goal.loop-behind-init
loop-behind-init g c = record {
  goes = goes-none (g.F.Firing.net c.args.self.now.wired.now.net.now) c.args.self.now.table.now c.args.marks.now c.requires.marks;
  marked = λ x second of below. absurd (omega (arith, second.from, ap (second_of c.args.self.now.table.now) of));
}

pub loop-behind-preserved : goal.loop-behind-preserved
loop-behind-preserved g c = let next = rw c.in_default.is at c.in_ok-way.ensures in record {
  goes = goes-further (g.F.Firing.net c.args.self.now.wired.now.net.now) c.args.self.now.table.now c.args.marks.now c.loop-behind.marks c.way_from.new.marks c.loop-behind.invariant.goes next.0;
  marked = marked-more (g.F.Firing.net c.args.self.now.wired.now.net.now) c.args.self.now.table.now c.args.marks.now c.loop-behind.marks c.way_from.new.marks c.args.actor c.loop-behind.behind
      (record { actor = c.args.actor; number = c.second_of-second.result + c.loop-behind.behind }) refl (omega (arith, c.second_of-second.ensures))
      c.loop-behind.invariant.goes next.0 c.loop-behind.invariant.marked next.1;
}

pub returns : goal.returns
returns g c = (
  c.loop-behind.invariant.goes,
  λ x second of. c.loop-behind.invariant.marked x second of
      (omega (arith, second.below, c.pass_of-behind-end.ensures, c.loop-behind-test.false, ap (λ (a : ℕ). second_of c.args.self.now.table.now a + count_of c.args.self.now.table.now.starts a) of)),
)
