use Rattle.std.proofs.Common.{◌∙◌}
use Rattle.sd_base.specs.SelfTimed.{shape_at}
use Rattle.selftimed.specs.EngineShapes.{first_shape}
use Rattle.selftimed.specs.inside.Standings.{phases_now, remaining_now}
use Rattle.selftimed.proofs.ExecutionStands.{fresh-form, here-long, here-past, shape-read, stands-form}
use Rattle.selftimed.proofs.engine.Engine.shape.Goals as goal

pub phases_of-requires : goal.phases_of-requires
phases_of-requires g c = rw c.as_slice-2.ensures.value (here-long (g.F.Firing.net c.args.self.now.net.now) (g.met.F.Firing.lawful c.args.self.now.net.now) c.args.self.now.stage c.args.self.now.moment c.args.self.now.most c.args.self.now.actors.items c.args.self.now.tokens c.args.self.now.all c.args.self.now.fresh c.args.self.now.stands c.requires)

pub remaining_of-requires : goal.remaining_of-requires
remaining_of-requires g c = rw c.as_slice-3.ensures.value (here-past (g.F.Firing.net c.args.self.now.net.now) (g.met.F.Firing.lawful c.args.self.now.net.now) c.args.self.now.stage c.args.self.now.moment c.args.self.now.most c.args.self.now.actors.items c.args.self.now.tokens c.args.self.now.all c.args.self.now.fresh c.args.self.now.stands c.requires)

pub returns : goal.returns
returns g c = record {
  fresh = λ is. shape-read c.args.self.now.tokens (phases_now (g.F.Firing.net c.args.self.now.net.now) c.args.self.now.actors.items) (remaining_now c.args.self.now.moment c.args.self.now.actors.items)
      (first_shape (g.F.Firing.net c.args.self.now.net.now)) (fresh-form (g.F.Firing.net c.args.self.now.net.now) (g.met.F.Firing.lawful c.args.self.now.net.now) c.args.self.now.most c.args.self.now.actors.items c.args.self.now.tokens c.args.self.now.all (c.args.self.now.fresh is) c.args.self.now.moment)
      c.in_ok-tokens_of.field-0 c.in_ok-phases_of.field-0 c.in_ok-remaining_of.field-0 (c.in_ok-tokens_of.ensures ∙ c.as_slice.ensures)
      (rw (← c.as_slice-2.ensures.value) c.in_ok-phases_of.ensures) (rw (← c.as_slice-3.ensures.value) c.in_ok-remaining_of.ensures);
  running = λ is. shape-read c.args.self.now.tokens (phases_now (g.F.Firing.net c.args.self.now.net.now) c.args.self.now.actors.items) (remaining_now c.args.self.now.moment c.args.self.now.actors.items)
      (shape_at (g.F.Firing.net c.args.self.now.net.now) c.args.self.now.moment) (stands-form (g.F.Firing.net c.args.self.now.net.now) (g.met.F.Firing.lawful c.args.self.now.net.now) c.args.self.now.moment c.args.self.now.most c.args.self.now.actors.items c.args.self.now.tokens c.args.self.now.all (c.args.self.now.stands is))
      c.in_ok-tokens_of.field-0 c.in_ok-phases_of.field-0 c.in_ok-remaining_of.field-0 (c.in_ok-tokens_of.ensures ∙ c.as_slice.ensures)
      (rw (← c.as_slice-2.ensures.value) c.in_ok-phases_of.ensures) (rw (← c.as_slice-3.ensures.value) c.in_ok-remaining_of.ensures);
}
