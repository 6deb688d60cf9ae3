use Rattle.std.proofs.Common.{refl}
use Rattle.std.proofs.lemmas.Bool.{false≢true}
use Rattle.sd_base.specs.SelfTimed.{shape_at}
use Rattle.selftimed.specs.EngineShapes.{first_shape}
use Rattle.selftimed.specs.inside.Standings.{phases_now, remaining_now}
use Rattle.selftimed.proofs.ExecutionStands.{fresh-form, here-long, here-past, shape-phases, shape-remaining, shape-same, shape-tokens, stands-form}
use Rattle.selftimed.proofs.engine.Engine.same_shape.Goals as goal

pub same_phases-requires : goal.same_phases-requires
same_phases-requires g c = rw c.as_slice-3.ensures.value (here-long (g.F.Firing.net c.args.self.now.net.now) (g.met.F.Firing.lawful c.args.self.now.net.now) c.args.self.now.stage c.args.self.now.moment c.args.self.now.most c.args.self.now.actors.items c.args.self.now.tokens c.args.self.now.all c.args.self.now.fresh c.args.self.now.stands c.requires)

pub same_remaining-requires : goal.same_remaining-requires
same_remaining-requires g c = rw c.as_slice-5.ensures.value (here-past (g.F.Firing.net c.args.self.now.net.now) (g.met.F.Firing.lawful c.args.self.now.net.now) c.args.self.now.stage c.args.self.now.moment c.args.self.now.most c.args.self.now.actors.items c.args.self.now.tokens c.args.self.now.all c.args.self.now.fresh c.args.self.now.stands c.requires)

pub returns-then-not-same_tokens : goal.returns-then-not-same_tokens
returns-then-not-same_tokens g c = record {
  fresh = λ is. (
    λ not. absurd (false≢true not),
    λ same. absurd (false≢true (c.if-not-same_tokens.ensures.1 (rw (c.as_slice.ensures, c.as_slice-2.ensures) (shape-tokens c.args.self.now.tokens (phases_now (g.F.Firing.net c.args.self.now.net.now) c.args.self.now.actors.items) (remaining_now c.args.self.now.moment c.args.self.now.actors.items)
        (first_shape (g.F.Firing.net c.args.self.now.net.now)) (fresh-form (g.F.Firing.net c.args.self.now.net.now) (g.met.F.Firing.lawful c.args.self.now.net.now) c.args.self.now.most c.args.self.now.actors.items c.args.self.now.tokens c.args.self.now.all (c.args.self.now.fresh is) c.args.self.now.moment) c.args.other.now same)))),
  );
  running = λ is. (
    λ not. absurd (false≢true not),
    λ same. absurd (false≢true (c.if-not-same_tokens.ensures.1 (rw (c.as_slice.ensures, c.as_slice-2.ensures) (shape-tokens c.args.self.now.tokens (phases_now (g.F.Firing.net c.args.self.now.net.now) c.args.self.now.actors.items) (remaining_now c.args.self.now.moment c.args.self.now.actors.items)
        (shape_at (g.F.Firing.net c.args.self.now.net.now) c.args.self.now.moment) (stands-form (g.F.Firing.net c.args.self.now.net.now) (g.met.F.Firing.lawful c.args.self.now.net.now) c.args.self.now.moment c.args.self.now.most c.args.self.now.actors.items c.args.self.now.tokens c.args.self.now.all (c.args.self.now.stands is)) c.args.other.now same)))),
  );
}

pub returns-then-not-same_phases : goal.returns-then-not-same_phases
returns-then-not-same_phases g c = record {
  fresh = λ is. (
    λ not. absurd (false≢true not),
    λ same. absurd (false≢true (c.if-not-same_phases.ensures.1 (rw (c.as_slice-3.ensures.value, c.as_slice-4.ensures) (shape-phases c.args.self.now.tokens (phases_now (g.F.Firing.net c.args.self.now.net.now) c.args.self.now.actors.items) (remaining_now c.args.self.now.moment c.args.self.now.actors.items)
        (first_shape (g.F.Firing.net c.args.self.now.net.now)) (fresh-form (g.F.Firing.net c.args.self.now.net.now) (g.met.F.Firing.lawful c.args.self.now.net.now) c.args.self.now.most c.args.self.now.actors.items c.args.self.now.tokens c.args.self.now.all (c.args.self.now.fresh is) c.args.self.now.moment) c.args.other.now same)))),
  );
  running = λ is. (
    λ not. absurd (false≢true not),
    λ same. absurd (false≢true (c.if-not-same_phases.ensures.1 (rw (c.as_slice-3.ensures.value, c.as_slice-4.ensures) (shape-phases c.args.self.now.tokens (phases_now (g.F.Firing.net c.args.self.now.net.now) c.args.self.now.actors.items) (remaining_now c.args.self.now.moment c.args.self.now.actors.items)
        (shape_at (g.F.Firing.net c.args.self.now.net.now) c.args.self.now.moment) (stands-form (g.F.Firing.net c.args.self.now.net.now) (g.met.F.Firing.lawful c.args.self.now.net.now) c.args.self.now.moment c.args.self.now.most c.args.self.now.actors.items c.args.self.now.tokens c.args.self.now.all (c.args.self.now.stands is)) c.args.other.now same)))),
  );
}

pub returns : goal.returns
returns g c = record {
  fresh = λ is. (
    λ yes. shape-same c.args.self.now.tokens (phases_now (g.F.Firing.net c.args.self.now.net.now) c.args.self.now.actors.items) (remaining_now c.args.self.now.moment c.args.self.now.actors.items)
        (first_shape (g.F.Firing.net c.args.self.now.net.now)) (fresh-form (g.F.Firing.net c.args.self.now.net.now) (g.met.F.Firing.lawful c.args.self.now.net.now) c.args.self.now.most c.args.self.now.actors.items c.args.self.now.tokens c.args.self.now.all (c.args.self.now.fresh is) c.args.self.now.moment) c.args.other.now
        (rw (c.as_slice.ensures, c.as_slice-2.ensures) at (c.if-not-same_tokens.ensures.0 refl))
        (rw (c.as_slice-3.ensures.value, c.as_slice-4.ensures) at (c.if-not-same_phases.ensures.0 refl))
        (rw (c.as_slice-5.ensures.value, c.as_slice-6.ensures) at (c.same_remaining.ensures.0 yes)),
    λ same. c.same_remaining.ensures.1 (rw (c.as_slice-5.ensures.value, c.as_slice-6.ensures) (shape-remaining c.args.self.now.tokens (phases_now (g.F.Firing.net c.args.self.now.net.now) c.args.self.now.actors.items) (remaining_now c.args.self.now.moment c.args.self.now.actors.items)
        (first_shape (g.F.Firing.net c.args.self.now.net.now)) (fresh-form (g.F.Firing.net c.args.self.now.net.now) (g.met.F.Firing.lawful c.args.self.now.net.now) c.args.self.now.most c.args.self.now.actors.items c.args.self.now.tokens c.args.self.now.all (c.args.self.now.fresh is) c.args.self.now.moment) c.args.other.now same)),
  );
  running = λ is. (
    λ yes. shape-same c.args.self.now.tokens (phases_now (g.F.Firing.net c.args.self.now.net.now) c.args.self.now.actors.items) (remaining_now c.args.self.now.moment c.args.self.now.actors.items)
        (shape_at (g.F.Firing.net c.args.self.now.net.now) c.args.self.now.moment) (stands-form (g.F.Firing.net c.args.self.now.net.now) (g.met.F.Firing.lawful c.args.self.now.net.now) c.args.self.now.moment c.args.self.now.most c.args.self.now.actors.items c.args.self.now.tokens c.args.self.now.all (c.args.self.now.stands is)) c.args.other.now
        (rw (c.as_slice.ensures, c.as_slice-2.ensures) at (c.if-not-same_tokens.ensures.0 refl))
        (rw (c.as_slice-3.ensures.value, c.as_slice-4.ensures) at (c.if-not-same_phases.ensures.0 refl))
        (rw (c.as_slice-5.ensures.value, c.as_slice-6.ensures) at (c.same_remaining.ensures.0 yes)),
    λ same. c.same_remaining.ensures.1 (rw (c.as_slice-5.ensures.value, c.as_slice-6.ensures) (shape-remaining c.args.self.now.tokens (phases_now (g.F.Firing.net c.args.self.now.net.now) c.args.self.now.actors.items) (remaining_now c.args.self.now.moment c.args.self.now.actors.items)
        (shape_at (g.F.Firing.net c.args.self.now.net.now) c.args.self.now.moment) (stands-form (g.F.Firing.net c.args.self.now.net.now) (g.met.F.Firing.lawful c.args.self.now.net.now) c.args.self.now.moment c.args.self.now.most c.args.self.now.actors.items c.args.self.now.tokens c.args.self.now.all (c.args.self.now.stands is)) c.args.other.now same)),
  );
}
