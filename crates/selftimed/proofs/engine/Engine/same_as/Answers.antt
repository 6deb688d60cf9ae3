use Rattle.std.proofs.Common.{refl, sym, ◌∙◌}
use Rattle.std.proofs.lemmas.Bool.{false≢true}
use Rattle.sd_base.specs.SelfTimed.{shape_at}
use Rattle.selftimed.specs.inside.Standings.{phases_now, remaining_now}
use Rattle.selftimed.specs.inside.Stands.{Stands}
use Rattle.selftimed.proofs.ExecutionStands.{stands-past, standing, stands-form, shape-tokens, shape-phases, shape-remaining, shape-same}
use Rattle.selftimed.proofs.engine.Engine.same_as.Goals as goal

pub returns-then-not-same_as : goal.returns-then-not-same_as
returns-then-not-same_as g c =
    let theirs : Stands (g.F.Firing.net c.args.self.now.net.now) c.args.other.now.moment c.args.other.now.most c.args.other.now.actors.items c.args.other.now.tokens c.args.other.now.all = rw c.requires.net at (c.args.other.now.stands c.requires.there) in (
      λ not. absurd (false≢true not),
      λ same. absurd (false≢true (c.if-not-same_as.ensures.1 ((shape-tokens c.args.self.now.tokens (phases_now (g.F.Firing.net c.args.self.now.net.now) c.args.self.now.actors.items) (remaining_now c.args.self.now.moment c.args.self.now.actors.items) (shape_at (g.F.Firing.net c.args.self.now.net.now) c.args.self.now.moment) (stands-form (g.F.Firing.net c.args.self.now.net.now) (g.met.F.Firing.lawful c.args.self.now.net.now) c.args.self.now.moment c.args.self.now.most c.args.self.now.actors.items c.args.self.now.tokens c.args.self.now.all (c.args.self.now.stands c.requires.here)) (standing (g.F.Firing.net c.args.self.now.net.now) (g.met.F.Firing.lawful c.args.self.now.net.now) c.args.other.now.moment c.args.other.now.most c.args.other.now.actors.items c.args.other.now.tokens c.args.other.now.all theirs) (same ∙ sym (stands-form (g.F.Firing.net c.args.self.now.net.now) (g.met.F.Firing.lawful c.args.self.now.net.now) c.args.other.now.moment c.args.other.now.most c.args.other.now.actors.items c.args.other.now.tokens c.args.other.now.all theirs)))))),
    )

pub same_stands-requires-clause-left : goal.same_stands-requires-clause-left
same_stands-requires-clause-left g c = rw c.as_slice.ensures.value (c.args.self.now.stands c.requires.here).stand.long

pub same_stands-requires-clause-right : goal.same_stands-requires-clause-right
same_stands-requires-clause-right g c = rw (c.as_slice-2.ensures.value, ← c.requires.net) (c.args.other.now.stands c.requires.there).stand.long

pub returns-then-not-same_stands : goal.returns-then-not-same_stands
returns-then-not-same_stands g c =
    let theirs : Stands (g.F.Firing.net c.args.self.now.net.now) c.args.other.now.moment c.args.other.now.most c.args.other.now.actors.items c.args.other.now.tokens c.args.other.now.all = rw c.requires.net at (c.args.other.now.stands c.requires.there) in (
      λ not. absurd (false≢true not),
      λ same. absurd (false≢true (c.if-not-same_stands.ensures.1 (rw (c.as_slice.ensures.value, c.as_slice-2.ensures.value) (shape-phases c.args.self.now.tokens (phases_now (g.F.Firing.net c.args.self.now.net.now) c.args.self.now.actors.items) (remaining_now c.args.self.now.moment c.args.self.now.actors.items) (shape_at (g.F.Firing.net c.args.self.now.net.now) c.args.self.now.moment) (stands-form (g.F.Firing.net c.args.self.now.net.now) (g.met.F.Firing.lawful c.args.self.now.net.now) c.args.self.now.moment c.args.self.now.most c.args.self.now.actors.items c.args.self.now.tokens c.args.self.now.all (c.args.self.now.stands c.requires.here)) (standing (g.F.Firing.net c.args.self.now.net.now) (g.met.F.Firing.lawful c.args.self.now.net.now) c.args.other.now.moment c.args.other.now.most c.args.other.now.actors.items c.args.other.now.tokens c.args.other.now.all theirs) (same ∙ sym (stands-form (g.F.Firing.net c.args.self.now.net.now) (g.met.F.Firing.lawful c.args.self.now.net.now) c.args.other.now.moment c.args.other.now.most c.args.other.now.actors.items c.args.other.now.tokens c.args.other.now.all theirs)))))),
    )

pub same_running-requires-clause-long : goal.same_running-requires-clause-long
same_running-requires-clause-long g c =
    let theirs : Stands (g.F.Firing.net c.args.self.now.net.now) c.args.other.now.moment c.args.other.now.most c.args.other.now.actors.items c.args.other.now.tokens c.args.other.now.all = rw c.requires.net at (c.args.other.now.stands c.requires.there) in
    rw (c.as_slice-3.ensures.value, c.as_slice-4.ensures.value) (theirs.stand.long ∙ sym (c.args.self.now.stands c.requires.here).stand.long)

pub same_running-requires-clause-left : goal.same_running-requires-clause-left
same_running-requires-clause-left g c = rw c.as_slice-3.ensures.value (stands-past (g.F.Firing.net c.args.self.now.net.now) (g.met.F.Firing.lawful c.args.self.now.net.now) c.args.self.now.moment c.args.self.now.most c.args.self.now.actors.items c.args.self.now.tokens c.args.self.now.all (c.args.self.now.stands c.requires.here))

pub same_running-requires-clause-right : goal.same_running-requires-clause-right
same_running-requires-clause-right g c =
    let theirs : Stands (g.F.Firing.net c.args.self.now.net.now) c.args.other.now.moment c.args.other.now.most c.args.other.now.actors.items c.args.other.now.tokens c.args.other.now.all = rw c.requires.net at (c.args.other.now.stands c.requires.there) in
    rw c.as_slice-4.ensures.value (stands-past (g.F.Firing.net c.args.self.now.net.now) (g.met.F.Firing.lawful c.args.self.now.net.now) c.args.other.now.moment c.args.other.now.most c.args.other.now.actors.items c.args.other.now.tokens c.args.other.now.all theirs)

pub returns : goal.returns
returns g c =
    let theirs : Stands (g.F.Firing.net c.args.self.now.net.now) c.args.other.now.moment c.args.other.now.most c.args.other.now.actors.items c.args.other.now.tokens c.args.other.now.all = rw c.requires.net at (c.args.other.now.stands c.requires.there) in (
      λ is. shape-same c.args.self.now.tokens (phases_now (g.F.Firing.net c.args.self.now.net.now) c.args.self.now.actors.items) (remaining_now c.args.self.now.moment c.args.self.now.actors.items) (shape_at (g.F.Firing.net c.args.self.now.net.now) c.args.self.now.moment) (stands-form (g.F.Firing.net c.args.self.now.net.now) (g.met.F.Firing.lawful c.args.self.now.net.now) c.args.self.now.moment c.args.self.now.most c.args.self.now.actors.items c.args.self.now.tokens c.args.self.now.all (c.args.self.now.stands c.requires.here)) (standing (g.F.Firing.net c.args.self.now.net.now) (g.met.F.Firing.lawful c.args.self.now.net.now) c.args.other.now.moment c.args.other.now.most c.args.other.now.actors.items c.args.other.now.tokens c.args.other.now.all theirs)
          (c.if-not-same_as.ensures.0 refl)
          (rw (c.as_slice.ensures.value, c.as_slice-2.ensures.value) at (c.if-not-same_stands.ensures.0 refl))
          (rw (c.as_slice-3.ensures.value, c.as_slice-4.ensures.value) at (c.same_running.ensures.0 is)) ∙ stands-form (g.F.Firing.net c.args.self.now.net.now) (g.met.F.Firing.lawful c.args.self.now.net.now) c.args.other.now.moment c.args.other.now.most c.args.other.now.actors.items c.args.other.now.tokens c.args.other.now.all theirs,
      λ same. c.same_running.ensures.1 (rw (c.as_slice-3.ensures.value, c.as_slice-4.ensures.value) (shape-remaining c.args.self.now.tokens (phases_now (g.F.Firing.net c.args.self.now.net.now) c.args.self.now.actors.items) (remaining_now c.args.self.now.moment c.args.self.now.actors.items) (shape_at (g.F.Firing.net c.args.self.now.net.now) c.args.self.now.moment) (stands-form (g.F.Firing.net c.args.self.now.net.now) (g.met.F.Firing.lawful c.args.self.now.net.now) c.args.self.now.moment c.args.self.now.most c.args.self.now.actors.items c.args.self.now.tokens c.args.self.now.all (c.args.self.now.stands c.requires.here)) (standing (g.F.Firing.net c.args.self.now.net.now) (g.met.F.Firing.lawful c.args.self.now.net.now) c.args.other.now.moment c.args.other.now.most c.args.other.now.actors.items c.args.other.now.tokens c.args.other.now.all theirs) (same ∙ sym (stands-form (g.F.Firing.net c.args.self.now.net.now) (g.met.F.Firing.lawful c.args.self.now.net.now) c.args.other.now.moment c.args.other.now.most c.args.other.now.actors.items c.args.other.now.tokens c.args.other.now.all theirs)))),
    )
