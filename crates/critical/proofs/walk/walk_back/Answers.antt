use Rattle.std.proofs.Common.{◌≡◌, [], length, sym, ◌∙◌, ap, arith}
use Rattle.std.proofs.lemmas.List.{take_at, length_push}
use Rattle.critical.specs.inside.Trails.{first_firing}
use Rattle.critical.proofs.MarkedFiringsRecur.{met_then, marks-none, marks-next, way-first, way-next, first-kept, needs-next, here-second, here-near, here-soon, all-met, first-again, needs-again, comes-again}
use Rattle.critical.proofs.walk.walk_back.Goals as goal

pub loop-place-init : goal.loop-place-init
loop-place-init g c =
    rw c.in_ok-met.ensures.items (record {
      long = omega arith;
      first = c.first_met-here.ensures.first;
      way = way-first (g.F.Firing.net c.args.wired.now.net.now) c.args.table.now c.requires c.first_met-here.result c.first_met-here.ensures.second c.first_met-here.ensures.passes c.first_met-here.ensures.time;
      needs = λ i below. absurd (omega arith);
      marks = marks-none c.args.table.now (met_then [] c.first_met-here.result) c.in_ok-marks.marks.items c.places_of-places.result c.places_of-places.ensures c.in_ok-marks.ensures;
    })

pub class_of-requires-clause-second : goal.class_of-requires-clause-second
class_of-requires-clause-second g c =
    here-second (g.F.Firing.net c.args.wired.now.net.now) c.args.table.now c.requires c.loop-place.met.items c.loop-place.here c.loop-place.place c.loop-place.invariant.long c.loop-place.invariant.way

pub returns-in-Some-clause-first : goal.returns-in-Some-clause-first
returns-in-Some-clause-first g c =
    first-again (g.F.Firing.net c.args.wired.now.net.now) c.args.table.now c.requires c.loop-place.met.items c.push.new.self.items c.loop-place.here c.loop-place.invariant.first c.in_ok-push.ensures.items

pub returns-in-Some-clause-needs : goal.returns-in-Some-clause-needs
returns-in-Some-clause-needs g c =
    needs-again (g.F.Firing.net c.args.wired.now.net.now) c.args.table.now c.requires c.loop-place.met.items c.push.new.self.items c.loop-place.here c.loop-place.place c.loop-place.invariant.long c.loop-place.invariant.needs c.in_ok-push.ensures.items

pub returns-in-Some-clause-again : goal.returns-in-Some-clause-again
returns-in-Some-clause-again g c =
    comes-again (g.F.Firing.net c.args.wired.now.net.now) c.args.table.now c.requires c.loop-place.met.items c.push.new.self.items c.loop-place.here c.loop-place.place c.in-Some.from c.loop-place.marks.items c.loop-place.invariant.long
    (omega (arith, c.places_of-places.ensures, c.requires.short.all)) c.loop-place.invariant.way c.loop-place.invariant.marks
    (sym (rw (c.deref_mut.ensures.value, c.class_of.ensures.class) at c.in-Some.ensures.before)) c.in_ok-push.ensures.items

pub next_met-here-requires-clause-second : goal.next_met-here-requires-clause-second
next_met-here-requires-clause-second g c =
    here-second (g.F.Firing.net c.args.wired.now.net.now) c.args.table.now c.requires c.loop-place.met.items c.loop-place.here c.loop-place.place c.loop-place.invariant.long c.loop-place.invariant.way

pub next_met-here-requires-clause-near : goal.next_met-here-requires-clause-near
next_met-here-requires-clause-near g c =
    omega (arith, here-near (g.F.Firing.net c.args.wired.now.net.now) c.args.table.now c.requires c.loop-place.met.items c.loop-place.here c.loop-place.place c.loop-place.invariant.long c.loop-place.invariant.way (omega (arith, c.places_of-places.ensures, c.requires.short.all)))

pub next_met-here-requires-clause-soon : goal.next_met-here-requires-clause-soon
next_met-here-requires-clause-soon g c =
    omega (arith, here-soon (g.F.Firing.net c.args.wired.now.net.now) c.args.table.now c.requires c.loop-place.met.items c.loop-place.here c.loop-place.place c.loop-place.invariant.long c.loop-place.invariant.way (omega (arith, c.places_of-places.ensures, c.requires.short.all)))

pub loop-place-preserved : goal.loop-place-preserved
loop-place-preserved g c =
    let size : length c.mark-before.new.marks ≡ c.loop-place.marks.len = omega (arith, c.mark-before.auto.marks, c.deref_mut.ensures.len) in
    record {
      long = omega (arith, ap length c.in_ok-push.ensures.items, length_push c.loop-place.met.items c.loop-place.here, c.loop-place.invariant.long);
      first = first-kept (g.F.Firing.net c.args.wired.now.net.now) c.args.table.now c.requires c.loop-place.met.items c.loop-place.here c.loop-place.place c.loop-place.invariant.long c.loop-place.invariant.way c.push.new.self.items c.next_met-here.result c.in_ok-push.ensures.items (first_firing c.args.table.now) c.loop-place.invariant.first;
      way = way-next (g.F.Firing.net c.args.wired.now.net.now) c.args.table.now c.requires c.loop-place.met.items c.loop-place.here c.loop-place.place c.loop-place.invariant.long c.loop-place.invariant.way c.push.new.self.items c.next_met-here.result c.in_ok-push.ensures.items c.next_met-here.ensures.leads;
      needs = needs-next (g.F.Firing.net c.args.wired.now.net.now) c.args.table.now c.requires c.loop-place.met.items c.loop-place.here c.loop-place.place c.loop-place.invariant.long c.loop-place.invariant.way c.push.new.self.items c.next_met-here.result c.in_ok-push.ensures.items c.loop-place.invariant.needs c.next_met-here.ensures.first;
      marks = marks-next (g.F.Firing.net c.args.wired.now.net.now) c.args.table.now c.requires c.loop-place.met.items c.loop-place.here c.loop-place.place c.loop-place.invariant.long c.loop-place.invariant.way c.push.new.self.items c.next_met-here.result c.in_ok-push.ensures.items
          c.loop-place.marks.items c.deref_mut.result.now _ c.class_of.result c.mark-before.result c.loop-place.invariant.marks c.deref_mut.ensures.value c.class_of.ensures.class c.in_default.is c.mark-before.ensures.before
          (take_at c.mark-before.new.marks _ c.loop-place.marks.len size ∙ c.in_default.ensures.after);
    }

pub unreachable-requires : goal.unreachable-requires
unreachable-requires g c =
    all-met (g.F.Firing.net c.args.wired.now.net.now) c.args.table.now c.requires (met_then c.loop-place.met.items c.loop-place.here) c.loop-place.place c.loop-place.marks.items c.loop-place.invariant.way c.loop-place.invariant.marks
    (omega (arith, c.places_of-places.ensures, c.loop-place.invariant.marks.long))
