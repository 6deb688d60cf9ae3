use Rattle.std.proofs.Common.{◌≡◌, ◌+◌, ◌-◌, ◌≤◌, ◌<◌, ◌∙◌, ◌⊎◌, [], inl, inr, length, sym, arith}
use Rattle.std.specs.Prelude.{slice_index_or}
use Rattle.std.proofs.lemmas.List.{get_or_default}
use Rattle.sd_base.specs.Schedules.{count_of}
use Rattle.sd_base.specs.SelfTimed.{earliest, shape_at}
use Rattle.loops.specs.Settling.{IsFirstSettled}
use Rattle.event_loops.specs.inside.Entering.{IsFirstTwice}
use Rattle.loops.proofs.RowsSettle.{next-settled, next-first}
use Rattle.loops.proofs.RowsTellStarts.{starts-ascend, ends-rise, count-by, rows-settle, same-over}
use Rattle.event_loops.proofs.EntryBeginsLoop.{reach-from, entry-loops}
use Rattle.event_loops.proofs.entry.entry_of.Goals as goal
use Rattle.event_loops.proofs.entry.entry_of.Goals.{then-from-settled, else-from-settled}

pub count_by-before-requires : goal.count_by-before-requires
count_by-before-requires g c =
    let actor : c.loop-actor.actor < length (g.F.Firing.net c.args.net.now).times = omega (arith, c.loop-actor-test.true, c.actors-actor-end.ensures) in
    let place : c.loop-actor.actor < length c.args.trace.now.starts.items = omega (arith, c.requires.traced.collected.rows) in
    let row : c.as_slice-row.result.now ≡ slice_index_or c.args.trace.now.starts.items c.loop-actor.actor [] = c.as_slice-row.ensures ∙ (c.index.ensures ∙ get_or_default c.args.trace.now.starts.items c.loop-actor.actor c.index.result.now [] place) in
    rw row (record { ascend = starts-ascend (g.F.Firing.net c.args.net.now) (g.met.F.Firing.lawful c.args.net.now) c.requires.inputs c.args.pair.later c.args.trace.now.starts.items c.requires.traced.collected c.loop-actor.actor actor })

pub settled_from-settled-requires-clause-rise : goal.settled_from-settled-requires-clause-rise
settled_from-settled-requires-clause-rise g c =
    let actor : c.loop-actor.actor < length (g.F.Firing.net c.args.net.now).times = omega (arith, c.loop-actor-test.true, c.actors-actor-end.ensures) in
    let place : c.loop-actor.actor < length c.args.trace.now.starts.items = omega (arith, c.requires.traced.collected.rows) in
    let row : c.as_slice-row.result.now ≡ slice_index_or c.args.trace.now.starts.items c.loop-actor.actor [] = c.as_slice-row.ensures ∙ (c.index.ensures ∙ get_or_default c.args.trace.now.starts.items c.loop-actor.actor c.index.result.now [] place) in
    rw row (ends-rise (g.F.Firing.net c.args.net.now) (g.met.F.Firing.lawful c.args.net.now) c.requires.inputs c.args.pair.later c.args.trace.now.starts.items c.requires.traced.collected c.loop-actor.actor actor)

pub loop-actor-preserved : goal.loop-actor-preserved
loop-actor-preserved g c =
    let actor : c.loop-actor.actor < length (g.F.Firing.net c.args.net.now).times = omega (arith, c.loop-actor-test.true, c.actors-actor-end.ensures) in
    let place : c.loop-actor.actor < length c.args.trace.now.starts.items = omega (arith, c.requires.traced.collected.rows) in
    let row : c.as_slice-row.result.now ≡ slice_index_or c.args.trace.now.starts.items c.loop-actor.actor [] = c.as_slice-row.ensures ∙ (c.index.ensures ∙ get_or_default c.args.trace.now.starts.items c.loop-actor.actor c.index.result.now [] place) in
    let before : c.count_by-before.result ≡ count_of (earliest (g.F.Firing.net c.args.net.now) (c.args.pair.earlier + 1)) c.loop-actor.actor =
    count-by (g.F.Firing.net c.args.net.now) (g.met.F.Firing.lawful c.args.net.now) c.requires.inputs c.args.pair.later c.args.trace.now.starts.items c.requires.traced.collected c.args.pair.earlier c.loop-actor.actor c.count_by-before.result
    (omega (arith, c.requires.pair.order)) actor (rw row at c.count_by-before.ensures) in
    let settled : IsFirstSettled (g.F.Firing.net c.args.net.now) c.loop-actor.actor (slice_index_or c.args.trace.now.starts.items c.loop-actor.actor [])
    (count_of c.args.trace.now.starts.items c.loop-actor.actor - count_of (earliest (g.F.Firing.net c.args.net.now) (c.args.pair.earlier + 1)) c.loop-actor.actor)
    (c.args.pair.later - c.args.pair.earlier) c.settled_from-settled.result =
    rw before at (rw row at c.settled_from-settled.ensures) in
    let next : (c.loop-actor.from ≤ c.if-from-settled.from) × (c.settled_from-settled.result ≤ c.if-from-settled.from) × ((c.if-from-settled.from ≡ c.loop-actor.from) ⊎ (c.if-from-settled.from ≡ c.settled_from-settled.result)) =
    elim c.if-from-settled.branch [
      | then-from-settled w ↦ (omega (arith, w.if-from-settled.true, w.from-is), omega (arith, w.from-is), inr w.from-is)
      | else-from-settled w ↦ (omega (arith, w.from-is), omega (arith, w.if-from-settled.false, w.from-is), inl w.from-is)
    ] in
    record {
      settled = next-settled (g.F.Firing.net c.args.net.now) (λ a. slice_index_or c.args.trace.now.starts.items a [])
          (λ a. count_of c.args.trace.now.starts.items a - count_of (earliest (g.F.Firing.net c.args.net.now) (c.args.pair.earlier + 1)) a) (c.args.pair.later - c.args.pair.earlier)
          c.loop-actor.actor c.loop-actor.from c.settled_from-settled.result c.if-from-settled.from c.loop-actor.invariant.settled next.0 next.1 settled.settled;
      first = next-first (g.F.Firing.net c.args.net.now) (λ a. slice_index_or c.args.trace.now.starts.items a [])
          (λ a. count_of c.args.trace.now.starts.items a - count_of (earliest (g.F.Firing.net c.args.net.now) (c.args.pair.earlier + 1)) a) (c.args.pair.later - c.args.pair.earlier)
          c.loop-actor.actor c.loop-actor.from c.settled_from-settled.result c.if-from-settled.from c.loop-actor.invariant.first settled.first next.2;
    }

pub first_twice-requires-clause-reach : goal.first_twice-requires-clause-reach
first_twice-requires-clause-reach g c =
    rw c.as_slice.ensures.value (reach-from (g.F.Firing.net c.args.net.now) (g.met.F.Firing.lawful c.args.net.now) c.requires.inputs c.args.pair c.args.trace.now.moments.items c.requires.pair c.requires.traced.events)

pub first_twice-requires-clause-from : goal.first_twice-requires-clause-from
first_twice-requires-clause-from g c =
    let all : c.loop-actor.actor ≡ length (g.F.Firing.net c.args.net.now).times = omega (arith, c.loop-actor-test.false, c.actors-actor-end.ensures, c.loop-actor.auto.actor-end) in
    let end : c.args.pair.earlier + (c.args.pair.later - c.args.pair.earlier) ≡ c.args.pair.later = omega (arith, c.requires.pair.order) in
    let same : shape_at (g.F.Firing.net c.args.net.now) c.args.pair.earlier ≡ shape_at (g.F.Firing.net c.args.net.now) (c.args.pair.earlier + (c.args.pair.later - c.args.pair.earlier)) = rw end (sym c.requires.pair.same) in
    c.loop-actor.invariant.first c.args.pair.earlier (λ a m j below is there.
    same-over (g.F.Firing.net c.args.net.now) (g.met.F.Firing.lawful c.args.net.now) c.requires.inputs c.args.pair.earlier c.args.pair.later c.requires.pair.order (sym c.requires.pair.same) c.args.trace.now.starts.items c.requires.traced.collected
    c.args.pair.earlier a m j (omega arith) same (rw all at below) is there)

pub returns-clause-loops : goal.returns-clause-loops
returns-clause-loops g c =
    let all : c.loop-actor.actor ≡ length (g.F.Firing.net c.args.net.now).times = omega (arith, c.loop-actor-test.false, c.actors-actor-end.ensures, c.loop-actor.auto.actor-end) in
    let twice : IsFirstTwice c.args.trace.now.moments.items c.loop-actor.from c.args.pair.earlier (c.args.pair.later - c.args.pair.earlier) c.first_twice.result = rw c.as_slice.ensures.value at c.first_twice.ensures in
    entry-loops (g.F.Firing.net c.args.net.now) (g.met.F.Firing.lawful c.args.net.now) c.requires.inputs c.args.pair c.requires.pair c.args.trace.now.moments.items c.requires.traced.events c.loop-actor.from c.first_twice.result
    (rows-settle (g.F.Firing.net c.args.net.now) (g.met.F.Firing.lawful c.args.net.now) c.requires.inputs c.args.pair.earlier c.args.pair.later c.requires.pair.order (sym c.requires.pair.same) c.args.trace.now.starts.items c.requires.traced.collected c.loop-actor.from
    (λ a m actor is. c.loop-actor.invariant.settled a m (rw all actor) is))
    (λ x before same. c.loop-actor.invariant.first x (λ a m j below is there.
    same-over (g.F.Firing.net c.args.net.now) (g.met.F.Firing.lawful c.args.net.now) c.requires.inputs c.args.pair.earlier c.args.pair.later c.requires.pair.order (sym c.requires.pair.same) c.args.trace.now.starts.items c.requires.traced.collected
    x a m j before same (rw all at below) is there))
    twice
