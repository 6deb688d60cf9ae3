use Rattle.std.proofs.Common.{◌≡◌, ◌-◌, ◌*◌, ◌≤◌, ◌<◌, ◌∙◌, ◌⊎◌, [], inl, inr, length, refl, arith, below_more}
use Rattle.std.specs.Prelude.{slice_index, slice_index_or}
use Rattle.std.proofs.lemmas.List.{get_or_default}
use Rattle.sd_base.specs.Schedules.{count_of}
use Rattle.loops.specs.StartRows.{AreBy}
use Rattle.loops.specs.Settling.{IsFirstSettled}
use Rattle.loops.proofs.RowsSettle.{next-settled, next-first}
use Rattle.loops.proofs.RowsTellStarts.{starts-ascend, ends-rise}
use Rattle.need_loops.proofs.rows.settled_since.Goals as goal
use Rattle.need_loops.proofs.rows.settled_since.Goals.{then-from-settled, else-from-settled}

pub count_by-requires : goal.count_by-requires
count_by-requires g c =
    let actor : c.loop-actor.actor < length (g.F.Firing.net c.args.net.now).times = omega (arith, c.loop-actor-test.true, c.actors-actor-end.ensures) in
    let place : c.loop-actor.actor < length c.args.starts.now = omega (arith, c.requires.starts.rows) in
    let row : c.as_slice-row.result.now ≡ slice_index_or c.args.starts.now c.loop-actor.actor [] = c.as_slice-row.ensures ∙ (c.index-starts-actor.is ∙ get_or_default c.args.starts.now c.loop-actor.actor c.index-starts-actor.result [] place) in
    rw row (record { ascend = starts-ascend (g.F.Firing.net c.args.net.now) (g.met.F.Firing.lawful c.args.net.now) c.requires.inputs c.args.pair.later c.args.starts.now c.requires.starts c.loop-actor.actor actor })

pub settled_from-settled-requires-clause-rise : goal.settled_from-settled-requires-clause-rise
settled_from-settled-requires-clause-rise g c =
    let actor : c.loop-actor.actor < length (g.F.Firing.net c.args.net.now).times = omega (arith, c.loop-actor-test.true, c.actors-actor-end.ensures) in
    let place : c.loop-actor.actor < length c.args.starts.now = omega (arith, c.requires.starts.rows) in
    let row : c.as_slice-row.result.now ≡ slice_index_or c.args.starts.now c.loop-actor.actor [] = c.as_slice-row.ensures ∙ (c.index-starts-actor.is ∙ get_or_default c.args.starts.now c.loop-actor.actor c.index-starts-actor.result [] place) in
    rw row (ends-rise (g.F.Firing.net c.args.net.now) (g.met.F.Firing.lawful c.args.net.now) c.requires.inputs c.args.pair.later c.args.starts.now c.requires.starts c.loop-actor.actor actor)

pub loop-actor-preserved : goal.loop-actor-preserved
loop-actor-preserved g c =
    let actor : c.loop-actor.actor < length (g.F.Firing.net c.args.net.now).times = omega (arith, c.loop-actor-test.true, c.actors-actor-end.ensures) in
    let place : c.loop-actor.actor < length c.args.starts.now = omega (arith, c.requires.starts.rows) in
    let row : c.as_slice-row.result.now ≡ slice_index_or c.args.starts.now c.loop-actor.actor [] = c.as_slice-row.ensures ∙ (c.index-starts-actor.is ∙ get_or_default c.args.starts.now c.loop-actor.actor c.index-starts-actor.result [] place) in
    let long : c.args.rounds * slice_index (g.F.Firing.net c.args.net.now).round c.loop-actor.actor ≤ count_of c.args.starts.now c.loop-actor.actor = rw c.round.ensures at (rw row at c.if-row-more.false) in
    let number : c.count_by.result ≡ count_of c.args.starts.now c.loop-actor.actor - c.args.rounds * slice_index (g.F.Firing.net c.args.net.now).round c.loop-actor.actor = rw c.round.ensures at (rw row at c.if-count_by-row.false) in
    let by : AreBy (slice_index_or c.args.starts.now c.loop-actor.actor []) c.args.pair.earlier (count_of c.args.starts.now c.loop-actor.actor - c.args.rounds * slice_index (g.F.Firing.net c.args.net.now).round c.loop-actor.actor) =
    rw number at (rw row at c.count_by.ensures) in
    let settled : IsFirstSettled (g.F.Firing.net c.args.net.now) c.loop-actor.actor (slice_index_or c.args.starts.now c.loop-actor.actor []) (c.args.rounds * slice_index (g.F.Firing.net c.args.net.now).round c.loop-actor.actor) (c.args.pair.later - c.args.pair.earlier) c.settled_from-settled.result =
    rw c.round.ensures at (rw row at c.settled_from-settled.ensures) in
    let next : (c.loop-actor.from ≤ c.if-from-settled.from) × (c.settled_from-settled.result ≤ c.if-from-settled.from) × ((c.if-from-settled.from ≡ c.loop-actor.from) ⊎ (c.if-from-settled.from ≡ c.settled_from-settled.result)) =
    elim c.if-from-settled.branch [
      | then-from-settled w ↦ (omega (arith, w.if-from-settled.true, w.from-is), omega (arith, w.from-is), inr w.from-is)
      | else-from-settled w ↦ (omega (arith, w.from-is), omega (arith, w.if-from-settled.false, w.from-is), inl w.from-is)
    ] in
    record {
      long = below_more _ _ c.loop-actor.invariant.long long;
      counts = below_more _ _ c.loop-actor.invariant.counts by;
      settled = next-settled (g.F.Firing.net c.args.net.now) (λ a. slice_index_or c.args.starts.now a []) (λ a. c.args.rounds * slice_index (g.F.Firing.net c.args.net.now).round a) (c.args.pair.later - c.args.pair.earlier)
          c.loop-actor.actor c.loop-actor.from c.settled_from-settled.result c.if-from-settled.from c.loop-actor.invariant.settled next.0 next.1 settled.settled;
      first = next-first (g.F.Firing.net c.args.net.now) (λ a. slice_index_or c.args.starts.now a []) (λ a. c.args.rounds * slice_index (g.F.Firing.net c.args.net.now).round a) (c.args.pair.later - c.args.pair.earlier)
          c.loop-actor.actor c.loop-actor.from c.settled_from-settled.result c.if-from-settled.from c.loop-actor.invariant.first settled.first next.2;
    }

pub returns-then-from : goal.returns-then-from
returns-then-from g c =
    let all : c.loop-actor.actor ≡ length (g.F.Firing.net c.args.net.now).times = omega (arith, c.loop-actor-test.false, c.actors-actor-end.ensures, c.loop-actor.auto.actor-end) in
    record {
      before = omega (arith, c.if-from.true, c.from.ensures);
      long = λ a actor. c.loop-actor.invariant.long a (rw all actor);
      counts = λ a actor. c.loop-actor.invariant.counts a (rw all actor);
      settled = λ a actor. c.loop-actor.invariant.settled a (c.args.rounds * slice_index (g.F.Firing.net c.args.net.now).round a) (rw all actor) refl;
      first = λ x over. c.loop-actor.invariant.first x (λ a m j below is there unlike. rw is (over a j (rw all at below) there (rw is at unlike)));
    }
