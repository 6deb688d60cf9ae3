use Rattle.std.proofs.Common.{◌≡◌, ◌<◌, ◌∙◌, [], length, inl, inr, arith}
use Rattle.std.specs.Prelude.{slice_index_or}
use Rattle.std.proofs.lemmas.List.{get_or_default}
use Rattle.need_loops.specs.inside.Showing.{IsFirstEnd}
use Rattle.loops.proofs.RowsTellStarts.{starts-ascend}
use Rattle.need_loops.proofs.RowLoops.{first-more, starts-soon, ends-first}
use Rattle.need_loops.proofs.rows.event_from.Goals as goal
use Rattle.need_loops.proofs.rows.event_from.Goals.{then-end-first, else-end-first}

pub end_from-end-requires-clause-ascend : goal.end_from-end-requires-clause-ascend
end_from-end-requires-clause-ascend g c =
    let actor : c.loop-actor.actor < length (g.F.Firing.net c.args.net.now).times = omega (arith, c.loop-actor-test.true, c.actors-actor-end.ensures) in
    let place : c.loop-actor.actor < length c.args.starts.now = omega (arith, c.requires.starts.rows) in
    let row : c.as_slice.result.now ≡ slice_index_or c.args.starts.now c.loop-actor.actor [] = c.as_slice.ensures ∙ (c.index-starts-actor.is ∙ get_or_default c.args.starts.now c.loop-actor.actor c.index-starts-actor.result [] place) in
    rw row (starts-ascend (g.F.Firing.net c.args.net.now) (g.met.F.Firing.lawful c.args.net.now) c.requires.inputs c.args.until c.args.starts.now c.requires.starts c.loop-actor.actor actor)

pub end_from-end-requires-clause-soon : goal.end_from-end-requires-clause-soon
end_from-end-requires-clause-soon g c =
    let actor : c.loop-actor.actor < length (g.F.Firing.net c.args.net.now).times = omega (arith, c.loop-actor-test.true, c.actors-actor-end.ensures) in
    let place : c.loop-actor.actor < length c.args.starts.now = omega (arith, c.requires.starts.rows) in
    let row : c.as_slice.result.now ≡ slice_index_or c.args.starts.now c.loop-actor.actor [] = c.as_slice.ensures ∙ (c.index-starts-actor.is ∙ get_or_default c.args.starts.now c.loop-actor.actor c.index-starts-actor.result [] place) in
    rw row (λ k there. omega (arith, c.requires.soon, starts-soon (g.F.Firing.net c.args.net.now) (g.met.F.Firing.lawful c.args.net.now) c.requires.inputs c.args.until c.args.starts.now c.requires.starts c.loop-actor.actor k actor there))

pub loop-actor-preserved : goal.loop-actor-preserved
loop-actor-preserved g c =
    let actor : c.loop-actor.actor < length (g.F.Firing.net c.args.net.now).times = omega (arith, c.loop-actor-test.true, c.actors-actor-end.ensures) in
    let place : c.loop-actor.actor < length c.args.starts.now = omega (arith, c.requires.starts.rows) in
    let row : c.as_slice.result.now ≡ slice_index_or c.args.starts.now c.loop-actor.actor [] = c.as_slice.ensures ∙ (c.index-starts-actor.is ∙ get_or_default c.args.starts.now c.loop-actor.actor c.index-starts-actor.result [] place) in
    let end : IsFirstEnd (g.F.Firing.net c.args.net.now) c.loop-actor.actor (slice_index_or c.args.starts.now c.loop-actor.actor []) c.args.from c.end_from-end.result = rw row at c.end_from-end.ensures in
    first-more (g.F.Firing.net c.args.net.now) c.args.starts.now c.args.from c.loop-actor.actor c.loop-actor.first c.end_from-end.result c.if-end-first.first actor c.loop-actor.invariant end
    (elim c.if-end-first.branch [
      | then-end-first w ↦ inr (w.first-is, omega (arith, w.if-end-first.true))
      | else-end-first w ↦ inl (w.first-is, w.if-end-first.false)
    ])

pub returns-then-first-until : goal.returns-then-first-until
returns-then-first-until g c =
    let all : c.loop-actor.actor ≡ length (g.F.Firing.net c.args.net.now).times = omega (arith, c.loop-actor-test.false, c.actors-actor-end.ensures, c.loop-actor.auto.actor-end) in
    ends-first (g.F.Firing.net c.args.net.now) (g.met.F.Firing.lawful c.args.net.now) c.requires.inputs c.args.until c.args.starts.now c.requires.starts c.args.from c.loop-actor.actor c.loop-actor.first
    (omega (arith, c.if-from-eq0.false)) all c.if-first-until.true c.requires.soon c.loop-actor.invariant
