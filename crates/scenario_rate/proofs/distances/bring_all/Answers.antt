use Rattle.std.proofs.Common.{◌≡◌, ◌+◌, ◌<◌, ◌≤◌, ℕ, List, Option, true, false, length, sym, subst, arith}
use Rattle.std.specs.Prelude.{slice_get, slice_index, slice_index_or, Some}
use Rattle.std.proofs.lemmas.Option.{slice_get-get_or}
use Rattle.automaton.specs.declared.graph.Edge.{Edge}
use Rattle.scenario_rate.specs.inside.Choosing.{IsBrought}
use Rattle.scenario_rate.specs.inside.Spreading.{AreBrought}
use Rattle.scenario_rate.proofs.SpreadsFindDistances.{brought_none, brought_still, brought_nearer}
use Rattle.scenario_rate.proofs.distances.bring_all.Goals as goal
use Rattle.scenario_rate.proofs.distances.bring_all.Goals.{then-bring+in_ok-push_back, else-bring}

pub loop-number-init : goal.loop-number-init
loop-number-init c = brought_none c.args.edges.now c.args.list.now c.args.steps.now c.args.queue.now.items

pub loop-number-preserved : goal.loop-number-preserved
loop-number-preserved c =
    let n : ℕ = c.loop-number.number-index in
    let at : slice_get c.args.list.now c.loop-number.number-index ≡ Some (slice_index c.args.list.now c.loop-number.number-index) = slice_get-get_or c.args.list.now c.loop-number.number-index 0 c.loop-number-test.true in
    let known : slice_index c.args.list.now c.loop-number.number-index < length c.args.edges.now = c.requires.known c.loop-number.number-index (slice_index c.args.list.now c.loop-number.number-index) at in
    let e : Edge = slice_index_or c.args.edges.now (slice_index c.args.list.now c.loop-number.number-index) (record { from = 0; to = 0; weight = 0 }) in
    let is : slice_get c.args.edges.now (slice_index c.args.list.now c.loop-number.number-index) ≡ Some e = slice_get-get_or c.args.edges.now (slice_index c.args.list.now c.loop-number.number-index) (record { from = 0; to = 0; weight = 0 }) known in
    let small : length c.loop-number.steps ≤ 1024 = omega (arith, c.requires.few, c.loop-number.invariant.long) in
    let inside : e.from < length c.loop-number.steps = omega (arith, c.requires.inside.from (slice_index c.args.list.now c.loop-number.number-index) e is, c.loop-number.invariant.long) in
    elim c.if-bring.branch [
      | then-bring+in_ok-push_back w ↦ (let b : IsBrought e c.loop-number.steps c.bring.new.steps true = subst (IsBrought e c.loop-number.steps c.bring.new.steps) w.if-bring.true c.bring.ensures in
          rw w.queue-is (subst (AreBrought c.args.edges.now c.args.list.now (c.loop-number.number-index + 1) c.args.steps.now c.bring.new.steps c.args.queue.now.items) (sym w.in_ok-push_back.ensures.items)
          (brought_nearer c.args.edges.now c.args.list.now c.loop-number.number-index (slice_index c.args.list.now c.loop-number.number-index) e c.args.steps.now c.loop-number.steps c.args.queue.now.items c.loop-number.queue.items c.loop-number.invariant at is
          c.bring.new.steps b.0 inside small b.1 b.2 b.3 b.4)))
      | else-bring w ↦ (let b : IsBrought e c.loop-number.steps c.bring.new.steps false = subst (IsBrought e c.loop-number.steps c.bring.new.steps) w.if-bring.false c.bring.ensures in
          rw w.queue-is (subst (λ (l : List (Option ℕ)). AreBrought c.args.edges.now c.args.list.now (c.loop-number.number-index + 1) c.args.steps.now l c.args.queue.now.items c.loop-number.queue.items) (sym b.0)
          (brought_still c.args.edges.now c.args.list.now c.loop-number.number-index (slice_index c.args.list.now c.loop-number.number-index) e c.args.steps.now c.loop-number.steps c.args.queue.now.items c.loop-number.queue.items c.loop-number.invariant at is b.1)))
    ]
