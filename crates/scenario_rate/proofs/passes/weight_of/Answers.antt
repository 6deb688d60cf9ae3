use Rattle.std.proofs.Common.{◌≡◌, ℕ, ◌+◌, ◌*◌, ◌≤◌, Some, take, ap, ◌∙◌, arith}
use Rattle.std.specs.Prelude.{slice_get, slice_index_or}
use Rattle.std.proofs.lemmas.Option.{slice_get-get_or}
use Rattle.automaton.specs.declared.graph.Edge.{Edge}
use Rattle.automaton.specs.CriticalCycles.{weights}
use Rattle.scenario_rate.proofs.RaisedWalksLoop.{taken-weight}
use Rattle.scenario_rate.proofs.passes.weight_of.Goals as goal

pub loop-number-preserved : goal.loop-number-preserved
loop-number-preserved c =
    let k : ℕ = slice_index_or c.args.numbers.now c.loop-number.number-index 0 in
    let at : slice_get c.args.numbers.now c.loop-number.number-index ≡ Some (slice_index_or c.args.numbers.now c.loop-number.number-index 0) =
    slice_get-get_or c.args.numbers.now c.loop-number.number-index 0 c.loop-number-test.true in
    let below = c.requires.numbers c.loop-number.number-index (slice_index_or c.args.numbers.now c.loop-number.number-index 0) at in
    let e : Edge = slice_index_or c.args.edges.now (slice_index_or c.args.numbers.now c.loop-number.number-index 0) (record { from = 0; to = 0; weight = 0 }) in
    let is : slice_get c.args.edges.now (slice_index_or c.args.numbers.now c.loop-number.number-index 0) ≡ Some e = slice_get-get_or c.args.edges.now (slice_index_or c.args.numbers.now c.loop-number.number-index 0) (record { from = 0; to = 0; weight = 0 }) below in
    let light : e.weight ≤ 100000000000000 = c.requires.inside.light (slice_index_or c.args.numbers.now c.loop-number.number-index 0) e is in
    let more : weights c.args.edges.now (take c.loop-number.number-index c.args.numbers.now) + e.weight ≡ weights c.args.edges.now (take (c.loop-number.number-index + 1) c.args.numbers.now) =
    taken-weight c.args.edges.now c.args.numbers.now c.loop-number.number-index (slice_index_or c.args.numbers.now c.loop-number.number-index 0) e at is in
    record {
      sum = ap (λ n. n + e.weight) c.loop-number.invariant.sum ∙ more;
      small = (let s : c.loop-number.sum ≤ c.loop-number.number-index * 100000000000000 = c.loop-number.invariant.small in omega arith);
    }
