use Rattle.std.proofs.Common.{◌≡◌, ℕ, ◌-◌, drop, subst, arith}
use Rattle.std.specs.BTreeMap.{get}
use Rattle.cert_checker.specs.ListedNodes.{weight_between}
use Rattle.cert_checker.specs.inside.Spaces.{pair_cmp}
use Rattle.cert_checker.proofs.EdgeWeights.{weights-end, weights-from}
use Rattle.cert_checker.proofs.weights.Weights.of.Goals as goal

pub loop-left-init : goal.loop-left-init
loop-left-init c = record { within = omega arith; kept = weights-end c.args.edges.now c.new-between.result c.new-between.ensures.empty }

pub loop-left-preserved : goal.loop-left-preserved
loop-left-preserved c =
    record {
      within = omega (arith, c.loop-left.invariant.within);
      kept =
          weights-from c.args.edges.now c.loop-left.left (c.loop-left.left - 1) c.from.result c.from-in-loop-left.result (record { from = 0; to = 0; weight = 0 }) c.loop-left.between c.insert.new.self (omega (arith, c.loop-left-test.true))
          (omega (arith, c.loop-left-test.true, c.loop-left.invariant.within)) c.from.ensures c.from-in-loop-left.ensures c.in_ok-insert.ensures.updates.0 c.loop-left.invariant.kept;
    }

pub returns : goal.returns
returns c = λ from to.
    let e : c.loop-left.left ≡ 0 = omega (arith, c.loop-left-test.false) in
    subst (λ (n : ℕ). get pair_cmp c.loop-left.between (from, to) ≡ weight_between (drop n c.args.edges.now) from to) e (c.loop-left.invariant.kept from to)
