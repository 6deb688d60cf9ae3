use Rattle.std.proofs.Common.{◌∙◌, arith}
use Rattle.report.proofs.WorstPieces.{weights-more}
use Rattle.report.proofs.worst_rates.time_of.Goals as goal

pub loop-k-preserved : goal.loop-k-preserved
loop-k-preserved c = record {
  same = weights-more c.args.edges.now c.args.cycle.now c.loop-k.k-index c.loop-k.time c.from-time.result _ c.loop-k-test.true (c.from-time.ensures ∙ c.weight_of.ensures) c.loop-k.invariant.same;
  small = omega (arith, c.from-time.ensures, c.weight_of.type_inv, c.loop-k.invariant.small);
}
