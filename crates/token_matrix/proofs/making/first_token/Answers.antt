use Rattle.std.proofs.Common.{refl, arith}
use Rattle.std.proofs.lemmas.Bool.{false≢true}
use Rattle.token_matrix.proofs.NumbersCoverTokens.{first_here, first_on, count_on}
use Rattle.token_matrix.proofs.making.first_token.Goals as goal

pub returns-then-is_same : goal.returns-then-is_same
returns-then-is_same c =
    omega (arith, c.loop-row.invariant.from, first_here c.args.shared.now c.loop-row.row-index c.row-item.result c.args.name.now c.loop-row-test.true c.row-item.is (c.if-is_same.ensures.0 refl))

pub loop-row-preserved : goal.loop-row-preserved
loop-row-preserved c = record {
  rest = omega (arith, c.loop-row.invariant.rest, count_on c.args.shared.now c.loop-row.row-index c.row-item.result c.loop-row-test.true c.row-item.is);
  from = omega (arith, c.loop-row.invariant.from, first_on c.args.shared.now c.loop-row.row-index c.row-item.result c.args.name.now c.loop-row-test.true c.row-item.is (λ e. false≢true (c.if-is_same.ensures.1 e)));
}
