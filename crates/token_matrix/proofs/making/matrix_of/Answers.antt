use Rattle.std.proofs.Common.{◌∙◌, false, subst, sym, arith}
use Rattle.std.proofs.lemmas.List.{take_at}
use Rattle.sd_base.specs.FileNet.{net_of}
use Rattle.token_matrix.specs.Stamps.{first_of}
use Rattle.token_matrix.specs.Matrices.{IsMatrix}
use Rattle.token_matrix.proofs.RoundsGiveMatrices.{answered-order, starts_at, ends_at, are_held, is_square, matrix_is}
use Rattle.token_matrix.proofs.making.matrix_of.Goals as goal

pub run_round-requires : goal.run_round-requires
run_round-requires c = (
  first_of c.args.shared.now c.args.graph.now,
  starts_at c.args.shared.now c.args.graph.now c.args.gamma.now c.requires.rules c.requires.kind c.requires.shares c.requires.timed c.requires.gamma c.requires.small c.as_slice.result.now
      (answered-order _ (net_of c.args.graph.now c.args.gamma.now false) _ _ c.as_slice.result.now c.in_ok-counts.ensures.answer c.in-Live.is c.in_ok-net.ensures c.as_slice.ensures)
      c.requires.inputs _ c.in-Some.tokens c.as_mut_slice.result.now c.in_ok-lines-in-Live.lines.items c.in_ok-net.ensures c.in-Some.ensures.0 c.as_mut_slice.ensures.value c.in_ok-lines-in-Live.ensures,
)

pub left_rows-requires-clause-held : goal.left_rows-requires-clause-held
left_rows-requires-clause-held c = are_held c.args.shared.now c.args.graph.now c.args.gamma.now c.requires.rules c.requires.kind c.requires.shares c.requires.timed c.requires.gamma c.requires.small c.as_slice.result.now
    (answered-order _ (net_of c.args.graph.now c.args.gamma.now false) _ _ c.as_slice.result.now c.in_ok-counts.ensures.answer c.in-Live.is c.in_ok-net.ensures c.as_slice.ensures) c.as_slice-in-Live.result.now
    (ends_at c.args.shared.now c.args.graph.now c.args.gamma.now c.requires.rules c.requires.kind c.requires.shares c.requires.timed c.requires.gamma c.requires.small c.as_slice.result.now
    (answered-order _ (net_of c.args.graph.now c.args.gamma.now false) _ _ c.as_slice.result.now c.in_ok-counts.ensures.answer c.in-Live.is c.in_ok-net.ensures c.as_slice.ensures)
    c.requires.inputs _ c.in-Some.tokens c.as_mut_slice.result.now c.in_ok-lines-in-Live.lines.items c.run_round.new.lines c.as_slice-in-Live.result.now c.in_ok-net.ensures c.in-Some.ensures.0 c.as_mut_slice.ensures.value c.in_ok-lines-in-Live.ensures
    (c.as_slice-in-Live.ensures.value ∙ take_at c.run_round.new.lines _ c.in_ok-lines-in-Live.lines.len (omega (arith, c.run_round.auto.lines, c.as_mut_slice.ensures.len))) c.in_ok-run_round-in-Live.ensures)

pub unreachable-requires : goal.unreachable-requires
unreachable-requires c = c.in-None.ensures.is (is_square c.args.shared.now c.args.graph.now c.args.gamma.now c.requires.rules c.requires.kind c.requires.shares c.requires.timed c.requires.gamma c.requires.small c.as_slice.result.now
    (answered-order _ (net_of c.args.graph.now c.args.gamma.now false) _ _ c.as_slice.result.now c.in_ok-counts.ensures.answer c.in-Live.is c.in_ok-net.ensures c.as_slice.ensures) c.as_slice-in-Live.result.now
    (ends_at c.args.shared.now c.args.graph.now c.args.gamma.now c.requires.rules c.requires.kind c.requires.shares c.requires.timed c.requires.gamma c.requires.small c.as_slice.result.now
    (answered-order _ (net_of c.args.graph.now c.args.gamma.now false) _ _ c.as_slice.result.now c.in_ok-counts.ensures.answer c.in-Live.is c.in_ok-net.ensures c.as_slice.ensures)
    c.requires.inputs _ c.in-Some.tokens c.as_mut_slice.result.now c.in_ok-lines-in-Live.lines.items c.run_round.new.lines c.as_slice-in-Live.result.now c.in_ok-net.ensures c.in-Some.ensures.0 c.as_mut_slice.ensures.value c.in_ok-lines-in-Live.ensures
    (c.as_slice-in-Live.ensures.value ∙ take_at c.run_round.new.lines _ c.in_ok-lines-in-Live.lines.len (omega (arith, c.run_round.auto.lines, c.as_mut_slice.ensures.len))) c.in_ok-run_round-in-Live.ensures)
    c.in_ok-rows-in-Live.rows c.in_ok-rows-in-Live.ensures (omega (arith, c.in-Some.ensures)))

pub returns-in-Some-new-clause-matrix : goal.returns-in-Some-new-clause-matrix
returns-in-Some-new-clause-matrix c = subst (IsMatrix c.args.shared.now c.args.graph.now c.args.gamma.now) (sym c.in-Some-new.ensures.is) (matrix_is c.args.shared.now c.args.graph.now c.args.gamma.now c.requires.rules c.requires.kind c.requires.shares c.requires.timed c.requires.gamma c.requires.small c.as_slice.result.now
    (answered-order _ (net_of c.args.graph.now c.args.gamma.now false) _ _ c.as_slice.result.now c.in_ok-counts.ensures.answer c.in-Live.is c.in_ok-net.ensures c.as_slice.ensures) c.as_slice-in-Live.result.now
    (ends_at c.args.shared.now c.args.graph.now c.args.gamma.now c.requires.rules c.requires.kind c.requires.shares c.requires.timed c.requires.gamma c.requires.small c.as_slice.result.now
    (answered-order _ (net_of c.args.graph.now c.args.gamma.now false) _ _ c.as_slice.result.now c.in_ok-counts.ensures.answer c.in-Live.is c.in_ok-net.ensures c.as_slice.ensures)
    c.requires.inputs _ c.in-Some.tokens c.as_mut_slice.result.now c.in_ok-lines-in-Live.lines.items c.run_round.new.lines c.as_slice-in-Live.result.now c.in_ok-net.ensures c.in-Some.ensures.0 c.as_mut_slice.ensures.value c.in_ok-lines-in-Live.ensures
    (c.as_slice-in-Live.ensures.value ∙ take_at c.run_round.new.lines _ c.in_ok-lines-in-Live.lines.len (omega (arith, c.run_round.auto.lines, c.as_mut_slice.ensures.len))) c.in_ok-run_round-in-Live.ensures)
    c.in_ok-rows-in-Live.rows c.in_ok-rows-in-Live.ensures)
