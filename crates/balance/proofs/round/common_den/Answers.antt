use Rattle.std.proofs.Common.{arith}
use Rattle.std.proofs.lemmas.Option.{slice_get-get_or}
use Rattle.std.specs.Prelude.{slice_index_or}
use Rattle.balance.specs.declared.ratio.Ratio.{Ratio}
use Rattle.balance.proofs.LeastRounds.{common_start, common_more, common_end, common_above}
use Rattle.balance.proofs.round.common_den.Goals as goal

pub loop-ratio-init : goal.loop-ratio-init
loop-ratio-init c = (common_start c.args.ratios.now, omega arith)

none : Ratio
none = record { num = 0; den = 0 }

pub returns-in_err-common : goal.returns-in_err-common
unfolding none
returns-in_err-common c =
    let at = slice_get-get_or c.args.ratios.now c.loop-ratio.ratio-index none c.loop-ratio-test.true in
    rw c.from_residual.ensures
    (common_above c.args.ratios.now c.loop-ratio.ratio-index c.loop-ratio.common 100000 (slice_index_or c.args.ratios.now c.loop-ratio.ratio-index none) at
    c.in_err-common.ensures c.loop-ratio.invariant.0)

pub loop-ratio-preserved : goal.loop-ratio-preserved
unfolding none
loop-ratio-preserved c =
    let at = slice_get-get_or c.args.ratios.now c.loop-ratio.ratio-index none c.loop-ratio-test.true in (
      common_more c.args.ratios.now c.loop-ratio.ratio-index c.loop-ratio.common c.in_ok-common.common (slice_index_or c.args.ratios.now c.loop-ratio.ratio-index none) at
          c.in_ok-common.ensures.0 c.loop-ratio.invariant.0,
      c.in_ok-common.ensures.1,
    )

pub returns : goal.returns
returns c = (common_end c.args.ratios.now c.loop-ratio.ratio-index c.loop-ratio.common c.loop-ratio-test.false c.loop-ratio.invariant.0, c.loop-ratio.invariant.1)
