use Rattle.std.proofs.Common.{arith, ap, ◌∙◌, ◌++◌}
use Rattle.std.specs.String.{string_bytes}
use Rattle.pareto_front.specs.declared.point.Point.{Point}
use Rattle.report.specs.StorageTexts.{point_text}
use Rattle.report.proofs.OneMoreElement.{lines_more, lines_end, points_start}
use Rattle.report.proofs.points.points_text.Goals as goal

pub loop-i-init : goal.loop-i-init
loop-i-init g c = points_start c.args.graph.now c.args.points.now c.args.schedules.now _ c.in_ok-text.ensures

pub loop-i-preserved : goal.loop-i-preserved
loop-i-preserved g c =
    lines_more (point_text c.args.graph.now) _ _ _ c.args.points.now c.args.schedules.now c.loop-i.i _ _ _
    c.loop-i-test.true (omega (arith, c.loop-i-test.true, c.requires.many)) c.index-schedules-i.is c.loop-i.invariant
    (c.in_ok-put_point.ensures ∙ ap (λ (p : Point). string_bytes c.loop-i.text ++ point_text c.args.graph.now p c.index-schedules-i.result) c.index-points-i.is)

pub returns : goal.returns
returns g c = c.bytes_of.ensures ∙ lines_end (point_text c.args.graph.now) _ _ c.args.points.now c.args.schedules.now c.loop-i.i c.loop-i-test.false c.loop-i.invariant
