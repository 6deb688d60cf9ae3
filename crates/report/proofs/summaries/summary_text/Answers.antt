use Rattle.std.proofs.Common.{◌∙◌, length, sum}
use Rattle.std.specs.String.{string_bytes}
use Rattle.sd_base.proofs.ElementsKeepPlaces.{flat_end}
use Rattle.report.specs.SummaryTexts.{point_summary, summary_header, summary_lines}
use Rattle.report.proofs.summaries.summary_text.Goals as goal

pub returns : goal.returns
unfolding summary_lines
returns c =
    c.bytes_of.ensures
    ∙ flat_end point_summary (summary_header c.args.seed (length c.args.graph.now.actors) (length c.args.graph.now.channels) (sum c.args.gamma.now) (length c.args.points.now))
    (string_bytes c.loop-point.text) c.args.points.now c.loop-point.point-index c.loop-point-test.false c.loop-point.invariant
