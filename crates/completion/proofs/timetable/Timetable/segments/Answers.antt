use Rattle.std.proofs.Common.{sym}
use Rattle.completion.proofs.SegmentsFitAfterEntry.{fits-segments}
use Rattle.completion.proofs.timetable.Timetable.segments.Goals as goal

pub returns : goal.returns
returns c =
    fits-segments c.args.self.now c.args.earlier c.args.later c.before-before.result c.pass-pass.result c.before-before.ensures c.pass-pass.ensures (sym c.if-earlier-later.false) (c.requires.order (sym c.if-earlier-later.false)) c.if-earlier-before.false c.if-apart-pass-ne0.false
