use Rattle.std.proofs.Common.{◌≡◌, ◌-◌, ◌++◌, All, length}
use Rattle.std.specs.List.{flat_map}
use Rattle.cert_text.specs.MemberLines.{point_lines}
use Rattle.cert_text.specs.Reads.{lines_of, times_by}
use Rattle.cert_text.specs.Sections.{point_from}
use Rattle.cert_text.specs.Spellable.{AreStarts}
use Rattle.cert_text.specs.declared.certificates.PointLine.{PointLine}
use Rattle.cert_text.proofs.RepeatedReadsGoOn.{with_front}
use Rattle.cert_text.proofs.reading.points.each_point.Given as goal

abbrev pub invariant-loop-place : goal.invariant-loop-place
invariant-loop-place l = record {
  text : l.fn.lines.rest.now ≡ flat_map point_lines l.points.items ++ l.lines.rest.now;
  many : length l.points.items ≡ l.place;
  each : All (λ (p : PointLine). All AreStarts p.schedule.starts) l.points.items;
  exact : with_front l.points.items (times_by point_from (l.count - l.place) (lines_of l.lines.rest.now)) ≡ times_by point_from l.count (lines_of l.fn.lines.rest.now);
}
