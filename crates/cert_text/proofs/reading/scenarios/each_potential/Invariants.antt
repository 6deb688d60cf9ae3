use Rattle.std.proofs.Common.{◌≡◌, ◌-◌, ◌++◌, length}
use Rattle.std.specs.List.{flat_map}
use Rattle.cert_text.specs.LineForms.{potential_due}
use Rattle.cert_text.specs.Reads.{lines_of, next_by, times_by}
use Rattle.cert_text.specs.ScenarioLines.{potential_line}
use Rattle.cert_text.proofs.RepeatedReadsGoOn.{with_front}
use Rattle.cert_text.proofs.reading.scenarios.each_potential.Given as goal

abbrev pub invariant-loop-place : goal.invariant-loop-place
invariant-loop-place l = record {
  text : l.fn.lines.rest.now ≡ flat_map potential_line l.potentials.items ++ l.lines.rest.now;
  many : length l.potentials.items ≡ l.place;
  exact : with_front l.potentials.items (times_by (next_by potential_due) (l.count - l.place) (lines_of l.lines.rest.now)) ≡ times_by (next_by potential_due) l.count (lines_of l.fn.lines.rest.now);
}
