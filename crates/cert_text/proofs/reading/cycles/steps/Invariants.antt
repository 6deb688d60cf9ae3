use Rattle.std.proofs.Common.{◌≡◌, ◌-◌, ◌++◌, All, length}
use Rattle.std.specs.List.{flat_map}
use Rattle.cert_text.specs.CycleLines.{step_line}
use Rattle.cert_text.specs.LineForms.{step_due}
use Rattle.cert_text.specs.Reads.{lines_of, next_by, times_by}
use Rattle.cert_text.specs.Spellable.{HasText}
use Rattle.cert_text.proofs.RepeatedReadsGoOn.{with_front}
use Rattle.cert_text.proofs.reading.cycles.steps.Given as goal

abbrev pub invariant-loop-place : goal.invariant-loop-place
invariant-loop-place l = record {
  text : l.fn.lines.rest.now ≡ flat_map step_line l.steps.items ++ l.lines.rest.now;
  many : length l.steps.items ≡ l.place;
  each : All HasText l.steps.items;
  exact : with_front l.steps.items (times_by (next_by step_due) (l.count - l.place) (lines_of l.lines.rest.now)) ≡ times_by (next_by step_due) l.count (lines_of l.fn.lines.rest.now);
}
