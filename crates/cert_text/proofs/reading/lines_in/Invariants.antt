use Rattle.std.proofs.Common.{◌≡◌, ◌+◌, ◌≤◌, length}
use Rattle.cert_text.specs.Reads.{lines_of}
use Rattle.cert_text.proofs.reading.lines_in.Given as goal

abbrev pub invariant-loop-line : goal.invariant-loop-line
invariant-loop-line l = record {
  all : l.count + length (lines_of l.lines.rest.now) ≡ length (lines_of l.fn.text);
  within : l.count + length l.lines.rest.now ≤ length l.fn.text;
}

abbrev pub decreases-loop-line : goal.decreases-loop-line
decreases-loop-line l = length l.lines.rest.now
