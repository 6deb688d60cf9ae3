use Rattle.std.proofs.Common.{length}
use Rattle.cert_text.specs.Digits.{IsNumeral}
use Rattle.cert_text.specs.Fields.{number_value}
use Rattle.cert_text.specs.LineForms.{some_buffers_due}
use Rattle.cert_text.proofs.BuffersRise.{Rising}
use Rattle.cert_text.proofs.reading.buffers.some_buffers_of.Given as goal

abbrev pub invariant-loop-line : goal.invariant-loop-line
invariant-loop-line l = record {
  rising : Rising l.buffers.items.items l.buffers.is_large l.rise (number_value l.last) l.line.rest.now (some_buffers_due l.fn.line.rest.now);
  numeral : IsNumeral l.last;
}

abbrev pub decreases-loop-line : goal.decreases-loop-line
decreases-loop-line l = length l.line.rest.now
