use Rattle.std.proofs.Common.{length}
use Rattle.std.specs.Prelude.{codes}
use Rattle.cert_text.specs.Fields.{each_by, limited, worded_in}
use Rattle.cert_text.specs.LineForms.{numbers_due}
use Rattle.cert_text.proofs.EntriesAreReadInTurn.{Collects}
use Rattle.cert_text.proofs.reading.numbers.counts_of.Given as goal

abbrev pub invariant-loop-line : goal.invariant-loop-line
invariant-loop-line l = Collects (worded_in (codes " ")) (each_by (limited 18446744073709551615)) (limited 18446744073709551615) l.counts.items.items l.counts.is_large l.line.rest.now (numbers_due 18446744073709551615 l.fn.line.rest.now)

abbrev pub decreases-loop-line : goal.decreases-loop-line
decreases-loop-line l = length l.line.rest.now
