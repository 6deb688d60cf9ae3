use Rattle.std.proofs.Common.{length}
use Rattle.std.specs.Prelude.{codes}
use Rattle.sd_base.specs.declared.limits.TheConstants.{START}
use Rattle.cert_text.specs.Fields.{each_by, limited, worded_in}
use Rattle.cert_text.specs.LineForms.{numbers_due}
use Rattle.cert_text.proofs.EntriesAreReadInTurn.{Collects}
use Rattle.cert_text.proofs.reading.numbers.starts_of.Given as goal

abbrev pub invariant-loop-line : goal.invariant-loop-line
invariant-loop-line l = Collects (worded_in (codes " ")) (each_by (limited START)) (limited START) l.starts.items.items l.starts.is_large l.line.rest.now (numbers_due START l.fn.line.rest.now)

abbrev pub decreases-loop-line : goal.decreases-loop-line
decreases-loop-line l = length l.line.rest.now
