use Rattle.std.proofs.Common.{length}
use Rattle.cert_text.specs.Fields.{each_by}
use Rattle.cert_text.specs.LineForms.{capacity_in, capacity_limited, capacities_due}
use Rattle.cert_text.proofs.EntriesAreReadInTurn.{Collects}
use Rattle.cert_text.proofs.reading.members.capacities_of.Given as goal

abbrev pub invariant-loop-line : goal.invariant-loop-line
invariant-loop-line l = Collects capacity_in (each_by capacity_limited) capacity_limited l.capacities.items.items l.capacities.is_large l.line.rest.now (capacities_due l.fn.line.rest.now)

abbrev pub decreases-loop-line : goal.decreases-loop-line
decreases-loop-line l = length l.line.rest.now
