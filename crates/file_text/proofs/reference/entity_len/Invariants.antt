use Rattle.std.proofs.Common.{◌-◌, length}
use Rattle.file_text.specs.declared.reference.Referred.TheVariants.{More}
use Rattle.file_text.specs.inside.Runs.{IsPartOfEntity}
use Rattle.file_text.proofs.reference.entity_len.Given as goal

abbrev pub invariant-loop-count : goal.invariant-loop-count
invariant-loop-count l = IsPartOfEntity l.fn.read l.bytes l.count (More l.known)

abbrev pub decreases-loop-count : goal.decreases-loop-count
decreases-loop-count l = length l.bytes - l.count
