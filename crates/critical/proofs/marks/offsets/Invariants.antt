use Rattle.std.proofs.Common.{◌≡◌}
use Rattle.critical.specs.inside.Trails.{offset_of}
use Rattle.critical.proofs.PlacesTellFirings.{OffsetsBelow}
use Rattle.critical.proofs.marks.offsets.Given as goal

abbrev pub invariant-loop-row : goal.invariant-loop-row
invariant-loop-row l = record { rows : l.row-items ≡ l.table.starts; below : OffsetsBelow l.table.starts l.offsets.items l.row-index; sum : l.sum ≡ offset_of l.table.starts l.row-index }
