use Rattle.std.proofs.Common.{take}
use Rattle.std.specs.BTreeSet.{contains_text}
use Rattle.file_text.specs.inside.AttributeNames.{AreNamesOf}
use Rattle.file_text.proofs.attributes.collected.Given as goal

abbrev pub invariant-loop-attribute : goal.invariant-loop-attribute
invariant-loop-attribute l = AreNamesOf (contains_text l.names) (take l.attribute-index l.attributes)
