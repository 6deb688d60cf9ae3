use Rattle.sd_base.proofs.ElementsKeepPlaces.{flat_next}
use Rattle.escapes.specs.EscapedNames.{escaped_byte}
use Rattle.escapes.proofs.names.put_escaped.Goals as goal

pub loop-byte-preserved : goal.loop-byte-preserved
loop-byte-preserved c = flat_next escaped_byte _ _ _ _ _ 0 c.loop-byte-test.true c.loop-byte.invariant c.in_ok-push_escaped.ensures
