use Rattle.std.proofs.Common.{◌≡◌, take}
use Rattle.cert_text.specs.Fields.{number_value}
use Rattle.cert_text.proofs.reading.buffers.is_less.Given as goal

abbrev pub invariant-loop-i : goal.invariant-loop-i
invariant-loop-i l = number_value (take l.i l.a) ≡ number_value (take l.i l.b)
