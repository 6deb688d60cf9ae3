use Rattle.std.proofs.Common.{◌≡◌, ◌++◌, take}
use Rattle.std.specs.String.{string_bytes}
use Rattle.std.specs.List.{flat_map}
use Rattle.cert_text.specs.NumberLines.{spaced}
use Rattle.cert_text.proofs.writing.numbers.put_more_starts.Given as goal

abbrev pub invariant-loop-start : goal.invariant-loop-start
invariant-loop-start l = string_bytes l.text ≡ string_bytes l.initial.text ++ flat_map spaced (take l.start-index l.starts)
