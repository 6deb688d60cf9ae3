use Rattle.std.proofs.Common.{◌≡◌, ◌++◌, All, take}
use Rattle.std.specs.String.{string_bytes}
use Rattle.std.specs.List.{flat_map}
use Rattle.cert_text.specs.NumberLines.{spaced}
use Rattle.cert_text.proofs.writing.numbers.put_more_counts.Given as goal
use Rattle.cert_text.specs.Limits.{IsLong}

abbrev pub invariant-loop-count : goal.invariant-loop-count
invariant-loop-count l = record { text : string_bytes l.text ≡ string_bytes l.initial.text ++ flat_map spaced (take l.count-index l.counts); within : All IsLong (take l.count-index l.counts) }
