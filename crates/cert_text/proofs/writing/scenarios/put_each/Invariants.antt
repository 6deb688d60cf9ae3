use Rattle.std.proofs.Common.{◌≡◌, ◌++◌, All, take}
use Rattle.std.specs.String.{string_bytes}
use Rattle.std.specs.List.{flat_map}
use Rattle.cert_text.specs.ScenarioLines.{potential_line}
use Rattle.cert_text.proofs.writing.scenarios.put_each.Given as goal
use Rattle.cert_text.specs.Limits.{IsPotentialWithin}

abbrev pub invariant-loop-potential : goal.invariant-loop-potential
invariant-loop-potential l = record { text : string_bytes l.text ≡ string_bytes l.initial.text ++ flat_map potential_line (take l.potential-index l.potentials); within : All IsPotentialWithin (take l.potential-index l.potentials) }
