use Rattle.std.proofs.Common.{◌≡◌, ◌++◌, All, take}
use Rattle.std.specs.String.{string_bytes}
use Rattle.std.specs.List.{flat_map}
use Rattle.cert_text.specs.MemberLines.{capacity_text}
use Rattle.cert_text.proofs.writing.members.put_each.Given as goal
use Rattle.cert_text.specs.Limits.{IsCapacityWithin}

abbrev pub invariant-loop-capacity : goal.invariant-loop-capacity
invariant-loop-capacity l = record { text : string_bytes l.text ≡ string_bytes l.initial.text ++ flat_map capacity_text (take l.capacity-index l.capacities); within : All IsCapacityWithin (take l.capacity-index l.capacities) }
