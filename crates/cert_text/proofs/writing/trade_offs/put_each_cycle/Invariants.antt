use Rattle.std.proofs.Common.{◌≡◌, ◌++◌, All, take}
use Rattle.std.specs.String.{string_bytes}
use Rattle.std.specs.List.{flat_map}
use Rattle.cert_text.specs.CycleLines.{cycle_lines}
use Rattle.cert_text.proofs.writing.trade_offs.put_each_cycle.Given as goal
use Rattle.cert_text.specs.Limits.{IsCycleWithin}

abbrev pub invariant-loop-cycle : goal.invariant-loop-cycle
invariant-loop-cycle l = record { text : string_bytes l.text ≡ string_bytes l.initial.text ++ flat_map cycle_lines (take l.cycle-index l.cycles); within : All IsCycleWithin (take l.cycle-index l.cycles) }
