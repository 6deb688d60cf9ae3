use Rattle.std.proofs.Common.{◌≡◌, ◌++◌, All, take}
use Rattle.std.specs.String.{string_bytes}
use Rattle.std.specs.List.{flat_map}
use Rattle.cert_text.specs.ScenarioLines.{node_line}
use Rattle.cert_text.proofs.writing.scenarios.put_entered.Given as goal
use Rattle.cert_text.specs.Limits.{IsNodeWithin}

abbrev pub invariant-loop-node : goal.invariant-loop-node
invariant-loop-node l = record { text : string_bytes l.text ≡ string_bytes l.initial.text ++ flat_map node_line (take l.node-index l.nodes); within : All IsNodeWithin (take l.node-index l.nodes) }
