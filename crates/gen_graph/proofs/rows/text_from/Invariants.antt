use Rattle.std.proofs.Common.{◌≡◌, ◌++◌, take}
use Rattle.std.specs.Prelude.{codes}
use Rattle.std.specs.Fmt.{decimal}
use Rattle.std.specs.List.{flat_map}
use Rattle.std.specs.String.{string_bytes}
use Rattle.gen_graph.proofs.rows.text_from.Given as goal

-- the first number, and each one so far after a comma
abbrev pub invariant-loop-number : goal.invariant-loop-number
invariant-loop-number l = string_bytes l.text ≡ decimal l.fn.first ++ flat_map (λ n. codes "," ++ decimal n) (take l.number-index l.rest)
