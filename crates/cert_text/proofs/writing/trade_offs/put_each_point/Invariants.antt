use Rattle.std.proofs.Common.{◌≡◌, ◌++◌, All, take}
use Rattle.std.specs.String.{string_bytes}
use Rattle.std.specs.List.{flat_map}
use Rattle.cert_text.specs.MemberLines.{point_lines}
use Rattle.cert_text.proofs.writing.trade_offs.put_each_point.Given as goal
use Rattle.cert_text.specs.Limits.{IsPointWithin}

abbrev pub invariant-loop-point : goal.invariant-loop-point
invariant-loop-point l = record { text : string_bytes l.text ≡ string_bytes l.initial.text ++ flat_map point_lines (take l.point-index l.points); within : All IsPointWithin (take l.point-index l.points) }
