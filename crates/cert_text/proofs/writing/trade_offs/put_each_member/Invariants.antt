use Rattle.std.proofs.Common.{◌≡◌, ◌++◌, All, take}
use Rattle.std.specs.String.{string_bytes}
use Rattle.std.specs.List.{flat_map}
use Rattle.cert_text.specs.MemberLines.{member_lines}
use Rattle.cert_text.proofs.writing.trade_offs.put_each_member.Given as goal
use Rattle.cert_text.specs.Limits.{IsMemberWithin, NameWithin}

abbrev pub invariant-loop-member : goal.invariant-loop-member
invariant-loop-member l = record { text : string_bytes l.text ≡ string_bytes l.initial.text ++ flat_map (member_lines l.version l.cycles) (take l.member-index l.members); within : All IsMemberWithin (take l.member-index l.members); named : l.version ≡ 1 → NameWithin l.cycles (take l.member-index l.members) }
