use Rattle.std.proofs.Common.{◌≡◌, All, Some, length}
use Rattle.std.specs.List.{AllZip}
use Rattle.cert_text.specs.Orderly.{used_by}
use Rattle.cert_text.specs.Spellable.{IsCycleText}
use Rattle.cert_maker.specs.StorageCertificates.{IsMemberLine}
use Rattle.cert_maker.proofs.members.list.Given as goal

-- the lines of the members that were listed
abbrev pub invariant-loop-member : goal.invariant-loop-member
invariant-loop-member g l = record {
  lines : AllZip (IsMemberLine (g.F.Firing.net l.net) l.cycles) l.yielded l.lines.items;
  used : used_by 0 l.lines.items ≡ Some (length l.cycles);
  text : All IsCycleText l.cycles;
}
