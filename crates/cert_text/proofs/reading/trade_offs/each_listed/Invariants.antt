use Rattle.std.proofs.Common.{◌≡◌, ◌-◌, ◌++◌, All, List, Some, length}
use Rattle.std.specs.List.{flat_map}
use Rattle.cert_text.specs.declared.certificates.LinkCycle.{LinkCycle}
use Rattle.cert_text.specs.declared.certificates.MemberLine.{MemberLine}
use Rattle.cert_text.specs.Found.{HasTexts}
use Rattle.cert_text.specs.MemberLines.{member_lines}
use Rattle.cert_text.specs.Orderly.{Differ, used_by}
use Rattle.cert_text.specs.Reads.{lines_of, handing}
use Rattle.cert_text.specs.Sections.{listed_from, member_from}
use Rattle.cert_text.specs.Spellable.{AreShown, IsCycleText}
use Rattle.cert_text.proofs.FoundCycles.{with_members}
use Rattle.cert_text.proofs.reading.trade_offs.each_listed.Given as goal

abbrev pub invariant-loop-place : goal.invariant-loop-place
invariant-loop-place l = record {
  texts : HasTexts l.cycles.numbers l.cycles.list.items;
  text : (later : List LinkCycle) → l.fn.lines.rest.now ≡ flat_map (member_lines 1 (l.cycles.list.items ++ later)) l.members.items ++ l.lines.rest.now;
  many : length l.members.items ≡ l.place;
  each : All (λ (x : MemberLine). AreShown x.shown) l.members.items;
  spelled : All IsCycleText l.cycles.list.items;
  differ : Differ l.cycles.list.items;
  used : used_by 0 l.members.items ≡ Some (length l.cycles.list.items);
  exact : with_members l.members.items (handing (member_from listed_from) (l.count - l.place) l.cycles.list.items (lines_of l.lines.rest.now)) ≡ handing (member_from listed_from) l.count l.fn.cycles.list.items (lines_of l.fn.lines.rest.now);
}
