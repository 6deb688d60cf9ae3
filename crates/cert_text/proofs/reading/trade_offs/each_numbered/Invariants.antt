use Rattle.std.proofs.Common.{◌≡◌, ◌-◌, ◌≤◌, ◌++◌, All, List, Some, length}
use Rattle.std.specs.List.{flat_map}
use Rattle.cert_text.specs.declared.certificates.LinkCycle.{LinkCycle}
use Rattle.cert_text.specs.declared.certificates.MemberLine.{MemberLine}
use Rattle.cert_text.specs.MemberLines.{member_lines}
use Rattle.cert_text.specs.Orderly.{used_by}
use Rattle.cert_text.specs.Reads.{lines_of, handing}
use Rattle.cert_text.specs.Sections.{numbered_from, member_from}
use Rattle.cert_text.specs.Spellable.{AreShown}
use Rattle.cert_text.proofs.FoundCycles.{with_members}
use Rattle.cert_text.proofs.reading.trade_offs.each_numbered.Given as goal

abbrev pub invariant-loop-place : goal.invariant-loop-place
invariant-loop-place l = record {
  within : l.used ≤ l.all;
  text : (cycles : List LinkCycle) → l.fn.lines.rest.now ≡ flat_map (member_lines 2 cycles) l.members.items ++ l.lines.rest.now;
  many : length l.members.items ≡ l.place;
  each : All (λ (x : MemberLine). AreShown x.shown) l.members.items;
  used : used_by l.fn.used l.members.items ≡ Some l.used;
  exact : with_members l.members.items (handing (member_from (numbered_from l.all)) (l.count - l.place) l.used (lines_of l.lines.rest.now)) ≡ handing (member_from (numbered_from l.all)) l.count l.fn.used (lines_of l.fn.lines.rest.now);
}
