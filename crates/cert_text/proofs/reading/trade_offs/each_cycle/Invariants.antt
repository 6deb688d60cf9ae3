use Rattle.std.proofs.Common.{◌≡◌, ◌-◌, ◌++◌, [], All, length}
use Rattle.std.specs.List.{flat_map}
use Rattle.cert_text.specs.CycleLines.{cycle_lines}
use Rattle.cert_text.specs.Found.{HasTexts}
use Rattle.cert_text.specs.Orderly.{Differ}
use Rattle.cert_text.specs.Reads.{lines_of}
use Rattle.cert_text.specs.Sections.{new_cycles_from}
use Rattle.cert_text.specs.Spellable.{IsCycleText}
use Rattle.cert_text.proofs.reading.trade_offs.each_cycle.Given as goal

abbrev pub invariant-loop-place : goal.invariant-loop-place
invariant-loop-place l = record {
  texts : HasTexts l.cycles.numbers l.cycles.list.items;
  text : l.fn.lines.rest.now ≡ flat_map cycle_lines l.cycles.list.items ++ l.lines.rest.now;
  many : length l.cycles.list.items ≡ l.place;
  each : All IsCycleText l.cycles.list.items;
  differ : Differ l.cycles.list.items;
  exact : new_cycles_from (l.count - l.place) l.cycles.list.items (lines_of l.lines.rest.now) ≡ new_cycles_from l.count [] (lines_of l.fn.lines.rest.now);
}
