use Rattle.std.specs.Prelude.{◌↔◌, Contains, take}
use Rattle.entry_ways.specs.declared.marking.EntryPlace.{EntryPlace}
use Rattle.scenario_storage.specs.inside.Shown.{IsEntryIn}
use Rattle.scenario_storage.proofs.shown.entries_of.Given as goal

abbrev pub invariant-loop-number : goal.invariant-loop-number
invariant-loop-number l = (x : EntryPlace) → Contains l.entries.items x ↔ IsEntryIn l.states l.graph (take l.number-index l.cycle) l.scenario x
