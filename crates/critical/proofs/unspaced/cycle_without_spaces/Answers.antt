use Rattle.std.proofs.Common.{List, Option, ℕ, [], subst, sym}
use Rattle.critical.specs.inside.Trails.{AreOffsets}
use Rattle.critical.specs.inside.Searches.{IsSearch}
use Rattle.critical.proofs.LoopsAreShort.{short-loop}
use Rattle.critical.proofs.RanksRuleOutCycles.{none-unspaced}
use Rattle.critical.proofs.SearchGoesOn.{search-none}
use Rattle.critical.proofs.unspaced.cycle_without_spaces.Goals as goal

pub offsets-requires : goal.offsets-requires
offsets-requires g c = (short-loop (g.F.Firing.net c.args.wired.now.net.now) c.args.table.now c.know_laws.ensures c.requires.inputs c.requires.table c.requires.few).short

pub way_round-requires-clause-pass : goal.way_round-requires-clause-pass
way_round-requires-clause-pass g c = record {
  short = short-loop (g.F.Firing.net c.args.wired.now.net.now) c.args.table.now c.know_laws.ensures c.requires.inputs c.requires.table c.requires.few;
  placed = subst (AreOffsets c.args.table.now.starts) (sym c.as_slice-begins.ensures.value) c.in_ok-offsets.ensures;
}

pub way_round-requires-clause-marks : goal.way_round-requires-clause-marks
way_round-requires-clause-marks g c =
    subst (λ (ms : List (Option ℕ)). IsSearch (g.F.Firing.net c.args.wired.now.net.now) c.args.table.now [] ms) (sym c.as_mut_slice.ensures.value)
    (search-none (g.F.Firing.net c.args.wired.now.net.now) c.args.table.now c.in_ok-marks.marks.items c.places_of.result c.places_of.ensures c.in_ok-marks.ensures)

pub closed-requires-clause-pass : goal.closed-requires-clause-pass
closed-requires-clause-pass g c = record {
  short = short-loop (g.F.Firing.net c.args.wired.now.net.now) c.args.table.now c.know_laws.ensures c.requires.inputs c.requires.table c.requires.few;
  placed = subst (AreOffsets c.args.table.now.starts) (sym c.as_slice-begins.ensures.value) c.in_ok-offsets.ensures;
}

pub returns-clause-none : goal.returns-clause-none
returns-clause-none g c = λ none.
    none-unspaced (g.F.Firing.net c.args.wired.now.net.now) c.args.table.now
    (short-loop (g.F.Firing.net c.args.wired.now.net.now) c.args.table.now c.know_laws.ensures c.requires.inputs c.requires.table c.requires.few) (rw c.in-None.is at c.in_ok-way.ensures)
