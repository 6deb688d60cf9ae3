use Rattle.std.proofs.Common.{◌≡◌, length}
use Rattle.scenario_rate.specs.inside.Levels.{IsRaised, cell_at}
use Rattle.scenario_rate.proofs.levels.next_row.Given as goal

abbrev pub invariant-loop-number : goal.invariant-loop-number
invariant-loop-number l = record {
  raised : IsRaised l.edges l.number l.rounds l.time (cell_at l.row) (cell_at l.next.items);
  size : length l.next.items ≡ length l.row;
}
