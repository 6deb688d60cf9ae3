use Rattle.std.proofs.Common.{◌≤◌, ◌*◌, ◌-◌, length}
use Rattle.scenario_rate.specs.inside.Searches.{AreLevels, IsLastSmall}
use Rattle.scenario_rate.proofs.passes.search_at.Given as goal

abbrev pub invariant-searches : goal.invariant-searches
invariant-searches l = record {
  few : l.most ≤ l.graph.states * l.graph.tokens;
  levels : AreLevels l.graph l.rounds l.time l.rows.items;
  made : 1 ≤ length l.rows.items;
  below : length l.rows.items ≤ l.most;
  small : IsLastSmall l.rows.items;
}

abbrev pub decreases-searches : goal.decreases-searches
decreases-searches l = l.graph.states * l.graph.tokens - l.most
