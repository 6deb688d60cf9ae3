use Rattle.std.proofs.Common.{◌≡◌, ◌+◌, ◌≤◌, drop, min}
use Rattle.sd_base.specs.Scenarios.{shared_count}
use Rattle.scenario_reader.proofs.shared.count_shared.Given as goal

abbrev pub invariant-loop-row : goal.invariant-loop-row
invariant-loop-row l = record {
  few : l.count ≤ 1025;
  same : min (l.count + shared_count (drop l.row-index l.shared)) 1025 ≡ min (shared_count l.shared) 1025;
}
