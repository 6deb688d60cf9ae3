use Rattle.std.proofs.Common.{◌≡◌, ◌≤◌, ◌+◌, drop}
use Rattle.sd_base.specs.declared.limits.TheConstants.{STAMPS}
use Rattle.sd_base.specs.Scenarios.{shared_count}
use Rattle.token_matrix.proofs.making.token_count.Given as goal

abbrev pub invariant-loop-row : goal.invariant-loop-row
invariant-loop-row l = record {
  few : l.count ≤ STAMPS;
  rest : l.count + shared_count (drop l.row-index l.shared) ≡ shared_count l.shared;
}
