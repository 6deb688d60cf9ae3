use Rattle.std.proofs.Common.{◌≡◌, ◌+◌, drop}
use Rattle.sd_base.specs.Scenarios.{shared_count}
use Rattle.token_matrix.specs.Stamps.{first_token}
use Rattle.token_matrix.proofs.making.first_token.Given as goal

abbrev pub invariant-loop-row : goal.invariant-loop-row
invariant-loop-row l = record {
  rest : l.first + shared_count (drop l.row-index l.shared) ≡ shared_count l.shared;
  from : l.first + first_token (drop l.row-index l.shared) l.name ≡ first_token l.shared l.name;
}
