use Rattle.std.proofs.Common.{◌≡◌, ◌≤◌, ◌-◌, take, drop}
use Rattle.token_matrix.specs.inside.LaterRows.{IsRaised}
use Rattle.token_matrix.proofs.line.Line.take.Given as goal

abbrev pub invariant-batches : goal.invariant-batches
invariant-batches l = record {
  fewer : l.left ≤ l.tokens;
  rest : l.self ≡ drop (l.tokens - l.left) l.initial.self;
  raised : IsRaised (take (l.tokens - l.left) l.initial.self) l.initial.row l.row;
}

abbrev pub decreases-batches : goal.decreases-batches
decreases-batches l = l.left
