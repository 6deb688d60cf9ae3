use Rattle.std.proofs.Common.{◌≡◌, ◌+◌, ◌-◌, ℕ, drop, take, subst, arith}
use Rattle.token_matrix.specs.inside.LaterRows.{IsRaised}
use Rattle.token_matrix.proofs.BatchRows.{taken_more}
use Rattle.token_matrix.proofs.line.Line.take.Goals as goal

pub batches-preserved : goal.batches-preserved
batches-preserved c =
    let more = taken_more c.args.self.now c.batches.self c.take_some.new.self c.args.row.now c.batches.row c.take_some.new.row (c.args.tokens - c.batches.left) (c.batches.left - c.in_ok-left.left)
    c.batches.invariant.rest c.batches.invariant.raised c.in_ok-left.ensures.left c.in_ok-left.ensures.raised in
    let sum : c.args.tokens - c.batches.left + (c.batches.left - c.in_ok-left.left) ≡ c.args.tokens - c.in_ok-left.left = omega (arith, c.batches.invariant.fewer, c.in_ok-left.ensures.fewer) in record {
      fewer = omega (arith, c.batches.invariant.fewer, c.in_ok-left.ensures.fewer);
      rest = subst (λ (n : ℕ). c.take_some.new.self ≡ drop n c.args.self.now) sum more.0;
      raised = subst (λ (n : ℕ). IsRaised (take n c.args.self.now) c.args.row.now c.take_some.new.row) sum more.1;
    }
