use Rattle.std.proofs.Common.{ℕ, ◌+◌, ◌-◌, ◌^◌, ◌∙◌, arith}
use Rattle.std.specs.Prelude.{slice_index}
use Rattle.periodic.proofs.MovedBack.{push-more, small-more}
use Rattle.periodic.proofs.passes.Part.push_to.Goals as goal

pub loop-start-preserved : goal.loop-start-preserved
loop-start-preserved c =
    let part = c.args.self.now in
    let i = c.loop-start.start-index in
    let start : ℕ = slice_index part.starts.now i in
    let old = c.loop-start.row.items in
    let new = c.push_reserved.new.self.items in
    record {
      row = push-more (λ (s : ℕ). s + part.up - c.args.down) part.starts.now c.args.row.now.items old new i c.loop-start-test.true c.loop-start.invariant.row c.push_reserved.ensures.items;
      len = omega (arith, c.push_reserved.ensures.len, c.loop-start.invariant.len);
      capacity = c.push_reserved.ensures.capacity ∙ c.loop-start.invariant.capacity;
      small = λ before. small-more old new (start + part.up - c.args.down) (2 ^ 100) (c.loop-start.invariant.small before) (omega (arith, part.small)) c.push_reserved.ensures.items;
    }
