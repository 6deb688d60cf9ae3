use Rattle.std.proofs.Common.{rules, arith}
use Rattle.std.proofs.lemmas.List.Elements.{All-more}
use Rattle.covers.specs.Bounds.{IsWithin}
use Rattle.covers.proofs.ChangesKeepOrder.{all-done, within-here}
use Rattle.covers.proofs.bound.Bound.covers.Goals as goal

pub loop-cap-preserved : goal.loop-cap-preserved
loop-cap-preserved c =
    All-more (IsWithin c.args.capacities.now) c.as_slice-cap-items.result.now c.loop-cap.cap-index _ (omega arith) c.loop-cap.invariant
    (within-here c.args.capacities.now c.as_slice-cap-items.result.now c.loop-cap.cap-index _ c.capacity_at.result c.capacity_at.ensures c.if-capacity_at-cap.false)

pub returns : goal.returns
returns c = (
  λ _. all-done (IsWithin c.args.capacities.now) c.as_slice-cap-items.result.now c.args.self.now.caps c.loop-cap.cap-index c.as_slice-cap-items.ensures (omega arith) c.loop-cap.invariant,
  λ _. search rules,
)
