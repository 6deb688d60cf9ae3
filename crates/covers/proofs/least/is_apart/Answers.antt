use Rattle.std.proofs.Common.{◌≡◌, inl, inr, sym, ◌∙◌, rules, arith}
use Rattle.std.specs.Prelude.{◌⊎◌, false, slice_index_or}
use Rattle.covers.specs.declared.bound.Cap.{Cap}
use Rattle.covers.specs.inside.Ways.{StaysWithin}
use Rattle.covers.proofs.ApartBoundsAddUp.{apart-more}
use Rattle.covers.proofs.ChangesKeepOrder.{all-done}
use Rattle.covers.proofs.least.is_apart.Goals as goal
use Rattle.covers.proofs.least.is_apart.Goals.{else-is_taken-via-then-is_taken+else-has_way, else-is_taken-via-else-is_taken}

pub loop-cap-preserved : goal.loop-cap-preserved
loop-cap-preserved c =
    apart-more c.args.lattice.now c.args.node.now c.args.taken.now c.as_slice-cap-items.result.now c.loop-cap.cap-index (record { channel = 0; capacity = 0 }) (omega arith) c.loop-cap.invariant
    (elim c.else-is_taken.branch [
      | else-is_taken-via-then-is_taken+else-has_way w ↦ inl (search rules)
      | else-is_taken-via-else-is_taken w ↦ inr (sym c.is_taken.ensures ∙ w.if-is_taken.false)
    ])

pub returns : goal.returns
returns c = λ _.
    all-done (λ (cap : Cap). StaysWithin c.args.lattice.now c.args.node.now cap ⊎ (slice_index_or c.args.taken.now cap.channel false ≡ false)) c.as_slice-cap-items.result.now c.args.bound.now.caps c.loop-cap.cap-index c.as_slice-cap-items.ensures (omega arith) c.loop-cap.invariant
