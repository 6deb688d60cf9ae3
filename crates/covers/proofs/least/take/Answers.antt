use Rattle.std.proofs.Common.{◌≡◌, ◌+◌, List, Bool, true, sym, subst, take, rules, arith}
use Rattle.std.specs.Prelude.{◌⊎◌, false, slice_index_or}
use Rattle.covers.specs.declared.bound.Cap.{Cap}
use Rattle.covers.specs.inside.Taken.{AreTaken}
use Rattle.covers.specs.inside.Ways.{StaysWithin}
use Rattle.covers.proofs.ApartBoundsAddUp.{taken-more, taken-stays}
use Rattle.covers.proofs.ChangesKeepOrder.{all-done}
use Rattle.covers.proofs.least.take.Goals as goal
use Rattle.covers.proofs.least.take.Goals.{then-has_way, else-has_way}

pub loop-cap-preserved : goal.loop-cap-preserved
loop-cap-preserved c =
    let P = λ (ts : List Bool). AreTaken c.args.lattice.now c.args.node.now (take (c.loop-cap.cap-index + 1) c.as_slice-cap-items.result.now) c.args.taken.now ts in
    elim c.if-has_way.branch [
      | then-has_way w ↦ subst P (sym w.taken-is)
          (taken-more c.args.lattice.now c.args.node.now c.as_slice-cap-items.result.now c.loop-cap.cap-index (record { channel = 0; capacity = 0 }) c.args.taken.now c.loop-cap.taken w.mark.new.taken (omega arith) c.loop-cap.invariant w.mark.ensures (omega (arith, w.if-has_way.ensures.some)))
      | else-has_way w ↦ subst P (sym w.taken-is)
          (taken-stays c.args.lattice.now c.args.node.now c.as_slice-cap-items.result.now c.loop-cap.cap-index (record { channel = 0; capacity = 0 }) c.args.taken.now c.loop-cap.taken (omega arith) c.loop-cap.invariant (search rules))
    ]

pub returns : goal.returns
returns c = record {
  kept = c.loop-cap.invariant.kept;
  each = all-done (λ (cap : Cap). StaysWithin c.args.lattice.now c.args.node.now cap ⊎ (slice_index_or c.loop-cap.taken cap.channel false ≡ true)) c.as_slice-cap-items.result.now c.args.bound.now.caps c.loop-cap.cap-index c.as_slice-cap-items.ensures (omega arith) c.loop-cap.invariant.each;
}
