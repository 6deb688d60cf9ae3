use Rattle.std.proofs.Common.{◌≡◌, ◌-◌, drop, length, length-drop, sym, ap, ◌∙◌, subst, arith}
use Rattle.std.specs.Prelude.{All}
use Rattle.std.proofs.lemmas.List.{take_all}
use Rattle.covers.specs.Bounds.{IsWithin}
use Rattle.covers.proofs.FewBoundsSuffice.{within-more}
use Rattle.covers.proofs.bound.Bound.covers_all_of.Goals as goal
use Rattle.covers.proofs.bound.Bound.covers_all_of.Goals.{then-first-cap-2+then-cap-first, else-first-cap-2}

pub loop-cap-preserved : goal.loop-cap-preserved
loop-cap-preserved c = λ ks covers all.
    elim c.if-first-cap-2.branch [
      | then-first-cap-2+then-cap-first w ↦
          (let rest : c.if-first-cap-2.left.now ≡ drop 1 c.loop-cap.left.now
          = ap (λ l. l.now) w.left-is ∙ take_all (length c.loop-cap.left.now - 1) (drop 1 c.loop-cap.left.now) (omega (arith, length-drop 1 c.loop-cap.left.now)) in
          let here = subst (All (IsWithin ks)) (sym c.as_slice-cap-items.ensures) covers c.loop-cap.cap-index (record { channel = 0; capacity = 0 }) c.loop-cap-test.true in
          c.loop-cap.invariant ks covers (within-more ks c.loop-cap.left.now _ (record { channel = 0; capacity = 0 }) c.in-len1-up.len_at_least (sym w.if-first-cap-2.true) w.if-cap-first.true here (subst (All (IsWithin ks)) rest all)))
      | else-first-cap-2 w ↦ c.loop-cap.invariant ks covers (subst (All (IsWithin ks)) (ap (λ l. l.now) w.left-is) all)
    ]
