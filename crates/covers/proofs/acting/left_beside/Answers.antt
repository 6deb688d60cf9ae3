use Rattle.std.proofs.Common.{◌+◌, ◌<◌, ℕ, List, length, take, sym, ap, ◌∙◌, subst, rules, arith}
use Rattle.std.specs.Prelude.{slice_index}
use Rattle.std.proofs.lemmas.List.{take_all}
use Rattle.covers.specs.inside.Leaving.{AreLeft, Dominates}
use Rattle.covers.proofs.FewBoundsSuffice.{dominates-at, left-kept, left-out}
use Rattle.covers.proofs.acting.left_beside.Goals as goal
use Rattle.covers.proofs.acting.left_beside.Goals.{then-not-dominates+in_ok-push, else-not-dominates}

pub loop-place-preserved : goal.loop-place-preserved
loop-place-preserved c =
    let P = λ (left : List ℕ). AreLeft c.args.best.now c.args.bounds.now c.args.bound.now (take (c.loop-place.place-index + 1) c.args.acting.now) left in
    let below : slice_index c.args.acting.now c.loop-place.place-index < length c.args.bounds.now = c.requires.below c.loop-place.place-index 0 (omega arith) in
    elim c.if-not-dominates.branch [
      | then-not-dominates+in_ok-push w ↦ subst P (sym (ap (λ v. v.items) w.left-is ∙ w.in_ok-push.ensures.items))
          (left-kept c.args.best.now c.args.bounds.now c.args.bound.now c.args.acting.now c.loop-place.left.items c.loop-place.place-index (omega arith) below c.loop-place.invariant)
      | else-not-dominates w ↦ subst P (sym (ap (λ v. v.items) w.left-is))
          (let so : Dominates c.args.best.now c.args.bound.now c.index-bounds-place.result = search rules in
          left-out c.args.best.now c.args.bounds.now c.args.bound.now c.args.acting.now c.loop-place.left.items c.loop-place.place-index (omega arith)
          (dominates-at c.args.best.now c.args.bounds.now c.args.bound.now (slice_index c.args.acting.now c.loop-place.place-index) c.index-bounds-place.result below c.index-bounds-place.is so) c.loop-place.invariant)
    ]

pub returns : goal.returns
returns c = subst (λ (places : List ℕ). AreLeft c.args.best.now c.args.bounds.now c.args.bound.now places c.loop-place.left.items) (take_all c.loop-place.place-index c.args.acting.now (omega arith)) c.loop-place.invariant
