use Rattle.std.proofs.Common.{◌≡◌, ◌∙◌, length, arith, ℕ, List, [], ◌∷◌, ◌++◌, sym, ap, refl}
use Rattle.std.specs.Prelude.{slice_index}
use Rattle.std.proofs.lemmas.List.{length-append, take_all}
use Rattle.ordered.specs.inside.Steps.{pairs_from}
use Rattle.ordered.proofs.PairsAreNeighbours.{pairs-cut, pairs-new, pairs-same}
use Rattle.ordered.proofs.steps.pairs_of.Goals as goal
use Rattle.ordered.proofs.steps.pairs_of.Goals.{then-not-has_pair+in_ok-push, else-not-has_pair}

pub loop-place-preserved : goal.loop-place-preserved
loop-place-preserved c = elim c.if-not-has_pair.branch [
  | then-not-has_pair+in_ok-push w ↦
      let pushed : c.if-not-has_pair.pairs.items ≡ c.loop-place.pairs.items ++ (slice_index c.args.order.now c.loop-place.place, c.beside.result) ∷ [] = cc (w.in_ok-push.ensures.items, w.pairs-is) in
      let new = pairs-new c.args.order.now c.loop-place.place c.loop-place-test.true (slice_index c.args.order.now c.loop-place.place) c.beside.result c.has_pair.result c.as_slice.result.now refl c.beside.ensures (c.as_slice.ensures.value ∙ c.loop-place.invariant.0) c.has_pair.ensures w.if-not-has_pair.true in (
        pushed ∙ (ap (λ (xs : List (ℕ × ℕ)). xs ++ (slice_index c.args.order.now c.loop-place.place, c.beside.result) ∷ []) c.loop-place.invariant.0 ∙ sym new),
        omega (arith, ap length pushed, length-append c.loop-place.pairs.items ((slice_index c.args.order.now c.loop-place.place, c.beside.result) ∷ []), c.if-len-most.false, c.len.ensures, c.loop-place.pairs.ok.0),
      )
  | else-not-has_pair w ↦
      let same : c.if-not-has_pair.pairs.items ≡ c.loop-place.pairs.items = cc w.pairs-is in
      let old = pairs-same c.args.order.now c.loop-place.place c.loop-place-test.true (slice_index c.args.order.now c.loop-place.place) c.beside.result c.has_pair.result c.as_slice.result.now refl c.beside.ensures (c.as_slice.ensures.value ∙ c.loop-place.invariant.0) c.has_pair.ensures w.if-not-has_pair.false in
      (same ∙ (c.loop-place.invariant.0 ∙ sym old), omega (arith, ap length same, c.loop-place.invariant.1))
]

pub returns-then-len-most : goal.returns-then-len-most
returns-then-len-most c =
    c.loop-place.invariant.0 ∙ pairs-cut c.args.order.now c.loop-place.place c.args.most (omega (arith, c.loop-place-test.true))
    (omega (arith, ap length c.loop-place.invariant.0, c.loop-place.invariant.1, c.if-len-most.true, c.len.ensures, c.loop-place.pairs.ok.0))

pub returns : goal.returns
returns c =
    let all : c.loop-place.place ≡ length c.args.order.now = omega (arith, c.loop-place-test.false, c.loop-place.auto.place-end) in
    let here : c.loop-place.pairs.items ≡ pairs_from c.args.order.now 0 (length c.args.order.now) = c.loop-place.invariant.0 ∙ ap (pairs_from c.args.order.now 0) all in
    here ∙ sym (take_all c.args.most (pairs_from c.args.order.now 0 (length c.args.order.now)) (omega (arith, ap length here, c.loop-place.invariant.1)))
