use Rattle.std.proofs.Common.{◌≡◌, ◌+◌, ◌++◌, ◌∷◌, ◌<◌, [], ℕ, List, true, false, sym, ◌∙◌, subst, true≢false, rules}
use Rattle.std.specs.Prelude.{◌↔◌, Contains, slice_index_or}
use Rattle.sd_base.proofs.ContainedHavePlaces.{listed-more, listed-other}
use Rattle.scenario_storage.proofs.shown.listed.Goals as goal
use Rattle.scenario_storage.proofs.shown.listed.Goals.{then-marks-place+in_ok-push, else-marks-place}

pub loop-place-preserved : goal.loop-place-preserved
loop-place-preserved c =
    let P : ℕ → Type 0 = λ i. slice_index_or c.args.marks.now i false ≡ true in
    let n = c.loop-place.place in
    let xs = c.loop-place.list in
    let Q : List ℕ → Type 0 = λ ys. (i : ℕ) → Contains ys i ↔ ((i < n + 1) × P i) in
    elim c.if-marks-place.branch [
      | then-marks-place+in_ok-push w ↦
          let here : P n = search rules in
          let pushed : c.if-marks-place.list ≡ xs ++ n ∷ [] = search rules in
          subst Q (sym pushed) (listed-more P xs n c.loop-place.invariant here)
      | else-marks-place w ↦
          let not : slice_index_or c.args.marks.now n false ≡ false = search rules in
          let none : P n → ⊥ = λ here. absurd (true≢false (sym here ∙ not)) in
          let same : c.if-marks-place.list ≡ xs = search rules in
          subst Q (sym same) (listed-other P xs n c.loop-place.invariant none)
    ]
