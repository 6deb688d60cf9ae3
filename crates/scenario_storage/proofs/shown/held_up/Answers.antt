use Rattle.std.proofs.Common.{◌≡◌, ◌+◌, ◌++◌, ◌∷◌, ◌<◌, [], ℕ, List, slice_index, sym, ◌∙◌, subst, true≢false, arith, rules}
use Rattle.std.specs.Prelude.{◌↔◌, Contains}
use Rattle.scenario_storage.specs.inside.Shown.{IsWaitedFor}
use Rattle.sd_base.proofs.ContainedHavePlaces.{listed-more, listed-other}
use Rattle.scenario_storage.proofs.ToldNumbersAreListed.{listed-all}
use Rattle.scenario_storage.proofs.SpaceNumbers.{has-place}
use Rattle.scenario_storage.proofs.shown.held_up.Goals as goal
use Rattle.scenario_storage.proofs.shown.held_up.Goals.{then-waits_for+in_ok-push, else-waits_for}

pub loop-place-preserved : goal.loop-place-preserved
loop-place-preserved g c =
    let P : ℕ → Type 0 = λ i. IsWaitedFor (g.F.Firing.net c.args.net.now) (g.F.Firing.net c.args.bounded.now) c.args.spaces.now (slice_index c.args.counts.now) i in
    let n = c.loop-place.place in
    let xs = c.loop-place.shown in
    let Q : List ℕ → Type 0 = λ ys. (i : ℕ) → Contains ys i ↔ ((i < n + 1) × P i) in
    elim c.if-waits_for.branch [
      | then-waits_for+in_ok-push w ↦
          let here : P n = c.waits_for.ensures.0 w.if-waits_for.true in
          let pushed : c.if-waits_for.shown ≡ xs ++ n ∷ [] = search rules in
          subst Q (sym pushed) (listed-more P xs n c.loop-place.invariant here)
      | else-waits_for w ↦
          let none : P n → ⊥ = λ here. absurd (true≢false (sym (c.waits_for.ensures.1 here) ∙ w.if-waits_for.false)) in
          let same : c.if-waits_for.shown ≡ xs = search rules in
          subst Q (sym same) (listed-other P xs n c.loop-place.invariant none)
    ]

pub returns : goal.returns
returns g c = λ i.
    listed-all (λ k. IsWaitedFor (g.F.Firing.net c.args.net.now) (g.F.Firing.net c.args.bounded.now) c.args.spaces.now (slice_index c.args.counts.now) k) c.loop-place.shown c.loop-place.place c.loop-place.invariant
    (λ k here. let low = has-place c.args.spaces.now k here.0 here.1 in omega (arith, low, c.loop-place-test.false)) i
