use Rattle.std.proofs.Common.{◌≡◌, ◌+◌, ◌++◌, ◌∷◌, ◌<◌, [], ℕ, List, slice_index, sym, ◌∙◌, subst, true≢false, arith, rules}
use Rattle.std.specs.Prelude.{◌↔◌, Contains}
use Rattle.critical.specs.Spaces.{IsRising}
use Rattle.storage.specs.ShownSpaces.{ShowsSpace}
use Rattle.sd_base.proofs.ContainedHavePlaces.{listed-more, listed-other}
use Rattle.guide.proofs.RisingListsGrow.{rising-more}
use Rattle.guide.proofs.held_up.shown_channels.Goals as goal
use Rattle.guide.proofs.held_up.shown_channels.Goals.{then-shows_space+in_ok-push, else-shows_space}

pub loop-channel-preserved : goal.loop-channel-preserved
loop-channel-preserved g c =
    let P : ℕ → Type 0 = λ i. ShowsSpace (g.F.Firing.net c.args.net.now) c.args.capacities.now.capacities (slice_index c.args.counts.now) i in
    let n = c.loop-channel.channel in
    let xs = c.loop-channel.shown in
    let Q : List ℕ → Type 0 = λ ys. IsRising ys × ((i : ℕ) → Contains ys i ↔ ((i < n + 1) × P i)) in
    elim c.if-shows_space.branch [
      | then-shows_space+in_ok-push w ↦
          let here : P n = c.shows_space.ensures.0 w.if-shows_space.true in
          let pushed : c.if-shows_space.shown ≡ xs ++ n ∷ [] = search rules in
          subst Q (sym pushed) (rising-more xs n c.loop-channel.invariant.0 (λ y has. ((c.loop-channel.invariant.1 y).0 has).0), listed-more P xs n c.loop-channel.invariant.1 here)
      | else-shows_space w ↦
          let none : P n → ⊥ = λ here. absurd (true≢false (sym (c.shows_space.ensures.1 here) ∙ w.if-shows_space.false)) in
          let same : c.if-shows_space.shown ≡ xs = search rules in
          subst Q (sym same) (c.loop-channel.invariant.0, listed-other P xs n c.loop-channel.invariant.1 none)
    ]

pub returns-clause-shown : goal.returns-clause-shown
returns-clause-shown g c = λ i. (
  λ has. ((c.loop-channel.invariant.1 i).0 has).1,
  λ shows. (c.loop-channel.invariant.1 i).1 (omega (arith, shows.place), shows),
)
