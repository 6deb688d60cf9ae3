use Rattle.std.proofs.Common.{◌≡◌, ℕ, List, sym, ◌∙◌, subst, rules, arith}
use Rattle.std.specs.Prelude.{All, slice_index}
use Rattle.std.proofs.lemmas.List.Elements.{All-more}
use Rattle.covers.proofs.ChangesKeepOrder.{all-done}
use Rattle.walks.proofs.telling.Telling.shows_same.Goals as goal

pub loop-channel-preserved : goal.loop-channel-preserved
loop-channel-preserved c =
    All-more (λ (d : ℕ). slice_index c.args.capacities.now d ≡ slice_index c.as_slice-evaluated.result.now d) c.as_slice-channel-items.result.now c.loop-channel.channel-index 0 (omega arith) c.loop-channel.invariant
    (sym c.capacity_at.ensures ∙ (c.if-capacity_at.false ∙ c.capacity_at-in-loop-channel.ensures))

pub returns : goal.returns
returns c = (
  λ _. subst (λ (es : List ℕ). All (λ (d : ℕ). slice_index c.args.capacities.now d ≡ slice_index es d) c.args.self.now.enlarge) c.as_slice-evaluated.ensures
      (all-done (λ (d : ℕ). slice_index c.args.capacities.now d ≡ slice_index c.as_slice-evaluated.result.now d) c.as_slice-channel-items.result.now c.args.self.now.enlarge c.loop-channel.channel-index c.as_slice-channel-items.ensures (omega arith) c.loop-channel.invariant),
  λ _. search rules,
)
