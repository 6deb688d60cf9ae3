use Rattle.std.proofs.Common.{◌≡◌, Some, List, ℕ, ap, ◌∙◌, subst, arith}
use Rattle.std.specs.Prelude.{slice_get, slice_index}
use Rattle.std.specs.Vec.{with_items}
use Rattle.std.proofs.lemmas.List.{with_items_is}
use Rattle.std.proofs.lemmas.Option.{get_or_from_slice_get, slice_get_within}
use Rattle.walks.specs.declared.telling.Telling.{Telling}
use Rattle.walks.specs.Tellings.{IsHeld, IsHeldAt}
use Rattle.walks.specs.Walks.{with_step}
use Rattle.walks.specs.inside.Lacks.{LacksMost, LacksNone}
use Rattle.walks.proofs.StepsFitLattice.{lack-fits}
use Rattle.walks.proofs.WalkEnds.{begun, gone-on, held-up, lacks-less, place-within, stopped}
use Rattle.walks.proofs.walking.walk.Goals as goal
use Rattle.walks.proofs.walking.walk.Goals.{After-enlarge, After-as_slice-shown, In-Some, In-Some-most_lacking}

-- what holds back what the walk has come to, and the channels that it shows

held : (c : In-Some) → IsHeldAt c.args.tellings.now c.steps.capacities.items c.in-Some.place
held c = subst (λ (ks : List ℕ). IsHeldAt c.args.tellings.now ks c.in-Some.place) c.as_slice.ensures.value c.in-Some.ensures

shown : (c : After-as_slice-shown) (t : Telling) → slice_get c.args.tellings.now c.in-Some.place ≡ Some t → c.as_slice-shown.result.now ≡ t.enlarge
shown c t at = c.as_slice-shown.ensures ∙ ap (λ (x : Telling). x.enlarge) (get_or_from_slice_get c.args.tellings.now c.in-Some.place t c.index-tellings-place.result at)

lacks : (c : In-Some-most_lacking) → LacksMost c.args.lattice.now.axes c.args.goal.now c.steps.capacities.items c.as_slice-shown.result.now c.in-Some-most_lacking.channel
lacks c = subst (λ (ks : List ℕ). LacksMost c.args.lattice.now.axes c.args.goal.now ks c.as_slice-shown.result.now c.in-Some-most_lacking.channel) c.as_slice-in-Some.ensures.value c.in-Some-most_lacking.ensures

-- what it comes to with a step more
new : (c : After-enlarge) → (with_items c.steps.capacities c.enlarge.new.capacities).items ≡ with_step c.args.lattice.now.axes c.steps.capacities.items c.in-Some-most_lacking.channel
new c =
    with_items_is c.steps.capacities c.enlarge.new.capacities (omega (arith, c.enlarge.auto.capacities, c.as_mut_slice.ensures.len))
    ∙ (c.enlarge.ensures ∙ ap (λ (ks : List ℕ). with_step c.args.lattice.now.axes ks c.in-Some-most_lacking.channel) c.as_mut_slice.ensures.value)

pub start-requires : goal.start-requires
start-requires c = place-within c.args.tellings.now c.args.goal.now c.newest_under-by.result c.newest_under-by.ensures

pub steps-init : goal.steps-init
steps-init c = begun c.args.lattice.now.axes c.args.tellings.now c.args.goal.now c.in_ok-capacities.capacities.items c.newest_under-by.result c.newest_under-by.ensures c.in_ok-capacities.ensures

pub bounds-tellings-place : goal.bounds-tellings-place
bounds-tellings-place c = slice_get_within c.args.tellings.now c.in-Some.place c.in-Some.ensures.0 c.in-Some.ensures.1

pub returns-in_default-most_lacking : goal.returns-in_default-most_lacking
returns-in_default-most_lacking c =
    let at = held (goal.at.returns-in_default-most_lacking c).In-Some in (
      at.0,
      at.1,
      held-up c.args.lattice.now.axes c.args.tellings.now c.args.goal.now c.steps.capacities.items c.as_slice-shown.result.now at.0 c.steps.by c.requires.tellings c.requires.goal c.steps.invariant at.2 (shown (goal.at.returns-in_default-most_lacking c).After-as_slice-shown at.0 at.1)
          (subst (λ (ks : List ℕ). LacksNone c.args.lattice.now.axes c.args.goal.now ks c.as_slice-shown.result.now) c.as_slice-in-Some.ensures.value c.in_default-most_lacking.ensures),
    )

pub enlarge-requires : goal.enlarge-requires
enlarge-requires c =
    let fits = lack-fits c.args.lattice.now.axes c.args.goal.now c.steps.capacities.items c.in-Some-most_lacking.channel (lacks (goal.at.enlarge-requires c).In-Some-most_lacking).some in
    omega (arith, fits, ap (λ (ks : List ℕ). slice_index ks c.in-Some-most_lacking.channel) c.as_mut_slice.ensures.value, (c.type_inv.goal c.in-Some-most_lacking.channel).fits)

pub steps-preserved : goal.steps-preserved
steps-preserved c =
    let at = held (goal.at.steps-preserved c).In-Some in
    gone-on c.args.lattice.now.axes c.args.tellings.now c.args.goal.now c.steps.capacities.items _ c.as_slice-shown.result.now at.0 c.in-Some.place c.in-Some-most_lacking.channel c.steps.by c.steps.invariant at.1 at.2
    (shown (goal.at.steps-preserved c).After-as_slice-shown at.0 at.1) (lacks (goal.at.steps-preserved c).In-Some-most_lacking) (new (goal.at.steps-preserved c).After-enlarge)

pub steps-smaller : goal.steps-smaller
steps-smaller c =
    lacks-less c.args.lattice.now.axes c.args.tellings.now c.args.goal.now c.steps.capacities.items _ c.in-Some-most_lacking.channel c.requires.tellings c.requires.goal c.steps.invariant.walked
    (lack-fits c.args.lattice.now.axes c.args.goal.now c.steps.capacities.items c.in-Some-most_lacking.channel (lacks (goal.at.steps-smaller c).In-Some-most_lacking).some) (new (goal.at.steps-smaller c).After-enlarge)

pub returns : goal.returns
returns c =
    stopped c.args.lattice.now.axes c.args.tellings.now c.args.goal.now c.steps.capacities.items c.from_vec.result c.steps.by c.requires.tellings c.requires.goal c.steps.invariant
    (subst (λ (ks : List ℕ). IsHeld c.args.tellings.now ks → ⊥) c.as_slice.ensures.value c.in_default.ensures) c.from_vec.ensures
