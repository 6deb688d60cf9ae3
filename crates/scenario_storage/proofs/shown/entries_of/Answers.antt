use Rattle.std.proofs.Common.{◌≡◌, ◌+◌, ◌++◌, ◌∷◌, ◌<◌, ◌/◌, [], ℕ, List, take, length, ap, sym, ◌∙◌, subst, arith, rules}
use Rattle.std.specs.Prelude.{◌↔◌, Contains, Some, slice_get, slice_index_or}
use Rattle.std.proofs.lemmas.List.{take_all, take_more}
use Rattle.std.proofs.lemmas.List.Elements.{Contains-get_or}
use Rattle.std.proofs.lemmas.Option.{slice_get-get_or}
use Rattle.automaton.specs.declared.graph.Edge.{Edge}
use Rattle.entry_ways.specs.declared.marking.EntryPlace.{EntryPlace}
use Rattle.scenario_storage.specs.inside.Shown.{IsEntryIn, place_of, scenario_at}
use Rattle.scenario_storage.proofs.ToldNumbersAreListed.{entries-more, entries-other}
use Rattle.scenario_storage.proofs.shown.entries_of.Goals as goal
use Rattle.scenario_storage.proofs.shown.entries_of.Goals.{then-scenario_of-scenario+in_ok-push, else-scenario_of-scenario}

pub bounds-as_slice-number : goal.bounds-as_slice-number
bounds-as_slice-number c =
    let n = slice_index_or c.args.cycle.now c.loop-number.number-index 0 in
    subst (λ (es : List Edge). n < length es) (sym c.as_slice.ensures) (c.requires.cycle n (Contains-get_or c.args.cycle.now c.loop-number.number-index 0 (omega (arith, c.loop-number-test.true))))

pub scenario_of-requires-clause-states : goal.scenario_of-requires-clause-states
scenario_of-requires-clause-states c =
    let n = slice_index_or c.args.cycle.now c.loop-number.number-index 0 in
    let below = c.requires.cycle n (Contains-get_or c.args.cycle.now c.loop-number.number-index 0 (omega (arith, c.loop-number-test.true))) in
    let e : Edge = record { from = 0; to = 0; weight = 0 } in
    subst (λ (es : List Edge). (slice_index_or es n e).from / c.args.graph.now.tokens < length c.args.states.now) (sym c.as_slice.ensures)
    (c.requires.states n (slice_index_or c.args.graph.now.edges n e) (slice_get-get_or c.args.graph.now.edges n e below))

pub loop-number-preserved : goal.loop-number-preserved
loop-number-preserved c =
    let k = c.loop-number.number-index in
    let cycle = c.args.cycle.now in
    let n = slice_index_or c.args.cycle.now c.loop-number.number-index 0 in
    let low : c.loop-number.number-index < length c.args.cycle.now = omega (arith, c.loop-number-test.true) in
    let d : Edge = record { from = 0; to = 0; weight = 0 } in
    let e : Edge = slice_index_or c.args.graph.now.edges n d in
    let at : slice_get c.args.graph.now.edges n ≡ Some (slice_index_or c.args.graph.now.edges n d) = slice_get-get_or c.args.graph.now.edges n d (c.requires.cycle n (Contains-get_or cycle k 0 low)) in
    let own : slice_index_or c.as_slice.result.now n d ≡ slice_index_or c.args.graph.now.edges n d = ap (λ (es : List Edge). slice_index_or es n d) c.as_slice.ensures in
    let its : c.scenario_of.result ≡ scenario_at c.args.states.now c.args.graph.now.tokens (slice_index_or c.args.graph.now.edges n d) =
    c.scenario_of.ensures ∙ ap (scenario_at c.args.states.now c.args.graph.now.tokens) own in
    let xs = c.loop-number.entries.items in
    let longer : take k cycle ++ n ∷ [] ≡ take (k + 1) cycle = sym (take_more cycle k 0 low) in
    let Q : List ℕ → List EntryPlace → Type 0 = λ ks es. (x : EntryPlace) → Contains es x ↔ IsEntryIn c.args.states.now c.args.graph.now ks c.args.scenario x in
    elim c.if-scenario_of-scenario.branch [
      | then-scenario_of-scenario+in_ok-push w ↦
          let same : scenario_at c.args.states.now c.args.graph.now.tokens (slice_index_or c.args.graph.now.edges n d) ≡ c.args.scenario = sym its ∙ w.if-scenario_of-scenario.true in
          let place : w.entry_of.result ≡ place_of c.args.graph.now.tokens (slice_index_or c.args.graph.now.edges n d) = w.entry_of.ensures ∙ ap (place_of c.args.graph.now.tokens) own in
          let pushed : c.if-scenario_of-scenario.entries.items ≡ xs ++ w.entry_of.result ∷ [] = search rules in
          subst (λ (ks : List ℕ). Q ks c.if-scenario_of-scenario.entries.items) longer
          (subst (Q (take k cycle ++ n ∷ [])) (sym (pushed ∙ ap (λ (x : EntryPlace). xs ++ x ∷ []) place))
          (entries-more c.args.states.now c.args.graph.now (take k cycle) n c.args.scenario xs e at c.loop-number.invariant same))
      | else-scenario_of-scenario w ↦
          let other : scenario_at c.args.states.now c.args.graph.now.tokens (slice_index_or c.args.graph.now.edges n d) ≡ c.args.scenario → ⊥ = λ h. w.if-scenario_of-scenario.false (its ∙ h) in
          let same : c.if-scenario_of-scenario.entries.items ≡ xs = search rules in
          subst (λ (ks : List ℕ). Q ks c.if-scenario_of-scenario.entries.items) longer
          (subst (Q (take k cycle ++ n ∷ [])) (sym same) (entries-other c.args.states.now c.args.graph.now (take k cycle) n c.args.scenario xs e at c.loop-number.invariant other))
    ]

pub returns : goal.returns
returns c =
    let all : take c.loop-number.number-index c.args.cycle.now ≡ c.args.cycle.now = take_all c.loop-number.number-index c.args.cycle.now (omega (arith, c.loop-number-test.false)) in
    subst (λ (ks : List ℕ). (x : EntryPlace) → Contains c.loop-number.entries.items x ↔ IsEntryIn c.args.states.now c.args.graph.now ks c.args.scenario x) all c.loop-number.invariant
