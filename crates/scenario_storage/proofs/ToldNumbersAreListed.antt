-- Lists of the numbers that are told, one after another.
use Rattle.std.proofs.Common.{◌≡◌, ℕ, zero, suc, ◌+◌, ◌*◌, ◌≤◌, ◌<◌, ◌⊎◌, Some, List, [], ◌∷◌, ◌++◌, length, inl, inr, ⊎_elim, subst, arith}
use Rattle.std.specs.Prelude.{◌↔◌, Contains, slice_get}
use Rattle.std.proofs.lemmas.List.Elements.{Contains-append_left, Contains-push, Contains-push_cases}
use Rattle.std.proofs.lemmas.Option.{slice_get_within}
use Rattle.sd_base.specs.declared.tables.StateRow.{StateRow}
use Rattle.automaton.specs.declared.graph.Edge.{Edge}
use Rattle.automaton.specs.declared.graph.TimedGraph.{TimedGraph}
use Rattle.automaton.specs.CriticalCycles.{IsPath}
use Rattle.sd_base.proofs.ContainedHavePlaces.{contains-cases}
use Rattle.entry_ways.specs.declared.marking.EntryPlace.{EntryPlace}
use Rattle.scenario_storage.specs.inside.Shown.{IsEntryIn, place_of, scenario_at}

-- where P tells no number past n, all that it tells are listed
pub listed-all : (P : ℕ → Type 0) (xs : List ℕ) (n : ℕ) → ((c : ℕ) → Contains xs c ↔ ((c < n) × P c)) → ((c : ℕ) → P c → c < n) → (c : ℕ) → Contains xs c ↔ P c
listed-all P xs n listed below c = (λ has. ((listed c).0 has).1, λ here. (listed c).1 (below c here, here))

-- entries of edges of a cycle, one edge after another

module _ (states : List StateRow) (graph : TimedGraph) (cycle : List ℕ) (n s : ℕ) (entries : List EntryPlace) (e : Edge) (at : slice_get graph.edges n ≡ Some e)
    (listed : (x : EntryPlace) → Contains entries x ↔ IsEntryIn states graph cycle s x) where
  older : (x : EntryPlace) → IsEntryIn states graph cycle s x → IsEntryIn states graph (cycle ++ n ∷ []) s x
  older x is = record { number = is.number; on = Contains-append_left cycle (n ∷ []) is.number is.on; edge = is.edge; is = is.is; scenario = is.scenario; place = is.place }

  -- an entry is of an older edge, or of this one
  split : (x : EntryPlace) → IsEntryIn states graph (cycle ++ n ∷ []) s x → IsEntryIn states graph cycle s x ⊎ ((scenario_at states graph.tokens e ≡ s) × (place_of graph.tokens e ≡ x))
  split x is =
      ⊎_elim
      (λ (h : Contains cycle is.number). inl (record { number = is.number; on = h; edge = is.edge; is = is.is; scenario = is.scenario; place = is.place }))
      (λ (h : n ≡ is.number).
      let there : slice_get graph.edges is.number ≡ Some e = subst (λ (k : ℕ). slice_get graph.edges k ≡ Some e) h at in
      let get : slice_get graph.edges is.number ≡ Some is.edge = is.is in
      let same : is.edge ≡ e = cc in
      inr (subst (λ (y : Edge). scenario_at states graph.tokens y ≡ s) same is.scenario, subst (λ (y : Edge). place_of graph.tokens y ≡ x) same is.place))
      (Contains-push_cases cycle n is.number is.on)

  pub entries-more : scenario_at states graph.tokens e ≡ s → (x : EntryPlace) → Contains (entries ++ place_of graph.tokens e ∷ []) x ↔ IsEntryIn states graph (cycle ++ n ∷ []) s x
  entries-more same x = (
    λ one. ⊎_elim
        (λ (h : Contains entries x). older x ((listed x).0 h))
        (λ (h : place_of graph.tokens e ≡ x). record { number = n; on = Contains-push cycle n; edge = e; is = at; scenario = same; place = h })
        (Contains-push_cases entries (place_of graph.tokens e) x one),
    λ is. ⊎_elim
        (λ (h : IsEntryIn states graph cycle s x). Contains-append_left entries (place_of graph.tokens e ∷ []) x ((listed x).1 h))
        (λ (h : (scenario_at states graph.tokens e ≡ s) × (place_of graph.tokens e ≡ x)). subst (Contains (entries ++ place_of graph.tokens e ∷ [])) h.1 (Contains-push entries (place_of graph.tokens e)))
        (split x is),
  )

  pub entries-other : (scenario_at states graph.tokens e ≡ s → ⊥) → (x : EntryPlace) → Contains entries x ↔ IsEntryIn states graph (cycle ++ n ∷ []) s x
  entries-other other x = (
    λ one. older x ((listed x).0 one),
    λ is. ⊎_elim
        (λ (h : IsEntryIn states graph cycle s x). (listed x).1 h)
        (λ (h : (scenario_at states graph.tokens e ≡ s) × (place_of graph.tokens e ≡ x)). absurd (other h.0))
        (split x is),
  )

-- the numbers of a path are those of edges
pub path-within : (es : List Edge) (u v : ℕ) (ks : List ℕ) (n : ℕ) → IsPath es u ks v → Contains ks n → n < length es
path-within es u v [] n path one = absurd (let low = one.1 in omega (arith, low))
path-within es u v (k ∷ ks) n path one =
    ⊎_elim
    (λ (h : k ≡ n). subst (λ (m : ℕ). m < length es) h (slice_get_within es k path.0 path.1))
    (λ (h : Contains ks n). path-within es path.0.to v ks n path.3 h)
    (contains-cases k ks n one)

-- a factor of 1
pub one-factor : (g d : ℕ) → 1 ≤ d → 1 ≡ g * d → d ≡ 1
one-factor zero d some is = absurd (let none : 0 * d ≡ 0 = omega arith in omega (arith, is, none))
one-factor (suc g) d some is = let more : suc g * d ≡ d + g * d = omega arith in omega (arith, some, is, more)
