-- What is known, with one telling more.
use Rattle.std.proofs.Common.{◌≡◌, ◌≢◌, ℕ, ◌*◌, ◌<◌, ◌⊎◌, Option, None, Some, List, [], ◌∷◌, ◌++◌, length, inl, inr, refl, sym, ap, ◌∙◌, subst, arith}
use Rattle.std.specs.Prelude.{All, Contains, slice_get}
use Rattle.std.proofs.lemmas.List.{length_push}
use Rattle.std.proofs.lemmas.List.Elements.{All-append, All-nil, All-push, All-weaker, Contains-append_left, Contains-push}
use Rattle.std.proofs.lemmas.Option.{none-some, same_Some, slice_get_within}
use Rattle.sd_base.specs.declared.limits.Limits.{Limits}
use Rattle.sd_base.specs.declared.numbers.Fraction.{Fraction}
use Rattle.sd_base.specs.Net.{Net}
use Rattle.sd_base.proofs.ContainedHavePlaces.{get-contains}
use Rattle.sd_base.proofs.ElementsKeepPlaces.{get-last, get-left, get-pushed}
use Rattle.firing.specs.declared.table.LoopTable.{LoopTable}
use Rattle.lasso.specs.LoopAnswers.{IsFound}
use Rattle.storage.specs.BoundedNets.{bound}
use Rattle.guide.specs.declared.rating.Evaluation.{Evaluation}
use Rattle.guide.specs.declared.rating.Outcome.{Outcome}
use Rattle.guide.specs.declared.rating.Outcome.TheVariants as outcomes
use Rattle.guide.specs.Evaluations.{IsEvaluated, IsOutcome}
use Rattle.covers.specs.declared.lattice.Lattice.{Lattice}
use Rattle.evaluations.specs.declared.rated.Rated.{Rated}
use Rattle.evaluations.specs.declared.shown.Shown.{Shown}
use Rattle.evaluations.specs.declared.shown.Shown.TheVariants.{Cycle, Blocked}
use Rattle.evaluations.specs.Rated.{IsRated, KeepsTable, shown_by}
use Rattle.evaluations.specs.ShownCycles.{shows_cycle}
use Rattle.walks.specs.declared.telling.Telling.{Telling}
use Rattle.explore.specs.Reachable.{IsReachable}
use Rattle.pareto_search.specs.declared.known.Known.{Known}
use Rattle.pareto_search.specs.declared.known.Looped.{Looped}
use Rattle.pareto_search.specs.inside.Knowledge.{BoundsOn, IsAbove, IsKept, IsKnown, IsLooped, IsTold, counts_in, ran}
use Rattle.pareto_search.specs.inside.Learning.{AddsTelling, IsNew, counts_of, loops_of, telling_of}
use Rattle.pareto_search.specs.inside.Vectors.{vector_of}

-- ---- what an evaluation told

counts-same : (outcome : Outcome) → counts_of (shown_by outcome) ≡ counts_in outcome
counts-same (outcomes.Live table cycle) = refl
counts-same (outcomes.Blocked counts lacks) = refl

-- a loop was run where a cycle shows the rate
pub shown-ran : (shown : Shown) → ran (counts_of shown) ≡ shows_cycle shown
shown-ran (Cycle cycle) = refl
shown-ran (Blocked counts) = refl

-- a loop of a rate above the best one is kept
kept-above : (net : Net) (ds : List (Option ℕ)) (states : ℕ) (best rate : Fraction) (enlarge : List ℕ) (outcome : Outcome) (kept : Option LoopTable) → IsOutcome net ds states rate enlarge outcome → KeepsTable best rate outcome kept → IsAbove rate best → (table : LoopTable) × (kept ≡ Some table)
kept-above net ds states best rate enlarge (outcomes.Live table cycle) None is keeps above = absurd (omega (arith, keeps, above))
kept-above net ds states best rate enlarge (outcomes.Live table cycle) (Some own) is keeps above = (own, refl)
kept-above net ds states best rate enlarge (outcomes.Blocked counts lacks) kept is keeps above =
    let none : rate.num * best.den ≡ 0 * best.den = ap (λ (n : ℕ). n * best.den) is.zero in
    absurd (omega (arith, none, above))

-- and what is kept is the loop
kept-found : (net : Net) (ds : List (Option ℕ)) (states : ℕ) (best rate : Fraction) (enlarge : List ℕ) (outcome : Outcome) (kept : Option LoopTable) (table : LoopTable) → IsOutcome net ds states rate enlarge outcome → KeepsTable best rate outcome kept → kept ≡ Some table → IsFound (bound net ds) states table
kept-found net ds states best rate enlarge (outcomes.Live own cycle) None table is keeps same = absurd (none-some table same)
kept-found net ds states best rate enlarge (outcomes.Live own cycle) (Some other) table is keeps same = subst (IsFound (bound net ds) states) (sym keeps ∙ same_Some other table same) is.found
kept-found net ds states best rate enlarge (outcomes.Blocked counts lacks) kept table is keeps same = absurd (none-some table (sym keeps ∙ same))

-- ---- one telling more

-- what stands in a list of one more
pushed-apart : (ts : List Telling) (new : Telling) → ((i j : ℕ) (s t : Telling) → i < j → slice_get ts i ≡ Some s → slice_get ts j ≡ Some t → s.capacities ≢ t.capacities) → ((s : Telling) → Contains ts s → s.capacities ≢ new.capacities) →
    (i j : ℕ) (s t : Telling) → i < j → slice_get (ts ++ new ∷ []) i ≡ Some s → slice_get (ts ++ new ∷ []) j ≡ Some t → s.capacities ≢ t.capacities
pushed-apart ts new apart other i j s t less one two = at (get-pushed ts new s i one) (get-pushed ts new t j two)
  where
    at : (slice_get ts i ≡ Some s) ⊎ ((i ≡ length ts) × (s ≡ new)) → (slice_get ts j ≡ Some t) ⊎ ((j ≡ length ts) × (t ≡ new)) → s.capacities ≢ t.capacities
    at (inl first) (inl second) = apart i j s t less first second
    at (inl first) (inr (last, same)) = λ equal. other s (get-contains ts i s first) (equal ∙ ap (λ (x : Telling). x.capacities) same)
    at (inr (last, same)) (inl second) = absurd (omega (arith, last, less, slice_get_within ts j t second))
    at (inr (last, same)) (inr (end, equal)) = absurd (omega (arith, last, end, less))

module _ (net : Net) (limits : Limits) (corner : List (Option ℕ)) (lattice : Lattice) (best : Fraction) where
  told-of : (tellings : List Telling) (ds : List (Option ℕ)) (e : Evaluation) (r : Rated) → IsNew net limits corner lattice tellings ds → IsEvaluated net ds limits.states e → IsRated best e r → (bounding : List ℕ) → All (Contains r.enlarge) bounding → BoundsOn net corner lattice (vector_of ds) r.rate bounding → IsTold net limits corner lattice (telling_of ds r bounding)
  told-of tellings ds e r new is kept bounding shown bounds = record {
    evaluation = e;
    evaluated = subst (λ (es : List (Option ℕ)). IsEvaluated net es limits.states e) (sym new.bounds) is;
    enlarge = kept.enlarge;
    bounding = shown;
    bounds = bounds;
    rate = kept.rate;
    blocked = ap counts_of kept.shown ∙ counts-same e.outcome;
    among = new.among;
    flat = ap vector_of new.bounds;
    reachable = subst (IsReachable net limits.total) (sym new.bounds) new.reachable;
  }

  looped-longer : (ts more : List Telling) (l : Looped) → IsLooped net limits.states corner ts l → IsLooped net limits.states corner (ts ++ more) l
  looped-longer ts more l is = record { telling = is.telling; at = get-left ts more l.place is.telling is.at; found = is.found }

  module _ (ds : List (Option ℕ)) (e : Evaluation) (r : Rated) (old new : Known) (is_new : IsNew net limits corner lattice old.tellings.items ds) (is : IsEvaluated net ds limits.states e) (kept : IsRated best e r) (adds : AddsTelling net corner lattice ds r old new)
      (loops : new.loops.items ≡ old.loops.items ++ loops_of (length old.tellings.items) r.table) (k : IsKnown net limits corner lattice best old) where
    abbrev told_now : Telling
    told_now = telling_of ds r adds.bounding

    new-looped : (table : Option LoopTable) → r.table ≡ table → All (IsLooped net limits.states corner (old.tellings.items ++ told_now ∷ [])) (loops_of (length old.tellings.items) table)
    new-looped None same = All-nil (IsLooped net limits.states corner (old.tellings.items ++ told_now ∷ []))
    new-looped (Some table) same = All-push (IsLooped net limits.states corner (old.tellings.items ++ told_now ∷ [])) [] (record { place = length old.tellings.items; table = table }) (All-nil (IsLooped net limits.states corner (old.tellings.items ++ told_now ∷ []))) (record {
      telling = told_now;
      at = get-last old.tellings.items told_now;
      found = subst (λ (es : List (Option ℕ)). IsFound (bound net es) limits.states table) (sym is_new.bounds) (kept-found net ds limits.states best e.rate e.enlarge e.outcome r.table table is.outcome kept.table same);
    })

    all-looped : All (IsLooped net limits.states corner (old.tellings.items ++ told_now ∷ [])) (old.loops.items ++ loops_of (length old.tellings.items) r.table)
    all-looped = All-append (IsLooped net limits.states corner (old.tellings.items ++ told_now ∷ [])) old.loops.items (loops_of (length old.tellings.items) r.table)
        (All-weaker (IsLooped net limits.states corner old.tellings.items) (IsLooped net limits.states corner (old.tellings.items ++ told_now ∷ [])) (looped-longer old.tellings.items (told_now ∷ [])) old.loops.items k.loops)
        (new-looped r.table refl)

    kept-at : (i : ℕ) (t : Telling) → (slice_get old.tellings.items i ≡ Some t) ⊎ ((i ≡ length old.tellings.items) × (t ≡ told_now)) → IsAbove t.rate best → IsKept (old.loops.items ++ loops_of (length old.tellings.items) r.table) i
    kept-at i t (inl at) above = let l = k.kept i t at above in (l.0, Contains-append_left old.loops.items (loops_of (length old.tellings.items) r.table) l.0 l.1, l.2)
    kept-at i t (inr (last, same)) above =
        let rate : t.rate ≡ e.rate = ap (λ (x : Telling). x.rate) same ∙ kept.rate in
        let own = kept-above net ds limits.states best e.rate e.enlarge e.outcome r.table is.outcome kept.table (subst (λ (x : Fraction). IsAbove x best) rate above) in
        let l : Looped = record { place = length old.tellings.items; table = own.0 } in
        (l, subst (λ (o : Option LoopTable). Contains (old.loops.items ++ loops_of (length old.tellings.items) o) l) (sym own.1) (Contains-push old.loops.items l), sym last)

    pub known-more : length old.tellings.items < limits.distributions → IsKnown net limits corner lattice best new
    known-more few = record {
      told = subst (All (IsTold net limits corner lattice)) (sym adds.added) (All-push (IsTold net limits corner lattice) old.tellings.items told_now k.told (told-of old.tellings.items ds e r is_new is kept adds.bounding adds.shown adds.bounds));
      apart = subst (λ (ts : List Telling). (i j : ℕ) (s t : Telling) → i < j → slice_get ts i ≡ Some s → slice_get ts j ≡ Some t → s.capacities ≢ t.capacities) (sym adds.added) (pushed-apart old.tellings.items told_now k.apart is_new.untold);
      loops = subst (λ (ts : List Telling). All (IsLooped net limits.states corner ts) new.loops.items) (sym adds.added) (subst (All (IsLooped net limits.states corner (old.tellings.items ++ told_now ∷ []))) (sym loops) all-looped);
      kept = λ i t at above. subst (λ (ls : List Looped). IsKept ls i) (sym loops) (kept-at i t (get-pushed old.tellings.items told_now t i (subst (λ (ts : List Telling). slice_get ts i ≡ Some t) adds.added at)) above);
      few = omega (arith, few, ap (λ (ts : List Telling). length ts) adds.added, length_push old.tellings.items told_now);
    }
