-- Stops that were evaluated are one level more that entered.
use Rattle.std.proofs.Common.{◌≡◌, ◌≢◌, ℕ, ◌<◌, Option, List, [], ◌∷◌, ◌++◌, map, inr, refl, sym, ap, ◌∙◌, subst, arith}
use Rattle.std.specs.Prelude.{All, Contains, slice_index_or}
use Rattle.std.specs.declared.cmp.Ordering.TheVariants.{Less, Greater}
use Rattle.std.specs.Ordering.{nat_cmp}
use Rattle.std.specs.Cmp.Lexicographic.{slice_cmp}
use Rattle.std.proofs.lemmas.List.{length-map, map-append}
use Rattle.std.proofs.lemmas.List.Elements.{All-head, All-map, All-nil, All-tail, Contains-get_or}
use Rattle.sd_base.specs.declared.limits.Limits.{Limits}
use Rattle.sd_base.specs.Net.{Channel, Net}
use Rattle.sd_base.proofs.ContainedHavePlaces.{contains-here, contains-later}
use Rattle.sd_base.proofs.ElementsKeepPlaces.{get-there, map-map}
use Rattle.storage.specs.Distributions.{IsDistribution, storage_of}
use Rattle.storage.specs.StorageOrder.{AreInOrder, IsBefore}
use Rattle.fanout.specs.JobRuns.{EachEntered}
use Rattle.levels.proofs.NextLevelEnters.{level-entered}
use Rattle.covers.specs.declared.lattice.Lattice.{Lattice}
use Rattle.evaluations.specs.declared.evaluating.Answered.{Answered}
use Rattle.walks.specs.declared.telling.Telling.{Telling}
use Rattle.pareto_search.specs.Entrances.{EnterLevels, EntersLevel, more as one-more}
use Rattle.pareto_search.specs.declared.known.Known.{Known}
use Rattle.pareto_search.specs.declared.stops.Stop.{Stop}
use Rattle.pareto_search.specs.inside.Grounds.{IsGround}
use Rattle.pareto_search.specs.inside.Knowledge.{told_of}
use Rattle.pareto_search.specs.inside.Learning.{AreLearned, AreNew, answered_of}
use Rattle.pareto_search.specs.inside.Stops.{AreAscending, AreLevel, IsStop}
use Rattle.pareto_search.specs.inside.Stops as stops
use Rattle.pareto_search.specs.inside.Turns.{AreStops, EntersOn}
use Rattle.pareto_search.specs.inside.Vectors.{bounded_by, vector_of}
use Rattle.pareto_search.proofs.StopsAreNew.{bounded_at, stops-new}
use Rattle.pareto_search.proofs.LearnedCounts.{AreAnswersOf, answers-many}
use Rattle.pareto_search.proofs.NoLater.{not-after-no-later}
use Rattle.pareto_search.proofs.DistinctListsSort.{not-later}
use Rattle.pareto_search.proofs.StopsApart.{not-before}
use Rattle.pareto_search.proofs.WithinLimit.{flat-storage, on-distribution}

-- ---- their order

-- a stop's vector is that of a distribution which needs so much storage
record IsAt (cs : List Channel) (corner : List (Option ℕ)) (storage : ℕ) (s : Stop) : Type 0 where
  distribution : IsDistribution cs (bounded_by corner s.capacities)
  flat : vector_of (bounded_by corner s.capacities) ≡ s.capacities
  needed : storage_of cs (bounded_by corner s.capacities) ≡ storage

module _ (cs : List Channel) (corner : List (Option ℕ)) (storage : ℕ) where
  before-later : (s t : Stop) → IsAt cs corner storage s → IsAt cs corner storage t → stops.IsBefore s t → IsBefore cs (bounded_at corner s) (bounded_at corner t)
  before-later s t one other less =
      let here : slice_cmp nat_cmp (vector_of (bounded_by corner s.capacities)) (vector_of (bounded_by corner t.capacities)) ≡ Less
      = subst (λ (ks : List ℕ). slice_cmp nat_cmp ks (vector_of (bounded_by corner t.capacities)) ≡ Less) (sym one.flat) (subst (λ (ks : List ℕ). slice_cmp nat_cmp s.capacities ks ≡ Less) (sym other.flat) less) in
      inr (one.needed ∙ sym other.needed, not-later (bounded_at corner s) (bounded_at corner t) differ (not-after-no-later cs (bounded_at corner s) (bounded_at corner t) one.distribution other.distribution (no-more here)))
    where
      differ : bounded_at corner s ≢ bounded_at corner t
      differ same =
          let equal : s.capacities ≡ t.capacities = sym one.flat ∙ (ap vector_of same ∙ other.flat) in
          not-before t.capacities (subst (λ (ks : List ℕ). slice_cmp nat_cmp ks t.capacities ≡ Less) equal less)

      no-more : slice_cmp nat_cmp (vector_of (bounded_by corner s.capacities)) (vector_of (bounded_by corner t.capacities)) ≡ Less → slice_cmp nat_cmp (vector_of (bounded_by corner s.capacities)) (vector_of (bounded_by corner t.capacities)) ≢ Greater
      no-more here greater = let clash : Less ≡ Greater = sym here ∙ greater in cc

  in-order : (xs : List Stop) → All (IsAt cs corner storage) xs → AreAscending xs → AreInOrder cs (map (bounded_at corner) xs)
  in-order [] all ascending = tt
  in-order (s ∷ xs) all ascending = (
    All-map (IsBefore cs (bounded_at corner s)) (bounded_at corner) xs
        (λ k d below. before-later s (slice_index_or xs k d) (All-head (IsAt cs corner storage) s xs all) (All-tail (IsAt cs corner storage) s xs all k d below) (ascending.0 k d below)),
    in-order xs (All-tail (IsAt cs corner storage) s xs all) ascending.1,
  )

-- ---- they are a level

module _ (net : Net) (limits : Limits) (corner : List (Option ℕ)) (lattice : Lattice) (base : IsGround net limits corner lattice) (tellings : List Telling) (floor : ℕ) (xs : List Stop) (are : AreStops net limits corner lattice tellings floor xs) (row : AreLevel xs) (level : ℕ) (of : (s : Stop) → level ≡ (slice_index_or xs 0 s).storage) where
  first : (x : Stop) × Contains xs x × (x.storage ≡ level)
  first = let x = get-there xs 0 (omega (arith, are.some)) in (slice_index_or xs 0 x.0, Contains-get_or xs 0 x.0 (omega (arith, are.some)), sym (of x.0))

  all-at : All (IsAt net.channels corner level) xs
  all-at k d below =
      let one : Contains xs (slice_index_or xs k d) = Contains-get_or xs k d below in
      let is : IsStop net limits corner lattice tellings are.goals (slice_index_or xs k d) = are.each k d below in
      record {
        distribution = on-distribution net limits corner lattice base (slice_index_or xs k d).capacities is.among.on;
        flat = is.flat;
        needed = sym (flat-storage net limits corner lattice base (slice_index_or xs k d).capacities is.among.on is.flat)
            ∙ (sym is.storage ∙ (row.needed (slice_index_or xs k d) first.0 one first.1 ∙ first.2));
      }

  level-enters : (entered : ℕ → ℕ → Type 0) (answers : List Answered) → AreAnswersOf corner xs answers → EachEntered (entered level) answers → EntersLevel net entered (map (bounded_at corner) xs)
  level-enters entered answers order each = record {
    storage = level;
    needed = needed;
    order = in-order net.channels corner level xs all-at row.ascending;
    each = level-entered net.channels entered level [] (map (bounded_at corner) xs) (All-nil (λ (ds : List (Option ℕ)). storage_of net.channels ds < level)) needed
        (λ k below. each k (omega (arith, below, answers-many corner xs answers order, length-map xs (bounded_at corner)))) tt;
  }
    where
      needed : All (λ (ds : List (Option ℕ)). storage_of net.channels ds ≡ level) (map (bounded_at corner) xs)
      needed = All-map (λ (ds : List (Option ℕ)). storage_of net.channels ds ≡ level) (bounded_at corner) xs (λ k d below. (all-at k d below).needed)

  -- ---- what they told stands last

  back : (dss : List (List (Option ℕ))) → ((ds : List (Option ℕ)) → Contains dss ds → bounded_by corner (vector_of ds) ≡ ds) → map (λ (ds : List (Option ℕ)). bounded_by corner (vector_of ds)) dss ≡ dss
  back [] each = refl
  back (ds ∷ dss) each =
      ap (λ (es : List (Option ℕ)). es ∷ map (λ (fs : List (Option ℕ)). bounded_by corner (vector_of fs)) dss) (each ds (contains-here ds dss))
      ∙ ap (λ (rest : List (List (Option ℕ))). ds ∷ rest) (back dss (λ es one. each es (contains-later ds dss es one)))

  new : AreNew net limits corner lattice tellings (map (bounded_at corner) xs)
  new = stops-new net limits corner lattice tellings floor xs are

  told-last : (answers : List Answered) → AreAnswersOf corner xs answers → (after : List Telling) → map (λ (t : Telling). t.capacities) after ≡ map vector_of (answered_of answers) → told_of corner after ≡ map (bounded_at corner) xs
  told-last answers order after vectors =
      sym (map-map (bounded_by corner) (λ (t : Telling). t.capacities) after)
      ∙ (ap (map (bounded_by corner)) (vectors ∙ ap (map vector_of) order)
      ∙ (map-map (bounded_by corner) vector_of (map (bounded_at corner) xs)
      ∙ back (map (bounded_at corner) xs) (λ ds one. (new.each ds one).bounds)))

  pub stops-enter : (entered : ℕ → ℕ → Type 0) (answers : List Answered) → AreAnswersOf corner xs answers → EachEntered (entered level) answers → (old mid : Known) → old.tellings.items ≡ tellings → AreLearned answers old mid → EntersOn net corner entered tellings mid.tellings.items
  stops-enter entered answers order each old mid same learned before =
      subst (EnterLevels net entered) (sym all) (one-more (told_of corner tellings) (map (bounded_at corner) xs) before (level-enters entered answers order each))
    where
      all : told_of corner mid.tellings.items ≡ told_of corner tellings ++ map (bounded_at corner) xs
      all =
          ap (told_of corner) (learned.added ∙ ap (λ (ts : List Telling). ts ++ learned.more) same)
          ∙ (map-append (λ (t : Telling). bounded_by corner t.capacities) tellings learned.more
          ∙ ap (λ (dss : List (List (Option ℕ))). told_of corner tellings ++ dss) (told-last answers order learned.more learned.vectors))
