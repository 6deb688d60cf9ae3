-- What walks stopped at is new, and what it told is yet to be absorbed.
use Rattle.std.proofs.Common.{◌≡◌, ℕ, ◌≤◌, Option, None, Some, List, ◌++◌, drop, length, map, take, sym, ap, ◌∙◌, subst, arith}
use Rattle.std.specs.Prelude.{All, Contains, slice_index, slice_index_or}
use Rattle.std.proofs.lemmas.List.{drop-append-le, drop_all, take-append-le}
use Rattle.std.proofs.lemmas.List.Elements.{All-contains, All-map, Contains-append_left}
use Rattle.sd_base.proofs.ContainedHavePlaces.{contains-unmap}
use Rattle.sd_base.proofs.ElementsKeepPlaces.{all-unmap}
use Rattle.sd_base.specs.declared.limits.Limits.{Limits}
use Rattle.sd_base.specs.declared.numbers.Fraction.{Fraction}
use Rattle.sd_base.specs.Net.{Net}
use Rattle.pareto_front.specs.declared.point.Point.{Point}
use Rattle.covers.specs.declared.lattice.Lattice.{Lattice}
use Rattle.covers.specs.Bounds.{IsAtMost}
use Rattle.covers.specs.Lattices.{IsAmong, storage_of}
use Rattle.evaluations.specs.declared.evaluating.Answered.{Answered}
use Rattle.walks.specs.declared.telling.Telling.{Telling}
use Rattle.walks.specs.Tellings.{HoldsBack}
use Rattle.pareto_search.specs.declared.known.Known.{Known}
use Rattle.pareto_search.specs.declared.searching.Due.{Due}
use Rattle.pareto_search.specs.declared.searching.Searching.{Searching}
use Rattle.pareto_search.specs.declared.stops.Stop.{Stop}
use Rattle.pareto_search.specs.inside.Knowledge.{IsKnown}
use Rattle.pareto_search.specs.inside.Learning.{AreNew, IsNew, answered_of}
use Rattle.pareto_search.specs.inside.Stops.{IsStop}
use Rattle.pareto_search.specs.inside.Turns.{AreStops, HasBound, IsAbsorbed, IsDue, IsPointed, IsStanding}
use Rattle.pareto_search.specs.inside.Vectors.{bounded_by, vector_of}

-- the distribution of a stop
abbrev pub bounded_at : List (Option ℕ) → Stop → List (Option ℕ)
bounded_at corner s = bounded_by corner s.capacities

holds-itself : (t : Telling) (ks : List ℕ) → t.capacities ≡ ks → HoldsBack t ks
holds-itself t ks same = record {
  most = λ c. let level : slice_index t.capacities c ≡ slice_index ks c = ap (λ (xs : List ℕ). slice_index xs c) same in omega (arith, level);
  same = λ k d below. ap (λ (xs : List ℕ). slice_index xs (slice_index_or t.enlarge k d)) (sym same);
}

module _ (net : Net) (limits : Limits) (corner : List (Option ℕ)) (lattice : Lattice) (tellings : List Telling) (floor : ℕ) (stops : List Stop) (are : AreStops net limits corner lattice tellings floor stops) where
  stop-new : (s : Stop) → IsStop net limits corner lattice tellings are.goals s → IsNew net limits corner lattice tellings (bounded_by corner s.capacities)
  stop-new s is = record {
    among = subst (IsAmong lattice) (sym is.flat) is.among;
    bounds = ap (bounded_by corner) is.flat;
    reachable = is.reachable;
    untold = λ t one same. is.free (t, one, holds-itself t s.capacities (same ∙ is.flat));
  }

  pub stops-new : AreNew net limits corner lattice tellings (map (λ (s : Stop). bounded_by corner s.capacities) stops)
  stops-new = record {
    each = λ ds one.
        let found : (s : Stop) × Contains stops s × (bounded_at corner s ≡ ds) = contains-unmap (bounded_at corner) stops ds one in
        subst (IsNew net limits corner lattice tellings) found.2 (stop-new found.0 (All-contains (IsStop net limits corner lattice tellings are.goals) stops found.0 are.each found.1));
    apart = are.apart;
  }

  -- so is what answers of them are of
  pub answers-new : (answers : List Answered) → answered_of answers ≡ map (λ (s : Stop). bounded_by corner s.capacities) stops → AreNew net limits corner lattice tellings (answered_of answers)
  answers-new answers order = subst (AreNew net limits corner lattice tellings) (sym order) stops-new

  -- and it needs no more than the floor
  stops-low : All (λ (ds : List (Option ℕ)). storage_of lattice.axes (vector_of ds) ≤ floor) (map (bounded_at corner) stops)
  stops-low =
      All-map (λ (ds : List (Option ℕ)). storage_of lattice.axes (vector_of ds) ≤ floor) (bounded_at corner) stops
      (λ k d below.
      let s : Stop = slice_index_or stops k d in
      subst (λ (ks : List ℕ). storage_of lattice.axes ks ≤ floor) (sym (are.each k d below).flat) (are.low k d below))

  pub more-low : (answers : List Answered) (more : List Telling) → answered_of answers ≡ map (λ (s : Stop). bounded_by corner s.capacities) stops → map (λ (t : Telling). t.capacities) more ≡ map vector_of (answered_of answers) → All (λ (t : Telling). storage_of lattice.axes t.capacities ≤ floor) more
  more-low answers more order vectors =
      let given : All (λ (ds : List (Option ℕ)). storage_of lattice.axes (vector_of ds) ≤ floor) (answered_of answers) = subst (All (λ (ds : List (Option ℕ)). storage_of lattice.axes (vector_of ds) ≤ floor)) (sym order) stops-low in
      let mapped : All (λ (ks : List ℕ). storage_of lattice.axes ks ≤ floor) (map vector_of (answered_of answers)) = All-map (λ (ks : List ℕ). storage_of lattice.axes ks ≤ floor) vector_of (answered_of answers) given in
      all-unmap (λ (ks : List ℕ). storage_of lattice.axes ks ≤ floor) (λ (t : Telling). t.capacities) more (subst (All (λ (ks : List ℕ). storage_of lattice.axes ks ≤ floor)) (sym vectors) mapped)

due-told : (lattice : Lattice) (ts us more : List Telling) (below : Fraction) (floor : ℕ) (best : Fraction) (due : Option Due) → us ≡ ts ++ more → IsDue lattice ts below floor best due → IsDue lattice us below floor best due
due-told lattice ts us more below floor best None added is = is
due-told lattice ts us more below floor best (Some d) added is = (
  record {
    above = is.0.above;
    total = is.0.total;
    telling = is.0.telling;
    among = subst (λ (xs : List Telling). Contains xs is.0.telling) (sym added) (Contains-append_left ts more is.0.telling is.0.among);
    storage = is.0.storage;
    rate = is.0.rate;
  },
  is.1,
)

pointed-told : (net : Net) (limits : Limits) (lattice : Lattice) (ts us more : List Telling) (below : Fraction) (floor : ℕ) (points : List Point) → us ≡ ts ++ more → IsPointed net limits lattice ts below floor points → IsPointed net limits lattice us below floor points
pointed-told net limits lattice ts us more below floor points added is = record {
  reached = is.reached;
  rising = is.rising;
  early = is.early;
  slow = is.slow;
  told = λ p one. record {
    telling = (is.told p one).telling;
    among = subst (λ (xs : List Telling). Contains xs (is.told p one).telling) (sym added) (Contains-append_left ts more (is.told p one).telling (is.told p one).among);
    storage = (is.told p one).storage;
    runs = (is.told p one).runs;
  };
  all = is.all;
}

-- what was told stands last, and no bound of it is kept yet
module _ (net : Net) (limits : Limits) (corner : List (Option ℕ)) (lattice : Lattice) (floor : ℕ) (s : Searching) (is : IsStanding net limits corner lattice floor s) (k : Known) (more : List Telling) (added : k.tellings.items ≡ s.known.tellings.items ++ more) (known : IsKnown net limits corner lattice s.below k) (low : All (λ (t : Telling). storage_of lattice.axes t.capacities ≤ floor) more) where
  old-same : take (length s.known.tellings.items) k.tellings.items ≡ take (length s.known.tellings.items) s.known.tellings.items
  old-same =
      ap (take (length s.known.tellings.items)) added
      ∙ take-append-le (length s.known.tellings.items) s.known.tellings.items more (omega arith)

  new-same : drop (length s.known.tellings.items) k.tellings.items ≡ more
  new-same =
      ap (drop (length s.known.tellings.items)) added
      ∙ (drop-append-le (length s.known.tellings.items) s.known.tellings.items more (omega arith)
      ∙ ap (λ (xs : List Telling). xs ++ more) (drop_all (length s.known.tellings.items) s.known.tellings.items (omega arith)))

  pub absorbed-told : IsAbsorbed net limits corner lattice floor (length s.known.tellings.items) (record { bounds = s.bounds; known = k; points = s.points; below = s.below; due = s.due })
  absorbed-told = record {
    searched = is.searched;
    by_storage = is.by_storage;
    lattice_is = is.lattice_is;
    kept = subst (All (HasBound s.bounds.bounds.items)) (sym old-same) is.kept;
    valid = is.valid;
    most = subst (All (λ (t : Telling). IsAtMost t.rate s.bounds.best)) (sym old-same) is.most;
    later = subst (All (λ (t : Telling). storage_of lattice.axes t.capacities ≤ floor)) (sym new-same) low;
    known = known;
    settled = is.settled;
    due = due-told lattice s.known.tellings.items k.tellings.items more s.below floor s.bounds.best s.due added is.due;
    pointed = pointed-told net limits lattice s.known.tellings.items k.tellings.items more s.below floor s.points.items added is.pointed;
  }
