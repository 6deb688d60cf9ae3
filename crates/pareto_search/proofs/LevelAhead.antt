-- What a level says of a search: the floor may rise to it, no telling covers its vectors, and what lies before it is settled.
use Rattle.std.proofs.Common.{◌≡◌, ℕ, ◌≤◌, ◌<◌, Option, None, Some, List, [], length, take, ⊎_elim, refl, sym, ◌∙◌, subst, arith}
use Rattle.std.specs.Prelude.{All, Contains, slice_index, slice_index_or}
use Rattle.std.proofs.lemmas.Bool.{cases_lt}
use Rattle.std.proofs.lemmas.List.{drop_all, take_all}
use Rattle.std.proofs.lemmas.List.Elements.{All-contains, All-nil, Contains-get_or}
use Rattle.sd_base.specs.declared.limits.Limits.{Limits}
use Rattle.sd_base.specs.declared.numbers.Fraction.{Fraction}
use Rattle.sd_base.specs.Net.{Net}
use Rattle.covers.specs.declared.lattice.Lattice.{Lattice}
use Rattle.covers.specs.declared.search.Level.{Level}
use Rattle.covers.specs.declared.search.Search.{Search}
use Rattle.covers.specs.Bounds.{IsAtMost, IsCovered}
use Rattle.covers.specs.Lattices.{IsAmong, storage_of}
use Rattle.covers.specs.Searches.{IsAnswer, IsLevel, IsSame, IsSearched, IsSettled, IsUncovered}
use Rattle.covers.proofs.BoundsStayInForce.{covered-reached}
use Rattle.walks.specs.declared.telling.Telling.{Telling}
use Rattle.pareto_search.specs.declared.searching.Due.{Due}
use Rattle.pareto_search.specs.declared.searching.Searching.{Searching}
use Rattle.pareto_search.specs.inside.Knowledge.{IsTold}
use Rattle.pareto_search.specs.inside.Turns.{HasBound, IsClosed, IsDue, IsOver, IsPointed, IsSettling, IsStanding, IsUntil, IsValid}
use Rattle.pareto_search.proofs.TellingsAreAbsorbed.{below-best}
use Rattle.pareto_search.proofs.ToldBounds.{covers-bounding}

-- a search whose open nodes were looked at
pub standing-looked : (net : Net) (limits : Limits) (corner : List (Option ℕ)) (lattice : Lattice) (floor : ℕ) (s : Searching) (bs : Search) → IsSame s.bounds bs → IsSearched bs → IsStanding net limits corner lattice floor s → IsStanding net limits corner lattice floor (record { bounds = bs; known = s.known; points = s.points; below = s.below; due = s.due })
standing-looked net limits corner lattice floor s bs same searched is = record {
  searched = searched;
  by_storage = same.order ∙ is.by_storage;
  lattice_is = same.lattice ∙ is.lattice_is;
  kept = subst (λ v. All (HasBound v.items) (take (length s.known.tellings.items) s.known.tellings.items)) (sym same.bounds) is.kept;
  valid = subst (λ v. All (IsValid net corner lattice) v.items) (sym same.bounds) is.valid;
  most = subst (λ (r : Fraction). All (λ (t : Telling). IsAtMost t.rate r) (take (length s.known.tellings.items) s.known.tellings.items)) (sym same.best) is.most;
  later = is.later;
  known = is.known;
  settled = λ ks among less. subst (λ v. IsCovered v.items s.below ks) (sym same.bounds) (is.settled ks among less);
  due = subst (λ (r : Fraction). IsDue lattice s.known.tellings.items s.below floor r s.due) (sym same.best) is.due;
  pointed = is.pointed;
}

pointed-later : (net : Net) (limits : Limits) (lattice : Lattice) (ts : List Telling) (below : Fraction) (floor more : ℕ) (s : Searching) → floor ≤ more → IsPointed net limits lattice ts below floor s.points.items → IsPointed net limits lattice ts below more s.points.items
pointed-later net limits lattice ts below floor more s low is = record {
  reached = is.reached;
  rising = is.rising;
  early = λ p one. let early = is.early p one in omega (arith, early, low);
  slow = is.slow;
  told = is.told;
  all = is.all;
}

module _ (net : Net) (limits : Limits) (corner : List (Option ℕ)) (lattice : Lattice) (floor : ℕ) (s : Searching) (is : IsStanding net limits corner lattice floor s) where
  below-low : IsAtMost s.below s.bounds.best
  below-low = below-best lattice s.known.tellings.items s.below floor s.bounds.best s.due is.due

  all-kept : All (HasBound s.bounds.bounds.items) s.known.tellings.items
  all-kept = subst (All (HasBound s.bounds.bounds.items)) (take_all (length s.known.tellings.items) s.known.tellings.items (omega arith)) is.kept

  all-most : All (λ (t : Telling). IsAtMost t.rate s.bounds.best) s.known.tellings.items
  all-most = subst (All (λ (t : Telling). IsAtMost t.rate s.bounds.best)) (take_all (length s.known.tellings.items) s.known.tellings.items (omega arith)) is.most

  -- where nothing is due, the best rate is that of the last point
  covered-below : s.due ≡ None → (ks : List ℕ) → IsCovered s.bounds.bounds.items s.bounds.best ks → IsCovered s.bounds.bounds.items s.below ks
  covered-below none ks covered =
      let same : IsDue lattice s.known.tellings.items s.below floor s.bounds.best None = subst (IsDue lattice s.known.tellings.items s.below floor s.bounds.best) none is.due in
      covered-reached s.bounds.bounds.items s.bounds.best s.below ks same.0 covered

  -- all is covered

  settled-among : IsSettled s.bounds → (ks : List ℕ) → IsAmong lattice ks → IsCovered s.bounds.bounds.items s.bounds.best ks
  settled-among settled ks among = settled ks (subst (λ (l : Lattice). IsAmong l ks) (sym is.lattice_is) among)

  pub over-all : IsSettled s.bounds → s.due ≡ None → IsOver net limits corner lattice s
  over-all settled none = record {
    floor = floor;
    standing = is;
    none = none;
    all = λ ks among. covered-below none ks (settled-among settled ks among);
  }

  closed-all : IsSettled s.bounds → (due : Due) → IsClosed lattice due s
  closed-all settled due ks among low = settled-among settled ks among

  -- or a level is left

  module _ (most : ℕ) (level : Level) (of : IsLevel s.bounds most level) where
    before : (ks : List ℕ) → IsAmong lattice ks → storage_of lattice.axes ks < level.storage → IsCovered s.bounds.bounds.items s.bounds.best ks
    before = subst (λ (l : Lattice). (ks : List ℕ) → IsAmong l ks → storage_of l.axes ks < level.storage → IsCovered s.bounds.bounds.items s.bounds.best ks) is.lattice_is of.below

    pub vector-among : (ks : List ℕ) → Contains level.vectors ks → IsAmong lattice ks
    vector-among ks one = subst (λ (l : Lattice). IsAmong l ks) is.lattice_is (All-contains (IsUncovered s.bounds) level.vectors ks of.each one).among

    pub vector-needs : (ks : List ℕ) → Contains level.vectors ks → storage_of lattice.axes ks ≡ level.storage
    vector-needs ks one = subst (λ (l : Lattice). storage_of l.axes ks ≡ level.storage) is.lattice_is (All-contains (λ (x : List ℕ). storage_of s.bounds.lattice.axes x ≡ level.storage) level.vectors ks of.needed one)

    pub vector-free : (ks : List ℕ) → Contains level.vectors ks → (t : Telling) → Contains s.known.tellings.items t → All (λ (c : ℕ). slice_index ks c ≤ slice_index t.capacities c) t.enlarge → ⊥
    vector-free ks one t told covers =
        let has : HasBound s.bounds.bounds.items t = All-contains (HasBound s.bounds.bounds.items) s.known.tellings.items t all-kept told in
        let slow : IsAtMost t.rate s.bounds.best = All-contains (λ (x : Telling). IsAtMost x.rate s.bounds.best) s.known.tellings.items t all-most told in
        let mine : IsTold net limits corner lattice t = All-contains (IsTold net limits corner lattice) s.known.tellings.items t is.known.told told in
        (All-contains (IsUncovered s.bounds) level.vectors ks of.each one).free (has.0, has.1, subst (λ (r : Fraction). IsAtMost r s.bounds.best) (sym has.2.rate) slow, (has.2.covers ks).1 (covers-bounding t mine.bounding ks covers))

    floor-low : floor ≤ level.storage
    floor-low =
        let first : Contains level.vectors (slice_index_or level.vectors 0 []) = Contains-get_or level.vectors 0 [] of.some in
        ⊎_elim
        (λ (less : level.storage < floor).
        let needs : storage_of lattice.axes (slice_index_or level.vectors 0 []) ≡ level.storage = vector-needs (slice_index_or level.vectors 0 []) first in
        let covered : IsCovered s.bounds.bounds.items s.below (slice_index_or level.vectors 0 []) = is.settled (slice_index_or level.vectors 0 []) (vector-among (slice_index_or level.vectors 0 []) first) (omega (arith, needs, less)) in
        absurd ((All-contains (IsUncovered s.bounds) level.vectors (slice_index_or level.vectors 0 []) of.each first).free (covered-reached s.bounds.bounds.items s.below s.bounds.best (slice_index_or level.vectors 0 []) below-low covered)))
        (λ (low : floor ≤ level.storage). low)
        (cases_lt level.storage floor)

    closed-past : (due : Due) → due.total < level.storage → IsClosed lattice due s
    closed-past due past ks among low = before ks among (omega (arith, past, low))

    raised-none : s.due ≡ None → IsStanding net limits corner lattice level.storage s
    raised-none none =
        let due : IsDue lattice s.known.tellings.items s.below floor s.bounds.best None = subst (IsDue lattice s.known.tellings.items s.below floor s.bounds.best) none is.due in
        record {
          searched = is.searched;
          by_storage = is.by_storage;
          lattice_is = is.lattice_is;
          kept = is.kept;
          valid = is.valid;
          most = is.most;
          later = subst (All (λ (t : Telling). storage_of lattice.axes t.capacities ≤ level.storage)) (sym (drop_all (length s.known.tellings.items) s.known.tellings.items (omega arith))) (All-nil (λ (t : Telling). storage_of lattice.axes t.capacities ≤ level.storage));
          known = is.known;
          settled = λ ks among less. covered-below none ks (before ks among less);
          due = subst (IsDue lattice s.known.tellings.items s.below level.storage s.bounds.best) (sym none) due;
          pointed = pointed-later net limits lattice s.known.tellings.items s.below floor level.storage s floor-low is.pointed;
        }

    raised-some : (due : Due) → s.due ≡ Some due → level.storage ≤ due.total → IsStanding net limits corner lattice level.storage s
    raised-some due some low =
        let at : IsDue lattice s.known.tellings.items s.below floor s.bounds.best (Some due) = subst (IsDue lattice s.known.tellings.items s.below floor s.bounds.best) some is.due in
        let same : floor ≡ level.storage = omega (arith, low, at.0.total, floor-low) in
        subst (λ (n : ℕ). IsStanding net limits corner lattice n s) same is

    -- the floor rises to a level that isn't past what is due
    pub standing-raised : (found : Option Level) → IsUntil found s.due (Some level) → IsStanding net limits corner lattice level.storage s
    standing-raised found until = by s.due refl
      where
        by : (due : Option Due) → s.due ≡ due → IsStanding net limits corner lattice level.storage s
        by None same = raised-none same
        by (Some due) same = raised-some due same (until.1 due same)

  -- where there is none such, all that needs no more than what is due has no greater rate, and where nothing is due, all is over

  pub settling-now : (most : ℕ) (found : Option Level) → IsAnswer s.bounds most found → (due : Due) → s.due ≡ Some due → IsUntil found s.due None → IsSettling net limits corner lattice due s
  settling-now most found answer due some until =
      let at : IsDue lattice s.known.tellings.items s.below floor s.bounds.best (Some due) = subst (IsDue lattice s.known.tellings.items s.below floor s.bounds.best) some is.due in
      record {
        standing = subst (λ (n : ℕ). IsStanding net limits corner lattice n s) (sym at.0.total) is;
        is_due = some;
        closed = by found answer until;
      }
    where
      only : (a b : Due) → Some a ≡ Some b → a ≡ b
      only a b same = cc

      by : (left : Option Level) → IsAnswer s.bounds most left → IsUntil left s.due None → IsClosed lattice due s
      by None settled none = closed-all settled due
      by (Some level) of past =
          let found : (d : Due) × (s.due ≡ Some d) × (d.total < level.storage) = past level refl in
          let same : found.0 ≡ due = only found.0 due (sym found.1 ∙ some) in
          closed-past most level of due (subst (λ (d : Due). d.total < level.storage) same found.2)

  pub over-now : (most : ℕ) (found : Option Level) → IsAnswer s.bounds most found → s.due ≡ None → IsUntil found s.due None → IsOver net limits corner lattice s
  over-now most found answer none until = by found answer until
    where
      never : (a : Due) → None ≡ Some a → ⊥
      never a same = cc

      by : (left : Option Level) → IsAnswer s.bounds most left → IsUntil left s.due None → IsOver net limits corner lattice s
      by None settled past = over-all settled none
      by (Some level) of past =
          let found : (d : Due) × (s.due ≡ Some d) × (d.total < level.storage) = past level refl in
          let other : None ≡ Some found.0 = sym none ∙ found.1 in
          absurd (never found.0 other)
