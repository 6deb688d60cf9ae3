-- A search goes on to a firing without a mark, comes round to one that stands on the way, or leaves the last one there.
use Rattle.std.proofs.Common.{◌≡◌, ℕ, zero, suc, ◌+◌, ◌-◌, ◌≤◌, ◌<◌, ◌⊎◌, inl, inr, List, [], ◌∷◌, Option, Some, None, length, replicate, ⊎_elim, subst, sym, refl, ap, ◌∙◌, arith}
use Rattle.std.specs.Prelude.{slice_index_or, slice_set}
use Rattle.std.proofs.lemmas.Bool.{cases_lt, cases_eq}
use Rattle.std.proofs.lemmas.List.{get_or-set_same, get_or-set_other, length-set, length-replicate}
use Rattle.std.proofs.lemmas.List.Sums.{sum_by-cons, sum_by-set}
use Rattle.std.proofs.lemmas.Option.{same_Some, none-some}
use Rattle.firing.specs.declared.table.LoopTable.{LoopTable}
use Rattle.critical.specs.declared.cycle.FiringNo.{FiringNo}
use Rattle.critical.specs.declared.tight.ReadNeed.{ReadNeed}
use Rattle.critical.specs.declared.walk.Met.{Met}
use Rattle.sd_base.specs.Net.{Net}
use Rattle.critical.specs.inside.Trails.{offset_of, IsShortLoop, IsSecond, ComesAgain, class_at, met_at}
use Rattle.critical.specs.inside.Searches.{IsNoSpace, IsUnspacedNeed, IsMarked, blank, unmarked, StandsOn, IsLeft, IsOpen, HasLeftAll, AreRanked, IsWay, IsSearch, TurnsTo, ComesRound}
use Rattle.critical.proofs.PlacesTellFirings.{class-below, class-one}
use Rattle.critical.proofs.MarkedFiringsRecur.{read-none}
use Rattle.critical.proofs.WaysExtend.{Extends, each-more, each-fewer, IsNext, way-on, way-back, way-trail}

-- ---- marks

pub unmarked-few : (marks : List (Option ℕ)) → unmarked marks ≤ length marks
unmarked-few [] = omega arith
unmarked-few (m ∷ marks) = omega (arith, sum_by-cons blank m marks, blank-small m, unmarked-few marks)
  where
    blank-small : (m : Option ℕ) → blank m ≤ 1
    blank-small None = omega arith
    blank-small (Some p) = omega arith

unmarked-set : (marks : List (Option ℕ)) (c p : ℕ) → c < length marks → slice_index_or marks c None ≡ None → unmarked (slice_set marks c (Some p)) + 1 ≡ unmarked marks
unmarked-set marks c p below none =
    let sums : unmarked (slice_set marks c (Some p)) + blank (slice_index_or marks c None) ≡ unmarked marks + blank (Some p) = sum_by-set blank marks c (Some p) None below in
    let one : blank (slice_index_or marks c None) ≡ 1 = ap blank none in
    omega arith

-- a mark stays where another one is put
mark-kept : (marks : List (Option ℕ)) (c p d q : ℕ) → slice_index_or marks c None ≡ None → slice_index_or marks d None ≡ Some q → slice_index_or (slice_set marks c (Some p)) d None ≡ Some q
mark-kept marks c p d q none is =
    get_or-set_other marks c d (Some p) None (λ (same : d ≡ c). none-some q (sym none ∙ (ap (λ (e : ℕ). slice_index_or marks e None) (sym same) ∙ is))) ∙ is

-- ---- the first marks

pub search-none : (net : Net) (table : LoopTable) (marks : List (Option ℕ)) (n : ℕ) → n ≡ offset_of table.starts (length table.starts) → marks ≡ replicate n None → IsSearch net table [] marks
search-none net table marks n all is = record {
  long = ap length is ∙ (length-replicate {A = Option ℕ} n None ∙ all);
  few = omega (arith, unmarked-few marks);
  way = record {
    second = λ i below. absurd (omega arith);
    leads = λ i below. absurd (omega arith);
    unspaced = λ i below. absurd (omega arith);
    near = λ i below. absurd (omega arith);
    soon = λ i below. absurd (omega arith);
  };
  marked = λ i below. absurd (omega arith);
  ranked = record {
    rank = λ c. 0;
    bound = 0;
    below = λ x second left. absurd (never x left);
    needed = λ x need second left needs. absurd (never x left);
    falls = λ x need second left needs. absurd (never x left);
  };
}
  where
    never : (x : FiringNo) → IsLeft table [] marks x → ⊥
    never x left = none-some left.marked.0 (sym (ap (λ (ms : List (Option ℕ)). slice_index_or ms (class_at table x) None) is ∙ read-none n (class_at table x)) ∙ left.marked.1)

-- ---- on to a firing without a mark

module _ (net : Net) (table : LoopTable) (loop : IsShortLoop net table) (met new : List Met) (marks : List (Option ℕ)) (so_far : IsSearch net table met marks) (m : Met)
    (more : Extends met new m) (next : IsNext net table met m) where
  module _ (none : slice_index_or marks (class_at table m.firing) None ≡ None) where
    abbrev changed : List (Option ℕ)
    changed = slice_set marks (class_at table m.firing) (Some (length met))

    place-below : class_at table m.firing < length marks
    place-below = omega (arith, class-below table m.firing next.second, so_far.long)

    left-on : (x : FiringNo) → IsLeft table met marks x → IsLeft table new changed x
    left-on x left = record { marked = (left.marked.0, mark-kept marks (class_at table m.firing) (length met) (class_at table x) left.marked.0 none left.marked.1); off = off }
      where
        off : ¬ StandsOn new x
        off on = ⊎_elim
            (λ (old : on.0 < length met). left.off (on.0, old, ap (λ (y : Met). y.firing) (sym (more.same on.0 old)) ∙ on.2))
            (λ (late : length met ≤ on.0).
            let place : length met ≡ on.0 = omega (arith, on.1, more.more) in
            let same : m.firing ≡ x = ap (λ (y : Met). y.firing) (sym more.last ∙ ap (met_at new) place) ∙ on.2 in
            none-some left.marked.0 (sym none ∙ (ap (λ (y : FiringNo). slice_index_or marks (class_at table y) None) same ∙ left.marked.1)))
            (cases_lt on.0 (length met))

    left-off : (x : FiringNo) → IsSecond table x → IsLeft table new changed x → IsLeft table met marks x
    left-off x second left =
        let apart : class_at table x ≡ class_at table m.firing → ⊥ = (λ (same : class_at table x ≡ class_at table m.firing).
        left.off (length met, omega (arith, more.more), ap (λ (y : Met). y.firing) more.last ∙ sym (class-one table x m.firing second next.second same))) in
        record {
          marked = (left.marked.0, sym (get_or-set_other marks (class_at table m.firing) (class_at table x) (Some (length met)) None apart) ∙ left.marked.1);
          off = λ on. left.off (on.0, omega (arith, on.1, more.more), ap (λ (y : Met). y.firing) (more.same on.0 on.1) ∙ on.2);
        }

    ranked-on : AreRanked net table new changed
    ranked-on = record {
      rank = so_far.ranked.rank;
      bound = so_far.ranked.bound;
      below = λ x second left. so_far.ranked.below x second (left-off x second left);
      needed = λ x need second left needs. left-on need.firing (so_far.ranked.needed x need second (left-off x second left) needs);
      falls = λ x need second left needs. so_far.ranked.falls x need second (left-off x second left) needs;
    }

    pub search-on : IsSearch net table new changed
    search-on = record {
      long = length-set marks (class_at table m.firing) (Some (length met)) ∙ so_far.long;
      few = omega (arith, so_far.few, more.more, unmarked-set marks (class_at table m.firing) (length met) place-below none, length-set marks (class_at table m.firing) (Some (length met)));
      way = way-on net table loop met so_far.way new m more next;
      marked = each-more met new m more (λ i y. slice_index_or changed (class_at table y.firing) None ≡ Some i)
          (λ i below. mark-kept marks (class_at table m.firing) (length met) (class_at table (met_at met i).firing) i none (so_far.marked i below))
          (get_or-set_same marks (class_at table m.firing) (Some (length met)) None place-below);
      ranked = ranked-on;
    }

    pub turns-on : TurnsTo net table met marks new changed
    turns-on = record {
      so_far = search-on;
      kept = λ c mark. (mark.0, mark-kept marks (class_at table m.firing) (length met) c mark.0 none mark.1);
      less = omega (arith, more.more, unmarked-set marks (class_at table m.firing) (length met) place-below none);
    }

    pub marked-on : IsMarked changed (class_at table m.firing)
    marked-on = (length met, get_or-set_same marks (class_at table m.firing) (Some (length met)) None place-below)

  -- ---- round to one that stands on the way

  pub comes-round : (p : ℕ) → IsOpen table met marks m.firing → slice_index_or marks (class_at table m.firing) None ≡ Some p → ComesRound net table new p
  comes-round p opens mark = record { again = again; unspaced = unspaced }
    where
      stands : (p < length met) × ((met_at met p).firing ≡ m.firing)
      stands = opens p mark

      way : IsWay net table new
      way = way-on net table loop met so_far.way new m more next

      end : met_at new (length new - 1) ≡ m
      end = let place : length new - 1 ≡ length met = omega (arith, more.more) in ap (met_at new) place ∙ more.last

      apart : (i j : ℕ) → i < j → j < length new - 1 → ¬ ((met_at new i).firing ≡ (met_at new j).firing)
      apart i j less below is =
          let here : i < length met = omega (arith, more.more) in
          let there : j < length met = omega (arith, more.more) in
          let both : (met_at met i).firing ≡ (met_at met j).firing = ap (λ (y : Met). y.firing) (sym (more.same i here)) ∙ (is ∙ ap (λ (y : Met). y.firing) (more.same j there)) in
          let equal : i ≡ j = same_Some i j (sym (so_far.marked i here) ∙ (ap (λ (y : FiringNo). slice_index_or marks (class_at table y) None) both ∙ so_far.marked j there)) in
          omega arith

      again : ComesAgain net table new p
      again = record {
        later = omega (arith, more.more, stands.0);
        few = omega (arith, more.more, so_far.few, so_far.long, loop.short.all);
        way = way-trail net table loop new way (omega (arith, more.more));
        same = ap (λ (y : Met). y.firing) (more.same p stands.0) ∙ (stands.1 ∙ ap (λ (y : Met). y.firing) (sym end));
        apart = apart;
      }

      unspaced : (i : ℕ) → p < i → i < length new → IsNoSpace net (met_at new i).channel
      unspaced zero late below = absurd (omega arith)
      unspaced (suc i) late below = way.unspaced i below

-- ---- back from a firing all of whose needs have been left

-- the rank n at one place, and the ranks so far at others
abbrev rank_at : (ℕ → ℕ) → ℕ → (c d : ℕ) → (c ≡ d) ⊎ (c ≡ d → ⊥) → ℕ
rank_at rank n c d (inl same) = n
rank_at rank n c d (inr other) = rank c

rank-here : (rank : ℕ → ℕ) (n c d : ℕ) (w : (c ≡ d) ⊎ (c ≡ d → ⊥)) → c ≡ d → rank_at rank n c d w ≡ n
rank-here rank n c d (inl same) is = refl
rank-here rank n c d (inr other) is = absurd (other is)

rank-other : (rank : ℕ → ℕ) (n c d : ℕ) (w : (c ≡ d) ⊎ (c ≡ d → ⊥)) → (c ≡ d → ⊥) → rank_at rank n c d w ≡ rank c
rank-other rank n c d (inl same) apart = absurd (apart same)
rank-other rank n c d (inr other) apart = refl

module _ (net : Net) (table : LoopTable) (loop : IsShortLoop net table) (met new : List Met) (marks : List (Option ℕ)) (so_far : IsSearch net table met marks) (here : Met)
    (more : Extends new met here) (done : HasLeftAll net table met marks here.firing) where
  here_second : IsSecond table here.firing
  here_second = subst (λ (y : Met). IsSecond table y.firing) more.last (so_far.way.second (length new) (omega (arith, more.more)))

  stands : StandsOn met here.firing
  stands = (length new, omega (arith, more.more), ap (λ (y : Met). y.firing) more.last)

  left-still : (x : FiringNo) → IsLeft table met marks x → IsLeft table new marks x
  left-still x left = record { marked = left.marked; off = λ on. left.off (on.0, omega (arith, on.1, more.more), ap (λ (y : Met). y.firing) (more.same on.0 on.1) ∙ on.2) }

  left-before : (x : FiringNo) → IsLeft table new marks x → (class_at table x ≡ class_at table here.firing → ⊥) → IsLeft table met marks x
  left-before x left apart = record { marked = left.marked; off = off }
    where
      off : ¬ StandsOn met x
      off on = ⊎_elim
          (λ (old : on.0 < length new). left.off (on.0, old, ap (λ (y : Met). y.firing) (sym (more.same on.0 old)) ∙ on.2))
          (λ (late : length new ≤ on.0).
          let place : length new ≡ on.0 = omega (arith, on.1, more.more) in
          apart (ap (class_at table) (sym on.2 ∙ ap (λ (y : Met). y.firing) (ap (met_at met) (sym place) ∙ more.last))))
          (cases_lt on.0 (length new))

  apart-from : (x : FiringNo) → IsSecond table x → IsLeft table met marks x → class_at table x ≡ class_at table here.firing → ⊥
  apart-from x second left same = left.off (subst (StandsOn met) (sym (class-one table x here.firing second here_second same)) stands)

  abbrev rank_now : ℕ → ℕ
  rank_now c = rank_at so_far.ranked.rank so_far.ranked.bound c (class_at table here.firing) (cases_eq c (class_at table here.firing))

  now-here : (c : ℕ) → c ≡ class_at table here.firing → rank_now c ≡ so_far.ranked.bound
  now-here c is = rank-here so_far.ranked.rank so_far.ranked.bound c (class_at table here.firing) (cases_eq c (class_at table here.firing)) is

  now-other : (c : ℕ) → (c ≡ class_at table here.firing → ⊥) → rank_now c ≡ so_far.ranked.rank c
  now-other c apart = rank-other so_far.ranked.rank so_far.ranked.bound c (class_at table here.firing) (cases_eq c (class_at table here.firing)) apart

  -- what the firing itself needs
  own-needs : (x : FiringNo) (need : ReadNeed) → IsSecond table x → class_at table x ≡ class_at table here.firing → IsUnspacedNeed net table x need → IsLeft table met marks need.firing
  own-needs x need second same needs = done need (subst (λ (y : FiringNo). IsUnspacedNeed net table y need) (class-one table x here.firing second here_second same) needs)

  below-now : (x : FiringNo) → IsSecond table x → IsLeft table new marks x → rank_now (class_at table x) < so_far.ranked.bound + 1
  below-now x second left = ⊎_elim
      (λ (same : class_at table x ≡ class_at table here.firing). omega (arith, now-here (class_at table x) same))
      (λ (apart : class_at table x ≡ class_at table here.firing → ⊥). omega (arith, now-other (class_at table x) apart, so_far.ranked.below x second (left-before x left apart)))
      (cases_eq (class_at table x) (class_at table here.firing))

  needed-now : (x : FiringNo) (need : ReadNeed) → IsSecond table x → IsLeft table new marks x → IsUnspacedNeed net table x need → IsLeft table met marks need.firing
  needed-now x need second left needs = ⊎_elim
      (λ (same : class_at table x ≡ class_at table here.firing). own-needs x need second same needs)
      (λ (apart : class_at table x ≡ class_at table here.firing → ⊥). so_far.ranked.needed x need second (left-before x left apart) needs)
      (cases_eq (class_at table x) (class_at table here.firing))

  falls-now : (x : FiringNo) (need : ReadNeed) → IsSecond table x → IsLeft table new marks x → IsUnspacedNeed net table x need → rank_now (class_at table need.firing) < rank_now (class_at table x)
  falls-now x need second left needs =
      let there : IsLeft table met marks need.firing = needed-now x need second left needs in
      let second_there : IsSecond table need.firing = needs.tight.read.second in
      let kept : rank_now (class_at table need.firing) ≡ so_far.ranked.rank (class_at table need.firing) = now-other (class_at table need.firing) (apart-from need.firing second_there there) in
      ⊎_elim
      (λ (same : class_at table x ≡ class_at table here.firing). omega (arith, kept, now-here (class_at table x) same, so_far.ranked.below need.firing second_there there))
      (λ (apart : class_at table x ≡ class_at table here.firing → ⊥). omega (arith, kept, now-other (class_at table x) apart, so_far.ranked.falls x need second (left-before x left apart) needs))
      (cases_eq (class_at table x) (class_at table here.firing))

  pub search-back : IsSearch net table new marks
  search-back = record {
    long = so_far.long;
    few = omega (arith, so_far.few, more.more);
    way = way-back net table loop met so_far.way new here more;
    marked = each-fewer new met here more (λ i y. slice_index_or marks (class_at table y.firing) None ≡ Some i) so_far.marked;
    ranked = record {
      rank = rank_now;
      bound = so_far.ranked.bound + 1;
      below = below-now;
      needed = λ x need second left needs. left-still need.firing (needed-now x need second left needs);
      falls = falls-now;
    };
  }

  pub turns-back : TurnsTo net table met marks new marks
  turns-back = record { so_far = search-back; kept = λ c mark. mark; less = omega (arith, more.more) }
