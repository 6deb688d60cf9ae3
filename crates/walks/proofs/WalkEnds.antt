-- A walk begins, and under way comes to one of its ends; where it is held, the telling covers the goal.
use Rattle.std.proofs.Common.{◌≡◌, ℕ, ◌+◌, ◌≤◌, ◌<◌, Option, Some, None, List, length, sym, ◌∙◌, subst, arith}
use Rattle.std.specs.Prelude.{All, Contains, IfSome, MatchOption, slice_get, slice_index, slice_index_or}
use Rattle.std.proofs.lemmas.Option.{slice_get_within}
use Rattle.sd_base.proofs.ContainedHavePlaces.{get-contains}
use Rattle.covers.specs.declared.lattice.Axis.{Axis}
use Rattle.covers.specs.Lattices.{IsOnLattice, corner_of}
use Rattle.walks.specs.declared.telling.Telling.{Telling}
use Rattle.walks.specs.Tellings.{HoldsBack, IsHeld, IsUnder, IsUnderAt}
use Rattle.walks.specs.Walks.{AreOnLattice, HoldsWalk, IsBy, IsWalked, StopsAt, begin, begin_at, step, step_at, with_step}
use Rattle.walks.specs.inside.Lacks.{LacksMost, LacksNone}
use Rattle.walks.specs.inside.Starts.{HasUnder, IsStart}
use Rattle.walks.proofs.WalksStayBetween.{set-more, under-along, walked-below, walked-on}
use Rattle.walks.proofs.StepsLessenLack.{lacking, lacking-falls}
use Rattle.walks.proofs.StepsFitLattice.{lack-fits, none-lacks, step-some}

-- a walk came to the capacities
pub record IsUnderWay (axes : List Axis) (tellings : List Telling) (goal ks : List ℕ) (by : Option ℕ) : Type 0 where
  pub walked : IsWalked axes tellings (corner_of axes) goal ks
  pub last : IsBy axes tellings ks by

-- it begins at the telling that was found, and at the corner where there is none

pub place-within : (tellings : List Telling) (goal : List ℕ) (by : Option ℕ) → MatchOption by (HasUnder tellings goal → ⊥) (IsUnderAt tellings goal) → IfSome by (λ (place : ℕ). place < length tellings)
place-within tellings goal None none = tt
place-within tellings goal (Some place) (t, at, under) = slice_get_within tellings place t at

pub begun : (axes : List Axis) (tellings : List Telling) (goal ks : List ℕ) (by : Option ℕ) → MatchOption by (HasUnder tellings goal → ⊥) (IsUnderAt tellings goal) → IsStart axes tellings by ks → IsUnderWay axes tellings goal ks by
begun axes tellings goal ks None none is = record { walked = subst (IsWalked axes tellings (corner_of axes) goal) (sym is) begin; last = is }
begun axes tellings goal ks (Some place) (t, at, under) start =
    let is : ks ≡ t.capacities = start t at in
    record {
      walked = subst (IsWalked axes tellings (corner_of axes) goal) (sym is) (begin_at t (get-contains tellings place t at) under);
      last = (t, at, subst (IsUnder t.capacities) (sym is) (λ c. omega arith));
    }

-- it takes a step on
pub gone-on : (axes : List Axis) (tellings : List Telling) (goal ks new channels : List ℕ) (t : Telling) (place c : ℕ) (by : Option ℕ) → IsUnderWay axes tellings goal ks by → slice_get tellings place ≡ Some t → HoldsBack t ks → channels ≡ t.enlarge → LacksMost axes goal ks channels c → new ≡ with_step axes ks c → IsUnderWay axes tellings goal new (Some place)
gone-on axes tellings goal ks new channels t place c by way at holds same lacks is = record {
  walked = subst (IsWalked axes tellings (corner_of axes) goal) (sym is)
      (step ks t c way.walked (get-contains tellings place t at) holds (subst (λ (cs : List ℕ). Contains cs c) same lacks.shown) (lack-fits axes goal ks c lacks.some));
  last = (t, at, subst (IsUnder t.capacities) (sym is) (under-along t.capacities ks (with_step axes ks c) holds.most (set-more ks c (step_at axes c))));
}

-- and less lacks then
pub lacks-less : (axes : List Axis) (tellings : List Telling) (goal ks new : List ℕ) (c : ℕ) → AreOnLattice axes tellings → IsOnLattice axes goal → IsWalked axes tellings (corner_of axes) goal ks → slice_index ks c + step_at axes c ≤ slice_index goal c → new ≡ with_step axes ks c → lacking goal new < lacking goal ks
lacks-less axes tellings goal ks new c told there walked fits is =
    subst (λ (js : List ℕ). lacking goal js < lacking goal ks) (sym is)
    (lacking-falls goal ks c (step_at axes c) ((walked-on axes tellings goal told there ks walked).long ∙ sym there.long) (step-some axes c) fits)

-- no telling holds back what it came to
pub stopped : (axes : List Axis) (tellings : List Telling) (goal ks new : List ℕ) (by : Option ℕ) → AreOnLattice axes tellings → IsOnLattice axes goal → IsUnderWay axes tellings goal ks by → (IsHeld tellings ks → ⊥) → new ≡ ks → StopsAt axes tellings goal new by
stopped axes tellings goal ks new by told there way free is = subst (λ (js : List ℕ). StopsAt axes tellings goal js by) (sym is) (record {
  walked = way.walked;
  on = walked-on axes tellings goal told there ks way.walked;
  below = walked-below axes tellings goal told there ks way.walked;
  unknown = free;
  last = way.last;
})

-- the telling that does shows no channel on which a step lacks
pub held-up : (axes : List Axis) (tellings : List Telling) (goal ks channels : List ℕ) (t : Telling) (by : Option ℕ) → AreOnLattice axes tellings → IsOnLattice axes goal → IsUnderWay axes tellings goal ks by → HoldsBack t ks → channels ≡ t.enlarge → LacksNone axes goal ks channels → HoldsWalk axes tellings goal t
held-up axes tellings goal ks channels t by told there way holds same none =
    let here : IsOnLattice axes ks = walked-on axes tellings goal told there ks way.walked in
    record {
      capacities = ks;
      walked = way.walked;
      on = here;
      below = walked-below axes tellings goal told there ks way.walked;
      holds = holds;
      no_more = subst (All (λ (c : ℕ). slice_index goal c ≤ slice_index ks c)) same (λ i d below. none-lacks axes goal ks (slice_index_or channels i d) there here (none i d below));
    }

-- the telling that ends a walk has on each channel that it shows what the goal has there, or more
pub goal-covered : (axes : List Axis) (tellings : List Telling) (goal : List ℕ) (t : Telling) → HoldsWalk axes tellings goal t → All (λ (c : ℕ). slice_index goal c ≤ slice_index t.capacities c) t.enlarge
goal-covered axes tellings goal t h = λ i d below. along _ _ _ (h.no_more i d below) (h.holds.same i d below)
  where
    along : (x y z : ℕ) → x ≤ y → y ≡ z → x ≤ z
    along x y z a b = omega arith
