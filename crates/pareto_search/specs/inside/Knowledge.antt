-- What is known of a net: what evaluations told, and the loops of those that may be points.
use Rattle.std.specs.Prelude.{◌≡◌, ◌≢◌, ℕ, ◌+◌, ◌*◌, ◌≤◌, ◌<◌, All, Contains, Option, None, Some, List, [], ◌∷◌, length, map, slice_get, slice_index}
use Rattle.sd_base.specs.declared.limits.Limits.{Limits}
use Rattle.sd_base.specs.declared.numbers.Fraction.{Fraction}
use Rattle.sd_base.specs.Net.{Net}
use Rattle.sd_base.specs.Rates.{Rate}
use Rattle.lasso.specs.LoopAnswers.{IsFound}
use Rattle.storage.specs.BoundedNets.{bound}
use Rattle.guide.specs.declared.rating.Evaluation.{Evaluation}
use Rattle.guide.specs.declared.rating.Outcome.{Outcome}
use Rattle.guide.specs.declared.rating.Outcome.TheVariants.{Live, Blocked}
use Rattle.guide.specs.Evaluations.{IsEvaluated}
use Rattle.covers.specs.declared.lattice.Lattice.{Lattice}
use Rattle.covers.specs.Lattices.{IsAmong}
use Rattle.walks.specs.declared.telling.Telling.{Telling}
use Rattle.explore.specs.Reachable.{IsReachable}
use Rattle.pareto_search.specs.declared.known.Known.{Known}
use Rattle.pareto_search.specs.declared.known.Looped.{Looped}
use Rattle.pareto_search.specs.inside.Vectors.{bounded_by, vector_of}

-- the counts at which an outcome is blocked
abbrev pub counts_in : Outcome → Option (List ℕ)
counts_in (Live table cycle) = None
counts_in (Blocked counts lacks) = Some counts

-- no vector of the lattice that has no more than this one on the channels has a greater rate
abbrev pub BoundsOn : Net → List (Option ℕ) → Lattice → List ℕ → Fraction → List ℕ → Type 0
BoundsOn net corner lattice ks rate channels =
    (js : List ℕ) → IsAmong lattice js → All (λ (c : ℕ). slice_index js c ≤ slice_index ks c) channels →
    (x y : ℕ) → Rate (bound net (bounded_by corner js)) x y → x * rate.den ≤ rate.num * y

-- a reachable distribution of the lattice was evaluated, and told this; it bounds on channels that it shows
pub record IsTold (net : Net) (limits : Limits) (corner : List (Option ℕ)) (lattice : Lattice) (t : Telling) : Type 0 where
  pub evaluation : Evaluation
  pub evaluated : IsEvaluated net (bounded_by corner t.capacities) limits.states evaluation
  pub enlarge : t.enlarge ≡ evaluation.enlarge
  pub bounding : All (Contains t.enlarge) t.bounding
  pub bounds : BoundsOn net corner lattice t.capacities t.rate t.bounding
  pub rate : t.rate ≡ evaluation.rate
  pub blocked : t.blocked ≡ counts_in evaluation.outcome
  pub among : IsAmong lattice t.capacities
  pub flat : vector_of (bounded_by corner t.capacities) ≡ t.capacities
  pub reachable : IsReachable net limits.total (bounded_by corner t.capacities)

-- a rate is above another
abbrev pub IsAbove : Fraction → Fraction → Type 0
IsAbove rate best = best.num * rate.den < rate.num * best.den

-- the loop is that of the net of what was told at its place
pub record IsLooped (net : Net) (states : ℕ) (corner : List (Option ℕ)) (tellings : List Telling) (l : Looped) : Type 0 where
  pub telling : Telling
  pub at : slice_get tellings l.place ≡ Some telling
  pub found : IsFound (bound net (bounded_by corner telling.capacities)) states l.table

-- a loop of the telling at the place is kept
abbrev pub IsKept : List Looped → ℕ → Type 0
IsKept loops place = (l : Looped) × Contains loops l × (l.place ≡ place)

-- tellings of different distributions, no more than allowed, and the loops of those with a rate above the best one of less
-- storage
pub record IsKnown (net : Net) (limits : Limits) (corner : List (Option ℕ)) (lattice : Lattice) (best : Fraction) (k : Known) : Type 0 where
  pub told : All (IsTold net limits corner lattice) k.tellings.items
  pub apart : (i j : ℕ) (s t : Telling) → i < j → slice_get k.tellings.items i ≡ Some s → slice_get k.tellings.items j ≡ Some t → s.capacities ≢ t.capacities
  pub loops : All (IsLooped net limits.states corner k.tellings.items) k.loops.items
  pub kept : (i : ℕ) (t : Telling) → slice_get k.tellings.items i ≡ Some t → IsAbove t.rate best → IsKept k.loops.items i
  pub few : length k.tellings.items ≤ limits.distributions

-- the distributions that were evaluated
abbrev pub told_of : List (Option ℕ) → List Telling → List (List (Option ℕ))
told_of corner ts = map (λ (t : Telling). bounded_by corner t.capacities) ts

-- how many of the tellings ran a loop
abbrev pub ran : Option (List ℕ) → ℕ
ran None = 1
ran (Some counts) = 0

abbrev pub loops_in : List Telling → ℕ
loops_in [] = 0
loops_in (t ∷ ts) = ran t.blocked + loops_in ts
