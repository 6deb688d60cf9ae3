-- How what evaluations tell is kept.
use Rattle.std.specs.Prelude.{◌≡◌, ◌≢◌, ℕ, ◌+◌, All, Contains, Option, None, Some, List, [], ◌∷◌, ◌++◌, map, slice_get, slice_index}
use Rattle.sd_base.specs.declared.limits.Limits.{Limits}
use Rattle.sd_base.specs.Net.{Net}
use Rattle.firing.specs.declared.table.LoopTable.{LoopTable}
use Rattle.covers.specs.declared.bound.Cap.{Cap}
use Rattle.covers.specs.declared.lattice.Lattice.{Lattice}
use Rattle.covers.specs.Lattices.{IsAmong}
use Rattle.evaluations.specs.declared.evaluating.Answered.{Answered}
use Rattle.evaluations.specs.declared.rated.Rated.{Rated}
use Rattle.evaluations.specs.declared.shown.Shown.{Shown}
use Rattle.evaluations.specs.declared.shown.Shown.TheVariants.{Cycle, Blocked}
use Rattle.evaluations.specs.declared.starts.Starts.{Starts}
use Rattle.evaluations.specs.Evaluating.{least_loops, most_loops, sum_of}
use Rattle.walks.specs.declared.telling.Telling.{Telling}
use Rattle.explore.specs.Reachable.{IsReachable}
use Rattle.pareto_search.specs.Entrances.{AreApart}
use Rattle.pareto_search.specs.declared.known.Known.{Known}
use Rattle.pareto_search.specs.declared.known.Looped.{Looped}
use Rattle.pareto_search.specs.inside.Knowledge.{BoundsOn, loops_in, ran}
use Rattle.pareto_search.specs.inside.Vectors.{bounded_by, vector_of}

-- a reachable distribution whose vector is of the lattice, and of none of the tellings
pub record IsNew (net : Net) (limits : Limits) (corner : List (Option ℕ)) (lattice : Lattice) (tellings : List Telling) (ds : List (Option ℕ)) : Type 0 where
  pub among : IsAmong lattice (vector_of ds)
  pub bounds : bounded_by corner (vector_of ds) ≡ ds
  pub reachable : IsReachable net limits.total ds
  pub untold : (t : Telling) → Contains tellings t → t.capacities ≢ vector_of ds

-- so is each of these, and none stands there twice
pub record AreNew (net : Net) (limits : Limits) (corner : List (Option ℕ)) (lattice : Lattice) (tellings : List Telling) (dss : List (List (Option ℕ))) : Type 0 where
  pub each : (ds : List (Option ℕ)) → Contains dss ds → IsNew net limits corner lattice tellings ds
  pub apart : AreApart dss

-- the distributions of answers
abbrev pub answered_of : List Answered → List (List (Option ℕ))
answered_of answers = map (λ (a : Answered). a.capacities.capacities) answers

-- the counts from which the evaluation of a distribution with no less room than a told one may begin: those at which that one
-- is blocked, or those of a whole round
abbrev pub counts_after : Starts → Option (List ℕ) → List ℕ
counts_after starts None = starts.whole
counts_after starts (Some counts) = counts

-- those for the telling at a place, or none where no telling led on
abbrev pub counts_at : Starts → Option Telling → List ℕ
counts_at starts None = starts.none
counts_at starts (Some t) = counts_after starts t.blocked

abbrev pub counts_by : Starts → List Telling → Option ℕ → List ℕ
counts_by starts tellings None = starts.none
counts_by starts tellings (Some place) = counts_at starts (slice_get tellings place)

-- the counts at which what is shown blocks a distribution, if it does
abbrev pub counts_of : Shown → Option (List ℕ)
counts_of (Cycle cycle) = None
counts_of (Blocked counts) = Some counts

-- what is kept of a rated distribution, which bounds on these channels
abbrev pub telling_of : List (Option ℕ) → Rated → List ℕ → Telling
telling_of ds r bounding = record { capacities = vector_of ds; enlarge = r.enlarge; bounding = bounding; rate = r.rate; blocked = counts_of r.shown }

-- the loop that is kept of it, if one is, for the telling at the place
abbrev pub loops_of : ℕ → Option LoopTable → List Looped
loops_of place None = []
loops_of place (Some kept) = record { place = place; table = kept } ∷ []

-- the telling of a rated distribution stands last, and bounds on channels that it shows
pub record AddsTelling (net : Net) (corner : List (Option ℕ)) (lattice : Lattice) (ds : List (Option ℕ)) (r : Rated) (old new : Known) : Type 0 where
  pub bounding : List ℕ
  pub added : new.tellings.items ≡ old.tellings.items ++ telling_of ds r bounding ∷ []
  pub shown : All (Contains r.enlarge) bounding
  pub bounds : BoundsOn net corner lattice (vector_of ds) r.rate bounding

-- an answer's telling stands last
pub record IsLearned (a : Answered) (old new : Known) : Type 0 where
  pub telling : Telling
  pub added : new.tellings.items ≡ old.tellings.items ++ telling ∷ []
  pub vector : telling.capacities ≡ vector_of a.capacities.capacities
  pub least : ran telling.blocked ≡ least_loops a.answer
  pub most : ran telling.blocked ≡ most_loops a.answer

-- the tellings of answers stand last, in the order of these
pub record AreLearned (answers : List Answered) (old new : Known) : Type 0 where
  pub more : List Telling
  pub added : new.tellings.items ≡ old.tellings.items ++ more
  pub vectors : map (λ (t : Telling). t.capacities) more ≡ map vector_of (answered_of answers)
  pub least : loops_in new.tellings.items ≡ loops_in old.tellings.items + sum_of least_loops answers
  pub most : loops_in new.tellings.items ≡ loops_in old.tellings.items + sum_of most_loops answers

-- a channel with its capacity
abbrev pub cap_of : List ℕ → ℕ → Cap
cap_of ks c = record { channel = c; capacity = slice_index ks c }
