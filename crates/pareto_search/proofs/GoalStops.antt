-- Where walks towards goals stop.
use Rattle.std.proofs.Common.{◌≡◌, ℕ, ◌+◌, ◌<◌, ◌⊎◌, inl, inr, Option, List, [], length, take, sym, subst, arith}
use Rattle.std.specs.Prelude.{All, Contains, slice_index_or}
use Rattle.std.proofs.lemmas.List.Elements.{All-contains, All-more, All-weaker, Contains-get_or}
use Rattle.sd_base.specs.declared.limits.Limits.{Limits}
use Rattle.sd_base.specs.Net.{Net}
use Rattle.covers.specs.declared.lattice.Lattice.{Lattice}
use Rattle.covers.specs.Lattices.{IsAmong}
use Rattle.walks.specs.declared.telling.Telling.{Telling}
use Rattle.pareto_search.specs.declared.stops.Stop.{Stop}
use Rattle.pareto_search.specs.inside.Grounds.{IsGround}
use Rattle.pareto_search.specs.inside.Knowledge.{IsTold}
use Rattle.pareto_search.specs.inside.Stops.{IsGoal, IsMet, IsStop, IsStopTowards, IsTakenIn}
use Rattle.pareto_search.proofs.WalksReach.{under-among, walked-reached}

-- one goal more is met
pub met-more : (lattice : Lattice) (tellings : List Telling) (goals : List (List ℕ)) (i : ℕ) (goal : List ℕ) (old new : List Stop) (s : Stop) → i < length goals → goal ≡ slice_index_or goals i goal → IsStopTowards lattice tellings goal s → IsTakenIn new s → ((t : Stop) → IsTakenIn old t → IsTakenIn new t) → All (IsMet lattice tellings old) (take i goals) → All (IsMet lattice tellings new) (take (i + 1) goals)
met-more lattice tellings goals i goal old new s below is own taken still met =
    All-more (IsMet lattice tellings new) goals i goal below
    (All-weaker (IsMet lattice tellings old) (IsMet lattice tellings new) (λ other h. (h.0, h.1, still h.0 h.2)) (take i goals) met)
    (subst (IsMet lattice tellings new) is (s, own, taken))

-- and where one is, there is a stop
pub met-some : (lattice : Lattice) (tellings : List Telling) (goals : List (List ℕ)) (stops : List Stop) → 0 < length goals → All (IsMet lattice tellings stops) goals → 0 < length stops
met-some lattice tellings goals stops some met = let h : IsMet lattice tellings stops (slice_index_or goals 0 []) = met 0 [] some in omega (arith, h.2.1.1)

-- a walk towards one of the goals ended there
abbrev pub IsStopOf : Lattice → List Telling → List (List ℕ) → Stop → Type 0
IsStopOf lattice tellings goals s = (goal : List ℕ) × Contains goals goal × IsStopTowards lattice tellings goal s

-- the new stop is of its goal
pub of-more : (lattice : Lattice) (tellings : List Telling) (goals : List (List ℕ)) (i : ℕ) (goal : List ℕ) (old : List Stop) (s t : Stop) → i < length goals → goal ≡ slice_index_or goals i goal → IsStopTowards lattice tellings goal s → ((u : Stop) → Contains old u → IsStopOf lattice tellings goals u) → (t ≡ s) ⊎ Contains old t → IsStopOf lattice tellings goals t
of-more lattice tellings goals i goal old s t below is own from (inl same) = (goal, subst (Contains goals) (sym is) (Contains-get_or goals i goal below), subst (IsStopTowards lattice tellings goal) (sym same) own)
of-more lattice tellings goals i goal old s t below is own from (inr has) = from t has

-- so it is what the search of a net is to evaluate
pub stop-of : (net : Net) (limits : Limits) (corner : List (Option ℕ)) (lattice : Lattice) (tellings : List Telling) (goals : List (List ℕ)) (s : Stop) → IsGround net limits corner lattice → All (IsTold net limits corner lattice) tellings → All (IsGoal lattice tellings) goals → IsStopOf lattice tellings goals s → IsStop net limits corner lattice tellings goals s
stop-of net limits corner lattice tellings goals s ground told open' (goal, there, is) =
    let among : IsAmong lattice goal = (All-contains (IsGoal lattice tellings) goals goal open' there).among in
    let reached = walked-reached net limits corner lattice ground tellings told goal among s.capacities is.stops.walked in
    record {
      among = under-among lattice goal s.capacities among is.stops.on is.stops.below;
      flat = reached.flat;
      reachable = reached.reachable;
      free = is.stops.unknown;
      by = is.stops.last;
      storage = is.storage;
      goal = goal;
      goal_in = there;
      under = is.stops.below;
    }
