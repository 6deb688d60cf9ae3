-- The vectors of a level are goals of walks, and where these stop is to be evaluated; so is where a walk towards one vector stops.
use Rattle.std.proofs.Common.{◌≡◌, ℕ, ◌≤◌, ◌<◌, Option, List, [], ◌∷◌, length, sym, subst, arith}
use Rattle.std.specs.Prelude.{All, Contains, slice_index_or}
use Rattle.std.proofs.lemmas.List.Elements.{All-contains, All-cons, All-nil, Contains-get_or}
use Rattle.sd_base.proofs.ContainedHavePlaces.{contains-here, contains-none}
use Rattle.sd_base.specs.declared.limits.Limits.{Limits}
use Rattle.sd_base.specs.Net.{Net}
use Rattle.covers.specs.declared.lattice.Lattice.{Lattice}
use Rattle.covers.specs.declared.search.Level.{Level}
use Rattle.covers.specs.Lattices.{IsAmong, storage_of}
use Rattle.covers.specs.Searches.{IsLevel}
use Rattle.covers.proofs.StorageRises.{storage-le}
use Rattle.walks.specs.declared.telling.Telling.{Telling}
use Rattle.pareto_search.specs.declared.searching.Searching.{Searching}
use Rattle.pareto_search.specs.declared.stops.Stop.{Stop}
use Rattle.pareto_search.specs.inside.Firsts.{IsStopWithin}
use Rattle.pareto_search.specs.inside.Grounds.{IsGround}
use Rattle.pareto_search.specs.inside.Knowledge.{IsTold}
use Rattle.pareto_search.specs.inside.Stops.{AreLevel, IsGoal, IsStop}
use Rattle.pareto_search.specs.inside.Turns.{AreStops, IsStanding}
use Rattle.pareto_search.proofs.LevelAhead.{vector-among, vector-free, vector-needs}
use Rattle.pareto_search.proofs.StopsApart.{ascending-apart}
use Rattle.pareto_search.proofs.WalksReach.{IsReached, under-among, walked-reached}

module _ (net : Net) (limits : Limits) (corner : List (Option ℕ)) (lattice : Lattice) (s : Searching) (level : Level) (is : IsStanding net limits corner lattice level.storage s) (most : ℕ) (of : IsLevel s.bounds most level) where
  pub level-goals : All (IsGoal lattice s.known.tellings.items) level.vectors
  level-goals = λ k d below.
      let one : Contains level.vectors (slice_index_or level.vectors k d) = Contains-get_or level.vectors k d below in
      record {
        among = vector-among net limits corner lattice level.storage s is most level of (slice_index_or level.vectors k d) one;
        free = vector-free net limits corner lattice level.storage s is most level of (slice_index_or level.vectors k d) one;
      }

  pub level-stops : (stops : List Stop) → All (IsStop net limits corner lattice s.known.tellings.items level.vectors) stops → AreLevel stops → 0 < length stops → AreStops net limits corner lattice s.known.tellings.items level.storage stops
  level-stops stops each row some = record {
    goals = level.vectors;
    each = each;
    low = λ k d below.
        let one : IsStop net limits corner lattice s.known.tellings.items level.vectors (slice_index_or stops k d) = each k d below in
        let among : IsAmong lattice one.goal = vector-among net limits corner lattice level.storage s is most level of one.goal one.goal_in in
        let needs : storage_of lattice.axes one.goal ≡ level.storage = vector-needs net limits corner lattice level.storage s is most level of one.goal one.goal_in in
        let less : storage_of lattice.axes (slice_index_or stops k d).capacities ≤ storage_of lattice.axes one.goal = storage-le lattice.axes (slice_index_or stops k d).capacities one.goal among.on.long one.under in
        omega (arith, needs, less);
    apart = ascending-apart corner stops (λ x there. (All-contains (IsStop net limits corner lattice s.known.tellings.items level.vectors) stops x each there).flat) row.ascending;
    some = omega (arith, some);
  }

module _ (net : Net) (limits : Limits) (corner : List (Option ℕ)) (lattice : Lattice) (base : IsGround net limits corner lattice) (tellings : List Telling) (told : All (IsTold net limits corner lattice) tellings) (total : ℕ) (stop : Stop) (is : IsStopWithin lattice tellings total stop) where
  stop-one : IsStop net limits corner lattice tellings (is.goal ∷ []) stop
  stop-one =
      let reached : IsReached net limits corner stop.capacities = walked-reached net limits corner lattice base tellings told is.goal is.among stop.capacities is.towards.stops.walked in
      record {
        among = under-among lattice is.goal stop.capacities is.among is.towards.stops.on is.towards.stops.below;
        flat = reached.flat;
        reachable = reached.reachable;
        free = is.towards.stops.unknown;
        by = is.towards.stops.last;
        storage = is.towards.storage;
        goal = is.goal;
        goal_in = contains-here is.goal [];
        under = is.towards.stops.below;
      }

  pub stop-alone : (stops : List Stop) → stops ≡ stop ∷ [] → AreStops net limits corner lattice tellings total stops
  stop-alone stops alone = subst (AreStops net limits corner lattice tellings total) (sym alone) (record {
    goals = is.goal ∷ [];
    each = All-cons (IsStop net limits corner lattice tellings (is.goal ∷ [])) stop [] stop-one (All-nil (IsStop net limits corner lattice tellings (is.goal ∷ [])));
    low = All-cons (λ (x : Stop). storage_of lattice.axes x.capacities ≤ total) stop []
        (let less : storage_of lattice.axes stop.capacities ≤ storage_of lattice.axes is.goal = storage-le lattice.axes stop.capacities is.goal is.among.on.long is.towards.stops.below in omega (arith, less, is.low))
        (All-nil (λ (x : Stop). storage_of lattice.axes x.capacities ≤ total));
    apart = (λ es one. absurd (contains-none es one), tt);
    some = omega arith;
  })
