-- What a walk towards a vector within the limit comes to is reachable, and the vector of its distribution.
use Rattle.std.proofs.Common.{◌≡◌, ℕ, ◌+◌, ◌≤◌, ◌<◌, Option, Some, List, length, sym, ap, ◌∙◌, subst, arith}
use Rattle.std.specs.Prelude.{All, Contains, slice_index, slice_set}
use Rattle.std.proofs.lemmas.List.Elements.{All-contains, All-weaker, Contains-get_or}
use Rattle.sd_base.specs.declared.limits.Limits.{Limits}
use Rattle.sd_base.specs.Net.{Net, channel_at}
use Rattle.sd_base.proofs.ElementsKeepPlaces.{get-there, some-within}
use Rattle.storage.specs.ClosedLists.{AgreesOn}
use Rattle.storage.specs.Distributions.{capacity_at, storage_of}
use Rattle.storage.specs.StorageOrder.{stepped}
use Rattle.storage.specs.Steps.{step_of}
use Rattle.storage.proofs.BoundedChannels.{IsBounded}
use Rattle.storage.proofs.EnlargingAddsRoom.{most-same}
use Rattle.guide.specs.Guides.{IsInGuide}
use Rattle.guide.proofs.ShownWithMoreRoom.{evaluation-guides}
use Rattle.covers.specs.declared.lattice.Axis.{Axis}
use Rattle.covers.specs.declared.lattice.Lattice.{Lattice}
use Rattle.covers.specs.Lattices.{IsAmong, IsOnLattice, corner_of}
use Rattle.covers.proofs.RootHoldsLattice.{corner-below, corner-on-lattice}
use Rattle.covers.proofs.StorageRises.{storage-le as needed-le}
use Rattle.walks.specs.declared.telling.Telling.{Telling}
use Rattle.walks.specs.Tellings.{HoldsBack, IsUnder}
use Rattle.walks.specs.Walks.{AreOnLattice, IsWalked, begin, begin_at, step, step_at}
use Rattle.walks.proofs.WalksStayBetween.{walked-below, walked-on}
use Rattle.walks.proofs.StepsFitLattice.{step-here}
use Rattle.explore.specs.Reachable.{IsReachable, corner as at_corner, next as further}
use Rattle.explore.specs.inside.Searches.{IsCandidate}
use Rattle.explore.proofs.StepsGiveCandidates.{shown-bounded}
use Rattle.pareto_search.specs.inside.Grounds.{IsGround}
use Rattle.pareto_search.specs.inside.Knowledge.{IsTold}
use Rattle.pareto_search.specs.inside.Vectors.{bounded_by, vector_of}
use Rattle.pareto_search.proofs.CornersGiveAxes.{axes-length, axis-step, corner-vector}
use Rattle.pareto_search.proofs.BoundedBy.{bounded-at, bounded-enlarged, bounded-same, bounded-vector, flat-set}
use Rattle.pareto_search.proofs.WithinLimit.{among-evaluable, among-within, on-distribution, on-grid, on-under}

-- the distribution is reachable, and the vector is its own
pub record IsReached (net : Net) (limits : Limits) (corner : List (Option ℕ)) (ks : List ℕ) : Type 0 where
  pub flat : vector_of (bounded_by corner ks) ≡ ks
  pub reachable : IsReachable net limits.total (bounded_by corner ks)

-- what has no more than a vector within the limit is within it
pub under-among : (lattice : Lattice) (goal ks : List ℕ) → IsAmong lattice goal → IsOnLattice lattice.axes ks → IsUnder ks goal → IsAmong lattice ks
under-among lattice goal ks among on under = record { on = on; within = omega (arith, needed-le lattice.axes ks goal among.on.long under, among.within) }

-- what was told is of the lattice
pub told-on : (net : Net) (limits : Limits) (corner : List (Option ℕ)) (lattice : Lattice) (tellings : List Telling) → All (IsTold net limits corner lattice) tellings → AreOnLattice lattice.axes tellings
told-on net limits corner lattice tellings told = All-weaker (IsTold net limits corner lattice) (λ (t : Telling). IsOnLattice lattice.axes t.capacities) (λ t is. is.among.on) tellings told

module _ (net : Net) (limits : Limits) (corner : List (Option ℕ)) (lattice : Lattice) (ground : IsGround net limits corner lattice) where
  corner-same : corner_of lattice.axes ≡ vector_of corner
  corner-same = corner-vector net.channels corner lattice.axes ground.axes

  corner-back : bounded_by corner (corner_of lattice.axes) ≡ corner
  corner-back = ap (bounded_by corner) corner-same ∙ bounded-vector corner corner (most-same corner)

  -- ---- the corner

  corner-reached : (goal : List ℕ) → IsAmong lattice goal → IsReached net limits corner (corner_of lattice.axes)
  corner-reached goal among =
      let first : IsAmong lattice (corner_of lattice.axes) = under-among lattice goal (corner_of lattice.axes) among (corner-on-lattice lattice.axes) (corner-below lattice.axes goal among.on) in
      let within : storage_of net.channels corner ≤ limits.total = subst (λ (ds : List (Option ℕ)). storage_of net.channels ds ≤ limits.total) corner-back (among-within net limits corner lattice ground (corner_of lattice.axes) first) in
      record {
        flat = ap vector_of corner-back ∙ sym corner-same;
        reachable = subst (IsReachable net limits.total) (sym corner-back) (at_corner corner ground.is_corner within);
      }

  -- ---- a step by what a telling shows

  module _ (t : Telling) (told : IsTold net limits corner lattice t) (c : ℕ) (shown : Contains t.enlarge c) where
    here : Contains told.evaluation.enlarge c
    here = subst (λ (cs : List ℕ). Contains cs c) told.enlarge shown

    candidate : IsCandidate net limits.total (bounded_by corner t.capacities)
    candidate = record {
      distribution = on-distribution net limits corner lattice ground t.capacities told.among.on;
      grid = on-grid net limits corner lattice ground t.capacities told.among.on;
      within = among-within net limits corner lattice ground t.capacities told.among;
      reachable = told.reachable;
    }

    -- the corner has a capacity there
    bounded : (n : ℕ) × (capacity_at corner c ≡ Some n)
    bounded =
        let b : IsBounded net (bounded_by corner t.capacities) c = shown-bounded net ground.laws ground.explorable limits.total (bounded_by corner t.capacities) candidate limits.states told.evaluation told.evaluated c here in
        bounded-at corner t.capacities c b.room b.has

    module _ (ks : List ℕ) (among : IsAmong lattice ks) (holds : HoldsBack t ks) where
      agrees : AgreesOn told.evaluation.enlarge (bounded_by corner t.capacities) (bounded_by corner ks)
      agrees j below =
          let d : ℕ = slice_index told.evaluation.enlarge j in
          let same : All (λ (x : ℕ). slice_index ks x ≡ slice_index t.capacities x) told.evaluation.enlarge = subst (All (λ (x : ℕ). slice_index ks x ≡ slice_index t.capacities x)) told.enlarge holds.same in
          bounded-same corner t.capacities ks d (told.among.on.long ∙ sym among.on.long)
          (sym (All-contains (λ (x : ℕ). slice_index ks x ≡ slice_index t.capacities x) told.evaluation.enlarge d same (Contains-get_or told.evaluation.enlarge j 0 below)))

      pub guided : IsInGuide net (bounded_by corner ks) c
      guided = evaluation-guides net ground.laws (bounded_by corner t.capacities) (bounded_by corner ks) (among-evaluable net limits corner lattice ground ks among)
          (on-under net limits corner lattice ground t.capacities ks told.among.on among.on holds.most) limits.states told.evaluation told.evaluated agrees c here

      place : c < length ks
      place = omega (arith, some-within corner c bounded.0 bounded.1, among.on.long, axes-length net.channels corner lattice.axes ground.axes)

      -- a step on the lattice is one of the channel
      pub step-is : bounded_by corner (slice_set ks c (slice_index ks c + step_at lattice.axes c)) ≡ stepped net.channels (bounded_by corner ks) c
      step-is =
          let below : c < length lattice.axes = omega (arith, place, among.on.long) in
          let a : Axis = (get-there lattice.axes c below).0 in
          let same : step_at lattice.axes c ≡ step_of (channel_at net c) = step-here lattice.axes c a below ∙ axis-step net.channels corner lattice.axes c bounded.0 a ground.axes bounded.1 in
          bounded-enlarged corner ks c (step_of (channel_at net c)) bounded.0 (slice_index ks c + step_at lattice.axes c) bounded.1 place (ap (λ (s : ℕ). slice_index ks c + s) same)

      step-reached : IsReached net limits corner ks → IsAmong lattice (slice_set ks c (slice_index ks c + step_at lattice.axes c)) → IsReached net limits corner (slice_set ks c (slice_index ks c + step_at lattice.axes c))
      step-reached reached new =
          let within : storage_of net.channels (stepped net.channels (bounded_by corner ks) c) ≤ limits.total
          = subst (λ (ds : List (Option ℕ)). storage_of net.channels ds ≤ limits.total) step-is (among-within net limits corner lattice ground (slice_set ks c (slice_index ks c + step_at lattice.axes c)) new) in
          record {
            flat = flat-set corner ks c bounded.0 (slice_index ks c + step_at lattice.axes c) bounded.1 reached.flat;
            reachable = subst (IsReachable net limits.total) (sym step-is) (further (bounded_by corner ks) c reached.reachable guided within);
          }

  -- ---- the walk

  module _ (tellings : List Telling) (told : All (IsTold net limits corner lattice) tellings) (goal : List ℕ) (among : IsAmong lattice goal) where
    walked-among : (ks : List ℕ) → IsWalked lattice.axes tellings (corner_of lattice.axes) goal ks → IsAmong lattice ks
    walked-among ks walked =
        let on : AreOnLattice lattice.axes tellings = told-on net limits corner lattice tellings told in
        under-among lattice goal ks among (walked-on lattice.axes tellings goal on among.on ks walked) (walked-below lattice.axes tellings goal on among.on ks walked)

    pub walked-reached : (ks : List ℕ) → IsWalked lattice.axes tellings (corner_of lattice.axes) goal ks → IsReached net limits corner ks
    walked-reached _ begin = corner-reached goal among
    walked-reached _ (begin_at t one under) = let is : IsTold net limits corner lattice t = All-contains (IsTold net limits corner lattice) tellings t told one in record { flat = is.flat; reachable = is.reachable }
    walked-reached _ (step ks t c walked one holds shown fits) =
        step-reached t (All-contains (IsTold net limits corner lattice) tellings t told one) c shown ks (walked-among ks walked) holds (walked-reached ks walked)
        (walked-among (slice_set ks c (slice_index ks c + step_at lattice.axes c)) (step ks t c walked one holds shown fits))
