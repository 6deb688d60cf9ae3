-- The vectors of the lattice within the limit give distributions that can be evaluated, and each distribution of a live net
-- within the limit has, rounded down, such a vector.
use Rattle.std.proofs.Common.{◌≡◌, ℕ, ◌≤◌, Option, List, ap, arith}
use Rattle.std.specs.Prelude.{◌↔◌, slice_index}
use Rattle.sd_base.specs.declared.limits.Limits.{Limits}
use Rattle.sd_base.specs.declared.limits.TheConstants.{NET_TOKENS}
use Rattle.sd_base.specs.Lawful.{Lawful}
use Rattle.sd_base.specs.Net.{Net}
use Rattle.sd_base.specs.Rates.{Rate}
use Rattle.sd_base.specs.Untimed.{IsLive}
use Rattle.storage.specs.BoundedNets.{bound}
use Rattle.storage.specs.Distributions.{AtMost, CanHold, IsDistribution, storage_of}
use Rattle.storage.specs.Steps.{IsOnGrid, rounded}
use Rattle.storage.proofs.StepsReachMembers.{storage-le}
use Rattle.storage.proofs.CornerLists.{corner-distribution, corner-grid}
use Rattle.storage.proofs.CornerStaysBelow.{rounded-above, rounded-grid, rounded-most}
use Rattle.storage.proofs.MembersCover.{net-steps, rounding-rate}
use Rattle.storage.proofs.FileChannels.{plain-no_spaces}
use Rattle.storage.proofs.DistributionsShareLaws.{can-hold, within-lawful}
use Rattle.guide.specs.Evaluations.{IsEvaluable}
use Rattle.covers.specs.declared.lattice.Lattice.{Lattice}
use Rattle.covers.specs.Lattices.{IsAmong, IsOnLattice, storage_of as needed}
use Rattle.pareto_search.specs.inside.Grounds.{IsGround}
use Rattle.pareto_search.specs.inside.Vectors.{bounded_by, vector_of}
use Rattle.pareto_search.proofs.BoundedBy.{bounded-under, bounded-vector}
use Rattle.pareto_search.proofs.LatticeDistributions.{bounded-distribution, bounded-grid, bounded-most, bounded-storage, vector-on, vector-storage}

-- the vector is that of the distribution rounded down: it needs no more, and its net has the same rates
pub record IsRoundedTo (net : Net) (corner : List (Option ℕ)) (lattice : Lattice) (ds : List (Option ℕ)) (ks : List ℕ) : Type 0 where
  pub among : IsAmong lattice ks
  pub same : bounded_by corner ks ≡ rounded net.channels ds
  pub flat : vector_of (bounded_by corner ks) ≡ ks
  pub most : needed lattice.axes ks ≤ storage_of net.channels ds
  pub rates : (p q : ℕ) → Rate (bound net ds) p q ↔ Rate (bound net (rounded net.channels ds)) p q

module _ (net : Net) (limits : Limits) (corner : List (Option ℕ)) (lattice : Lattice) (ground : IsGround net limits corner lattice) where
  corner-is : IsDistribution net.channels corner
  corner-is = corner-distribution net.channels corner ground.explorable.plain ground.is_corner

  corner-on : IsOnGrid net.channels corner
  corner-on = corner-grid net.channels corner ground.is_corner

  -- ---- vectors of the lattice

  pub on-distribution : (ks : List ℕ) → IsOnLattice lattice.axes ks → IsDistribution net.channels (bounded_by corner ks)
  on-distribution ks on = bounded-distribution net.channels corner lattice.axes ks ground.axes on corner-is

  pub on-grid : (ks : List ℕ) → IsOnLattice lattice.axes ks → IsOnGrid net.channels (bounded_by corner ks)
  on-grid ks on = bounded-grid net.channels corner lattice.axes ks ground.axes on corner-on

  pub on-most : (ks : List ℕ) → IsOnLattice lattice.axes ks → AtMost corner (bounded_by corner ks)
  on-most ks on = bounded-most net.channels corner lattice.axes ks ground.axes on

  pub on-under : (ks js : List ℕ) → IsOnLattice lattice.axes ks → IsOnLattice lattice.axes js → ((c : ℕ) → slice_index ks c ≤ slice_index js c) → AtMost (bounded_by corner ks) (bounded_by corner js)
  on-under ks js one other under = bounded-under corner ks js (omega (arith, one.long, other.long)) under

  -- a vector that is that of its distribution needs the same storage
  pub flat-storage : (ks : List ℕ) → IsOnLattice lattice.axes ks → vector_of (bounded_by corner ks) ≡ ks → needed lattice.axes ks ≡ storage_of net.channels (bounded_by corner ks)
  flat-storage ks on flat =
      let same : needed lattice.axes (vector_of (bounded_by corner ks)) ≡ storage_of net.channels (bounded_by corner ks) = vector-storage net.channels corner (bounded_by corner ks) lattice.axes ground.axes (on-most ks on) in
      rw flat at same

  -- ---- those within the limit

  pub among-within : (ks : List ℕ) → IsAmong lattice ks → storage_of net.channels (bounded_by corner ks) ≤ limits.total
  among-within ks among = omega (arith, bounded-storage net.channels corner lattice.axes ks ground.axes, among.within, ground.limit)

  among-small : (ks : List ℕ) → IsAmong lattice ks → storage_of net.channels (bounded_by corner ks) ≤ NET_TOKENS
  among-small ks among = omega (arith, among-within ks among, ground.small)

  among-held : (ks : List ℕ) → IsAmong lattice ks → CanHold net.channels (bounded_by corner ks)
  among-held ks among = can-hold net.channels (bounded_by corner ks) ground.laws.some_size (on-distribution ks among.on) (among-small ks among)

  pub among-evaluable : (ks : List ℕ) → IsAmong lattice ks → IsEvaluable net (bounded_by corner ks)
  among-evaluable ks among = record {
    none = plain-no_spaces net ground.explorable.plain;
    distribution = on-distribution ks among.on;
    can = among-held ks among;
    few = ground.explorable.few (bounded_by corner ks) (on-distribution ks among.on);
    connected = ground.explorable.connected;
    inputs = ground.explorable.inputs (bounded_by corner ks) (on-distribution ks among.on);
  }

  pub among-lawful : (ks : List ℕ) → IsAmong lattice ks → Lawful (bound net (bounded_by corner ks))
  among-lawful ks among =
      let dist : IsDistribution net.channels (bounded_by corner ks) = on-distribution ks among.on in
      within-lawful net ground.laws (plain-no_spaces net ground.explorable.plain) (bounded_by corner ks) (bounded_by corner ks) dist (ground.explorable.few (bounded_by corner ks) dist) dist (among-small ks among)

  -- ---- distributions on the grid that are at least the corner

  pub vector-back : (ds : List (Option ℕ)) → AtMost corner ds → bounded_by corner (vector_of ds) ≡ ds
  vector-back ds most = bounded-vector corner ds most

  pub vector-flat : (ds : List (Option ℕ)) → AtMost corner ds → vector_of (bounded_by corner (vector_of ds)) ≡ vector_of ds
  vector-flat ds most = ap vector_of (bounded-vector corner ds most)

  pub vector-lattice : (ds : List (Option ℕ)) → IsOnGrid net.channels ds → AtMost corner ds → IsOnLattice lattice.axes (vector_of ds)
  vector-lattice ds grid most = vector-on net.channels corner ds lattice.axes ground.axes corner-on grid most

  pub vector-among : (ds : List (Option ℕ)) → IsOnGrid net.channels ds → AtMost corner ds → storage_of net.channels ds ≤ limits.total → IsAmong lattice (vector_of ds)
  vector-among ds grid most within = record {
    on = vector-lattice ds grid most;
    within = omega (arith, vector-storage net.channels corner ds lattice.axes ground.axes most, within, ground.limit);
  }

  -- ---- distributions rounded down

  pub rounded-to : (ds : List (Option ℕ)) → IsDistribution net.channels ds → IsLive (bound net ds) → storage_of net.channels ds ≤ limits.total → IsRoundedTo net corner lattice ds (vector_of (rounded net.channels ds))
  rounded-to ds dist live within =
      let grid : IsOnGrid net.channels (rounded net.channels ds) = rounded-grid net.channels ds dist in
      let above : AtMost corner (rounded net.channels ds) = rounded-above net ground.laws (net-steps net ground.laws).step ds corner dist live ground.is_corner in
      let less : storage_of net.channels (rounded net.channels ds) ≤ storage_of net.channels ds = storage-le net.channels (rounded net.channels ds) ds (rounded-most net.channels ds dist) in
      record {
        among = vector-among (rounded net.channels ds) grid above (omega (arith, less, within));
        same = vector-back (rounded net.channels ds) above;
        flat = vector-flat (rounded net.channels ds) above;
        most = omega (arith, vector-storage net.channels corner (rounded net.channels ds) lattice.axes ground.axes above, less);
        rates = rounding-rate net ground.laws ds;
      }
