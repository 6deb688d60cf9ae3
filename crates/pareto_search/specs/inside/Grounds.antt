-- What a search stands on.
use Rattle.std.specs.Prelude.{◌≡◌, ℕ, ◌≤◌, Option, List}
use Rattle.sd_base.specs.declared.limits.Limits.{Limits}
use Rattle.sd_base.specs.declared.limits.TheConstants.{LEAST_STATES, STATES, STORAGE}
use Rattle.sd_base.specs.Net.{Net}
use Rattle.sd_base.specs.Lawful.{Lawful}
use Rattle.storage.specs.Steps.{IsCorner}
use Rattle.covers.specs.declared.lattice.Lattice.{Lattice}
use Rattle.evaluations.specs.Starts.{AreStarts}
use Rattle.evaluations.specs.declared.starts.Starts.{Starts}
use Rattle.explore.specs.Reachable.{IsExplorable}
use Rattle.pareto_search.specs.inside.Vectors.{AreAxesOf}

-- a net that can be explored, its corner, and the lattice of vectors within the limit
pub record IsGround (net : Net) (limits : Limits) (corner : List (Option ℕ)) (lattice : Lattice) : Type 0 where
  pub laws : Lawful net
  pub explorable : IsExplorable net
  pub small : limits.total ≤ STORAGE
  pub is_corner : IsCorner net.channels corner
  pub axes : AreAxesOf net.channels corner lattice.axes
  pub limit : lattice.limit ≡ limits.total

-- and what its evaluations begin from: counts that they reach, and as many shapes as one execution may be allowed
pub record IsBase (net : Net) (limits : Limits) (corner : List (Option ℕ)) (lattice : Lattice) (counts : Starts) : Type 0 where
  pub stands : IsGround net limits corner lattice
  pub starts : AreStarts net counts
  pub some_states : LEAST_STATES ≤ limits.states
  pub few_states : limits.states ≤ STATES
