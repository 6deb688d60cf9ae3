-- A step more room needs more storage, and what visits lead to within the limit is a candidate.
use Rattle.std.proofs.Common.{◌≡◌, ℕ, ◌≤◌, ◌<◌, Option, None, Some, List, length, inl, inr, ⊎_elim, sym, subst, arith}
use Rattle.std.specs.Prelude.{Contains, slice_index_or}
use Rattle.std.proofs.lemmas.Bool.{cases_lt}
use Rattle.std.proofs.lemmas.List.{get_or_past}
use Rattle.sd_base.specs.declared.tables.ScenarioFile.{ScenarioFile}
use Rattle.sd_base.specs.Net.{Channel, nowhere}
use Rattle.storage.specs.ClosedLists.{Entry}
use Rattle.storage.specs.Distributions.{IsDistribution, capacity_at, storage_of}
use Rattle.storage.specs.Steps.{IsCorner, step_of}
use Rattle.storage.specs.StorageOrder.{stepped}
use Rattle.storage.proofs.CornerLists.{corner-distribution, corner-grid}
use Rattle.storage.proofs.EnlargingAddsRoom.{distribution-length, enlarged-distribution, enlarged-grid, enlarged-storage}
use Rattle.levels.specs.Visits.{IsLedTo, LeadsTo, Visit, led_by, visited, visits_of}
use Rattle.levels.specs.Frontiers.{Rises}
use Rattle.sd_base.proofs.ContainedHavePlaces.{contains-map, contains-unmap}
use Rattle.bounded_scenarios.specs.SharedChannels.{shared_channels}
use Rattle.bounded_scenarios.specs.ScenarioGuides.{corner, next}
use Rattle.scenario_storage.specs.inside.Searches.{IsCandidate, IsNoted}
use Rattle.scenario_storage.specs.inside.Shown.{IsGuided}
use Rattle.scenario_storage.proofs.FilesAllowSearch.{IsSearchable}

-- entries and visits

pub entry-visit : (es : List Entry) (e : Entry) → Contains es e → Contains (visits_of es) (led_by e.capacities e.shown)
entry-visit es e one = contains-map (λ (x : Entry). led_by x.capacities x.shown) es e one

pub visit-entry : (es : List Entry) (v : Visit) → Contains (visits_of es) v → (e : Entry) × Contains es e × (led_by e.capacities e.shown ≡ v)
visit-entry es v one = contains-unmap (λ (x : Entry). led_by x.capacities x.shown) es v one

pub entry-visited : (es : List Entry) (e : Entry) → Contains es e → Contains (visited (visits_of es)) e.capacities
entry-visited es e one = contains-map (λ (x : Visit). x.capacities) (visits_of es) (led_by e.capacities e.shown) (entry-visit es e one)

-- a channel with a capacity is one of the channels
pub capped-place : (cs : List Channel) (ds : List (Option ℕ)) (c k : ℕ) → IsDistribution cs ds → capacity_at ds c ≡ Some k → c < length cs
capped-place cs ds c k dist has =
    ⊎_elim
    (λ (below : c < length ds). let long = distribution-length cs ds dist in omega (arith, below, long))
    (λ (past : length ds ≤ c). absurd (let none : capacity_at ds c ≡ None = get_or_past ds c None past in cc))
    (cases_lt c (length ds))

module _ (file : ScenarioFile) (limit : ℕ) (can : IsSearchable file limit) where
  -- a step more room on a channel with a capacity needs more storage
  pub child-above : (ds : List (Option ℕ)) (c k : ℕ) → IsDistribution (shared_channels file) ds → capacity_at ds c ≡ Some k →
      storage_of (shared_channels file) ds < storage_of (shared_channels file) (stepped (shared_channels file) ds c)
  child-above ds c k dist has =
      let place : c < length (shared_channels file) = capped-place (shared_channels file) ds c k dist has in
      enlarged-storage (shared_channels file) ds c k (step_of (slice_index_or (shared_channels file) c nowhere)) can.steps.size place has (can.steps.step c place)

  pub guided-rises : (ds : List (Option ℕ)) (shown : List ℕ) → IsDistribution (shared_channels file) ds → ((c : ℕ) → Contains shown c → IsGuided file ds c) →
      Rises (shared_channels file) (led_by ds shown)
  guided-rises ds shown dist guided es (c, one, same) =
      let capped = (guided c one).1 in
      subst (λ (x : List (Option ℕ)). storage_of (shared_channels file) ds < storage_of (shared_channels file) x) (sym same) (child-above ds c capped.0 dist capped.1)

  pub corner-candidate : (ds : List (Option ℕ)) → IsCorner (shared_channels file) ds → storage_of (shared_channels file) ds ≤ limit → IsCandidate file limit ds
  corner-candidate ds is within = record {
    distribution = corner-distribution (shared_channels file) ds (λ i below. inl (can.roles i below)) is;
    grid = corner-grid (shared_channels file) ds is;
    within = within;
    reachable = corner ds is within;
  }

  child-candidate : (ds : List (Option ℕ)) (c : ℕ) → IsCandidate file limit ds → IsGuided file ds c →
      storage_of (shared_channels file) (stepped (shared_channels file) ds c) ≤ limit → IsCandidate file limit (stepped (shared_channels file) ds c)
  child-candidate ds c fits guided within = record {
    distribution = enlarged-distribution (shared_channels file) ds c (step_of (slice_index_or (shared_channels file) c nowhere)) fits.distribution;
    grid = enlarged-grid (shared_channels file) ds c fits.grid;
    within = within;
    reachable = next ds c fits.reachable guided.0 within;
  }

  -- what is led to within the limit is a candidate
  pub led-candidate : (es : List Entry) (start ds : List (Option ℕ)) → IsCorner (shared_channels file) start → ((e : Entry) → Contains es e → IsNoted file limit e) →
      IsLedTo (shared_channels file) start (visits_of es) ds → storage_of (shared_channels file) ds ≤ limit → IsCandidate file limit ds
  led-candidate es start ds is noted (inl same) within = subst (IsCandidate file limit) (sym same) (corner-candidate start is (subst (λ (x : List (Option ℕ)). storage_of (shared_channels file) x ≤ limit) same within))
  led-candidate es start ds is noted (inr (v, one, leads)) within =
      let e = visit-entry es v one in
      let n = noted e.0 e.1 in
      let by : LeadsTo (shared_channels file) (led_by e.0.capacities e.0.shown) ds = subst (λ (x : Visit). LeadsTo (shared_channels file) x ds) (sym e.2) leads in
      subst (IsCandidate file limit) (sym by.2)
      (child-candidate e.0.capacities by.0 n.candidate (n.guided by.0 by.1) (subst (λ (x : List (Option ℕ)). storage_of (shared_channels file) x ≤ limit) by.2 within))
