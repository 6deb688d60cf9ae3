-- A search that has ended: its points are the front.
use Rattle.std.proofs.Common.{◌≡◌, ℕ, ◌*◌, ◌≤◌, ◌<◌, ◌⊎◌, true, Option, List, [], ◌∷◌, length, map, inl, inr, ⊎_elim, refl, sym, ap, ◌∙◌, subst, arith}
use Rattle.std.specs.List.{AllPairs}
use Rattle.std.specs.Prelude.{Contains, slice_index, slice_index_or}
use Rattle.std.proofs.lemmas.Bool.{cases_lt, cases_order}
use Rattle.std.proofs.lemmas.List.{get_or-map, get_or_default, length-map}
use Rattle.std.proofs.lemmas.List.Elements.{All-contains, Contains-get_or}
use Rattle.sd_base.specs.declared.tables.ScenarioFile.{ScenarioFile}
use Rattle.storage.specs.CapacityOrder.{no_later}
use Rattle.storage.specs.ClosedLists.{Entry, HasEntry, IsClosedBy, IsCovered, entry_at, no_entry}
use Rattle.storage.specs.Distributions.{AtMost, IsDistribution, storage_of}
use Rattle.storage.specs.ParetoPoints.{IsFrontBy, IsReachedBy, Pair, ReachesBy, no_pair}
use Rattle.storage.specs.StorageOrder.{stepped}
use Rattle.storage.proofs.StepsReachMembers.{HasSteps, storage-le}
use Rattle.storage.proofs.MembersCover.{covered-by}
use Rattle.storage.proofs.FrontsFromMembers.{front-from, no_less, same-storage, positive-on}
use Rattle.levels.specs.Entrances.{EnterByLevels}
use Rattle.levels.specs.Visits.{led_by, visited, visits_of}
use Rattle.levels.proofs.EntriesAreVisits.{has-entry}
use Rattle.bounded_scenarios.specs.SharedChannels.{shared_channels}
use Rattle.bounded_scenarios.specs.StorageRates.{HasWorstRate}
use Rattle.bounded_scenarios.specs.ScenarioGuides.{IsReachable}
use Rattle.scenario_storage.specs.declared.point.ScenarioLimits.{ScenarioLimits}
use Rattle.scenario_storage.specs.declared.point.ScenarioPoint.{ScenarioPoint}
use Rattle.scenario_storage.specs.Entrances.{AreEntered}
use Rattle.scenario_storage.specs.ScenarioPoints.{AreScenarioPoints, IsPoint, ReachesPoint, pair_of}
use Rattle.scenario_storage.specs.inside.Points.{AreRising, IsBelow}
use Rattle.scenario_storage.specs.inside.Searches.{Covers, HasTop, IsEnded, IsNoted}
use Rattle.scenario_storage.proofs.FilesAllowSearch.{IsSearchable}
use Rattle.scenario_storage.proofs.StepsLeadToCandidates.{entry-visit, entry-visited}

-- two elements of a list are one, or one stands before the other
pub one-or-apart : {A : Type 0} (R : A → A → Type 0) (xs : List A) (x y : A) → AllPairs R xs → Contains xs x → Contains xs y → (x ≡ y) ⊎ (R x y ⊎ R y x)
one-or-apart {A} R xs x y pairs (i, low, is) (j, other, same) =
    let mine : slice_index_or xs j x ≡ y = get_or_default xs j x y other ∙ same in
    ⊎_elim
    (λ (equal : i ≡ j). inl (sym is ∙ (ap (λ (k : ℕ). slice_index_or xs k x) equal ∙ mine)))
    (λ (apart : (i < j) ⊎ (j < i)). inr (⊎_elim
    (λ (less : i < j). inl (subst (λ (b : A). R x b) mine (subst (λ (a : A). R a (slice_index_or xs j x)) is (pairs i j x less other))))
    (λ (more : j < i). inr (subst (λ (a : A). R a x) mine (subst (λ (b : A). R (slice_index_or xs j x) b) is (pairs j i x more low))))
    apart))
    (cases_order i j)

-- the pairs of points
abbrev at : List ScenarioPoint → ℕ → Pair
at ps i = slice_index_or (map pair_of ps) i no_pair

pair-at : (ps : List ScenarioPoint) (i : ℕ) → i < length (map pair_of ps) → (p : ScenarioPoint) × Contains ps p × (at ps i ≡ pair_of p)
pair-at [] i below = absurd (omega (arith, below))
pair-at (x ∷ ps) i below =
    let here : i < length (x ∷ ps) = omega (arith, below, length-map (x ∷ ps) pair_of) in
    (slice_index_or (x ∷ ps) i x, Contains-get_or (x ∷ ps) i x here, get_or-map pair_of (x ∷ ps) i x no_pair here)

pairs-rise : (ps : List ScenarioPoint) → AreRising ps → (i j : ℕ) → i < j → j < length (map pair_of ps) →
    ((at ps i).storage < (at ps j).storage) × ((at ps i).num * (at ps j).den < (at ps j).num * (at ps i).den)
pairs-rise [] rising i j less below = absurd (omega (arith, below))
pairs-rise (x ∷ ps) rising i j less below =
    let there : j < length (x ∷ ps) = omega (arith, below, length-map (x ∷ ps) pair_of) in
    let up : IsBelow (slice_index_or (x ∷ ps) i x) (slice_index_or (x ∷ ps) j x) = rising i j x less there in
    let first : pair_of (slice_index_or (x ∷ ps) i x) ≡ at (x ∷ ps) i = sym (get_or-map pair_of (x ∷ ps) i x no_pair (omega (arith, less, there))) in
    let second : pair_of (slice_index_or (x ∷ ps) j x) ≡ at (x ∷ ps) j = sym (get_or-map pair_of (x ∷ ps) j x no_pair there) in
    let P : Pair → Pair → Type 0 = λ a b. (a.storage < b.storage) × (a.num * b.den < b.num * a.den) in
    subst (λ (a : Pair). P a (at (x ∷ ps) j)) first (subst (λ (b : Pair). P (pair_of (slice_index_or (x ∷ ps) i x)) b) second (up.0, up.1))

point-pair : (ps : List ScenarioPoint) (p : ScenarioPoint) → Contains ps p → (k : ℕ) × (k < length (map pair_of ps)) × (at ps k ≡ pair_of p)
point-pair ps p (k, below, is) = (k, omega (arith, below, length-map ps pair_of), get_or-map pair_of ps k p no_pair below ∙ ap pair_of is)

-- points that don't lie apart are one
one-point : (q p : ScenarioPoint) → (q ≡ p) ⊎ (IsBelow q p ⊎ IsBelow p q) → q.total ≤ p.total → p.rate.num * q.rate.den ≤ q.rate.num * p.rate.den → q ≡ p
one-point q p (inl same) early fast = same
one-point q p (inr (inl under)) early fast = absurd (omega (arith, under.1, fast))
one-point q p (inr (inr above)) early fast = absurd (omega (arith, above.0, early))

-- where a point covers an entry that has no less rate and is at most a distribution of the point's storage, that one is the entry's
least-by : (file : ScenarioFile) (e : Entry) (p : ScenarioPoint) (ds : List (Option ℕ)) → HasSteps (shared_channels file) → Covers file p e →
    p.rate.num * e.den ≤ e.num * p.rate.den → AtMost e.capacities ds → IsDistribution (shared_channels file) e.capacities →
    storage_of (shared_channels file) ds ≡ p.total → no_later p.capacities.capacities ds ≡ true
least-by file e p ds steps covers bounds most dist total =
    let low : storage_of (shared_channels file) e.capacities ≤ storage_of (shared_channels file) ds = storage-le (shared_channels file) e.capacities ds most in
    let equal : p.total ≡ storage_of (shared_channels file) e.capacities = omega (arith, low, covers.storage, total) in
    let cross : e.num * p.rate.den ≡ p.rate.num * e.den = omega (arith, covers.rate, bounds) in
    let same : e.capacities ≡ ds = same-storage (shared_channels file) e.capacities ds steps.size dist most (omega (arith, equal, total)) in
    subst (λ (xs : List (Option ℕ)). no_later p.capacities.capacities xs ≡ true) same (covers.tie equal cross)

-- an entry has a rate above 0, needs no more storage and has no lesser rate
abbrev Meets : ScenarioFile → List Entry → Pair → Entry → Type 0
Meets file es p e = Contains es e × (1 ≤ e.num) × (storage_of (shared_channels file) e.capacities ≤ p.storage) × (p.num * e.den ≤ e.num * p.den)

module _ (file : ScenarioFile) (limits : ScenarioLimits) (can : IsSearchable file limits.total) (ps : List ScenarioPoint) (ended : IsEnded file limits ps) where
  there : (i : ℕ) → i < length ended.entries → Contains ended.entries (entry_at ended.entries i)
  there i below = Contains-get_or ended.entries i no_entry below

  noted : (i : ℕ) → i < length ended.entries → IsNoted file limits.total (entry_at ended.entries i)
  noted i below = ended.known.noted (entry_at ended.entries i) (there i below)

  -- entries need no more than the storage up to which the search went
  entry-low : (e : Entry) → Contains ended.entries e → storage_of (shared_channels file) e.capacities ≤ ended.storage
  entry-low e one =
      All-contains (λ (ds : List (Option ℕ)). storage_of (shared_channels file) ds ≤ ended.storage)
      (visited (visits_of ended.entries)) e.capacities ended.visits.within (entry-visited ended.entries e one)

  nexts : (i j : ℕ) → i < length ended.entries → j < length (entry_at ended.entries i).shown →
      storage_of (shared_channels file) (stepped (shared_channels file) (entry_at ended.entries i).capacities (slice_index (entry_at ended.entries i).shown j)) ≤ ended.storage →
      HasEntry ended.entries (stepped (shared_channels file) (entry_at ended.entries i).capacities (slice_index (entry_at ended.entries i).shown j))
  nexts i j below shown within =
      let e : Entry = entry_at ended.entries i in
      let c : ℕ = slice_index (entry_at ended.entries i).shown j in
      has-entry ended.entries (stepped (shared_channels file) e.capacities c)
      (ended.visits.next (led_by e.capacities e.shown) (stepped (shared_channels file) e.capacities c) (entry-visit ended.entries e (there i below)) (c, Contains-get_or (entry_at ended.entries i).shown j 0 shown, refl) within)

  closed : IsClosedBy (shared_channels file) (HasWorstRate file) ended.storage ended.entries
  closed = record {
    corner = ended.corner;
    is_corner = ended.is_corner;
    start = λ fits. has-entry ended.entries ended.corner (ended.visits.begins fits);
    distributions = λ i below. (noted i below).candidate.distribution;
    grid = λ i below. (noted i below).candidate.grid;
    within = λ i below. entry-low (entry_at ended.entries i) (there i below);
    next = nexts;
    positive = λ i below. (noted i below).positive;
    above = λ ds p q dist within rate runs. can.above ended.corner ds p q ended.is_corner dist (omega (arith, within, ended.low)) rate runs;
    bounds = λ i below ds dist within most agrees p q rate runs. (noted i below).bounds ds dist (omega (arith, within, ended.low)) most agrees p q rate runs;
  }

  reaches : (p : ScenarioPoint) → Contains ps p → ReachesPoint file limits.total p p.capacities.capacities
  reaches p one =
      let of = ended.known.among p one in
      let n = ended.known.noted of.0 of.1 in
      let mine : ReachesPoint file limits.total p of.0.capacities = record {
        distribution = n.candidate.distribution;
        total = sym of.2.total;
        within = (let fits = n.candidate.within in omega (arith, fits, of.2.total));
        rate = subst (λ (d : ℕ). HasWorstRate file of.0.capacities p.rate.num d) of.2.den (subst (λ (m : ℕ). HasWorstRate file of.0.capacities m of.0.den) of.2.num n.rate);
        runs = of.2.runs;
      } in
      subst (ReachesPoint file limits.total p) of.2.capacities mine

  reached : (i : ℕ) → i < length (map pair_of ps) → IsReachedBy (shared_channels file) (HasWorstRate file) limits.total (at ps i)
  reached i below =
      let p = pair-at ps i below in
      subst (IsReachedBy (shared_channels file) (HasWorstRate file) limits.total) (sym p.2) (p.0.capacities.capacities, reaches p.0 p.1)

  -- what is reached up to that storage is covered by an entry
  within-met : (t p q : ℕ) (ds : List (Option ℕ)) → ReachesBy (shared_channels file) (HasWorstRate file) limits.total t p q ds → t ≤ ended.storage → IsCovered ended.entries ds p q
  within-met t p q ds is low =
      covered-by (shared_channels file) (HasWorstRate file) can.steps ended.storage ended.entries closed t p q ds
      (record { distribution = is.distribution; total = is.total; within = low; rate = is.rate; runs = is.runs })

  met : (p : Pair) → IsReachedBy (shared_channels file) (HasWorstRate file) limits.total p → (e : Entry) × Meets file ended.entries p e
  met p (ds, is) = ⊎_elim beyond near (cases_lt ended.storage p.storage)
    where
      beyond : ended.storage < p.storage → (e : Entry) × Meets file ended.entries p e
      beyond past = ⊎_elim
          (λ (all : limits.total ≤ ended.storage). absurd (let fits = is.within in omega (arith, all, past, fits)))
          (λ (top : HasTop file limits.total ended.entries). (
            top.0,
            (top.1, top.2, omega (arith, entry-low top.0 top.1, past), top.3 ds is.distribution (let fits = is.within in omega (arith, fits, is.total)) p.num p.den is.rate is.runs),
          ))
          ended.rest

      near : p.storage ≤ ended.storage → (e : Entry) × Meets file ended.entries p e
      near low =
          let cover : IsCovered ended.entries ds p.num p.den = within-met p.storage p.num p.den ds is low in
          let e : Entry = entry_at ended.entries cover.place in
          let small : storage_of (shared_channels file) (entry_at ended.entries cover.place).capacities ≤ storage_of (shared_channels file) ds = storage-le (shared_channels file) e.capacities ds cover.most in (
            entry_at ended.entries cover.place,
            (
              there cover.place cover.below,
              positive-on p.num p.den e.num e.den is.runs (noted cover.place cover.below).positive cover.bounds,
              omega (arith, small, is.total),
              cover.bounds,
            ),
          )

  front : IsFrontBy (shared_channels file) (HasWorstRate file) limits.total (map pair_of ps)
  front = front-from (shared_channels file) (HasWorstRate file) can.lowest limits.total (map pair_of ps)
      (record { storage = λ i j less below. (pairs-rise ps ended.known.rising i j less below).0; rate = λ i j less below. (pairs-rise ps ended.known.rising i j less below).1 })
      reached
      (λ p is.
      let m = met p is in
      let c = ended.known.covers m.0 m.1.0 m.1.1 in
      let k = point-pair ps c.0 c.1 in
      let storage : (at ps k.0).storage ≤ storage_of (shared_channels file) m.0.capacities = subst (λ (x : Pair). x.storage ≤ storage_of (shared_channels file) m.0.capacities) (sym k.2) c.2.storage in
      let rate : m.0.num * (at ps k.0).den ≤ (at ps k.0).num * m.0.den = subst (λ (x : Pair). m.0.num * x.den ≤ x.num * m.0.den) (sym k.2) c.2.rate in
      record {
        place = k.0;
        below = k.1;
        storage = omega (arith, storage, m.1.2);
        rate = no_less p.num p.den m.0.num m.0.den (at ps k.0).num (at ps k.0).den (ended.known.noted m.0 m.1.0).positive m.1.3 rate;
      })

  point-low : (p : ScenarioPoint) → Contains ps p → p.total ≤ ended.storage
  point-low p one = let of = ended.known.among p one in omega (arith, entry-low of.0 of.1, of.2.total)

  -- a distribution that reaches what a point does is a member that the point covers, and no other point does
  least : (p : ScenarioPoint) → Contains ps p → (ds : List (Option ℕ)) → ReachesPoint file limits.total p ds → no_later p.capacities.capacities ds ≡ true
  least p one ds is =
      let cover : IsCovered ended.entries ds p.rate.num p.rate.den = within-met p.total p.rate.num p.rate.den ds is (point-low p one) in
      let n = noted cover.place cover.below in
      let runs : 1 ≤ (entry_at ended.entries cover.place).num =
      positive-on p.rate.num p.rate.den (entry_at ended.entries cover.place).num (entry_at ended.entries cover.place).den is.runs n.positive cover.bounds in
      let c = ended.known.covers (entry_at ended.entries cover.place) (there cover.place cover.below) runs in
      let low : storage_of (shared_channels file) (entry_at ended.entries cover.place).capacities ≤ storage_of (shared_channels file) ds =
      storage-le (shared_channels file) (entry_at ended.entries cover.place).capacities ds cover.most in
      let fast : p.rate.num * c.0.rate.den ≤ c.0.rate.num * p.rate.den =
      no_less p.rate.num p.rate.den (entry_at ended.entries cover.place).num (entry_at ended.entries cover.place).den c.0.rate.num c.0.rate.den n.positive cover.bounds c.2.rate in
      let early : c.0.total ≤ p.total = omega (arith, low, is.total, c.2.storage) in
      let same : c.0 ≡ p = one-point c.0 p (one-or-apart IsBelow ps c.0 p ended.known.rising c.1 one) early fast in
      least-by file (entry_at ended.entries cover.place) p ds can.steps
      (subst (λ (x : ScenarioPoint). Covers file x (entry_at ended.entries cover.place)) same c.2) cover.bounds cover.most n.candidate.distribution is.total

  point-is : (p : ScenarioPoint) → Contains ps p → IsPoint file limits.total p
  point-is p one =
      let of = ended.known.among p one in
      let n = ended.known.noted of.0 of.1 in
      record {
        reaches = reaches p one;
        least = least p one;
        reachable = subst (λ (ds : List (Option ℕ)). IsReachable file limits.total ds) of.2.capacities n.candidate.reachable;
        shown = of.2.shown;
      }

  pub points-are : AreScenarioPoints file limits ps
  points-are = record {
    front = front;
    reached = λ k d below. point-is (slice_index_or ps k d) (Contains-get_or ps k d below);
  }

  -- the distributions of the entries entered, if they did so by levels
  pub are-entered : (entered : ℕ → ℕ → Type 0) → EnterByLevels (shared_channels file) entered (visited (visits_of ended.entries)) → AreEntered file limits entered ps
  are-entered entered each = record {
    entries = ended.entries;
    storage = ended.storage;
    within = ended.low;
    closed = closed;
    order = ended.visits.order;
    each = each;
    listed = λ p one.
        let of = ended.known.among p one in
        subst (HasEntry ended.entries) of.2.capacities (has-entry ended.entries of.0.capacities (entry-visited ended.entries of.0 of.1));
  }
