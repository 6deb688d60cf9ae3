-- A level is taken off those that wait, and each of its answers is taken in.
use Rattle.std.proofs.Common.{◌≡◌, ℕ, ◌+◌, ◌-◌, ◌≤◌, ◌<◌, ◌⊎◌, true, false, Option, None, Some, List, [], ◌∷◌, ◌++◌, append_assoc, drop, length, map, ⊎_elim, refl, sym, ap, ◌∙◌, subst, arith, inl, inr}
use Rattle.std.specs.Prelude.{All, Contains, MatchOption, slice_index_or}
use Rattle.std.proofs.lemmas.Bool.{true≢false}
use Rattle.std.proofs.lemmas.List.{append-nil, drop_more, length-append, length-map, map-append}
use Rattle.std.proofs.lemmas.List.Elements.{All-contains, All-map, Contains-append_left, Contains-append_right, Contains-get_or}
use Rattle.sd_base.specs.declared.numbers.Fraction.{Fraction}
use Rattle.sd_base.specs.declared.tables.ScenarioFile.{ScenarioFile}
use Rattle.sd_base.specs.Net.{Channel}
use Rattle.sd_base.proofs.ElementsKeepPlaces.{map-map, all-unmap}
use Rattle.storage.specs.ClosedLists.{Entry}
use Rattle.storage.specs.Distributions.{storage_of}
use Rattle.storage.specs.StorageOrder.{AreInOrder, IsBefore}
use Rattle.storage.specs.Steps.{IsCorner}
use Rattle.storage.specs.declared.distribution.Distribution.{Distribution}
use Rattle.levels.specs.declared.error.LevelsError.{LevelsError}
use Rattle.levels.specs.declared.error.LevelsError.TheVariants as causes
use Rattle.levels.specs.declared.found.Found.{Found}
use Rattle.levels.specs.declared.found.Level.{Level}
use Rattle.levels.specs.declared.levels.Bounds.{Bounds}
use Rattle.levels.specs.declared.levels.Levels.{Levels}
use Rattle.levels.specs.Visits.{AreVisits, IsLedTo, Visit, led_by, visited, visits_of}
use Rattle.levels.specs.Frontiers.{IsFrontier, IsLevelTaken, IsSame, IsSpent, Rises, Waits, distributions_of}
use Rattle.sd_base.proofs.ContainedHavePlaces.{contains-cases, contains-here, contains-map, contains-none}
use Rattle.levels.proofs.VisitsLeadOn.{known-long}
use Rattle.levels.proofs.SearchesSpread.{frontier-up_to, level-waited}
use Rattle.levels.proofs.EntriesAreVisits.{visits-more}
use Rattle.bounded_scenarios.specs.SharedChannels.{shared_channels}
use Rattle.bounded_scenarios.specs.ScenarioGuides.{IsReachable}
use Rattle.scenario_storage.specs.declared.level.Answered.{Answered}
use Rattle.scenario_storage.specs.declared.point.ScenarioLimits.{ScenarioLimits}
use Rattle.scenario_storage.specs.declared.point.ScenarioPoint.{ScenarioPoint}
use Rattle.scenario_storage.specs.declared.rated.Rated.{Rated}
use Rattle.scenario_storage.specs.declared.search.Search.{Search}
use Rattle.scenario_storage.specs.ScenarioPoints.{IsRefusal}
use Rattle.scenario_storage.specs.inside.Errors.{error_of}
use Rattle.scenario_storage.specs.inside.Levels.{IsBlocked, IsRatingAnswer, IsRated, IsWithin}
use Rattle.scenario_storage.specs.inside.Points.{IsBestOf}
use Rattle.scenario_storage.specs.inside.Searches.{AreKnown, HasTop, IsAnswerOf, IsBest, IsCandidate, IsEndedWith, IsOffered, IsSearch, IsSearchOf, IsStanding, IsTurn, IsTurnAfter, ShowsNone, answered_of, entry_of, taken_off}
use Rattle.scenario_storage.proofs.RatingsStayKnown.{noted-more}
use Rattle.scenario_storage.proofs.FilesAllowSearch.{IsSearchable}
use Rattle.scenario_storage.proofs.StepsLeadToCandidates.{capped-place, entry-visited, guided-rises, led-candidate}

-- what stands in order before the first one that is taken off
order-before : (file : ScenarioFile) (dss rest : List (List (Option ℕ))) (ds : List (Option ℕ)) → AreInOrder (shared_channels file) (dss ++ ds ∷ rest) →
    (es : List (Option ℕ)) → Contains dss es → IsBefore (shared_channels file) es ds
order-before file [] rest ds order es one = absurd (let low = one.1 in omega (arith, low))
order-before file (x ∷ dss) rest ds order es one =
    ⊎_elim
    (λ (h : x ≡ es). subst (λ (y : List (Option ℕ)). IsBefore (shared_channels file) y ds) h (All-contains (IsBefore (shared_channels file) x) (dss ++ ds ∷ rest) ds order.0 (Contains-append_right dss (ds ∷ rest) ds (contains-here ds rest))))
    (λ (h : Contains dss es). order-before file dss rest ds order.1 es h)
    (contains-cases x dss es one)

module _ (file : ScenarioFile) (limits : ScenarioLimits) (can : IsSearchable file limits.total) (floor : ℕ) (taken : List (List (Option ℕ))) (s : Search)
    (search : IsSearch file limits floor taken s) where
  pub search-limit : s.levels.bounds.total ≡ limits.total
  search-limit = ap (λ (b : Bounds). b.total) search.bounds

  pub search-most : s.levels.bounds.distributions ≡ limits.distributions
  search-most = ap (λ (b : Bounds). b.distributions) search.bounds

  -- each distribution that is taken off is a candidate
  pub search-candidate : (ds : List (Option ℕ)) → Contains taken ds → IsCandidate file limits.total ds
  search-candidate ds one =
      let there : Contains (visited (visits_of search.entries) ++ taken) ds = Contains-append_right (visited (visits_of search.entries)) taken ds one in
      led-candidate file limits.total can search.entries search.corner ds search.is_corner search.known.noted (search.frontier.spread.led ds (inl there))
      (subst (λ (n : ℕ). storage_of (shared_channels file) ds ≤ n) search-limit (All-contains (λ (x : List (Option ℕ)). storage_of (shared_channels file) x ≤ s.levels.bounds.total) (visited (visits_of search.entries) ++ taken) ds search.frontier.spread.within there))

  -- entries need less storage than the floor, and so do points
  pub entry-low : (e : Entry) → Contains search.entries e → storage_of (shared_channels file) e.capacities < floor
  entry-low e one =
      All-contains (λ (ds : List (Option ℕ)). storage_of (shared_channels file) ds < floor) (visited (visits_of search.entries) ++ taken) e.capacities search.frontier.spread.low
      (Contains-append_left (visited (visits_of search.entries)) taken e.capacities (entry-visited search.entries e one))

  pub point-low : (p : ScenarioPoint) → Contains s.points.items p → p.total < floor
  point-low p one = let of = search.known.among p one in let low = entry-low of.0 of.1 in omega (arith, of.2.total, low)

  pub off-is : taken_off s ≡ length search.entries + length taken
  off-is =
      let long = length-map search.entries (λ (e : Entry). led_by e.capacities e.shown) in
      omega (arith, search.frontier.found, long)

-- a level that is taken off
module _ (file : ScenarioFile) (limits : ScenarioLimits) (can : IsSearchable file limits.total) (floor : ℕ) (old new : Search)
    (search : IsSearch file limits floor [] old) (points : new.points ≡ old.points) (keeps : new.blocked ≡ old.blocked) (tops : new.topped ≡ old.topped) (level : Level Unit)
    (off : IsLevelTaken level.total level.visits.items old.levels.waiting new.levels.waiting) (same : IsSame old.levels new.levels)
    (frontier : IsFrontier (shared_channels file) search.corner (level.total + 1) (visits_of search.entries) (distributions_of level.visits.items) new.levels) where
  same-points : new.points.items ≡ old.points.items
  same-points = ap (λ v. v.items) points

  turned : IsSearch file limits (level.total + 1) (distributions_of level.visits.items) new
  turned = record {
    entries = search.entries;
    known = subst (AreKnown file limits.total search.entries) (sym same-points) search.known;
    corner = search.corner;
    is_corner = search.is_corner;
    bounds = same.bounds ∙ search.bounds;
    frontier = frontier;
    blocked = (let same : new.blocked.items ≡ old.blocked.items = ap (λ v. v.items) keeps in subst (All (IsBlocked file limits.total)) (sym same) search.blocked);
    top = λ h. search.top (sym tops ∙ h);
  }

  waits-of : (f : Found Unit) → Contains level.visits.items f → Waits (shared_channels file) old.levels.bounds.total floor f
  waits-of f one = All-contains (Waits (shared_channels file) old.levels.bounds.total floor) old.levels.waiting f search.frontier.spread.waits
      (level-waited level.total level.visits.items old.levels.waiting new.levels.waiting off f one)

  total-of : (f : Found Unit) → Contains level.visits.items f → (storage_of (shared_channels file) f.capacities.capacities ≡ level.total) × (floor ≤ level.total)
  total-of f one =
      let waits = waits-of f one in
      let here : f.total ≡ level.total = All-contains (λ (x : Found Unit). x.total ≡ level.total) level.visits.items f off.totals one in
      (omega (arith, waits.total, here), omega (arith, waits.above, here))

  pub turn-of : IsTurn file limits level new
  unfolding turned
  turn-of = record {
    search = turned;
    totals = λ k d below. (total-of (slice_index_or level.visits.items k d) (Contains-get_or level.visits.items k d below)).0;
    low = λ k d below.
        let done : List (List (Option ℕ)) = visited (visits_of search.entries) in
        let one = All-contains (λ (ds : List (Option ℕ)). storage_of (shared_channels file) ds < floor) (done ++ []) (slice_index_or done k d) search.frontier.spread.low
        (Contains-append_left done [] (slice_index_or done k d) (Contains-get_or done k d below)) in
        omega (arith, one, first level.visits.items off.some (λ f here. here));
    before = λ p one. let low = point-low file limits can floor [] old search p (subst (λ (ps : List ScenarioPoint). Contains ps p) same-points one) in omega
        (arith, low, first level.visits.items off.some (λ f here. here));
    within = level-within level.visits.items off.some (λ f here. here);
    candidates = λ k d below.
        search-candidate file limits can (level.total + 1) (distributions_of level.visits.items) new turned (slice_index_or level.visits.items k d).capacities.capacities
        (contains-map (λ (x : Found Unit). x.capacities.capacities) level.visits.items (slice_index_or level.visits.items k d) (Contains-get_or level.visits.items k d below));
  }
    where
      first : (fs : List (Found Unit)) → 1 ≤ length fs → ((f : Found Unit) → Contains fs f → Contains level.visits.items f) → floor ≤ level.total
      first [] some holds = absurd (omega (arith, some))
      first (f ∷ fs) some holds = (total-of f (holds f (contains-here f fs))).1

      level-within : (fs : List (Found Unit)) → 1 ≤ length fs → ((f : Found Unit) → Contains fs f → Contains level.visits.items f) → level.total ≤ limits.total
      level-within [] some holds = absurd (omega (arith, some))
      level-within (f ∷ fs) some holds =
          let one = holds f (contains-here f fs) in
          let waits = waits-of f one in
          let here : f.total ≡ level.total = All-contains (λ (x : Found Unit). x.total ≡ level.total) level.visits.items f off.totals one in
          omega (arith, waits.within, here, search-limit file limits can floor [] old search)

  pub turn-after : (all : List (List (Option ℕ))) → visited (visits_of search.entries) ++ [] ≡ all → IsTurnAfter file limits all level new
  unfolding turned turn-of
  turn-after all whole = (turn-of, sym (append-nil (visited (visits_of search.entries))) ∙ whole)

  -- more are taken off
  pub off-more : taken_off old < taken_off new
  unfolding turned
  off-more =
      let before = off-is file limits can floor [] old search in
      let after = off-is file limits can (level.total + 1) (distributions_of level.visits.items) new turned in
      let long = length-map level.visits.items (λ (x : Found Unit). x.capacities.capacities) in
      omega (arith, before, after, long, off.some)

-- none waits any more
pub ended-of : (file : ScenarioFile) (limits : ScenarioLimits) (can : IsSearchable file limits.total) (floor : ℕ) (s : Search) (search : IsSearch file limits floor [] s) →
    AreVisits (shared_channels file) search.corner s.levels.bounds.total (visits_of search.entries) →
    (all : List (List (Option ℕ))) → visited (visits_of search.entries) ++ [] ≡ all → IsEndedWith file limits all s.points.items
ended-of file limits can floor s search visits all whole = (
  record {
    entries = search.entries;
    known = search.known;
    corner = search.corner;
    is_corner = search.is_corner;
    storage = limits.total;
    low = omega (arith);
    visits = subst (λ (n : ℕ). AreVisits (shared_channels file) search.corner n (visits_of search.entries)) (search-limit file limits can floor [] s search) visits;
    rest = inl (omega (arith));
  },
  sym (append-nil (visited (visits_of search.entries))) ∙ whole,
)

-- or no rate is greater than one that was met
pub topped-of : (file : ScenarioFile) (limits : ScenarioLimits) (can : IsSearchable file limits.total) (total : ℕ) (s : Search) (all : List (List (Option ℕ))) → IsSearchOf file limits (total + 1) all [] s →
    total ≤ limits.total → s.topped ≡ true → IsEndedWith file limits all s.points.items
topped-of file limits can total s all (search, whole) low is = (
  record {
    entries = search.entries;
    known = search.known;
    corner = search.corner;
    is_corner = search.is_corner;
    storage = total;
    low = low;
    visits = frontier-up_to (shared_channels file) search.corner total (visits_of search.entries) s.levels search.frontier (omega (arith, low, search-limit file limits can (total + 1) [] s search));
    rest = inr (search.top is);
  },
  sym (append-nil (visited (visits_of search.entries))) ∙ whole,
)

-- what was rated is to be taken in
module _ (file : ScenarioFile) (limits : ScenarioLimits) (can : IsSearchable file limits.total) (total : ℕ) (ds : List (Option ℕ)) (r : Rated) (best : Fraction)
    (rated : IsRated file limits.total best ds r) (is_total : storage_of (shared_channels file) ds ≡ total) (rest : List (List (Option ℕ))) (old : Search)
    (search : IsSearch file limits (total + 1) (ds ∷ rest) old) (fastest : IsBest best total old.points.items) where
  pub offered : IsOffered file limits.total search.entries best total ds r old.points.items
  offered = record {
    known = search.known;
    rated = rated;
    candidate = search-candidate file limits can (total + 1) (ds ∷ rest) old search ds (contains-here ds rest);
    storage = is_total;
    after = λ x one. order-before file (visited (visits_of search.entries)) rest ds search.frontier.spread.order x.capacities (entry-visited search.entries x one);
    fastest = fastest;
  }

  pub its-rises : Rises (shared_channels file) (led_by ds r.enlarge)
  its-rises = guided-rises file limits.total can ds r.enlarge (search-candidate file limits can (total + 1) (ds ∷ rest) old search ds (contains-here ds rest)).distribution rated.guided

  pub its-known : All (λ (c : ℕ). c < length old.levels.channels) r.enlarge
  its-known = λ k z below.
      let capped = (rated.guided (slice_index_or r.enlarge k z) (Contains-get_or r.enlarge k z below)).1 in
      let place =
      capped-place (shared_channels file) ds (slice_index_or r.enlarge k z) capped.0
      (search-candidate file limits can (total + 1) (ds ∷ rest) old search ds (contains-here ds rest)).distribution capped.1 in
      omega (arith, place, known-long (shared_channels file) old.levels.channels search.frontier.over)

  pub its-within : total ≤ old.levels.bounds.total
  its-within =
      let fits = (search-candidate file limits can (total + 1) (ds ∷ rest) old search ds (contains-here ds rest)).within in
      omega (arith, is_total, fits, search-limit file limits can (total + 1) (ds ∷ rest) old search)

  visits-with : visits_of (search.entries ++ entry_of ds r ∷ []) ≡ visits_of search.entries ++ led_by ds r.enlarge ∷ []
  visits-with = visits-more search.entries (entry_of ds r)

  top-before : old.topped ≡ true → HasTop file limits.total (search.entries ++ entry_of ds r ∷ [])
  top-before h = let t = search.top h in (t.0, Contains-append_left search.entries (entry_of ds r ∷ []) t.0 t.1, t.2, t.3)

  top-here : ShowsNone r → HasTop file limits.total (search.entries ++ entry_of ds r ∷ [])
  top-here (empty, some) = (entry_of ds r, Contains-append_right search.entries (entry_of ds r ∷ []) (entry_of ds r) (contains-here (entry_of ds r) []), some, rated.top empty some)

  -- the search with one more entry
  pub taken-in : (new : Search) (points : List ScenarioPoint) → new.points.items ≡ points → IsSame old.levels new.levels →
      IsFrontier (shared_channels file) search.corner (total + 1) (visits_of search.entries ++ led_by ds r.enlarge ∷ []) rest new.levels →
      AreKnown file limits.total (search.entries ++ entry_of ds r ∷ []) points → All (IsBlocked file limits.total) new.blocked.items → (new.topped ≡ true → (old.topped ≡ true) ⊎ ShowsNone r) → IsSearch file limits (total + 1) rest new
  taken-in new points is same frontier known blocked tops = record {
    entries = search.entries ++ entry_of ds r ∷ [];
    known = subst (AreKnown file limits.total (search.entries ++ entry_of ds r ∷ [])) (sym is) known;
    corner = search.corner;
    is_corner = search.is_corner;
    bounds = same.bounds ∙ search.bounds;
    frontier = subst (λ (vs : List Visit). IsFrontier (shared_channels file) search.corner (total + 1) vs rest new.levels) (sym visits-with) frontier;
    blocked = blocked;
    top = λ h. ⊎_elim top-before top-here (tops h);
  }

  pub taken-in-of : (new : Search) (points : List ScenarioPoint) → new.points.items ≡ points → IsSame old.levels new.levels →
      IsFrontier (shared_channels file) search.corner (total + 1) (visits_of search.entries ++ led_by ds r.enlarge ∷ []) rest new.levels →
      AreKnown file limits.total (search.entries ++ entry_of ds r ∷ []) points → All (IsBlocked file limits.total) new.blocked.items → (new.topped ≡ true → (old.topped ≡ true) ⊎ ShowsNone r) →
      (all : List (List (Option ℕ))) → visited (visits_of search.entries) ++ ds ∷ rest ≡ all → IsSearchOf file limits (total + 1) all rest new
  unfolding taken-in
  taken-in-of new points is same frontier known blocked tops all whole =
      let more : visited (visits_of (search.entries ++ entry_of ds r ∷ [])) ≡ visited (visits_of search.entries) ++ ds ∷ [] =
      ap visited visits-with ∙ map-append (λ (v : Visit). v.capacities) (visits_of search.entries) (led_by ds r.enlarge ∷ []) in (
        taken-in new points is same frontier known blocked tops,
        ap (λ (dss : List (List (Option ℕ))). dss ++ rest) more ∙ (append_assoc (visited (visits_of search.entries)) (ds ∷ []) rest ∙ whole),
      )

  pub off-same : (levels : Levels Unit) → IsFrontier (shared_channels file) search.corner (total + 1) (visits_of search.entries ++ led_by ds r.enlarge ∷ []) rest levels →
      levels.found - length levels.waiting ≡ taken_off old
  off-same levels frontier =
      let before = off-is file limits can (total + 1) (ds ∷ rest) old search in
      let long = length-append (visits_of search.entries) (led_by ds r.enlarge ∷ []) in
      let entries = length-map search.entries (λ (e : Entry). led_by e.capacities e.shown) in
      omega (arith, before, long, entries, frontier.found)

  -- too many are found
  pub spent-refusal : (e : LevelsError) → IsSpent (shared_channels file) search.corner old.levels.bounds (visits_of search.entries ++ led_by ds r.enlarge ∷ []) e → IsRefusal file limits (error_of e)
  unfolding offered
  spent-refusal causes.NoMemory spent = tt
  spent-refusal causes.Spent spent = (spent.found, record { order = spent.order; reachable = reachable }, many)
    where
      many : limits.distributions < length spent.found
      many = (let more = spent.many in omega (arith, more, search-most file limits can (total + 1) (ds ∷ rest) old search))

      within : (xs : List (Option ℕ)) → Contains spent.found xs → storage_of (shared_channels file) xs ≤ limits.total
      within xs one = subst (λ (n : ℕ). storage_of (shared_channels file) xs ≤ n) (search-limit file limits can (total + 1) (ds ∷ rest) old search) (All-contains (λ (x : List (Option ℕ)). storage_of (shared_channels file) x ≤ old.levels.bounds.total) spent.found xs spent.within one)

      candidate : (xs : List (Option ℕ)) → Contains spent.found xs → IsCandidate file limits.total xs
      candidate xs one =
          led-candidate file limits.total can (search.entries ++ entry_of ds r ∷ []) search.corner xs search.is_corner
          (noted-more file limits.total search.entries best total ds r old.points.items offered)
          (subst (λ (vs : List Visit). IsLedTo (shared_channels file) search.corner vs xs) (sym visits-with) (spent.led xs one))
          (within xs one)

      reachable : All (IsReachable file limits.total) spent.found
      reachable = λ k d below. (candidate (slice_index_or spent.found k d) (Contains-get_or spent.found k d below)).reachable

-- the answers of a level are of its distributions
pub level-answers : (file : ScenarioFile) (limits : ScenarioLimits) (total : ℕ) (best : Fraction) (answers : List Answered) (fs : List (Found Unit)) →
    map (λ (a : Answered). a.capacities) answers ≡ map (λ (f : Found Unit). f.capacities) fs →
    All (λ (f : Found Unit). storage_of (shared_channels file) f.capacities.capacities ≡ total) fs →
    All (λ (a : Answered). IsRatingAnswer file limits best a.capacities.capacities a.answer) answers → All (IsAnswerOf file limits total best) answers
level-answers file limits total best answers fs order totals all = λ k d below.
    let P : Distribution → Type 0 = λ (x : Distribution). storage_of (shared_channels file) x.capacities ≡ total in
    let of : All P (map (λ (a : Answered). a.capacities) answers) = subst (All P) (sym order) (All-map P (λ (f : Found Unit). f.capacities) fs totals) in
    record { answer = all k d below; storage = all-unmap P (λ (a : Answered). a.capacities) answers of k d below }

pub answered-level : (answers : List Answered) (fs : List (Found Unit)) → map (λ (a : Answered). a.capacities) answers ≡ map (λ (f : Found Unit). f.capacities) fs →
    answered_of answers ≡ distributions_of fs
answered-level answers fs order =
    sym (map-map (λ (d : Distribution). d.capacities) (λ (a : Answered). a.capacities) answers)
    ∙ (ap (λ (ds : List Distribution). map (λ (d : Distribution). d.capacities) ds) order
    ∙ map-map (λ (d : Distribution). d.capacities) (λ (f : Found Unit). f.capacities) fs)

-- the best rate of the points is that of one with less storage
pub best-before : (best : Fraction) (total : ℕ) (ps : List ScenarioPoint) → ((p : ScenarioPoint) → Contains ps p → p.total < total) → IsBestOf ps best → IsBest best total ps
best-before best total ps before (inl none) = inl none
best-before best total ps before (inr (p, one, same)) = inr (p, one, same, before p one)

-- the distributions of the answers that are left begin with that of the next one
pub rest-more : (answers : List Answered) (n : ℕ) (a : Answered) → n < length answers → a ≡ slice_index_or answers n a →
    answered_of (drop n answers) ≡ a.capacities.capacities ∷ answered_of (drop (n + 1) answers)
rest-more answers n a below is =
    ap answered_of (drop_more answers n a below)
    ∙ ap (λ (x : Answered). x.capacities.capacities ∷ answered_of (drop (n + 1) answers)) (sym is)

module _ (file : ScenarioFile) (limits : ScenarioLimits) where
  pub all-within : (fs : List (Found Unit)) → All (λ (f : Found Unit). IsCandidate file limits.total f.capacities.capacities) fs →
      All (λ (f : Found Unit). IsWithin file limits.total f.capacities.capacities) fs
  all-within fs all = λ k d below. record { distribution = (all k d below).distribution; grid = (all k d below).grid; within = (all k d below).within }

-- what taking a level off comes to
abbrev IsNextLevel : Search → Search → Option (Level Unit) → Type 0
IsNextLevel old new found = MatchOption found (old.levels.waiting ≡ []) (λ (level : Level Unit). IsLevelTaken level.total level.visits.items old.levels.waiting new.levels.waiting)

abbrev IsNextFrontier : Search → Search → Option (Level Unit) → Type 0
IsNextFrontier old new found = (cs : List Channel) (start : List (Option ℕ)) (floor : ℕ) (visits : List Visit) → IsFrontier cs start floor visits [] old.levels →
    MatchOption found (AreVisits cs start old.levels.bounds.total visits) (λ (level : Level Unit). IsFrontier cs start (level.total + 1) visits (distributions_of level.visits.items) new.levels)

module _ (file : ScenarioFile) (limits : ScenarioLimits) (can : IsSearchable file limits.total) (floor : ℕ) (old new : Search)
    (search : IsSearch file limits floor [] old) (points : new.points ≡ old.points) (keeps : new.blocked ≡ old.blocked) (tops : new.topped ≡ old.topped) (same : IsSame old.levels new.levels) where
  pub next-turn : (found : Option (Level Unit)) → IsNextLevel old new found → IsNextFrontier old new found → (all : List (List (Option ℕ))) → visited (visits_of search.entries) ++ [] ≡ all →
      MatchOption found (IsEndedWith file limits all old.points.items) (λ (level : Level Unit). IsTurnAfter file limits all level new)
  next-turn None off frontier all whole = ended-of file limits can floor old search (frontier (shared_channels file) search.corner floor (visits_of search.entries) search.frontier) all whole
  next-turn (Some level) off frontier all whole = turn-after file limits can floor old new search points keeps tops level off same (frontier (shared_channels file) search.corner floor (visits_of search.entries) search.frontier) all whole

  pub next-more : (found : Option (Level Unit)) → IsNextLevel old new found → IsNextFrontier old new found → MatchOption found Unit (λ (level : Level Unit). taken_off old < taken_off new)
  next-more None off frontier = tt
  next-more (Some level) off frontier = off-more file limits can floor old new search points keeps tops level off same (frontier (shared_channels file) search.corner floor (visits_of search.entries) search.frontier)

-- the corner waits
pub begun : (file : ScenarioFile) (limits : ScenarioLimits) (corner : List (Option ℕ)) (s : Search) → IsCorner (shared_channels file) corner → s.points.items ≡ [] → s.blocked.items ≡ [] →
    s.levels.bounds ≡ record { total = limits.total; distributions = limits.distributions } → IsFrontier (shared_channels file) corner 0 [] [] s.levels →
    s.topped ≡ false → IsStanding file limits [] s
begun file limits corner s is points blocked bounds frontier none = (
  0,
  (
    record {
      entries = [];
      known = subst (AreKnown file limits.total []) (sym points) (record {
        noted = λ e one. absurd (contains-none e one);
        rising = λ i j d less below. absurd (omega (arith, below));
        among = λ p one. absurd (contains-none p one);
        covers = λ e one. absurd (contains-none e one);
      });
      corner = corner;
      is_corner = is;
      bounds = bounds;
      frontier = frontier;
      blocked = subst (All (IsBlocked file limits.total)) (sym blocked) (λ k b below. absurd (omega (arith, below)));
      top = λ h. absurd (true≢false (sym h ∙ none));
    },
    refl,
  ),
)
