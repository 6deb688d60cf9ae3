-- A level is taken off those that wait, its distributions are evaluated, and each of its answers is taken in.
use Rattle.std.proofs.Common.{◌≡◌, ℕ, ◌+◌, ◌≤◌, ◌<◌, Option, None, Some, List, [], ◌∷◌, ◌++◌, Result, Ok, Err, length, map, ⊎_elim, refl, sym, ap, ◌∙◌, subst, arith, inl, inr}
use Rattle.std.specs.Prelude.{All, Contains, MatchOption, slice_index_or}
use Rattle.std.proofs.lemmas.List.{length-map}
use Rattle.std.proofs.lemmas.List.Elements.{All-contains, All-map, Contains-append_left, Contains-append_right, Contains-get_or, Contains-push_cases}
use Rattle.sd_base.specs.declared.limits.Limits.{Limits}
use Rattle.sd_base.specs.declared.limits.TheConstants.{STORAGE}
use Rattle.sd_base.specs.Net.{Channel, Net, nowhere}
use Rattle.sd_base.specs.Lawful.{Lawful}
use Rattle.lasso.specs.RunError.{RunError}
use Rattle.storage.specs.declared.distribution.Distribution.{Distribution}
use Rattle.storage.specs.Distributions.{AtMost, storage_of}
use Rattle.storage.specs.Steps.{step_of}
use Rattle.storage.proofs.EnlargingAddsRoom.{enlarged-most}
use Rattle.guide.specs.declared.rating.Evaluation.{Evaluation}
use Rattle.guide.specs.Evaluations.{IsEvaluated}
use Rattle.levels.specs.declared.error.LevelsError.{LevelsError}
use Rattle.levels.specs.declared.error.LevelsError.TheVariants as causes
use Rattle.levels.specs.declared.found.Found.{Found}
use Rattle.levels.specs.declared.found.Level.{Level}
use Rattle.levels.specs.declared.levels.Bounds.{Bounds}
use Rattle.levels.specs.Visits.{AreVisits, IsLedTo as IsLed, Visit, led_by, visited, visits_of}
use Rattle.levels.specs.Frontiers.{AreLedOn, IsFoundBy, IsFrontier, IsLevelTaken, IsSame, IsSpent, Rises, Waits, distributions_of}
use Rattle.sd_base.proofs.ContainedHavePlaces.{contains-map}
use Rattle.levels.proofs.SearchesSpread.{left-waited, level-waited}
use Rattle.levels.proofs.VisitsLeadOn.{known-long}
use Rattle.levels.proofs.EntriesAreVisits.{visits-more}
use Rattle.evaluations.specs.declared.evaluating.Answered.{Answered}
use Rattle.evaluations.specs.declared.rated.Rated.{Rated}
use Rattle.evaluations.specs.declared.shown.Shown.{Shown}
use Rattle.evaluations.specs.declared.shown.Shown.TheVariants.{Cycle, Blocked}
use Rattle.evaluations.specs.Evaluating.{IsEvaluation, most_loops, sum_of}
use Rattle.evaluations.specs.ShownCycles.{shows_cycle}
use Rattle.explore.specs.declared.exploration.Member.{Member}
use Rattle.explore.specs.declared.search.Search.{Search}
use Rattle.explore.specs.Reachable.{IsExplorable}
use Rattle.explore.specs.Explorations.{IsRefusal, cycles_in}
use Rattle.explore.specs.inside.Errors.{error_of}
use Rattle.explore.specs.inside.Searches.{AreKnown, IsAnswerOf, IsCandidate, IsEnded, IsSearch, IsTurn, answered_of, entry_of}
use Rattle.explore.specs.inside.Members.{IsBest, IsBestOf, evaluated_member}
use Rattle.sd_base.specs.declared.numbers.Fraction.{Fraction}
use Rattle.sd_base.proofs.ElementsKeepPlaces.{get-last, map-map, all-unmap}
use Rattle.pareto_front.specs.Points.{offer_of}
use Rattle.pareto_front.specs.Offers.{Offer}
use Rattle.explore.specs.inside.Hints.{IsEvaluableFrom, IsHinted}
use Rattle.explore.proofs.PointsFormFront.{offer-from}
use Rattle.explore.proofs.MembersStayKnown.{member-noted, noted-more}
use Rattle.explore.proofs.VisitsMatchMembers.{led-candidate, search-candidate, search-few, search-limit, visited-members}
use Rattle.explore.proofs.StartCountsReached.{hinted-longer}
use Rattle.explore.proofs.StepsGiveCandidates.{candidate-evaluable, child-above, shown-bounded}

-- a level that is taken off
module _ (net : Net) (laws : Lawful net) (can : IsExplorable net) (limits : Limits) (small : limits.total ≤ STORAGE) (floor : ℕ) (old new : Search) (search : IsSearch net limits floor [] old) (members : new.members ≡ old.members) (front : new.front ≡ old.front) (level : Level (Option ℕ)) (off : IsLevelTaken level.total level.visits.items old.levels.waiting new.levels.waiting) (same : IsSame old.levels new.levels) (frontier : IsFrontier net.channels search.corner (level.total + 1) (visits_of search.entries) (distributions_of level.visits.items) new.levels) where
  same-members : new.members.items ≡ old.members.items
  same-members = ap (λ v. v.items) members

  turned : IsSearch net limits (level.total + 1) (distributions_of level.visits.items) new
  turned = record {
    entries = search.entries;
    known = subst (λ (ms : List Member). AreKnown net limits.states ms search.entries new.front) (sym same-members) (subst (AreKnown net limits.states old.members.items search.entries) (sym front) search.known);
    corner = search.corner;
    is_corner = search.is_corner;
    bounds = same.bounds ∙ search.bounds;
    frontier = frontier;
    candidates = λ m one. search.candidates m (subst (λ (ms : List Member). Contains ms m) same-members one);
    hinted = λ f one. subst (λ (ms : List Member). IsHinted net limits.states ms f.hint f.capacities.capacities) (sym same-members)
        (search.hinted f (left-waited level.total level.visits.items old.levels.waiting new.levels.waiting off f one));
  }

  waited : (f : Found (Option ℕ)) → Contains level.visits.items f → Contains old.levels.waiting f
  waited = level-waited level.total level.visits.items old.levels.waiting new.levels.waiting off

  total-of : (f : Found (Option ℕ)) → Contains level.visits.items f → storage_of net.channels f.capacities.capacities ≡ level.total
  total-of f one =
      let waits : Waits net.channels old.levels.bounds.total floor f = All-contains (Waits net.channels old.levels.bounds.total floor) old.levels.waiting f search.frontier.spread.waits (waited f one) in
      let here : f.total ≡ level.total = All-contains (λ (x : Found (Option ℕ)). x.total ≡ level.total) level.visits.items f off.totals one in omega (arith, waits.total, here)

  visitable : (f : Found (Option ℕ)) → Contains level.visits.items f → IsEvaluableFrom net limits.states new.members.items f
  unfolding turned
  visitable f one = record {
    fits = candidate-evaluable net laws can limits.total f.capacities.capacities (omega (arith, small))
        (search-candidate net can limits (level.total + 1) (distributions_of level.visits.items) new turned f.capacities.capacities
        (Contains-append_right (visited (visits_of search.entries)) (distributions_of level.visits.items) f.capacities.capacities (contains-map (λ (x : Found (Option ℕ)). x.capacities.capacities) level.visits.items f one)));
    hinted = subst (λ (ms : List Member). IsHinted net limits.states ms f.hint f.capacities.capacities) (sym same-members) (search.hinted f (waited f one));
  }

  pub turn-of : IsTurn net limits level new
  turn-of = record {
    search = turned;
    totals = λ k d below. total-of (slice_index_or level.visits.items k d) (Contains-get_or level.visits.items k d below);
    before = λ m one. earlier m level.visits.items off.some (λ f here. here) (subst (λ (ms : List Member). Contains ms m) same-members one);
    visitable = λ k d below. visitable (slice_index_or level.visits.items k d) (Contains-get_or level.visits.items k d below);
    some = off.some;
  }
    where
      earlier : (m : Member) (fs : List (Found (Option ℕ))) → 1 ≤ length fs → ((f : Found (Option ℕ)) → Contains fs f → Contains level.visits.items f) → Contains old.members.items m → storage_of net.channels m.capacities.capacities < level.total
      earlier m [] some holds one = absurd (omega (arith, some))
      earlier m (f ∷ fs) some holds one =
          let there = holds f (0, omega arith, refl) in
          let waits : Waits net.channels old.levels.bounds.total floor f = All-contains (Waits net.channels old.levels.bounds.total floor) old.levels.waiting f search.frontier.spread.waits (waited f there) in
          let here : f.total ≡ level.total = All-contains (λ (x : Found (Option ℕ)). x.total ≡ level.total) level.visits.items f off.totals there in
          let low : storage_of net.channels m.capacities.capacities < floor = All-contains (λ (ds : List (Option ℕ)). storage_of net.channels ds < floor) (visited (visits_of search.entries) ++ []) m.capacities.capacities search.frontier.spread.low
          (Contains-append_left (visited (visits_of search.entries)) [] m.capacities.capacities
          (subst (λ (xs : List (List (Option ℕ))). Contains xs m.capacities.capacities) (sym (visited-members net limits.states old.members.items search.entries search.known.noted))
          (contains-map (λ (x : Member). x.capacities.capacities) old.members.items m one))) in
          omega (arith, waits.above, here, low)

-- the answers of a level are of its distributions
pub level-answers : (net : Net) (limits : Limits) (total : ℕ) (best : Fraction) (answers : List Answered) (fs : List (Found (Option ℕ))) → map (λ (a : Answered). a.capacities) answers ≡ map (λ (f : Found (Option ℕ)). f.capacities) fs → All (λ (f : Found (Option ℕ)). storage_of net.channels f.capacities.capacities ≡ total) fs → All (λ (a : Answered). IsEvaluation net limits.states best a.capacities a.answer) answers → All (IsAnswerOf net limits total best) answers
level-answers net limits total best answers fs order totals all = λ k d below.
    let P : Distribution → Type 0 = λ (x : Distribution). storage_of net.channels x.capacities ≡ total in
    let of : All P (map (λ (a : Answered). a.capacities) answers) = subst (All P) (sym order) (All-map P (λ (f : Found (Option ℕ)). f.capacities) fs totals) in
    record { answer = all k d below; storage = all-unmap P (λ (a : Answered). a.capacities) answers of k d below }

pub answered-level : (answers : List Answered) (fs : List (Found (Option ℕ))) → map (λ (a : Answered). a.capacities) answers ≡ map (λ (f : Found (Option ℕ)). f.capacities) fs → answered_of answers ≡ distributions_of fs
answered-level answers fs order =
    sym (map-map (λ (d : Distribution). d.capacities) (λ (a : Answered). a.capacities) answers)
    ∙ (ap (λ (ds : List Distribution). map (λ (d : Distribution). d.capacities) ds) order
    ∙ map-map (λ (d : Distribution). d.capacities) (λ (f : Found (Option ℕ)). f.capacities) fs)

pub answers-long : (answers : List Answered) (fs : List (Found (Option ℕ))) → map (λ (a : Answered). a.capacities) answers ≡ map (λ (f : Found (Option ℕ)). f.capacities) fs → length answers ≡ length fs
answers-long answers fs order =
    let same : length (map (λ (a : Answered). a.capacities) answers) ≡ length (map (λ (f : Found (Option ℕ)). f.capacities) fs) = ap (λ (ds : List Distribution). length ds) order in
    omega (arith, same, length-map answers (λ (a : Answered). a.capacities), length-map fs (λ (f : Found (Option ℕ)). f.capacities))

shows-few : (shown : Shown) → shows_cycle shown ≤ 1
shows-few (Cycle cycle) = omega arith
shows-few (Blocked counts) = omega arith

pub cycles-few : (ms : List Member) → cycles_in ms ≤ length ms
cycles-few [] = omega arith
cycles-few (m ∷ ms) = let later = cycles-few ms in omega (arith, later, shows-few m.shown)

loops-few : (answer : Result Rated RunError) → most_loops answer ≤ 1
loops-few (Ok r) = shows-few r.shown
loops-few (Err error) = omega arith

pub sum-few : (answers : List Answered) → sum_of most_loops answers ≤ length answers
sum-few [] = omega arith
sum-few (a ∷ answers) = let later = sum-few answers in omega (arith, later, loops-few a.answer)

-- a member that is taken in
module _ (net : Net) (laws : Lawful net) (can : IsExplorable net) (limits : Limits) (total : ℕ) (d : Distribution) (e : Evaluation) (is : IsEvaluated net d.capacities limits.states e) (rest : List (List (Option ℕ))) (old : Search) (search : IsSearch net limits (total + 1) (d.capacities ∷ rest) old) where
  here : Contains (visited (visits_of search.entries) ++ d.capacities ∷ rest) d.capacities
  here = Contains-append_right (visited (visits_of search.entries)) (d.capacities ∷ rest) d.capacities (0, omega arith, refl)

  pub its-candidate : IsCandidate net limits.total d.capacities
  its-candidate = search-candidate net can limits (total + 1) (d.capacities ∷ rest) old search d.capacities here

  -- more room on a channel that is shown needs more storage
  pub shown-rises : Rises net.channels (led_by d.capacities e.enlarge)
  shown-rises es (c, one, same) = subst (λ (x : List (Option ℕ)). storage_of net.channels d.capacities < storage_of net.channels x) (sym same) (child-above net laws can limits.total d.capacities its-candidate limits.states e is c one)

  -- the channels are known
  pub shown-known : All (λ (c : ℕ). c < length old.levels.channels) e.enlarge
  shown-known = λ k z below.
      let b = shown-bounded net laws can limits.total d.capacities its-candidate limits.states e is (slice_index_or e.enlarge k z) (Contains-get_or e.enlarge k z below) in
      omega (arith, b.place, known-long net.channels old.levels.channels search.frontier.over)

  pub total-within : storage_of net.channels d.capacities ≡ total → total ≤ old.levels.bounds.total
  total-within is_total = omega (arith, is_total, its-candidate.within, search-limit net can limits (total + 1) (d.capacities ∷ rest) old search)

  candidates-more : (m : Member) → Contains (old.members.items ++ evaluated_member d e ∷ []) m → IsCandidate net limits.total m.capacities.capacities
  candidates-more m one =
      ⊎_elim
      (λ (h : Contains old.members.items m). search.candidates m h)
      (λ (same : evaluated_member d e ≡ m). subst (λ (x : Member). IsCandidate net limits.total x.capacities.capacities) same its-candidate)
      (Contains-push_cases old.members.items (evaluated_member d e) m one)

  hint-new : (f : Found (Option ℕ)) → IsFoundBy net.channels old.levels.bounds.total (led_by d.capacities e.enlarge) (Some (length old.members.items)) f → IsHinted net limits.states (old.members.items ++ evaluated_member d e ∷ []) f.hint f.capacities.capacities
  hint-new f by = subst (λ (hint : Option ℕ). IsHinted net limits.states (old.members.items ++ evaluated_member d e ∷ []) hint f.capacities.capacities) (sym by.hinted) (record {
    member = evaluated_member d e;
    at = get-last old.members.items (evaluated_member d e);
    evaluated = (member-noted net d limits.states e is).member;
    most = subst (AtMost d.capacities) (sym by.leads.2) (enlarged-most d.capacities by.leads.0 (step_of (slice_index_or net.channels by.leads.0 nowhere)));
  })

  pub taken-in : (new : Search) → new.members.items ≡ old.members.items ++ evaluated_member d e ∷ [] → AreKnown net limits.states (old.members.items ++ evaluated_member d e ∷ []) (search.entries ++ entry_of (evaluated_member d e) e.enlarge ∷ []) new.front
      → IsFrontier net.channels search.corner (total + 1) (visits_of search.entries ++ led_by d.capacities e.enlarge ∷ []) rest new.levels → IsSame old.levels new.levels
      → AreLedOn net.channels old.levels.bounds.total (led_by d.capacities e.enlarge) (Some (length old.members.items)) old.levels.waiting new.levels.waiting → IsSearch net limits (total + 1) rest new
  taken-in new members known frontier same on = record {
    entries = search.entries ++ entry_of (evaluated_member d e) e.enlarge ∷ [];
    known = subst (λ (ms : List Member). AreKnown net limits.states ms (search.entries ++ entry_of (evaluated_member d e) e.enlarge ∷ []) new.front) (sym members) known;
    corner = search.corner;
    is_corner = search.is_corner;
    bounds = same.bounds ∙ search.bounds;
    frontier = subst (λ (vs : List Visit). IsFrontier net.channels search.corner (total + 1) vs rest new.levels) (sym (visits-more search.entries (entry_of (evaluated_member d e) e.enlarge))) frontier;
    candidates = λ m one. candidates-more m (subst (λ (ms : List Member). Contains ms m) members one);
    hinted = λ f one. subst (λ (ms : List Member). IsHinted net limits.states ms f.hint f.capacities.capacities) (sym members)
        (⊎_elim
        (λ (h : Contains old.levels.waiting f). hinted-longer net limits.states old.members.items (evaluated_member d e ∷ []) f.hint f.capacities.capacities (search.hinted f h))
        (λ (h : IsFoundBy net.channels old.levels.bounds.total (led_by d.capacities e.enlarge) (Some (length old.members.items)) f). hint-new f h)
        (on.only f one));
  }

  -- or more are found than allowed
  pub spent : (error : LevelsError) → IsSpent net.channels search.corner old.levels.bounds (visits_of search.entries ++ led_by d.capacities e.enlarge ∷ []) error → IsRefusal net limits (error_of error)
  spent causes.NoMemory is_spent = tt
  spent causes.Spent many = (
    many.found,
    record {
      order = many.order;
      reachable = λ ds one.
          (led-candidate net limits.states (old.members.items ++ evaluated_member d e ∷ []) (search.entries ++ entry_of (evaluated_member d e) e.enlarge ∷ [])
          (noted-more net limits.states old.members.items search.entries (evaluated_member d e) (entry_of (evaluated_member d e) e.enlarge) search.known.noted (member-noted net d limits.states e is)) search.corner search.is_corner can limits.total candidates-more ds
          (subst (λ (n : ℕ). storage_of net.channels ds ≤ n) (search-limit net can limits (total + 1) (d.capacities ∷ rest) old search) (All-contains (λ (x : List (Option ℕ)). storage_of net.channels x ≤ old.levels.bounds.total) many.found ds many.within one))
          (subst (λ (vs : List Visit). IsLed net.channels search.corner vs ds) (sym (visits-more search.entries (entry_of (evaluated_member d e) e.enlarge))) (many.led ds one))).reachable;
    },
    (let most : old.levels.bounds.distributions ≡ limits.distributions = ap (λ (b : Bounds). b.distributions) search.bounds in omega (arith, many.many, most)),
  )

-- a search has ended where nothing waits any more
ended : (net : Net) (can : IsExplorable net) (limits : Limits) (floor : ℕ) (s : Search) → (search : IsSearch net limits floor [] s) → AreVisits net.channels search.corner s.levels.bounds.total (visits_of search.entries) → IsEnded net limits s.members.items s.front
ended net can limits floor s search visits = record {
  entries = search.entries;
  known = search.known;
  corner = search.corner;
  is_corner = search.is_corner;
  visits = subst (λ (n : ℕ). AreVisits net.channels search.corner n (visits_of search.entries)) (search-limit net can limits floor [] s search) visits;
  candidates = search.candidates;
  few = (let few = search-few net can limits floor [] s search in omega (arith, few));
}

-- the next level, or the end
pub next-turn : (net : Net) → Lawful net → IsExplorable net → (limits : Limits) → limits.total ≤ STORAGE → (floor : ℕ) (old new : Search) → IsSearch net limits floor [] old → new.members ≡ old.members → new.front ≡ old.front → IsSame old.levels new.levels → (found : Option (Level (Option ℕ)))
    → MatchOption found (old.levels.waiting ≡ []) (λ (level : Level (Option ℕ)). IsLevelTaken level.total level.visits.items old.levels.waiting new.levels.waiting)
    → ((cs : List Channel) (start : List (Option ℕ)) (low : ℕ) (visits : List Visit) → IsFrontier cs start low visits [] old.levels → MatchOption found (AreVisits cs start old.levels.bounds.total visits) (λ (level : Level (Option ℕ)). IsFrontier cs start (level.total + 1) visits (distributions_of level.visits.items) new.levels))
    → MatchOption found (IsEnded net limits old.members.items old.front) (λ (level : Level (Option ℕ)). IsTurn net limits level new)
next-turn net laws can limits small floor old new search members front same None none frontier = ended net can limits floor old search (frontier net.channels search.corner floor (visits_of search.entries) search.frontier)
next-turn net laws can limits small floor old new search members front same (Some level) off frontier = turn-of net laws can limits small floor old new search members front level off same (frontier net.channels search.corner floor (visits_of search.entries) search.frontier)

-- the rate of a point is that of a member of less storage
pub best-of : (net : Net) (limits : Limits) (level : Level (Option ℕ)) (s : Search) (best : Fraction) → IsTurn net limits level s → IsBestOf s.front best → IsBest net best level.total s.members.items
best-of net limits level s best turn (inl none) = inl none
best-of net limits level s best turn (inr (p, one, same)) =
    let from = offer-from net s.members.items (offer_of p) (turn.search.known.front.among (offer_of p) (contains-map offer_of s.front p one)) in
    inr (from.0, from.1, ap (λ (o : Offer). o.rate) from.2 ∙ same, turn.before from.0 from.1)
