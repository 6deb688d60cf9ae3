-- What the visits of a search say of its members.
use Rattle.std.proofs.Common.{◌≡◌, ℕ, suc, ◌+◌, ◌≤◌, Option, List, [], ◌∷◌, ◌++◌, length, inl, inr, ⊎_elim, refl, sym, ap, ◌∙◌, subst, arith}
use Rattle.std.specs.Prelude.{Contains}
use Rattle.std.proofs.lemmas.List.{length-append, length-map}
use Rattle.std.proofs.lemmas.List.Elements.{All-contains}
use Rattle.sd_base.specs.declared.limits.Limits.{Limits}
use Rattle.sd_base.specs.Net.{Net}
use Rattle.storage.specs.Distributions.{storage_of}
use Rattle.storage.specs.ClosedLists.{Entry}
use Rattle.storage.specs.Steps.{IsCorner}
use Rattle.storage.proofs.CornerLists.{corner-distribution, corner-grid}
use Rattle.levels.specs.declared.levels.Bounds.{Bounds}
use Rattle.levels.specs.Visits.{IsLedTo as IsLed, LeadsTo, Visit, led_by, visited, visits_of}
use Rattle.sd_base.proofs.ContainedHavePlaces.{contains-map, contains-unmap, contains-here, contains-later, contains-none, contains-cases}
use Rattle.storage.specs.StorageOrder.{stepped}
use Rattle.explore.specs.declared.exploration.Member.{Member}
use Rattle.explore.specs.declared.search.Search.{Search}
use Rattle.explore.specs.Reachable.{IsExplorable, corner}
use Rattle.explore.specs.Explorations.{CountsFew, IsLedTo, capacities_of}
use Rattle.explore.specs.inside.Searches.{AreNoted, IsCandidate, IsNoted, IsSearch}
use Rattle.explore.proofs.StepsGiveCandidates.{child-candidate}

pub noted-at : (net : Net) (states : ℕ) (ms : List Member) (es : List Entry) (e : Entry) → AreNoted net states ms es → Contains es e → (m : Member) × Contains ms m × IsNoted net states m e
noted-at net states [] [] e are is = absurd (contains-none e is)
noted-at net states [] (f ∷ es) e are is = absurd are
noted-at net states (m ∷ ms) [] e are is = absurd are
noted-at net states (m ∷ ms) (f ∷ es) e are is =
    ⊎_elim
    (λ (same : f ≡ e). (m, contains-here m ms, subst (IsNoted net states m) same are.0))
    (λ (later : Contains es e). let found = noted-at net states ms es e are.1 later in (found.0, contains-later m ms found.0 found.1, found.2))
    (contains-cases f es e is)

pub noted-of : (net : Net) (states : ℕ) (ms : List Member) (es : List Entry) (m : Member) → AreNoted net states ms es → Contains ms m → (e : Entry) × Contains es e × IsNoted net states m e
noted-of net states [] es m are is = absurd (contains-none m is)
noted-of net states (x ∷ ms) [] m are is = absurd are
noted-of net states (x ∷ ms) (f ∷ es) m are is =
    ⊎_elim
    (λ (same : x ≡ m). (f, contains-here f es, subst (λ (y : Member). IsNoted net states y f) same are.0))
    (λ (later : Contains ms m). let found = noted-of net states ms es m are.1 later in (found.0, contains-later f es found.0 found.1, found.2))
    (contains-cases x ms m is)

pub noted-long : (net : Net) (states : ℕ) (ms : List Member) (es : List Entry) → AreNoted net states ms es → length es ≡ length ms
noted-long net states [] [] are = refl
noted-long net states [] (e ∷ es) are = absurd are
noted-long net states (m ∷ ms) [] are = absurd are
noted-long net states (m ∷ ms) (e ∷ es) are = ap suc (noted-long net states ms es are.1)

-- the distributions of the visits are those of the members
pub visited-members : (net : Net) (states : ℕ) (ms : List Member) (es : List Entry) → AreNoted net states ms es → visited (visits_of es) ≡ capacities_of ms
visited-members net states [] [] are = refl
visited-members net states [] (e ∷ es) are = absurd are
visited-members net states (m ∷ ms) [] are = absurd are
visited-members net states (m ∷ ms) (e ∷ es) are =
    ap (λ (ds : List (Option ℕ)). ds ∷ visited (visits_of es)) (ap (λ (x : Entry). x.capacities) are.0.is)
    ∙ ap (λ (dss : List (List (Option ℕ))). m.capacities.capacities ∷ dss) (visited-members net states ms es are.1)

visit-entry : (es : List Entry) (v : Visit) → Contains (visits_of es) v → (e : Entry) × Contains es e × (led_by e.capacities e.shown ≡ v)
visit-entry es v one = contains-unmap (λ (e : Entry). led_by e.capacities e.shown) es v one

pub entry-visit : (es : List Entry) (e : Entry) → Contains es e → Contains (visits_of es) (led_by e.capacities e.shown)
entry-visit es e one = contains-map (λ (x : Entry). led_by x.capacities x.shown) es e one

-- a visit leads on by a channel that its member shows
pub leads-shown : (net : Net) (states : ℕ) (m : Member) (e : Entry) (ds : List (Option ℕ)) → IsNoted net states m e → LeadsTo net.channels (led_by e.capacities e.shown) ds → (c : ℕ) × Contains e.shown c × (ds ≡ stepped net.channels m.capacities.capacities c)
leads-shown net states m e ds is (c, one, same) = (c, one, same ∙ ap (λ (x : Entry). stepped net.channels x.capacities c) is.is)

pub corner-candidate : (net : Net) (limit : ℕ) (ds : List (Option ℕ)) → IsExplorable net → IsCorner net.channels ds → storage_of net.channels ds ≤ limit → IsCandidate net limit ds
corner-candidate net limit ds can is within = record {
  distribution = corner-distribution net.channels ds can.plain is;
  grid = corner-grid net.channels ds is;
  within = within;
  reachable = corner ds is within;
}

module _ (net : Net) (states : ℕ) (ms : List Member) (es : List Entry) (are : AreNoted net states ms es) (start : List (Option ℕ)) (is_corner : IsCorner net.channels start) where
  led-shown : (ds : List (Option ℕ)) (v : Visit) → Contains (visits_of es) v → LeadsTo net.channels v ds → (m : Member) × Contains ms m × ((e : Entry) × IsNoted net states m e × ((c : ℕ) × Contains e.shown c × (ds ≡ stepped net.channels m.capacities.capacities c)))
  led-shown ds v one leads =
      let e = visit-entry es v one in
      let n = noted-at net states ms es e.0 are e.1 in (n.0, n.1, (e.0, n.2, leads-shown net states n.0 e.0 ds n.2 (subst (λ (x : Visit). LeadsTo net.channels x ds) (sym e.2) leads)))

  -- what is led to within the limit is a candidate
  pub led-candidate : IsExplorable net → (limit : ℕ) → ((m : Member) → Contains ms m → IsCandidate net limit m.capacities.capacities) → (ds : List (Option ℕ)) → storage_of net.channels ds ≤ limit → IsLed net.channels start (visits_of es) ds → IsCandidate net limit ds
  led-candidate can limit candidates ds within (inl same) = subst (IsCandidate net limit) (sym same) (corner-candidate net limit start can is_corner (subst (λ (x : List (Option ℕ)). storage_of net.channels x ≤ limit) same within))
  led-candidate can limit candidates ds within (inr (v, one, leads)) =
      let s = led-shown ds v one leads in
      subst (IsCandidate net limit) (sym s.2.2.2)
      (child-candidate net limit s.0.capacities.capacities s.2.2.0 (candidates s.0 s.1) (s.2.1.guided s.2.2.0 s.2.2.1) (subst (λ (x : List (Option ℕ)). storage_of net.channels x ≤ limit) s.2.2.2 within))

  pub led-member : (ds : List (Option ℕ)) → IsLed net.channels start (visits_of es) ds → IsLedTo net ms ds
  led-member ds (inl same) = inl (subst (IsCorner net.channels) (sym same) is_corner)
  led-member ds (inr (v, one, leads)) = let s = led-shown ds v one leads in inr (s.0, s.1, (s.2.2.0, (s.2.1.shows s.2.2.0).0 s.2.2.1, s.2.2.2))

module _ (net : Net) (can : IsExplorable net) (limits : Limits) (floor : ℕ) (taken : List (List (Option ℕ))) (s : Search) (search : IsSearch net limits floor taken s) where
  pub search-limit : s.levels.bounds.total ≡ limits.total
  search-limit = ap (λ (b : Bounds). b.total) search.bounds

  pub search-candidate : (ds : List (Option ℕ)) → Contains (visited (visits_of search.entries) ++ taken) ds → IsCandidate net limits.total ds
  search-candidate ds one =
      led-candidate net limits.states s.members.items search.entries search.known.noted search.corner search.is_corner can limits.total search.candidates ds
      (subst (λ (n : ℕ). storage_of net.channels ds ≤ n) search-limit (All-contains (λ (x : List (Option ℕ)). storage_of net.channels x ≤ s.levels.bounds.total) (visited (visits_of search.entries) ++ taken) ds search.frontier.spread.within one))
      (search.frontier.spread.led ds (inl one))

  long : length (visited (visits_of search.entries) ++ taken) ≡ length s.members.items + length taken
  long =
      let a = length-append (visited (visits_of search.entries)) taken in
      let b = length-map (visits_of search.entries) (λ (v : Visit). v.capacities) in
      let c = length-map search.entries (λ (e : Entry). led_by e.capacities e.shown) in
      let d = noted-long net limits.states s.members.items search.entries search.known.noted in
      omega (arith, a, b, c, d)

  -- the members and those taken off are no more than are allowed
  pub search-few : length s.members.items + length taken ≤ limits.distributions
  search-few =
      let c = length-map search.entries (λ (e : Entry). led_by e.capacities e.shown) in
      let d = noted-long net limits.states s.members.items search.entries search.known.noted in
      let most : s.levels.bounds.distributions ≡ limits.distributions = ap (λ (b : Bounds). b.distributions) search.bounds in
      omega (arith, search.frontier.found, search.frontier.few, c, d, most)

  pub counts-few : (before after : ℕ) → after ≤ before + (length s.members.items + length taken) → CountsFew net limits before after
  counts-few before after rise = (
    visited (visits_of search.entries) ++ taken,
    record { order = search.frontier.spread.order; reachable = λ ds one. (search-candidate ds one).reachable },
    omega (arith, rise, long),
    omega (arith, search-few, long),
  )
