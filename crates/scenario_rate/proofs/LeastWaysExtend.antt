-- A least way goes on by the least next node, up to the closed walk that is chosen.
use Rattle.std.proofs.Common.{◌≡◌, ℕ, suc, ◌+◌, ◌≤◌, ◌<◌, List, [], ◌∷◌, length, Option, Some, None, MatchOption, min, refl, sym, ap, subst, ◌∙◌, inl, inr, ⊎_elim, arith}
use Rattle.std.specs.Prelude.{slice_get}
use Rattle.std.proofs.lemmas.Bool.{cases_lt}
use Rattle.std.proofs.lemmas.Option.{slice_get_within}
use Rattle.automaton.specs.declared.graph.Edge.{Edge}
use Rattle.scenario_rate.specs.declared.by_node.End.TheVariants.{From}
use Rattle.scenario_rate.specs.ChosenCycles.{end_in, nodes_of, IsNoLater}
use Rattle.scenario_rate.specs.inside.Choosing.{IsAmong, IsWalkAmong, steps_at, IsDistance, NoneBack, IsFewest, fewer_of, NoneNext, IsNextEdge, IsNearer, IsOnWay, IsLeastWay}
use Rattle.scenario_rate.specs.inside.ByNode.{list_at, AreByNode}
use Rattle.scenario_rate.proofs.NodesListEdges.{listed_at, listed_in, listed_from}

-- ---- the least way

module _ (es : List Edge) (ts : List ℕ) (lists : List (List ℕ)) (steps : List (Option ℕ)) (nodes root node left : ℕ) (listed : AreByNode From es ts nodes lists) (way : IsOnWay es ts steps nodes root node (suc left)) where
  abbrev out : List ℕ
  out = list_at lists node

  -- the first edge of a walk of so many edges ends as near as it may
  first_near : (k : ℕ) (e : Edge) (ks : List ℕ) → slice_get es k ≡ Some e → node ≡ e.from → IsAmong ts k → IsWalkAmong es ts e.to ks root → length ks ≡ left → steps_at steps e.to ≡ Some left
  first_near k e ks at from among rest long =
      let m = way.distance.near e.to ks rest (let s : suc left ≤ nodes + 1 = way.small in omega arith) in
      let w = way.distance.walked e.to m.0 m.1 in
      let low : suc left ≤ suc (length w.0) = way.fewest (k ∷ w.0) (omega arith) (e, at, from, among, w.1) in
      let same : m.0 ≡ left = omega (arith, m.2, w.2) in
      m.1 ∙ ap Some same

  -- some edge does
  pub some_next : NoneNext es out steps left (length out) → ⊥
  some_next none = go way.here
    where
      go : (ks : List ℕ) × IsWalkAmong es ts node ks root × (length ks ≡ suc left) → ⊥
      go ([], walk, long) = absurd (omega arith)
      go (k ∷ ks, (e, at, from, among, rest), long) =
          let a = listed_at From es ts nodes lists listed node k e among at (sym from) in
          none a.0 k e (slice_get_within out a.0 k a.1) a.1 at (first_near k e ks at from among rest (omega arith))

  module _ (k : ℕ) (next : IsNextEdge es out steps left (length out) k) where
    from : node ≡ next.edge.from
    from = sym (listed_from From es ts nodes lists listed node k next.edge next.among next.is)

    among : IsAmong ts k
    among = listed_in From es ts nodes lists listed node k next.among

    pub on_way : IsOnWay es ts steps nodes root next.edge.to left
    on_way = record {
      distance = way.distance;
      small = (let s : suc left ≤ nodes + 1 = way.small in omega arith);
      here = way.distance.walked next.edge.to left next.to;
      fewest = λ ks some walk. (let s : suc left ≤ suc (length ks) = way.fewest (k ∷ ks) (omega arith) (next.edge, next.is, from, among, walk) in omega arith);
    }

    pub least_more : (ks : List ℕ) → IsLeastWay es ts root next.edge.to left ks → IsLeastWay es ts root node (suc left) (k ∷ ks)
    least_more ks rest = record {
      walk = (next.edge, next.is, from, among, rest.walk);
      long = ap suc rest.long;
      least = go;
    }
      where
        mine : end_in (slice_get es k) ≡ next.edge.to
        mine = ap end_in next.is

        go : (others : List ℕ) → length others ≡ suc left → IsWalkAmong es ts node others root → IsNoLater (nodes_of es (k ∷ ks)) (nodes_of es others)
        go [] long walk = absurd (omega arith)
        go (j ∷ js) long (e, at, back, of_list, after) =
            let near : steps_at steps e.to ≡ Some left = first_near j e js at back of_list after (omega arith) in
            let a = listed_at From es ts nodes lists listed node j e of_list at (sym back) in
            let up : next.edge.to ≤ e.to = next.least a.0 j e (slice_get_within out a.0 j a.1) a.1 at near in
            let theirs : end_in (slice_get es j) ≡ e.to = ap end_in at in
            elim (cases_lt next.edge.to e.to) [
              | inl less ↦ inl (let h : end_in (slice_get es k) < end_in (slice_get es j) = omega (arith, mine) in h)
              | inr more ↦ (let same : next.edge.to ≡ e.to = omega arith in
                  inr (mine ∙ same ∙ sym theirs, rest.least js (omega arith) (subst (λ (n : ℕ). IsWalkAmong es ts n js root) (sym same) after)))
            ]

-- ---- from a node back to itself

module _ (es : List Edge) (ts : List ℕ) (lists : List (List ℕ)) (steps : List (Option ℕ)) (nodes root : ℕ) (listed : AreByNode From es ts nodes lists) (distance : IsDistance es ts nodes root steps) where
  abbrev out_of_root : List ℕ
  out_of_root = list_at lists root

  -- no short walk leads back
  pub none_short : NoneBack es out_of_root steps (length out_of_root) → (ks : List ℕ) → 1 ≤ length ks → length ks ≤ nodes + 1 → IsWalkAmong es ts root ks root → ⊥
  none_short none [] some short walk = absurd (omega arith)
  none_short none (k ∷ ks) some short (e, at, from, among, rest) =
      let m = distance.near e.to ks rest (omega arith) in
      let a = listed_at From es ts nodes lists listed root k e among at (sym from) in
      none a.0 k m.0 e (slice_get_within out_of_root a.0 k a.1) a.1 at m.1

  pub on_way_back : (r : ℕ) → IsFewest es out_of_root steps (length out_of_root) r → IsOnWay es ts steps nodes root root r
  on_way_back r few =
      let w = distance.walked few.edge.to few.steps_there few.to in
      let low : few.steps_there ≤ nodes = distance.few few.edge.to few.steps_there few.to in
      let from = sym (listed_from From es ts nodes lists listed root few.number few.edge (few.place, few.at) few.is) in
      let among = listed_in From es ts nodes lists listed root few.number (few.place, few.at) in record {
        distance = distance;
        small = (let c : r ≡ few.steps_there + 1 = few.count in omega arith);
        here = (few.number ∷ w.0, (few.edge, few.is, from, among, w.1), (let c : r ≡ few.steps_there + 1 = few.count in let h : suc (length w.0) ≡ r = omega (arith, w.2) in h));
        fewest = go low;
      }
    where
      go : few.steps_there ≤ nodes → (ks : List ℕ) → 1 ≤ length ks → IsWalkAmong es ts root ks root → r ≤ length ks
      go low [] some walk = absurd (omega arith)
      go low (k ∷ ks) some (e, at, from, among, rest) = ⊎_elim
          (λ (short : length ks < nodes + 1).
          let m = distance.near e.to ks rest (omega arith) in
          let a = listed_at From es ts nodes lists listed root k e among at (sym from) in
          let l : r ≤ m.0 + 1 = few.least a.0 k m.0 e (slice_get_within out_of_root a.0 k a.1) a.1 at m.1 in
          let h : r ≤ suc (length ks) = omega (arith, m.2) in h)
          (λ (long : nodes + 1 ≤ length ks). let c : r ≡ few.steps_there + 1 = few.count in let h : r ≤ suc (length ks) = omega arith in h)
          (cases_lt (length ks) (nodes + 1))

-- ---- edge by edge

-- what holds of the places before n and of n holds of those before n + 1
same_place : (es : List Edge) (ts : List ℕ) (n i k j : ℕ) (e f : Edge) → slice_get ts n ≡ Some k → slice_get es k ≡ Some e → i ≡ n → slice_get ts i ≡ Some j → slice_get es j ≡ Some f → e ≡ f
same_place es ts n i k j e f at is same at_j is_j =
    let key : k ≡ j = (let h : Some k ≡ Some j = sym at ∙ ap (λ (m : ℕ). slice_get ts m) (sym same) ∙ at_j in cc) in
    let h : Some e ≡ Some f = sym is ∙ ap (λ (m : ℕ). slice_get es m) key ∙ is_j in cc

module _ (es : List Edge) (ts : List ℕ) (steps : List (Option ℕ)) (n k : ℕ) (e : Edge) (at : slice_get ts n ≡ Some k) (is : slice_get es k ≡ Some e) where
  pub fewest_more : (o s : Option ℕ) → steps_at steps e.to ≡ s → MatchOption o (NoneBack es ts steps n) (IsFewest es ts steps n)
      → MatchOption (fewer_of o s) (NoneBack es ts steps (n + 1)) (IsFewest es ts steps (n + 1))
  fewest_more None None there none = λ i j d f below at_j is_j to. ⊎_elim
      (λ (old : i < n). none i j d f old at_j is_j to)
      (λ (last : n ≤ i). let same : e ≡ f = same_place es ts n i k j e f at is (omega arith) at_j is_j in let h : None ≡ Some d = sym there ∙ ap (λ (g : Edge). steps_at steps g.to) same ∙ to in cc)
      (cases_lt i n)
  fewest_more None (Some d) there none = record {
    least = λ i j c f below at_j is_j to. ⊎_elim
        (λ (old : i < n). absurd (none i j c f old at_j is_j to))
        (λ (last : n ≤ i). let same : e ≡ f = same_place es ts n i k j e f at is (omega arith) at_j is_j in let h : Some d ≡ Some c = sym there ∙ ap (λ (g : Edge). steps_at steps g.to) same ∙ to in let g : d ≡ c = cc in omega arith)
        (cases_lt i n);
    place = n;
    number = k;
    steps_there = d;
    edge = e;
    at = at;
    is = is;
    to = there;
    count = refl;
  }
  fewest_more (Some r) None there few = record {
    least = λ i j c f below at_j is_j to. ⊎_elim
        (λ (old : i < n). few.least i j c f old at_j is_j to)
        (λ (last : n ≤ i). absurd (let same : e ≡ f = same_place es ts n i k j e f at is (omega arith) at_j is_j in let h : None ≡ Some c = sym there ∙ ap (λ (g : Edge). steps_at steps g.to) same ∙ to in cc))
        (cases_lt i n);
    place = few.place;
    number = few.number;
    steps_there = few.steps_there;
    edge = few.edge;
    at = few.at;
    is = few.is;
    to = few.to;
    count = few.count;
  }
  fewest_more (Some r) (Some d) there few = elim (cases_lt r (d + 2)) [
    | inl low ↦ (let m : min r (d + 1) ≡ r = omega arith in subst (IsFewest es ts steps (n + 1)) (sym m) (record {
      least = λ i j c f below at_j is_j to. ⊎_elim
          (λ (old : i < n). few.least i j c f old at_j is_j to)
          (λ (last : n ≤ i). let same : e ≡ f = same_place es ts n i k j e f at is (omega arith) at_j is_j in let h : Some d ≡ Some c = sym there ∙ ap (λ (g : Edge). steps_at steps g.to) same ∙ to in let g : d ≡ c = cc in omega arith)
          (cases_lt i n);
      place = few.place;
      number = few.number;
      steps_there = few.steps_there;
      edge = few.edge;
      at = few.at;
      is = few.is;
      to = few.to;
      count = few.count;
    }))
    | inr high ↦ (let m : min r (d + 1) ≡ d + 1 = omega arith in subst (IsFewest es ts steps (n + 1)) (sym m) (record {
      least = λ i j c f below at_j is_j to. ⊎_elim
          (λ (old : i < n). let l : r ≤ c + 1 = few.least i j c f old at_j is_j to in omega arith)
          (λ (last : n ≤ i). let same : e ≡ f = same_place es ts n i k j e f at is (omega arith) at_j is_j in let h : Some d ≡ Some c = sym there ∙ ap (λ (g : Edge). steps_at steps g.to) same ∙ to in let g : d ≡ c = cc in omega arith)
          (cases_lt i n);
      place = n;
      number = k;
      steps_there = d;
      edge = e;
      at = at;
      is = is;
      to = there;
      count = refl;
    }))
  ]

  module _ (left : ℕ) where
    pub next_more : (o r : Option ℕ) → steps_at steps e.to ≡ Some left → IsNearer es o k r → MatchOption o (NoneNext es ts steps left n) (IsNextEdge es ts steps left n)
        → MatchOption r (NoneNext es ts steps left (n + 1)) (IsNextEdge es ts steps left (n + 1))
    next_more None r there nearer none = subst (λ (o : Option ℕ). MatchOption o (NoneNext es ts steps left (n + 1)) (IsNextEdge es ts steps left (n + 1))) (sym nearer) (record {
      among = (n, at);
      edge = e;
      is = is;
      to = there;
      least = λ i j f below at_j is_j to. ⊎_elim
          (λ (old : i < n). absurd (none i j f old at_j is_j to))
          (λ (last : n ≤ i). let same : e ≡ f = same_place es ts n i k j e f at is (omega arith) at_j is_j in let h : e.to ≡ f.to = ap (λ (g : Edge). g.to) same in omega arith)
          (cases_lt i n);
    })
    next_more (Some old) r there nearer next = elim nearer [
      | inl (less, new) ↦ subst (λ (o : Option ℕ). MatchOption o (NoneNext es ts steps left (n + 1)) (IsNextEdge es ts steps left (n + 1))) (sym new) (record {
        among = (n, at);
        edge = e;
        is = is;
        to = there;
        least = λ i j f below at_j is_j to. ⊎_elim
            (λ (before : i < n). let l : next.edge.to ≤ f.to = next.least i j f before at_j is_j to in let a : end_in (slice_get es k) ≡ e.to = ap end_in is in let b : end_in (slice_get es old) ≡ next.edge.to = ap end_in next.is in let h : end_in (slice_get es k) < end_in (slice_get es old) = less in omega arith)
            (λ (last : n ≤ i). let same : e ≡ f = same_place es ts n i k j e f at is (omega arith) at_j is_j in let h : e.to ≡ f.to = ap (λ (g : Edge). g.to) same in omega arith)
            (cases_lt i n);
      })
      | inr (more, kept) ↦ subst (λ (o : Option ℕ). MatchOption o (NoneNext es ts steps left (n + 1)) (IsNextEdge es ts steps left (n + 1))) (sym kept) (record {
        among = next.among;
        edge = next.edge;
        is = next.is;
        to = next.to;
        least = λ i j f below at_j is_j to. ⊎_elim
            (λ (before : i < n). next.least i j f before at_j is_j to)
            (λ (last : n ≤ i). let same : e ≡ f = same_place es ts n i k j e f at is (omega arith) at_j is_j in let h : e.to ≡ f.to = ap (λ (g : Edge). g.to) same in
            let a : end_in (slice_get es k) ≡ e.to = ap end_in is in let b : end_in (slice_get es old) ≡ next.edge.to = ap end_in next.is in let g : end_in (slice_get es old) ≤ end_in (slice_get es k) = more in omega arith)
            (cases_lt i n);
      })
    ]

    pub next_pass : (o : Option ℕ) → (steps_at steps e.to ≡ Some left → ⊥) → MatchOption o (NoneNext es ts steps left n) (IsNextEdge es ts steps left n)
        → MatchOption o (NoneNext es ts steps left (n + 1)) (IsNextEdge es ts steps left (n + 1))
    next_pass None away none = λ i j f below at_j is_j to. ⊎_elim
        (λ (old : i < n). none i j f old at_j is_j to)
        (λ (last : n ≤ i). let same : e ≡ f = same_place es ts n i k j e f at is (omega arith) at_j is_j in away (ap (λ (g : Edge). steps_at steps g.to) same ∙ to))
        (cases_lt i n)
    next_pass (Some old) away next = record {
      among = next.among;
      edge = next.edge;
      is = next.is;
      to = next.to;
      least = λ i j f below at_j is_j to. ⊎_elim
          (λ (before : i < n). next.least i j f before at_j is_j to)
          (λ (last : n ≤ i). absurd (let same : e ≡ f = same_place es ts n i k j e f at is (omega arith) at_j is_j in away (ap (λ (g : Edge). steps_at steps g.to) same ∙ to)))
          (cases_lt i n);
    }

-- the edges that are named are edges
pub next-known : (es : List Edge) (ts : List ℕ) (steps : List (Option ℕ)) (left n : ℕ) (o : Option ℕ) → MatchOption o (NoneNext es ts steps left n) (IsNextEdge es ts steps left n) → MatchOption o (Unit {0}) (λ k. k < length es)
next-known es ts steps left n None none = tt
next-known es ts steps left n (Some k) next = slice_get_within es k next.edge next.is
