-- What the rows of a search say of walks, and what a search that has settled shows.
use Rattle.std.proofs.Common.{◌≡◌, ℕ, zero, suc, ◌+◌, ◌*◌, ◌≤◌, ◌<◌, List, [], ◌∷◌, ◌++◌, length, Option, Some, None, refl, sym, ap, subst, ◌∙◌, arith, length-append}
use Rattle.std.specs.Prelude.{slice_get, ℤ, pos, ◌+ℤ◌, ◌-ℤ◌, ◌≤ℤ◌}
use Rattle.std.proofs.lemmas.Int.{ints}
use Rattle.std.proofs.lemmas.Option.{slice_get_within}
use Rattle.sd_base.proofs.ElementsKeepPlaces.{get-there}
use Rattle.automaton.specs.declared.graph.Edge.{Edge}
use Rattle.automaton.specs.declared.graph.TimedGraph.{TimedGraph}
use Rattle.automaton.specs.CriticalCycles.{IsPath, weights, weight_in, IsStart, IsReachedNode, Fit}
use Rattle.automaton.proofs.WalksJoinAndRepeat.{path-append, weights-append, along}
use Rattle.scenario_rate.specs.declared.levels.Cell.{Cell}
use Rattle.scenario_rate.specs.inside.Levels.{cell_at, IsRaised}
use Rattle.scenario_rate.specs.inside.Searches.{IsScored, AreLevels, IsLast, potential_of}

-- a walk of some edges, and its last one
pub record LastEdge (es : List Edge) (u : ℕ) (ks : List ℕ) (v : ℕ) : Type 0 where
  pub front : List ℕ
  pub number : ℕ
  pub edge : Edge
  pub at : slice_get es number ≡ Some edge
  pub to : edge.to ≡ v
  pub path : IsPath es u front edge.from
  pub sum : weights es ks ≡ weights es front + edge.weight
  pub long : length ks ≡ length front + 1

pub last-edge : (es : List Edge) (ks : List ℕ) (k u v : ℕ) → IsPath es u (k ∷ ks) v → LastEdge es u (k ∷ ks) v
last-edge es [] k u v (e, is, from, rest) = record {
  front = [];
  number = k;
  edge = e;
  at = is;
  to = rest;
  path = from;
  sum = (let s : weight_in (slice_get es k) ≡ e.weight = ap weight_in is in omega arith);
  long = (let g : suc 0 ≡ 0 + 1 = omega arith in g);
}
last-edge es (m ∷ ks) k u v (e, is, from, rest) = let r = last-edge es ks m e.to v rest in
    record {
      front = k ∷ r.front;
      number = r.number;
      edge = r.edge;
      at = r.at;
      to = r.to;
      path = (e, is, from, r.path);
      sum = (let s : weights es (m ∷ ks) ≡ weights es r.front + r.edge.weight = r.sum in
          let g : weight_in (slice_get es k) + weights es (m ∷ ks) ≡ weight_in (slice_get es k) + weights es r.front + r.edge.weight = omega arith in g);
      long = (let s : length (m ∷ ks) ≡ length r.front + 1 = r.long in let g : suc (length (m ∷ ks)) ≡ suc (length r.front) + 1 = omega arith in g);
    }

one-more : (a b c d l w s : ℕ) → c ≡ a + b → a * l + w * d ≤ s → c * l + w * d ≤ s + b * l
one-more a b c d l w s e h = let m : c * l ≡ (a + b) * l = ap (λ n. n * l) e in omega arith

one-less : (a l w m s t : ℕ) → a * l + w * m ≤ s → s + w ≤ t → a * l + w * suc m ≤ t
one-less a l w m s t h g = omega arith

-- what is known of a score that one level gives
pub scored-stayed : (graph : TimedGraph) (l w k v : ℕ) (walk : List ℕ) (s s' : ℕ) → IsScored graph l w k walk v s → s' ≡ s + w → IsScored graph l w (k + 1) walk v s'
scored-stayed graph l w k v walk s s' (u, m, start, path, long, is) e = (u, m + 1, start, path, omega arith, omega arith)

pub scored-came : (graph : TimedGraph) (l w k v : ℕ) (walk : List ℕ) (s s' number : ℕ) (e : Edge) → IsScored graph l w k walk e.from s
    → slice_get graph.edges number ≡ Some e → e.to ≡ v → s' ≡ s + e.weight * l → IsScored graph l w (k + 1) (walk ++ number ∷ []) v s'
scored-came graph l w k v walk s s' number e (u, m, start, path, long, is) at to eq = (
  u,
  m,
  start,
  path-append graph.edges walk (number ∷ []) u e.from v path (e, at, refl, to),
  (let a : length (walk ++ number ∷ []) ≡ length walk + 1 = length-append walk (number ∷ []) in omega arith),
  (let a : weights graph.edges (walk ++ number ∷ []) ≡ weights graph.edges walk + weights graph.edges (number ∷ []) = weights-append graph.edges walk (number ∷ []) in
      let b : weight_in (slice_get graph.edges number) ≡ e.weight = ap weight_in at in
      let c : weights graph.edges (number ∷ []) ≡ weight_in (slice_get graph.edges number) + 0 = refl in
      sums (weights graph.edges (walk ++ number ∷ [])) (weights graph.edges walk) e.weight l w m s s' (omega arith) is eq),
)
  where
    sums : (c a b l w m s s' : ℕ) → c ≡ a + b → s ≡ a * l + w * m → s' ≡ s + b * l → s' ≡ c * l + w * m
    sums c a b l w m s s' h g e = let x : c * l ≡ (a + b) * l = ap (λ n. n * l) h in omega arith

module _ (graph : TimedGraph) (l w : ℕ) (rows : List (List (Option Cell))) (levels : AreLevels graph l w rows) where
  inside : (xs : List (List (Option Cell))) (k : ℕ) (row : List (Option Cell)) → slice_get xs k ≡ Some row → k < length xs
  inside [] k row h = absurd (let no : ◌≡◌ {A = Option (List (Option Cell))} None (Some row) = h in (cc))
  inside (x ∷ xs) zero row h = (let g : 0 < suc (length xs) = omega arith in g)
  inside (x ∷ xs) (suc k) row h = (let i : k < length xs = inside xs k row h in let g : suc k < suc (length xs) = omega arith in g)

  -- the row before one
  pub before : (k : ℕ) (row : List (Option Cell)) → slice_get rows (suc k) ≡ Some row
      → (last : List (Option Cell)) × (slice_get rows k ≡ Some last) × IsRaised graph.edges (length graph.edges) l w (cell_at last) (cell_at row)
  before k row at = let b : suc k < length rows = inside rows (suc k) row at in
      let r = get-there rows k (omega arith) in
      (r.0, r.1, levels.more k r.0 row r.1 (ap (λ n. slice_get rows n) (let e : k + 1 ≡ suc k = omega arith in e) ∙ at))

  -- each score is that of a walk
  pub scored : (k : ℕ) (row : List (Option Cell)) (v : ℕ) (c : Cell) → slice_get rows k ≡ Some row → cell_at row v ≡ Some c
      → (walk : List ℕ) × IsScored graph l w k walk v c.score
  scored zero row v c at is = let f = levels.first row at in ([], (v, 0, f.start v c is, refl, refl, (let z : c.score ≡ 0 = f.zero_score v c is in omega arith)))
  scored (suc k) row v c at is = let b = before k row at in go (scored k b.0) b.1 b.2 c.edge refl
    where
      go : {last : List (Option Cell)} → ((u : ℕ) (x : Cell) → slice_get rows k ≡ Some last → cell_at last u ≡ Some x → (walk : List ℕ) × IsScored graph l w k walk u x.score)
          → slice_get rows k ≡ Some last → IsRaised graph.edges (length graph.edges) l w (cell_at last) (cell_at row) → (o : Option ℕ) → c.edge ≡ o
          → (walk : List ℕ) × IsScored graph l w (suc k) walk v c.score
      go back there raised None none = let s = raised.stayed v c is none in let r = back v s.0 there s.1 in
          (r.0, subst (λ n. IsScored graph l w n r.0 v c.score) (let e : k + 1 ≡ suc k = omega arith in e) (scored-stayed graph l w k v r.0 s.0.score c.score r.1 s.2))
      go back there raised (Some number) some = let s = raised.came v c number is some in let r = back s.0.from s.1 there s.4 in (
        r.0 ++ number ∷ [],
        subst (λ n. IsScored graph l w n (r.0 ++ number ∷ []) v c.score) (let e : k + 1 ≡ suc k = omega arith in e)
            (scored-came graph l w k v r.0 s.1.score c.score number s.0 r.1 s.2 s.3 s.5),
      )

  -- and no walk has a better one
  pub upper : (k : ℕ) (row : List (Option Cell)) (ks : List ℕ) (s v m : ℕ) → slice_get rows k ≡ Some row → IsStart graph s → IsPath graph.edges s ks v → length ks + m ≡ k
      → (c : Cell) × (cell_at row v ≡ Some c) × (weights graph.edges ks * l + w * m ≤ c.score)
  upper zero row [] s v m at start path long = let f = (levels.first row at).there s start in
      (f.0, ap (cell_at row) (sym path) ∙ f.1, (let z : m ≡ 0 = omega arith in let q : w * m ≡ w * 0 = ap (λ n. w * n) z in (let g : 0 * l + w * m ≤ f.0.score = omega arith in g)))
  upper zero row (k ∷ ks) s v m at start path long = absurd (let no : ⊥ = omega arith in no)
  upper (suc k) row ks s v (suc m) at start path long =
      let b = before k row at in
      let r = upper k b.0 ks s v m b.1 start path (omega arith) in
      let n = b.2.kept v r.0 r.1 in
      (n.0, n.1, one-less (weights graph.edges ks) l w m r.0.score n.0.score r.2 n.2)
  upper (suc k) row [] s v zero at start path long = absurd (let no : ⊥ = omega arith in no)
  upper (suc k) row (x ∷ ks) s v zero at start path long =
      let b = before k row at in
      let e = last-edge graph.edges ks x s v path in
      let r = upper k b.0 e.front s e.edge.from 0 b.1 start e.path (let a : length (x ∷ ks) ≡ length e.front + 1 = e.long in omega arith) in
      let n = b.2.over e.number e.edge r.0 (slice_get_within graph.edges e.number e.edge e.at) e.at r.1 in
      let low : weights graph.edges (x ∷ ks) * l + w * 0 ≤ r.0.score + e.edge.weight * l = one-more (weights graph.edges e.front) e.edge.weight (weights graph.edges (x ∷ ks)) 0 l w r.0.score e.sum r.2 in
      let up : r.0.score + e.edge.weight * l ≤ n.0.score = n.2 in
      (n.0, ap (cell_at row) (sym e.to) ∙ n.1, (let g : weights graph.edges (x ∷ ks) * l + w * 0 ≤ n.0.score = omega arith in g))

-- a search that has settled
module _ (graph : TimedGraph) (l w : ℕ) (rows : List (List (Option Cell))) (levels : AreLevels graph l w rows) (k : ℕ) (row : List (Option Cell))
    (last : IsLast graph l w rows k row) where
  -- the next level is worth w more, and no more
  again : (v : ℕ) (c' : Cell) → cell_at last.next v ≡ Some c' → (c : Cell) × (cell_at row v ≡ Some c) × (c'.score ≡ c.score + w)
  again v c' at = last.raised.stayed v c' at (last.settled v c' at)

  pub over : (n : ℕ) (e : Edge) (c : Cell) → n < length graph.edges → slice_get graph.edges n ≡ Some e → cell_at row e.from ≡ Some c
      → (d : Cell) × (cell_at row e.to ≡ Some d) × (c.score + e.weight * l ≤ d.score + w)
  over n e c below at is = let o = last.raised.over n e c below at is in let a = again e.to o.0 o.1 in
      (a.0, a.1, (let x : o.0.score ≡ a.0.score + w = a.2 in let y : c.score + e.weight * l ≤ o.0.score = o.2 in omega arith))

  pub along-path : (ks : List ℕ) (u v : ℕ) (c : Cell) → cell_at row u ≡ Some c → IsPath graph.edges u ks v → (d : Cell) × (cell_at row v ≡ Some d)
  along-path [] u v c at path = (c, ap (cell_at row) (sym path) ∙ at)
  along-path (x ∷ ks) u v c at (e, is, from, rest) =
      let o = over x e c (slice_get_within graph.edges x e is) is (ap (cell_at row) (sym from) ∙ at) in along-path ks e.to v o.0 o.1 rest

  some-potential : (o : Option Cell) (x : ℤ) → potential_of (k * w) o ≡ Some x → (c : Cell) × (o ≡ Some c) × (x ≡ pos c.score -ℤ pos (k * w))
  some-potential None x h = absurd (cc)
  some-potential (Some c) x h = (c, refl, (let e : pos c.score -ℤ pos (k * w) ≡ x = (cc) in sym e))

  zero-or-more : (x : ℤ) (s l w k : ℕ) → x ≡ pos s -ℤ pos (k * w) → 0 * l + w * k ≤ s → pos 0 ≤ℤ x
  zero-or-more x s l w k e h = let c : w * k ≡ k * w = omega arith in omega (arith, ints)

  stepped : (x y : ℤ) (s t a w b : ℕ) → x ≡ pos s -ℤ pos b → y ≡ pos t -ℤ pos b → s + a ≤ t + w → (x +ℤ pos a) ≤ℤ (y +ℤ pos w)
  stepped x y s t a w b e f h = omega (arith, ints)

  pub fit : Fit graph l w (λ v. potential_of (k * w) (cell_at row v))
  fit = record {
    there = λ v (s, ks, start, path).
        (let u = upper graph l w rows levels k row [] s s k last.at start refl (let g : 0 + k ≡ k = omega arith in g) in
        let d = along-path ks s v u.0 u.1 path in (pos d.0.score -ℤ pos (k * w), ap (potential_of (k * w)) d.1));
    starts = λ v x start at.
        (let u = upper graph l w rows levels k row [] v v k last.at start refl (let g : 0 + k ≡ k = omega arith in g) in
        let p = some-potential (cell_at row v) x at in
        let same : u.0 ≡ p.0 = (let e : ◌≡◌ {A = Option Cell} (Some u.0) (Some p.0) = sym u.1 ∙ p.1 in (cc)) in
        zero-or-more x p.0.score l w k p.2 (subst (λ (c : Cell). 0 * l + w * k ≤ c.score) same u.2));
    steps = λ n e x y reached at px py.
        (let p = some-potential (cell_at row e.from) x px in
        let q = some-potential (cell_at row e.to) y py in
        let o = over n e p.0 (slice_get_within graph.edges n e at) at p.1 in
        let same : o.0 ≡ q.0 = (let z : ◌≡◌ {A = Option Cell} (Some o.0) (Some q.0) = sym o.1 ∙ q.1 in (cc)) in
        stepped x y p.0.score q.0.score (e.weight * l) w (k * w) p.2 q.2 (subst (λ (c : Cell). p.0.score + e.weight * l ≤ c.score + w) same o.2));
  }

  -- a potential is there at reached nodes alone
  pub only-reached : (v : ℕ) (x : ℤ) → potential_of (k * w) (cell_at row v) ≡ Some x → IsReachedNode graph v
  only-reached v x at = let p = some-potential (cell_at row v) x at in
      let s = scored graph l w rows levels k row v p.0 last.at p.1 in go s.0 s.1
    where
      go : (walk : List ℕ) {s : ℕ} → IsScored graph l w k walk v s → IsReachedNode graph v
      go walk (u, m, start, path, long, is) = (u, walk, start, path)

  lowest : (x y z : ℤ) (s a n m l w k : ℕ) → x ≡ pos s -ℤ pos (k * w) → s ≡ a * l + w * m → n + m ≡ k → pos 0 ≤ℤ z → (z +ℤ pos (a * l)) ≤ℤ (y +ℤ pos (w * n)) → x ≤ℤ y
  lowest x y z s a n m l w k e f g low h = let c : k * w ≡ w * n + w * m = (let q : (n + m) * w ≡ k * w = ap (λ j. j * w) g in omega arith) in omega (arith, ints)

  -- and it is the least there
  pub least : (q : ℕ → Option ℤ) → Fit graph l w q → (v : ℕ) (x y : ℤ) → potential_of (k * w) (cell_at row v) ≡ Some x → q v ≡ Some y → x ≤ℤ y
  least q fits v x y at py = let p = some-potential (cell_at row v) x at in
      let s = scored graph l w rows levels k row v p.0 last.at p.1 in go p.0 p.2 s.0 s.1
    where
      go : (c : Cell) → x ≡ pos c.score -ℤ pos (k * w) → (walk : List ℕ) → IsScored graph l w k walk v c.score → x ≤ℤ y
      go c e walk (u, m, start, path, long, is) =
          let there = fits.there u (u, [], start, refl) in
          let a = along graph l w q fits walk u v there.0 (u, [], start, refl) there.1 path in
          let same : a.0 ≡ y = (let z : ◌≡◌ {A = Option ℤ} (Some a.0) (Some y) = sym a.1 ∙ py in (cc)) in
          lowest x y there.0 c.score (weights graph.edges walk) (length walk) m l w k e is long (fits.starts u there.0 start there.1)
          (subst (λ (t : ℤ). (there.0 +ℤ pos (weights graph.edges walk * l)) ≤ℤ (t +ℤ pos (w * length walk))) same a.2)
