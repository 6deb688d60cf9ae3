-- A critical cycle and potentials that fit show the worst rate.
use Rattle.std.proofs.Common.{◌≡◌, ℕ, zero, suc, ◌+◌, ◌*◌, ◌≤◌, ◌<◌, max, List, [], ◌∷◌, length, Option, Some, None, refl, sym, ap, subst, ◌∙◌, inl, inr, arith}
use Rattle.std.proofs.Math.Nat.{mul-le-mul_left, mul-le-mul_right}
use Rattle.std.specs.Prelude.{slice_index, ℤ, pos, negsuc, ◌+ℤ◌, ◌≤ℤ◌}
use Rattle.std.proofs.lemmas.Int.{ints}
use Rattle.std.proofs.lemmas.Bool.{cases_lt}
use Rattle.std.proofs.lemmas.List.{get_or-replicate, length-replicate}
use Rattle.sd_base.specs.declared.tables.ScenarioFile.{ScenarioFile}
use Rattle.automaton.specs.declared.graph.TimedGraph.{TimedGraph}
use Rattle.std.specs.Int.{IsGcd}
use Rattle.sd_base.specs.Scenarios.{shared_count}
use Rattle.token_matrix.specs.Matrices.{greatest}
use Rattle.automaton.specs.WorstRates.{IsWorst, IsStatePath, RunsTo, zeros}
use Rattle.automaton.specs.TimedGraphs.{IsTimedGraph}
use Rattle.automaton.specs.CriticalCycles.{IsPath, weights, IsStart, IsReachedNode, Fit, IsCritical}
use Rattle.token_matrix.proofs.EntriesGiveStamps.{greatest-least, greatest-there}
use Rattle.automaton.proofs.WalksJoinAndRepeat.{along, long_walk, slack}
use Rattle.automaton.proofs.StampsAreWeights.{from_stamps, to_stamps, Origin, Reach, edge-to}

-- a number no less than a potential
raised : Option ℤ → ℕ
raised None = 0
raised (Some (pos a)) = a
raised (Some (negsuc a)) = 0

top : (ℕ → Option ℤ) → ℕ → ℕ
top p zero = 0
top p (suc m) = max (top p m) (raised (p m))

raised-above : (o : Option ℤ) (x : ℤ) → o ≡ Some x → x ≤ℤ pos (raised o)
unfolding raised
raised-above None x h = absurd (cc)
raised-above (Some (pos a)) x h = let e : pos a ≡ x = (cc) in subst (λ (y : ℤ). y ≤ℤ pos a) e (omega (arith, ints))
raised-above (Some (negsuc a)) x h = let e : negsuc a ≡ x = (cc) in subst (λ (y : ℤ). y ≤ℤ pos 0) e (omega (arith, ints))

raised-more : (x : ℤ) (a b : ℕ) → x ≤ℤ pos a → a ≤ b → x ≤ℤ pos b
raised-more x a b h g = omega (arith, ints)

top-above : (p : ℕ → Option ℤ) (m v : ℕ) (x : ℤ) → v < m → p v ≡ Some x → x ≤ℤ pos (top p m)
unfolding top
top-above p zero v x h at = absurd (let no : ⊥ = omega arith in no)
top-above p (suc m) v x h at = elim (cases_lt v m) [
  | inl less ↦ raised-more x (top p m) (max (top p m) (raised (p m))) (top-above p m v x less at) (omega arith)
  | inr more ↦ let e : v ≡ m = omega arith in
      raised-more x (raised (p m)) (max (top p m) (raised (p m))) (raised-above (p m) x (ap p (sym e) ∙ at)) (omega arith)
]

bound : (x y : ℤ) (g m b : ℕ) → pos 0 ≤ℤ x → (x +ℤ pos g) ≤ℤ (y +ℤ pos m) → y ≤ℤ pos b → g ≤ m + b
bound x y g m b h step up = omega (arith, ints)

module _ (file : ScenarioFile) (graph : TimedGraph) (is : IsTimedGraph file graph) (l w : ℕ) (p : ℕ → Option ℤ) (fit : Fit graph l w p) where
  nodes : ℕ
  nodes = suc (length file.states) * shared_count file.shared + shared_count file.shared

  starts_at : (i : ℕ) → i < shared_count file.shared → IsStart graph (file.initial * shared_count file.shared + i)
  starts_at i h = (
    i,
    subst (λ (n : ℕ). i < n) (sym is.tokens) h,
    ap (λ (n : ℕ). file.initial * n + i) (sym is.tokens) ∙ ap (λ (q : ℕ). q * graph.tokens + i) (sym is.initial),
  )

  -- where a walk ends
  end-below : (ks : List ℕ) (k u v : ℕ) → IsPath graph.edges u (k ∷ ks) v → v < nodes
  unfolding nodes
  end-below [] k u v (e, at, from, same) =
      let t = edge-to file graph is k e at in
      let r : t.0 < length file.states = t.2 in
      let j : t.1 < shared_count file.shared = t.3 in
      let to : e.to ≡ t.0 * shared_count file.shared + t.1 = t.4 in
      let rows : t.0 * shared_count file.shared ≤ length file.states * shared_count file.shared = mul-le-mul_right (shared_count file.shared) (let g : t.0 ≤ length file.states = omega arith in g) in
      let whole : suc (length file.states) * shared_count file.shared ≡ length file.states * shared_count file.shared + shared_count file.shared = omega arith in
      omega (arith, same)
  end-below (m ∷ ks) k u v (e, at, from, rest) = end-below ks m e.to v rest

  heaviest : (ks : List ℕ) (k i v : ℕ) → i < shared_count file.shared → IsPath graph.edges (file.initial * shared_count file.shared + i) (k ∷ ks) v
      → weights graph.edges (k ∷ ks) * l ≤ w * suc (length ks) + top p nodes
  heaviest ks k i v below path =
      let start = starts_at i below in
      let reached : IsReachedNode graph (file.initial * shared_count file.shared + i) = (file.initial * shared_count file.shared + i, [], start, refl) in
      let x = fit.there (file.initial * shared_count file.shared + i) reached in
      let a = along graph l w p fit (k ∷ ks) (file.initial * shared_count file.shared + i) v x.0 reached x.1 path in
      bound x.0 a.0 (weights graph.edges (k ∷ ks) * l) (w * suc (length ks)) (top p nodes) (fit.starts (file.initial * shared_count file.shared + i) x.0 start x.1) a.2
      (top-above p nodes v a.0 (end-below ks k (file.initial * shared_count file.shared + i) v path) a.1)

  -- the stamps after a round are as many as there are shared tokens
  run-long : (qs : List ℕ) (q : ℕ) (x y : List ℕ) → RunsTo file x (q ∷ qs) y → length y ≡ shared_count file.shared
  run-long [] q x y (z, (s, there, row, row_at, gamma, least, stamps), same) = ap (λ (t : List ℕ). length t) same ∙ stamps.after
  run-long (r ∷ qs) q x y (z, run, rest) = run-long qs r z y rest

  zero-at : (i : ℕ) → i < shared_count file.shared → slice_index (zeros file) i ≡ 0
  zero-at i h = get_or-replicate (shared_count file.shared) i 0 0 h

  of_walk : (ks : List ℕ) (i v m stamp : ℕ) → i < shared_count file.shared → IsPath graph.edges (file.initial * shared_count file.shared + i) ks v → length ks ≡ suc m
      → slice_index (zeros file) i + weights graph.edges ks ≡ stamp → l * stamp ≤ w * suc m + top p nodes
  of_walk [] i v m stamp below path long sum = absurd (let no : ⊥ = omega arith in no)
  of_walk (k ∷ ks) i v m stamp below path long sum =
      let z : slice_index (zeros file) i ≡ 0 = zero-at i below in
      let heavy : weights graph.edges (k ∷ ks) * l ≤ w * suc (length ks) + top p nodes = heaviest ks k i v below path in
      let same : length ks ≡ m = omega arith in
      plain l w (weights graph.edges (k ∷ ks)) (length ks) m (top p nodes) stamp (slice_index (zeros file) i) z sum same heavy
    where
      plain : (l w g n m t stamp z : ℕ) → z ≡ 0 → z + g ≡ stamp → n ≡ m → g * l ≤ w * suc n + t → l * stamp ≤ w * suc m + t
      plain l w g n m t stamp z none sum same h =
          let a : stamp ≡ g = omega arith in
          let b : l * stamp ≡ l * g = ap (λ (k : ℕ). l * k) a in
          let c : w * suc n ≡ w * suc m = ap (λ (k : ℕ). w * suc k) same in omega arith

  -- no path takes longer than the potentials allow
  above : (qs y : List ℕ) → IsStatePath file qs → RunsTo file (zeros file) qs y → l * greatest y ≤ w * length qs + top p nodes
  above [] y path same =
      elim (greatest-there y) [
        | inl none ↦ (let e : l * greatest y ≡ l * 0 = ap (λ (m : ℕ). l * m) none in omega arith)
        | inr (j, below, is_it) ↦
            (let long : length y ≡ shared_count file.shared = ap (λ (t : List ℕ). length t) same ∙ length-replicate (shared_count file.shared) 0 in
            let z : slice_index y j ≡ 0 = ap (λ (t : List ℕ). slice_index t j) same ∙ zero-at j (omega arith) in
            let e : l * greatest y ≡ l * 0 = ap (λ (m : ℕ). l * m) (let g : greatest y ≡ 0 = omega arith in g) in omega arith)
      ]
  above (q ∷ qs) y (first, follow) runs =
      elim (greatest-there y) [
        | inl none ↦ (let e : l * greatest y ≡ l * 0 = ap (λ (m : ℕ). l * m) none in omega arith)
        | inr (j, below, is_it) ↦
            (let o : Origin file graph is q (zeros file) (suc (length qs)) (slice_index y j) =
            from_stamps file graph is qs q (zeros file) y (subst (λ (m : ℕ). m < length file.states) (sym first) is.leads_on.initial) follow runs j
            (let long : length y ≡ shared_count file.shared = run-long qs q (zeros file) y runs in let g : j < shared_count file.shared = omega arith in g) in
            of_walk o.walk o.i o.end (length qs) (greatest y) o.within
            (subst (λ (m : ℕ). IsPath graph.edges (m * shared_count file.shared + o.i) o.walk o.end) first o.path) o.steps (o.sum ∙ is_it))
      ]

  -- and for each number of states some path takes as long as the cycle
  pub record Reaches (b n : ℕ) : Type 0 where
    pub states : List ℕ
    pub stamps : List ℕ
    pub path : IsStatePath file states
    pub long : length states ≡ n
    pub runs : RunsTo file (zeros file) states stamps
    pub late : w * n ≤ l * greatest stamps + b

  of_long : (ks : List ℕ) (i v m b : ℕ) → i < shared_count file.shared → IsPath graph.edges (file.initial * shared_count file.shared + i) ks v → length ks ≡ suc m
      → w * suc m ≤ l * weights graph.edges ks + b → Reaches b (suc m)
  of_long [] i v m b below path long heavy = absurd (let no : ⊥ = omega arith in no)
  of_long (k ∷ ks) i v m b below path long heavy =
      let r : Reach file graph is file.initial i (zeros file) (length ks) (weights graph.edges (k ∷ ks)) =
      to_stamps file graph is ks k file.initial i v (zeros file) below (length-replicate (shared_count file.shared) 0) path in
      let z : slice_index (zeros file) i ≡ 0 = zero-at i below in
      let up : slice_index (zeros file) i + weights graph.edges (k ∷ ks) ≤ slice_index r.stamps r.token = r.above in
      let most : slice_index r.stamps r.token ≤ greatest r.stamps = greatest-least r.stamps r.token in
      let more : l * weights graph.edges (k ∷ ks) ≤ l * greatest r.stamps = mul-le-mul_left l (let g : weights graph.edges (k ∷ ks) ≤ greatest r.stamps = omega arith in g) in
      record {
        states = file.initial ∷ r.states;
        stamps = r.stamps;
        path = (refl, r.follow);
        long = (let a : length r.states ≡ length ks = r.steps in let c : suc (length r.states) ≡ suc m = omega arith in c);
        runs = r.runs;
        late = omega arith;
      }

  reached_by : (cycle : List ℕ) → IsCritical graph l w cycle → (b : ℕ) × ((n : ℕ) → Reaches b n)
  reached_by cycle critical = of_start critical.reached
    where
      of_number : (n i : ℕ) (front : List ℕ) (path : IsPath graph.edges (file.initial * shared_count file.shared + i) front critical.node) → i < shared_count file.shared
          → Reaches (slack graph.edges (file.initial * shared_count file.shared + i) critical.node l w front cycle path critical.closed critical.some critical.rate) n
      of_number zero i front path inside = record { states = []; stamps = zeros file; path = tt; long = refl; runs = refl; late = omega arith }
      of_number (suc m) i front path inside =
          let k = long_walk graph.edges (file.initial * shared_count file.shared + i) critical.node l w front cycle path critical.closed critical.some critical.rate (suc m) in
          of_long k.walk i k.end m (slack graph.edges (file.initial * shared_count file.shared + i) critical.node l w front cycle path critical.closed critical.some critical.rate) inside k.path k.long k.heavy

      of_start : IsReachedNode graph critical.node → (b : ℕ) × ((n : ℕ) → Reaches b n)
      of_start (s, front, (i, below, at), to) =
          let path : IsPath graph.edges (file.initial * shared_count file.shared + i) front critical.node =
          subst (λ (u : ℕ). IsPath graph.edges u front critical.node) (at ∙ ap (λ (n : ℕ). graph.initial * n + i) is.tokens ∙ ap (λ (q : ℕ). q * shared_count file.shared + i) is.initial) to in
          let inside : i < shared_count file.shared = subst (λ (n : ℕ). i < n) is.tokens below in
          let b : ℕ = slack graph.edges (file.initial * shared_count file.shared + i) critical.node l w front cycle path critical.closed critical.some critical.rate in
          (b, λ n. of_number n i front path inside)

pub worst_is_shown : (file : ScenarioFile) (graph : TimedGraph) (l w : ℕ) (cycle : List ℕ) (p : ℕ → Option ℤ) → IsTimedGraph file graph
    → 1 ≤ l → 1 ≤ w → IsGcd l w 1 → IsCritical graph l w cycle → Fit graph l w p → IsWorst file l w
worst_is_shown file graph l w cycle p is some_round some_time lowest critical fit =
    let r = reached_by file graph is l w p fit cycle critical in
    let t : ℕ = top p (nodes file graph is l w p fit) in
    record {
      some_round = some_round;
      some_time = some_time;
      lowest = lowest;
      slack = t + r.0;
      bounds = record {
        above = λ qs y path runs. (let h : l * greatest y ≤ w * length qs + top p (nodes file graph is l w p fit) = above file graph is l w p fit qs y path runs in omega arith);
        reached = λ n. (let h = r.1 n in (h.states, h.stamps, h.path, h.long, h.runs, (let g : w * n ≤ l * greatest h.stamps + r.0 = h.late in omega arith)));
      };
    }
