-- Walks over edges: joined, cut, and repeated; and potentials along them.
use Rattle.std.proofs.Common.{◌≡◌, ℕ, zero, suc, ◌+◌, ◌*◌, ◌-◌, ◌≤◌, ◌<◌, List, [], ◌∷◌, ◌++◌, length, take, Option, Some, refl, sym, ap, subst, ◌∙◌, inl, inr, arith, length-append}
use Rattle.std.proofs.Math.Nat.{mul-le-mul_left, mul-le-mul_right}
use Rattle.std.specs.Prelude.{slice_get, ℤ, pos, ◌+ℤ◌, ◌≤ℤ◌}
use Rattle.std.proofs.lemmas.Int.{ints}
use Rattle.std.proofs.lemmas.Bool.{cases_lt}
use Rattle.std.proofs.lemmas.List.{length-take-le}
use Rattle.automaton.specs.declared.graph.Edge.{Edge}
use Rattle.automaton.specs.declared.graph.TimedGraph.{TimedGraph}
use Rattle.automaton.specs.CriticalCycles.{IsPath, weights, weight_in, IsReachedNode, Fit, IsStart}

pub path-append : (es : List Edge) (ks ls : List ℕ) (u v x : ℕ) → IsPath es u ks v → IsPath es v ls x → IsPath es u (ks ++ ls) x
path-append es [] ls u v x h g = subst (λ n. IsPath es n ls x) (sym h) g
path-append es (k ∷ ks) ls u v x (e, is, from, rest) g = (e, is, from, path-append es ks ls e.to v x rest g)

pub weights-append : (es : List Edge) (ks ls : List ℕ) → weights es (ks ++ ls) ≡ weights es ks + weights es ls
weights-append es [] ls = omega arith
weights-append es (k ∷ ks) ls = let h : weights es (ks ++ ls) ≡ weights es ks + weights es ls = weights-append es ks ls in omega arith

-- the first edges of a walk are a walk
pub path-take : (es : List Edge) (n : ℕ) (ks : List ℕ) (u v : ℕ) → IsPath es u ks v → (x : ℕ) × IsPath es u (take n ks) x
path-take es zero ks u v h = (u, refl)
path-take es (suc n) [] u v h = (u, refl)
path-take es (suc n) (k ∷ ks) u v (e, is, from, rest) = let r = path-take es n ks e.to v rest in (r.0, (e, is, from, r.1))

-- a list n times
unfoldable pub laps : ℕ → List ℕ → List ℕ
laps zero ks = []
laps (suc n) ks = ks ++ laps n ks

pub path-laps : (es : List Edge) (n : ℕ) (ks : List ℕ) (u : ℕ) → IsPath es u ks u → IsPath es u (laps n ks) u
unfolding laps
path-laps es zero ks u h = refl
path-laps es (suc n) ks u h = path-append es ks (laps n ks) u u u h (path-laps es n ks u h)

pub length-laps : (n : ℕ) (ks : List ℕ) → length (laps n ks) ≡ n * length ks
unfolding laps
length-laps zero ks = omega arith
length-laps (suc n) ks = let h : length (laps n ks) ≡ n * length ks = length-laps n ks in
    let a : length (ks ++ laps n ks) ≡ length ks + length (laps n ks) = length-append ks (laps n ks) in omega arith

pub weights-laps : (es : List Edge) (n : ℕ) (ks : List ℕ) → weights es (laps n ks) ≡ n * weights es ks
unfolding laps
weights-laps es zero ks = omega arith
weights-laps es (suc n) ks = let h : weights es (laps n ks) ≡ n * weights es ks = weights-laps es n ks in
    let a : weights es (ks ++ laps n ks) ≡ weights es ks + weights es (laps n ks) = weights-append es ks (laps n ks) in omega arith

-- a number as laps of a length and a rest
pub record Split (n m : ℕ) : Type 0 where
  pub turns : ℕ
  pub rest : ℕ
  pub short : rest < m
  pub is : n ≡ turns * m + rest

pub split : (n m : ℕ) → 0 < m → Split n m
split zero m some = record { turns = 0; rest = 0; short = some; is = omega arith }
split (suc n) m some = let s = split n m some in
    let e : n ≡ s.turns * m + s.rest = s.is in
    let b : s.rest < m = s.short in
    elim (cases_lt (s.rest + 1) m) [
      | inl h ↦ record { turns = s.turns; rest = s.rest + 1; short = h; is = omega arith }
      | inr h ↦ record { turns = s.turns + 1; rest = 0; short = some; is = omega arith }
    ]

-- a walk of each length, of at least the rate of a cycle up to a constant
pub record Long (es : List Edge) (s l w b n : ℕ) : Type 0 where
  pub walk : List ℕ
  pub end : ℕ
  pub path : IsPath es s walk end
  pub long : length walk ≡ n
  pub heavy : w * n ≤ l * weights es walk + b

module _ (es : List Edge) (s u l w : ℕ) (front cycle : List ℕ) (to : IsPath es s front u) (closed : IsPath es u cycle u) (some : 1 ≤ length cycle)
    (rate : weights es cycle * l ≡ w * length cycle) where
  pub slack : ℕ
  slack = w * (length front + length cycle)

  within_front : (n : ℕ) → n < length front → Long es s l w slack n
  unfolding slack
  within_front n h =
      let p = path-take es n front s u to in
      record {
        walk = take n front;
        end = p.0;
        path = p.1;
        long = length-take-le n front (omega arith);
        heavy =
            (let more : w * n ≤ w * (length front + length cycle) = mul-le-mul_left w (let g : n ≤ length front + length cycle = omega arith in g) in omega arith);
      }

  round_cycle : (n : ℕ) → length front ≤ n → Long es s l w slack n
  unfolding slack
  round_cycle n h =
      let cut = split (n - length front) (length cycle) some in
      let e : n - length front ≡ cut.turns * length cycle + cut.rest = cut.is in
      let b : cut.rest < length cycle = cut.short in
      let p = path-take es cut.rest cycle u u closed in
      let tail : IsPath es u (laps cut.turns cycle ++ take cut.rest cycle) p.0 =
      path-append es (laps cut.turns cycle) (take cut.rest cycle) u u p.0 (path-laps es cut.turns cycle u closed) p.1 in
      let whole : List ℕ = front ++ (laps cut.turns cycle ++ take cut.rest cycle) in
      let l1 : length (front ++ (laps cut.turns cycle ++ take cut.rest cycle)) ≡ length front + length (laps cut.turns cycle ++ take cut.rest cycle) = length-append front (laps cut.turns cycle ++ take cut.rest cycle) in
      let l2 : length (laps cut.turns cycle ++ take cut.rest cycle) ≡ length (laps cut.turns cycle) + length (take cut.rest cycle) = length-append (laps cut.turns cycle) (take cut.rest cycle) in
      let l3 : length (laps cut.turns cycle) ≡ cut.turns * length cycle = length-laps cut.turns cycle in
      let l4 : length (take cut.rest cycle) ≡ cut.rest = length-take-le cut.rest cycle (omega arith) in
      let w1 : weights es (front ++ (laps cut.turns cycle ++ take cut.rest cycle)) ≡ weights es front + weights es (laps cut.turns cycle ++ take cut.rest cycle) = weights-append es front (laps cut.turns cycle ++ take cut.rest cycle) in
      let w2 : weights es (laps cut.turns cycle ++ take cut.rest cycle) ≡ weights es (laps cut.turns cycle) + weights es (take cut.rest cycle) = weights-append es (laps cut.turns cycle) (take cut.rest cycle) in
      let w3 : weights es (laps cut.turns cycle) ≡ cut.turns * weights es cycle = weights-laps es cut.turns cycle in
      let r : cut.turns * (weights es cycle * l) ≡ cut.turns * (w * length cycle) = ap (λ (m : ℕ). cut.turns * m) rate in
      let low : l * (cut.turns * weights es cycle) ≤ l * weights es (front ++ (laps cut.turns cycle ++ take cut.rest cycle)) = mul-le-mul_left l (let g : cut.turns * weights es cycle ≤ weights es (front ++ (laps cut.turns cycle ++ take cut.rest cycle)) = omega arith in g) in
      let size : n ≤ length front + (cut.turns * length cycle + length cycle) = omega arith in
      let up : w * n ≤ w * (length front + (cut.turns * length cycle + length cycle)) = mul-le-mul_left w size in
      record {
        walk = front ++ (laps cut.turns cycle ++ take cut.rest cycle);
        end = p.0;
        path = path-append es front (laps cut.turns cycle ++ take cut.rest cycle) s u p.0 to tail;
        long = omega arith;
        heavy = heavier l w n (length front) (length cycle) cut.turns (weights es cycle) (weights es (front ++ (laps cut.turns cycle ++ take cut.rest cycle))) r low up;
      }
    where
      heavier : (l w n a c t x y : ℕ) → t * (x * l) ≡ t * (w * c) → l * (t * x) ≤ l * y → w * n ≤ w * (a + (t * c + c)) → w * n ≤ l * y + w * (a + c)
      heavier l w n a c t x y r low up = omega arith

  pub long_walk : (n : ℕ) → Long es s l w slack n
  long_walk n = elim (cases_lt n (length front)) [ inl h ↦ within_front n h | inr h ↦ round_cycle n h ]

-- one more edge under potentials
step : (x y z : ℤ) (a b w c : ℕ) → (x +ℤ pos a) ≤ℤ (y +ℤ pos w) → (y +ℤ pos b) ≤ℤ (z +ℤ pos c) → (x +ℤ pos (a + b)) ≤ℤ (z +ℤ pos (w + c))
step x y z a b w c h g = omega (arith, ints)

none : (x : ℤ) → (x +ℤ pos 0) ≤ℤ (x +ℤ pos 0)
none x = omega (arith, ints)

reached-more : (graph : TimedGraph) (u : ℕ) (k : ℕ) (e : Edge) → IsReachedNode graph u → slice_get graph.edges k ≡ Some e → u ≡ e.from → IsReachedNode graph e.to
reached-more graph u k e (s, ks, start, path) is from = (s, ks ++ k ∷ [], start, path-append graph.edges ks (k ∷ []) s u e.to path (e, is, from, refl))

-- potentials that fit bound the weights along a walk
pub along : (graph : TimedGraph) (l w : ℕ) (p : ℕ → Option ℤ) → Fit graph l w p → (ks : List ℕ) (u v : ℕ) (x : ℤ) → IsReachedNode graph u → p u ≡ Some x → IsPath graph.edges u ks v
    → (y : ℤ) × (p v ≡ Some y) × ((x +ℤ pos (weights graph.edges ks * l)) ≤ℤ (y +ℤ pos (w * length ks)))
along graph l w p fit [] u v x reached at h = (x, ap p (sym h) ∙ at, (let z : (x +ℤ pos 0) ≤ℤ (x +ℤ pos 0) = none x in nothing x l w z))
  where
    nothing : (x : ℤ) (l w : ℕ) → (x +ℤ pos 0) ≤ℤ (x +ℤ pos 0) → (x +ℤ pos (0 * l)) ≤ℤ (x +ℤ pos (w * 0))
    nothing x l w h = omega (arith, ints)
along graph l w p fit (k ∷ ks) u v x reached at (e, is, from, rest) =
    let here : IsReachedNode graph e.from = subst (λ (n : ℕ). IsReachedNode graph n) from reached in
    let next : IsReachedNode graph e.to = reached-more graph u k e reached is from in
    let y = fit.there e.to next in
    let r = along graph l w p fit ks e.to v y.0 next y.1 rest in
    let one : (x +ℤ pos (e.weight * l)) ≤ℤ (y.0 +ℤ pos w) = fit.steps k e x y.0 here is (ap p (sym from) ∙ at) y.1 in
    let both : (x +ℤ pos (e.weight * l + weights graph.edges ks * l)) ≤ℤ (r.0 +ℤ pos (w + w * length ks)) =
    step x y.0 r.0 (e.weight * l) (weights graph.edges ks * l) w (w * length ks) one r.2 in
    let same : weights graph.edges (k ∷ ks) ≡ e.weight + weights graph.edges ks = ap (λ (o : Option Edge). weight_in o + weights graph.edges ks) is in
    let a : e.weight * l + weights graph.edges ks * l ≡ weights graph.edges (k ∷ ks) * l = sums l e.weight (weights graph.edges ks) (weights graph.edges (k ∷ ks)) same in
    let c : w + w * length ks ≡ w * length (k ∷ ks) = longer w (length ks) in
    (r.0, r.1, subst (λ (m : ℕ). (x +ℤ pos m) ≤ℤ (r.0 +ℤ pos (w * length (k ∷ ks)))) a (subst (λ (m : ℕ). (x +ℤ pos (e.weight * l + weights graph.edges ks * l)) ≤ℤ (r.0 +ℤ pos m)) c both))
  where
    sums : (l a b c : ℕ) → c ≡ a + b → a * l + b * l ≡ c * l
    sums l a b c h = omega (arith, ap (λ (n : ℕ). n * l) h)

    longer : (w n : ℕ) → w + w * n ≡ w * suc n
    longer w n = omega arith

-- nodes of the initial state are nodes
pub start-inside : (graph : TimedGraph) → graph.initial < graph.states → (v : ℕ) → IsStart graph v → v < graph.states * graph.tokens
start-inside graph some v (i, less, at) =
    let le : (graph.initial + 1) * graph.tokens ≤ graph.states * graph.tokens = mul-le-mul_right graph.tokens (omega arith) in
    omega arith
