-- A walk of as many edges as there are nodes comes back to a node, and what it closes gains on the rate of its search.
use Rattle.std.proofs.Common.{◌≡◌, ℕ, zero, suc, ◌+◌, ◌*◌, ◌-◌, ◌≤◌, ◌<◌, List, [], ◌∷◌, ◌++◌, length, take, drop, Option, Some, None, refl, sym, ap, subst, ◌∙◌, inl, inr, arith, length-append, length-drop}
use Rattle.std.specs.Prelude.{slice_get}
use Rattle.std.proofs.lemmas.Bool.{cases_lt}
use Rattle.std.proofs.lemmas.List.{length-take-le, take-append-drop}
use Rattle.std.proofs.lemmas.Option.{slice_get_within}
use Rattle.automaton.specs.declared.graph.Edge.{Edge}
use Rattle.automaton.specs.declared.graph.TimedGraph.{TimedGraph}
use Rattle.automaton.specs.CriticalCycles.{IsPath, weights, IsStart, IsReachedNode}
use Rattle.automaton.specs.SoundGraphs.{AreInside}
use Rattle.automaton.proofs.TwoAreTheSame.{pigeons}
use Rattle.automaton.proofs.WalksJoinAndRepeat.{path-append, weights-append}
use Rattle.scenario_rate.specs.declared.levels.Cell.{Cell}
use Rattle.scenario_rate.specs.inside.Levels.{cell_at}
use Rattle.scenario_rate.specs.inside.Searches.{IsScored, AreLevels, node_after, from_in, from_of, AreNumbers, DifferBelow}
use Rattle.scenario_rate.specs.Answers.{IsApart}
use Rattle.scenario_rate.proofs.RowsScoreWalks.{before, upper}

-- ---- a walk cut at a place

pub numbers : (es : List Edge) (ks : List ℕ) (u v : ℕ) → IsPath es u ks v → AreNumbers es ks
numbers es [] u v path i k h = absurd (let no : ◌≡◌ {A = Option ℕ} None (Some k) = h in (cc))
numbers es (x ∷ ks) u v (e, is, from, rest) zero k h = let same : x ≡ k = (cc) in subst (λ n. n < length es) same (slice_get_within es x e is)
numbers es (x ∷ ks) u v (e, is, from, rest) (suc i) k h = numbers es ks e.to v rest i k h

pub node-inside : (es : List Edge) (n : ℕ) → AreInside es n → (ks : List ℕ) (u v i : ℕ) → IsPath es u ks v → v < n → node_after es ks v i < n
node-inside es n inside [] u v i path below = below
node-inside es n inside (x ∷ ks) u v zero (e, is, from, rest) below = subst (λ (o : Option Edge). from_in o < n) (sym is) (inside.from x e is)
node-inside es n inside (x ∷ ks) u v (suc i) (e, is, from, rest) below = node-inside es n inside ks e.to v i rest below

pub comes-back : (es : List Edge) (n : ℕ) → AreInside es n → (ks : List ℕ) (u v : ℕ) → IsPath es u ks v → v < n → length ks ≡ n → DifferBelow es ks v (length ks + 1) → ⊥
comes-back es n inside ks u v path below long differ = pigeons n (λ i. node_after es ks v i) (λ i h. node-inside es n inside ks u v i path below)
    (λ i j h g. differ i j h (omega arith))

pub cut-front : (es : List Edge) (ks : List ℕ) (u v i : ℕ) → IsPath es u ks v → i ≤ length ks → IsPath es u (take i ks) (node_after es ks v i)
cut-front es [] u v zero path h = path
cut-front es [] u v (suc i) path h = path
cut-front es (x ∷ ks) u v zero (e, is, from, rest) h = from ∙ ap from_in (sym is)
cut-front es (x ∷ ks) u v (suc i) (e, is, from, rest) h = (e, is, from, cut-front es ks e.to v i rest (omega arith))

pub cut-back : (es : List Edge) (ks : List ℕ) (u v i : ℕ) → IsPath es u ks v → i ≤ length ks → IsPath es (node_after es ks v i) (drop i ks) v
cut-back es [] u v zero path h = refl
cut-back es [] u v (suc i) path h = refl
cut-back es (x ∷ ks) u v zero (e, is, from, rest) h = (e, is, ap from_in is, rest)
cut-back es (x ∷ ks) u v (suc i) (e, is, from, rest) h = cut-back es ks e.to v i rest (omega arith)

node-later : (es : List Edge) (ks : List ℕ) (v i j : ℕ) → node_after es (drop i ks) v j ≡ node_after es ks v (i + j)
node-later es ks v zero j = ap (λ n. node_after es ks v n) (let e : j ≡ 0 + j = omega arith in e)
node-later es [] v (suc i) j = refl
node-later es (x ∷ ks) v (suc i) j = node-later es ks v i j ∙ ap (λ n. node_after es (x ∷ ks) v n) (let e : suc (i + j) ≡ suc i + j = omega arith in e)

get-later : (ks : List ℕ) (i j : ℕ) → slice_get (drop i ks) j ≡ slice_get ks (i + j)
get-later ks zero j = ap (λ n. slice_get ks n) (let e : j ≡ 0 + j = omega arith in e)
get-later [] (suc i) j = refl
get-later (x ∷ ks) (suc i) j = get-later ks i j ∙ ap (λ n. slice_get (x ∷ ks) n) (let e : suc (i + j) ≡ suc i + j = omega arith in e)

get-taken : (ks : List ℕ) (n a k : ℕ) → slice_get (take n ks) a ≡ Some k → (a < n) × (slice_get ks a ≡ Some k)
get-taken ks zero a k h = absurd (let no : ◌≡◌ {A = Option ℕ} None (Some k) = h in (cc))
get-taken [] (suc n) a k h = absurd (let no : ◌≡◌ {A = Option ℕ} None (Some k) = h in (cc))
get-taken (x ∷ ks) (suc n) zero k h = ((let g : 0 < suc n = omega arith in g), h)
get-taken (x ∷ ks) (suc n) (suc a) k h = let r = get-taken ks n a k h in ((let b : a < n = r.0 in let g : suc a < suc n = omega arith in g), r.1)

-- the nodes of a part differ where those of the walk before its end do
pub part-apart : (es : List Edge) (ks : List ℕ) (v i j : ℕ) → i < j → DifferBelow es ks v j → IsApart es (take (j - i) (drop i ks))
part-apart es ks v i j order differ a b x y e f at_a at_b is_e is_f same =
    let p = get-taken (drop i ks) (j - i) a x at_a in
    let q = get-taken (drop i ks) (j - i) b y at_b in
    let pa : a < j - i = p.0 in let qb : b < j - i = q.0 in
    let na : node_after es ks v (i + a) ≡ e.from = ap (from_of es v) (sym (get-later ks i a) ∙ p.1) ∙ ap from_in is_e in
    let nb : node_after es ks v (i + b) ≡ f.from = ap (from_of es v) (sym (get-later ks i b) ∙ q.1) ∙ ap from_in is_f in
    elim (cases_lt a b) [
      | inl less ↦ absurd (differ (i + a) (i + b) (omega arith) (omega arith) (na ∙ same ∙ sym nb))
      | inr more ↦ elim (cases_lt b a) [
        | inl less ↦ absurd (differ (i + b) (i + a) (omega arith) (omega arith) (nb ∙ sym same ∙ sym na))
        | inr eq ↦ (let g : a ≡ b = omega arith in g)
      ]
    ]

-- ---- a part of the walk behind a score gains

-- the part from place i to place j of a walk
pub record Part (es : List Edge) (ks : List ℕ) (i j : ℕ) (u v : ℕ) : Type 0 where
  pub rest : List ℕ
  pub to : IsPath es u (take i ks) (node_after es ks v i)
  pub loop : IsPath es (node_after es ks v i) (take (j - i) (drop i ks)) (node_after es ks v j)
  pub on : IsPath es (node_after es ks v j) rest v
  pub some : length (take (j - i) (drop i ks)) ≡ j - i
  pub long : length ks ≡ length (take i ks) + (length (take (j - i) (drop i ks)) + length rest)
  pub sum : weights es ks ≡ weights es (take i ks) + (weights es (take (j - i) (drop i ks)) + weights es rest)

pub part : (es : List Edge) (ks : List ℕ) (i j u v : ℕ) → IsPath es u ks v → i < j → j ≤ length ks → Part es ks i j u v
part es ks i j u v path order within =
    let tail : IsPath es (node_after es ks v i) (drop i ks) v = cut-back es ks u v i path (omega arith) in
    let n : ℕ = j - i in
    let size : length (drop i ks) ≡ length ks - i = length-drop i ks in
    let e : i + (j - i) ≡ j = omega arith in
    let end : node_after es (drop i ks) v (j - i) ≡ node_after es ks v j = node-later es ks v i (j - i) ∙ ap (λ m. node_after es ks v m) e in
    let ways : take i ks ++ drop i ks ≡ ks = take-append-drop i ks in
    let ways2 : take (j - i) (drop i ks) ++ drop (j - i) (drop i ks) ≡ drop i ks = take-append-drop (j - i) (drop i ks) in
    let l1 : length (take i ks ++ drop i ks) ≡ length (take i ks) + length (drop i ks) = length-append (take i ks) (drop i ks) in
    let l2 : length (take (j - i) (drop i ks) ++ drop (j - i) (drop i ks)) ≡ length (take (j - i) (drop i ks)) + length (drop (j - i) (drop i ks)) = length-append (take (j - i) (drop i ks)) (drop (j - i) (drop i ks)) in
    let w1 : weights es (take i ks ++ drop i ks) ≡ weights es (take i ks) + weights es (drop i ks) = weights-append es (take i ks) (drop i ks) in
    let w2 : weights es (take (j - i) (drop i ks) ++ drop (j - i) (drop i ks)) ≡ weights es (take (j - i) (drop i ks)) + weights es (drop (j - i) (drop i ks)) = weights-append es (take (j - i) (drop i ks)) (drop (j - i) (drop i ks)) in
    let a1 : length (take i ks ++ drop i ks) ≡ length ks = ap (λ (z : List ℕ). length z) ways in
    let a2 : length (take (j - i) (drop i ks) ++ drop (j - i) (drop i ks)) ≡ length (drop i ks) = ap (λ (z : List ℕ). length z) ways2 in
    let b1 : weights es (take i ks ++ drop i ks) ≡ weights es ks = ap (λ (z : List ℕ). weights es z) ways in
    let b2 : weights es (take (j - i) (drop i ks) ++ drop (j - i) (drop i ks)) ≡ weights es (drop i ks) = ap (λ (z : List ℕ). weights es z) ways2 in
    record {
      rest = drop (j - i) (drop i ks);
      to = cut-front es ks u v i path (omega arith);
      loop = subst (λ m. IsPath es (node_after es ks v i) (take (j - i) (drop i ks)) m) end (cut-front es (drop i ks) (node_after es ks v i) v (j - i) tail (omega arith));
      on = subst (λ m. IsPath es m (drop (j - i) (drop i ks)) v) end (cut-back es (drop i ks) (node_after es ks v i) v (j - i) tail (omega arith));
      some = length-take-le (j - i) (drop i ks) (omega arith);
      long = omega arith;
      sum = omega arith;
    }

module _ (graph : TimedGraph) (l w : ℕ) (rows : List (List (Option Cell))) (levels : AreLevels graph l w rows) (k : ℕ) (row : List (Option Cell)) (v : ℕ) (c : Cell) (number : ℕ)
    (at : slice_get rows (suc k) ≡ Some row) (is : cell_at row v ≡ Some c) (edge : c.edge ≡ Some number) where
  -- what a walk of at most k edges has is less by the time of a level
  less : (ks : List ℕ) (s m : ℕ) → IsStart graph s → IsPath graph.edges s ks v → length ks + m ≡ k → weights graph.edges ks * l + w * m + w < c.score
  less ks s m start path long = let b = before graph l w rows levels k row at in
      let u = upper graph l w rows levels k b.0 ks s v m b.1 start path long in
      let up : weights graph.edges ks * l + w * m ≤ u.0.score = u.2 in
      let more : u.0.score + w < c.score = b.2.more v c u.0 number is edge u.1 in omega arith

  -- the walk of a node that was raised has all the edges that it may have
  pub full : (walk : List ℕ) → IsScored graph l w (suc k) walk v c.score → length walk ≡ suc k
  full walk (s, zero, start, path, long, sum) = omega arith
  full walk (s, suc m, start, path, long, sum) = absurd (
      let h : weights graph.edges walk * l + w * m + w < c.score = less walk s m start path (omega arith) in let no : ⊥ = omega arith in no)

  gain : (x y z a b d l w s m : ℕ) → s ≡ (x + (y + z)) * l + w * 0 → (x + z) * l + w * m + w < s → b ≡ m + 1 → w * b < y * l
  gain x y z a b d l w s m e h g = let q : w * b ≡ w * (m + 1) = ap (λ n. w * n) g in omega arith

  -- and a part of it that leads back gains
  pub gains : (walk : List ℕ) (i j : ℕ) → IsScored graph l w (suc k) walk v c.score → i < j → j ≤ length walk
      → node_after graph.edges walk v i ≡ node_after graph.edges walk v j
      → (w * length (take (j - i) (drop i walk)) < weights graph.edges (take (j - i) (drop i walk)) * l)
      × IsReachedNode graph (node_after graph.edges walk v i) × IsPath graph.edges (node_after graph.edges walk v i) (take (j - i) (drop i walk)) (node_after graph.edges walk v i)
  gains walk i j (s, m, start, path, long, sum) order within same =
      let p = part graph.edges walk i j s v path order within in
      let f : length walk ≡ suc k = full walk (s, m, start, path, long, sum) in
      let none : m ≡ 0 = omega arith in
      let size : length (take (j - i) (drop i walk)) ≡ j - i = p.some in
      let lw : length walk ≡ length (take i walk) + (length (take (j - i) (drop i walk)) + length p.rest) = p.long in
      let la : length (take i walk ++ p.rest) ≡ length (take i walk) + length p.rest = length-append (take i walk) p.rest in
      let wa : weights graph.edges (take i walk ++ p.rest) ≡ weights graph.edges (take i walk) + weights graph.edges p.rest = weights-append graph.edges (take i walk) p.rest in
      let short : IsPath graph.edges s (take i walk ++ p.rest) v = path-append graph.edges (take i walk) p.rest s (node_after graph.edges walk v i) v p.to (subst (λ n. IsPath graph.edges n p.rest v) (sym same) p.on) in
      let h : weights graph.edges (take i walk ++ p.rest) * l + w * (j - i - 1) + w < c.score = less (take i walk ++ p.rest) s (j - i - 1) start short (omega arith) in
      let sum' : c.score ≡ (weights graph.edges (take i walk) + (weights graph.edges (take (j - i) (drop i walk)) + weights graph.edges p.rest)) * l + w * 0 =
      subst (λ n. c.score ≡ n * l + w * 0) p.sum (subst (λ n. c.score ≡ weights graph.edges walk * l + w * n) none sum) in (
        gain (weights graph.edges (take i walk)) (weights graph.edges (take (j - i) (drop i walk))) (weights graph.edges p.rest) 0 (length (take (j - i) (drop i walk))) 0 l w c.score (j - i - 1)
            sum' (subst (λ n. n * l + w * (j - i - 1) + w < c.score) wa h) (omega arith),
        (s, take i walk, start, p.to),
        subst (λ n. IsPath graph.edges (node_after graph.edges walk v i) (take (j - i) (drop i walk)) n) (sym same) p.loop,
      )
