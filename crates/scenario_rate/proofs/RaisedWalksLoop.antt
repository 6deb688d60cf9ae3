-- The walk of a node that is still raised closes a cycle that gains on the rate.
use Rattle.std.proofs.Common.{◌≡◌, ℕ, zero, suc, ◌+◌, ◌*◌, ◌-◌, ◌≤◌, ◌<◌, List, [], ◌∷◌, length, take, drop, Option, Some, None, refl, sym, ap, subst, ◌∙◌, inl, inr, arith}
use Rattle.std.proofs.Math.Nat.{mul-le-mul, mul-le-mul_left}
use Rattle.std.proofs.lemmas.Nat.Gcd.{le_of_dvd, IsGcd-swap}
use Rattle.std.specs.Prelude.{slice_get, slice_index_or}
use Rattle.std.proofs.lemmas.Bool.{cases_lt}
use Rattle.std.proofs.lemmas.Option.{get_or_from_slice_get}
use Rattle.std.proofs.lemmas.List.{length-take-le, length-drop}
use Rattle.sd_base.proofs.LeastMultiplesDivide.{root_divides}
use Rattle.automaton.specs.declared.graph.Edge.{Edge}
use Rattle.automaton.specs.declared.graph.TimedGraph.{TimedGraph}
use Rattle.automaton.specs.CriticalCycles.{IsPath, weights, weight_in, IsReachedNode, IsCritical}
use Rattle.scenario_rate.specs.declared.levels.Cell.{Cell}
use Rattle.scenario_rate.specs.declared.passes.Best.{Best}
use Rattle.automaton.specs.SoundGraphs.{IsSound, AreInside, node_count}
use Rattle.scenario_rate.specs.inside.Levels.{cell_at}
use Rattle.scenario_rate.specs.inside.Searches.{IsScored, IsScoredAt, IsRaisedAt, AreLevels, node_after, AreNumbers, DifferBelow}
use Rattle.scenario_rate.specs.Answers.{IsApart}
use Rattle.scenario_rate.specs.inside.Bests.{IsBest}
use Rattle.scenario_rate.proofs.LongWalksClose.{numbers, comes-back, part-apart, full, gains}

-- a cycle that gains on the rate l/w
pub record IsLoop (graph : TimedGraph) (l w : ℕ) (cycle : List ℕ) : Type 0 where
  pub node : ℕ
  pub reached : IsReachedNode graph node
  pub closed : IsPath graph.edges node cycle node
  pub apart : IsApart graph.edges cycle
  pub some : 1 ≤ length cycle
  pub few : length cycle ≤ 1024
  pub gain : w * length cycle < weights graph.edges cycle * l
  pub heavy : 1 ≤ weights graph.edges cycle

-- what the walk of a raised node closes
pub record Loops (graph : TimedGraph) (l w : ℕ) (es : List Edge) (walk : List ℕ) (n v : ℕ) : Type 0 where
  pub full : length walk ≡ n
  pub numbered : AreNumbers es walk
  pub back : DifferBelow es walk v (length walk + 1) → length walk < node_count graph
  pub part : (i j : ℕ) (cycle : List ℕ) → i < j → j ≤ length walk → node_after es walk v i ≡ node_after es walk v j → DifferBelow es walk v j
      → cycle ≡ take (j - i) (drop i walk) → IsLoop graph l w cycle

taken-some : (ks : List ℕ) (n : ℕ) → 1 ≤ n → n ≤ length ks → 1 ≤ length (take n ks)
taken-some [] n h g = absurd (let no : ⊥ = omega arith in no)
taken-some (x ∷ ks) zero h g = absurd (let no : ⊥ = omega arith in no)
taken-some (x ∷ ks) (suc n) h g = (let k : 1 ≤ suc (length (take n ks)) = omega arith in k)

length-zero : (n : ℕ) (a b w l : ℕ) → n < a * l → 1 ≤ a
length-zero n zero b w l h = absurd (let no : ⊥ = omega arith in no)
length-zero n (suc a) b w l h = (let g : 1 ≤ suc a = omega arith in g)

module _ (graph : TimedGraph) (l w : ℕ) (rows : List (List (Option Cell))) (levels : AreLevels graph l w rows) (sound : IsSound graph) where
  looping : (n v : ℕ) (walk : List ℕ) → 1 ≤ n → n ≤ node_count graph → v < node_count graph → IsRaisedAt rows n v → IsScoredAt graph l w rows n walk v → Loops graph l w graph.edges walk n v
  looping zero v walk some count below raised scored = absurd (let no : ⊥ = omega arith in no)
  looping (suc k) v walk some count below (row, c, number, at, is, edge) (b, b_at, scored) =
      let row_is : slice_index_or rows (suc k) [] ≡ row = get_or_from_slice_get rows (suc k) row [] at in
      let same : b ≡ c = (let e : ◌≡◌ {A = Option Cell} (Some b) (Some c) = sym b_at ∙ ap (λ (z : List (Option Cell)). cell_at z v) row_is ∙ is in (cc)) in
      let s : IsScored graph l w (suc k) walk v c.score = subst (λ (z : Cell). IsScored graph l w (suc k) walk v z.score) same scored in
      let long : length walk ≡ suc k = full graph l w rows levels k row v c number at is edge walk s in
      record {
        full = long;
        numbered = numbers graph.edges walk s.0 v s.3;
        back = λ differ. (elim (cases_lt (length walk) (graph.states * graph.tokens)) [
          | inl less ↦ less
          | inr more ↦ absurd (comes-back graph.edges (graph.states * graph.tokens) sound.edges walk s.0 v s.3 below (let e : length walk ≡ graph.states * graph.tokens = omega arith in e) differ)
        ]);
        part = λ i j cycle order within equal differ is_part.
            (let g = gains graph l w rows levels k row v c number at is edge walk i j s order within equal in
            let small : length walk ≤ 1024 = (let a : graph.states * graph.tokens ≤ 1024 = sound.nodes in omega arith) in
            subst (λ (z : List ℕ). IsLoop graph l w z) (sym is_part) (record {
              node = node_after graph.edges walk v i;
              reached = g.1;
              closed = g.2;
              apart = part-apart graph.edges walk v i j order differ;
              some = taken-some (drop i walk) (j - i) (omega arith) (let d : length (drop i walk) ≡ length walk - i = length-drop i walk in omega arith);
              few = (let d : length (take (j - i) (drop i walk)) ≡ j - i = length-take-le (j - i) (drop i walk) (let d : length (drop i walk) ≡ length walk - i = length-drop i walk in omega arith) in omega arith);
              gain = g.0;
              heavy = length-zero (w * length (take (j - i) (drop i walk))) (weights graph.edges (take (j - i) (drop i walk))) 0 0 l g.0;
            }));
      }

  pub loops : (n v : ℕ) (es : List Edge) (walk : List ℕ) → es ≡ graph.edges → n ≡ length rows - 1 → 2 ≤ length rows → length rows ≤ node_count graph + 1 → v < node_count graph → IsRaisedAt rows (length rows - 1) v
      → IsScoredAt graph l w rows n walk v → Loops graph l w es walk n v
  loops n v es walk es_is count some few below raised scored = subst (λ (z : List Edge). Loops graph l w z walk n v) (sym es_is)
      (looping n v walk (omega arith) (omega arith) below (subst (λ m. IsRaisedAt rows m v) (sym count) raised) scored)

-- ---- the rate of a cycle

pub weights-light : (es : List Edge) (n : ℕ) → AreInside es n → (ks : List ℕ) → weights es ks ≤ length ks * 100000000000000
weights-light es n inside [] = (let g : 0 ≤ 0 * 100000000000000 = omega arith in g)
weights-light es n inside (k ∷ ks) = let h : weights es ks ≤ length ks * 100000000000000 = weights-light es n inside ks in
    let a : weight_in (slice_get es k) ≤ 100000000000000 = one (slice_get es k) refl in
    (let g : weight_in (slice_get es k) + weights es ks ≤ suc (length ks) * 100000000000000 = omega arith in g)
  where
    one : (o : Option Edge) → slice_get es k ≡ o → weight_in o ≤ 100000000000000
    one None e = (let g : 0 ≤ 100000000000000 = omega arith in g)
    one (Some x) e = inside.light k x e

pub taken-weight : (es : List Edge) (ks : List ℕ) (i k : ℕ) (e : Edge) → slice_get ks i ≡ Some k → slice_get es k ≡ Some e → weights es (take i ks) + e.weight ≡ weights es (take (i + 1) ks)
taken-weight es ks i k e at is = subst (λ n. weights es (take i ks) + e.weight ≡ weights es (take n ks)) (let q : suc i ≡ i + 1 = omega arith in q) (go ks i at)
  where
    go : (ks : List ℕ) (i : ℕ) → slice_get ks i ≡ Some k → weights es (take i ks) + e.weight ≡ weights es (take (suc i) ks)
    go [] i h = absurd (let no : ◌≡◌ {A = Option ℕ} None (Some k) = h in (cc))
    go (x ∷ ks) zero h = let same : x ≡ k = (cc) in
        let a : weight_in (slice_get es x) ≡ e.weight = ap (λ n. weight_in (slice_get es n)) same ∙ ap weight_in is in (let g : 0 + e.weight ≡ weight_in (slice_get es x) + 0 = omega arith in g)
    go (x ∷ ks) (suc i) h = let r : weights es (take i ks) + e.weight ≡ weights es (take (suc i) ks) = go ks i h in
        (let g : weight_in (slice_get es x) + weights es (take i ks) + e.weight ≡ weight_in (slice_get es x) + weights es (take (suc i) ks) = omega arith in g)

positive : (num den a b : ℕ) → num * a ≡ b * den → 1 ≤ b → 1 ≤ den → 1 ≤ num
positive zero den a b e some some' = absurd (let p : 1 * 1 ≤ b * den = mul-le-mul some some' in let no : ⊥ = omega arith in no)
positive (suc num) den a b e some some' = (let g : 1 ≤ suc num = omega arith in g)

slow-rate : (num den a b : ℕ) → num * a ≡ b * den → a ≤ b * 100000000000000 → 1 ≤ b → den ≤ num * 100000000000000
slow-rate num den a b e light some = elim (cases_lt (num * 100000000000000) den) [
  | inr h ↦ h
  | inl h ↦ absurd (
      let p : num * a ≤ num * (b * 100000000000000) = mul-le-mul_left num light in
      let q : b * (num * 100000000000000 + 1) ≤ b * den = mul-le-mul_left b (let g : num * 100000000000000 + 1 ≤ den = omega arith in g) in
      let no : ⊥ = omega arith in no)
]

-- a rate of the cycle is less than the one on which the cycle gains
faster : (l w num den a b : ℕ) → num * a ≡ b * den → w * b < a * l → 1 ≤ b → 1 ≤ num → w * num < den * l
faster l w num den a b e gain some some' = elim (cases_lt (w * num) (den * l)) [
  | inl h ↦ h
  | inr h ↦ absurd (
      let p : num * (w * b + 1) ≤ num * (a * l) = mul-le-mul_left num (let g : w * b + 1 ≤ a * l = omega arith in g) in
      let q : b * (den * l) ≤ b * (w * num) = mul-le-mul_left b h in
      let r : (num * a) * l ≡ (b * den) * l = ap (λ n. n * l) e in
      let no : ⊥ = omega arith in no)
]

pub record Rated (graph : TimedGraph) (l w : ℕ) (b : Best) : Type 0 where
  pub best : IsBest graph b
  pub gains : w * b.rate.num < b.rate.den * l

pub rated : (graph : TimedGraph) (l w : ℕ) (es : List Edge) (cycle : List ℕ) (b : Best) → IsSound graph → IsLoop graph l w cycle → es ≡ graph.edges → b.cycle.items ≡ cycle
    → b.rate.num * weights es cycle ≡ length cycle * b.rate.den → Rated graph l w b
rated graph l w es cycle b sound loop es_is is rate' =
    let rate : b.rate.num * weights graph.edges cycle ≡ length cycle * b.rate.den = subst (λ (z : List Edge). b.rate.num * weights z cycle ≡ length cycle * b.rate.den) es_is rate' in
    let some : 1 ≤ b.rate.num = positive b.rate.num b.rate.den (weights graph.edges cycle) (length cycle) rate loop.some b.rate.positive in
    let light : weights graph.edges cycle ≤ length cycle * 100000000000000 = weights-light graph.edges (graph.states * graph.tokens) sound.edges cycle in
    let few : length cycle ≤ 1024 = loop.few in
    let low : b.rate.num ≤ length cycle = le_of_dvd (loop.some) (root_divides b.rate.den b.rate.num (length cycle) (weights graph.edges cycle) (IsGcd-swap b.rate.num b.rate.den 1 b.rate.lowest) (let q : weights graph.edges cycle * b.rate.num ≡ length cycle * b.rate.den = omega arith in q)) in
    let high : b.rate.den ≤ weights graph.edges cycle = le_of_dvd (loop.heavy) (root_divides b.rate.num b.rate.den (weights graph.edges cycle) (length cycle) b.rate.lowest (let q : length cycle * b.rate.den ≡ weights graph.edges cycle * b.rate.num = omega arith in q)) in
    record {
      best = record {
        critical = subst (λ (z : List ℕ). IsCritical graph b.rate.num b.rate.den z) (sym is) (record {
          node = loop.node;
          reached = loop.reached;
          closed = loop.closed;
          some = loop.some;
          rate = (let q : weights graph.edges cycle * b.rate.num ≡ b.rate.den * length cycle = omega arith in q);
        });
        apart = subst (λ (z : List ℕ). IsApart graph.edges z) (sym is) loop.apart;
        some_round = some;
        few = omega arith;
        short = omega arith;
        slow = slow-rate b.rate.num b.rate.den (weights graph.edges cycle) (length cycle) rate light loop.some;
      };
      gains = faster l w b.rate.num b.rate.den (weights graph.edges cycle) (length cycle) rate loop.gain loop.some some;
    }
