-- A search without time never settles where walks get heavier and heavier.
use Rattle.std.proofs.Common.{◌≡◌, ℕ, ◌+◌, ◌*◌, ◌≤◌, ◌<◌, List, [], ◌∷◌, length, Option, Some, refl, sym, ap, ◌∙◌, arith}
use Rattle.std.proofs.Math.Nat.{mul-le-mul_right}
use Rattle.std.specs.Prelude.{slice_get}
use Rattle.std.proofs.lemmas.Option.{slice_get_within}
use Rattle.automaton.specs.declared.graph.TimedGraph.{TimedGraph}
use Rattle.automaton.specs.CriticalCycles.{IsPath, weights, weight_in}
use Rattle.scenario_rate.specs.declared.levels.Cell.{Cell}
use Rattle.automaton.specs.SoundGraphs.{IsSound, Grows}
use Rattle.scenario_rate.specs.inside.Levels.{cell_at}
use Rattle.scenario_rate.specs.inside.Searches.{AreLevels, IsLast, IsScored}
use Rattle.scenario_rate.proofs.RowsScoreWalks.{upper, scored, over}
use Rattle.scenario_rate.proofs.RaisedWalksLoop.{weights-light}

-- scores along a walk, where no more time goes by
along-scores : (graph : TimedGraph) (rows : List (List (Option Cell))) (levels : AreLevels graph 1 0 rows) (k : ℕ) (row : List (Option Cell)) (last : IsLast graph 1 0 rows k row)
    → (ks : List ℕ) (u v : ℕ) (c : Cell) → cell_at row u ≡ Some c → IsPath graph.edges u ks v → (d : Cell) × (cell_at row v ≡ Some d) × (c.score + weights graph.edges ks ≤ d.score)
along-scores graph rows levels k row last [] u v c at path = (c, ap (cell_at row) (sym path) ∙ at, (let g : c.score + 0 ≤ c.score = omega arith in g))
along-scores graph rows levels k row last (x ∷ ks) u v c at (e, is, from, rest) =
    let o = over graph 1 0 rows levels k row last x e c (slice_get_within graph.edges x e is) is (ap (cell_at row) (sym from) ∙ at) in
    let r = along-scores graph rows levels k row last ks e.to v o.0 o.1 rest in
    let a : weight_in (slice_get graph.edges x) ≡ e.weight = ap weight_in is in
    let b : c.score + e.weight * 1 ≤ o.0.score + 0 = o.2 in
    let d : o.0.score + weights graph.edges ks ≤ r.0.score = r.2 in
    (r.0, r.1, (let g : c.score + (weight_in (slice_get graph.edges x) + weights graph.edges ks) ≤ r.0.score = omega arith in g))

pub never : (graph : TimedGraph) → Grows graph → IsSound graph → (rows : List (List (Option Cell))) → AreLevels graph 1 0 rows
    → (k : ℕ) (row : List (Option Cell)) → IsLast graph 1 0 rows k row → ⊥
never graph grows sound rows levels k row last =
    let h = grows (k * 100000000000000) in
    let u = upper graph 1 0 rows levels k row [] h.0 h.0 k last.at h.3 refl (let g : 0 + k ≡ k = omega arith in g) in
    let a = along-scores graph rows levels k row last h.2 h.0 h.1 u.0 u.1 h.4 in
    let s = scored graph 1 0 rows levels k row h.1 a.0 last.at a.1 in
    go (weights graph.edges h.2) h.5 u.0.score a.0.score a.2 s.0 h.1 s.1
  where
    go : (x : ℕ) → k * 100000000000000 < x → (y z : ℕ) → y + x ≤ z → (walk : List ℕ) (v : ℕ) → IsScored graph 1 0 k walk v z → ⊥
    go x big y z sum walk v (s, m, start, path, long, e) =
        let light : weights graph.edges walk ≤ length walk * 100000000000000 = weights-light graph.edges (graph.states * graph.tokens) sound.edges walk in
        let b : length walk * 100000000000000 ≤ k * 100000000000000 = mul-le-mul_right 100000000000000 (let g : length walk ≤ k = omega arith in g) in
        let eq : z ≡ weights graph.edges walk * 1 + 0 * m = e in
        omega arith
