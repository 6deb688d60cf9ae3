-- Rows that are made a cell at a time, and raised an edge at a time.
use Rattle.std.proofs.Common.{◌≡◌, ℕ, zero, suc, ◌*◌, ◌-◌, ◌<◌, List, [], ◌∷◌, length, Option, Some, None, refl, sym, ap, ◌∙◌, arith}
use Rattle.automaton.specs.declared.graph.TimedGraph.{TimedGraph}
use Rattle.automaton.specs.CriticalCycles.{IsStart}
use Rattle.scenario_rate.specs.declared.levels.Cell.{Cell}
use Rattle.automaton.specs.SoundGraphs.{IsSound}
use Rattle.automaton.proofs.WalksJoinAndRepeat.{start-inside}
use Rattle.scenario_rate.specs.inside.Levels.{cell_at, IsFirst, IsFirstCell, aged_of}

pub cell-inside : (xs : List (Option Cell)) (v : ℕ) (c : Cell) → cell_at xs v ≡ Some c → v < length xs
cell-inside [] v c h = absurd (cc)
cell-inside (x ∷ xs) zero c h = (let g : 0 < suc (length xs) = omega arith in g)
cell-inside (x ∷ xs) (suc v) c h = (let g : v < length xs = cell-inside xs v c h in let k : suc v < suc (length xs) = omega arith in k)

-- the cells so far are as told by a property
pub record So (P : ℕ → Option Cell → Type 0) (xs : List (Option Cell)) (n : ℕ) : Type 0 where
  pub size : length xs ≡ n
  pub each : (v : ℕ) → v < length xs → P v (cell_at xs v)

abbrev pub AgedAs : List (Option Cell) → ℕ → ℕ → Option Cell → Type 0
AgedAs row w v o = o ≡ aged_of w (cell_at row v)

first-cell-start : (graph : TimedGraph) (v : ℕ) (o : Option Cell) (c : Cell) → IsFirstCell graph v o → o ≡ Some c → IsStart graph v × (c.score ≡ 0)
first-cell-start graph v None c h e = absurd (cc)
first-cell-start graph v (Some x) c (start, zero_score) e = let same : x ≡ c = (cc) in (start, ap (λ (y : Cell). y.score) (sym same) ∙ zero_score)

first-cell-there : (graph : TimedGraph) (v : ℕ) (o : Option Cell) → IsFirstCell graph v o → IsStart graph v → (c : Cell) × (o ≡ Some c)
first-cell-there graph v None h start = absurd (h start)
first-cell-there graph v (Some x) h start = (x, refl)

pub first-all : (graph : TimedGraph) (row : List (Option Cell)) → IsSound graph → So (IsFirstCell graph) row (graph.states * graph.tokens) → IsFirst graph (cell_at row)
first-all graph row sound s = record {
  there = λ v start. first-cell-there graph v (cell_at row v) (s.each v (let e : length row ≡ graph.states * graph.tokens = s.size in
      let g : v < graph.states * graph.tokens = start-inside graph sound.some_state v start in omega arith)) start;
  start = λ v c at. (first-cell-start graph v (cell_at row v) c (s.each v (cell-inside row v c at)) at).0;
  zero_score = λ v c at. (first-cell-start graph v (cell_at row v) c (s.each v (cell-inside row v c at)) at).1;
}
