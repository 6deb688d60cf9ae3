-- A potential fits exactly where it keeps to all edges.
use Rattle.std.proofs.Common.{◌≡◌, ℕ, ◌<◌, ◌≤◌, ◌↔◌, ℤ, pos, ◌≤ℤ◌, true, false, true≢false, List, length, refl, subst, sym, ap, ◌∙◌, arith}
use Rattle.std.specs.Prelude.{IsTrue, Some, slice_get, slice_index_or}
use Rattle.std.proofs.lemmas.Option.{slice_get-get_or, slice_get_within}
use Rattle.automaton.specs.declared.graph.Edge.{Edge}
use Rattle.automaton.specs.declared.graph.TimedGraph.{TimedGraph}
use Rattle.automaton.specs.CriticalCycles.{IsStart}
use Rattle.cert_checker.specs.ListedNodes.{IsFitting}
use Rattle.cert_checker.specs.inside.Listed.{AreKeptTo, IsKeptTo}

module _ (graph : TimedGraph) (rate : ℕ × ℕ) (ps : List (ℕ × ℕ × ℤ)) (v : ℕ) (y : ℤ) (edges : List Edge) (all : edges ≡ graph.edges) where
  -- an edge isn't kept
  pub unkept : (k : ℕ) (d : Edge) (z : ℤ) → z ≡ y → k < length edges → (IsKeptTo graph rate ps v z (slice_index_or edges k d) → ⊥) → IsTrue false ↔ IsFitting graph rate ps v y
  unkept k d z is below breaks =
      let at : slice_get graph.edges k ≡ Some (slice_index_or edges k d) = subst (λ (es : List Edge). slice_get es k ≡ Some (slice_index_or edges k d)) all (slice_get-get_or edges k d below) in
      ((λ on. absurd (true≢false (sym on))), (λ fits. absurd (breaks (subst (λ (w : ℤ). IsKeptTo graph rate ps v w (slice_index_or edges k d)) (sym is) (λ ends x px. fits.steps k (slice_index_or edges k d) x at ends px)))))

  -- all are
  pub fits : (n : ℕ) → length edges ≤ n → (IsStart graph v → pos 0 ≤ℤ y) → AreKeptTo graph rate ps v y n → IsTrue true ↔ IsFitting graph rate ps v y
  fits n whole start kept = (
    (λ on. record {
      start = start;
      steps = λ k e x at ends px. (
          let below : k < length graph.edges = slice_get_within graph.edges k e at in
          let many : length edges ≡ length graph.edges = ap (λ (es : List Edge). length es) all in
          let here : slice_index_or graph.edges k e ≡ e = same _ _ (sym (slice_get-get_or graph.edges k e below) ∙ at) in
          subst (IsKeptTo graph rate ps v y) here (kept k e (omega (arith, below, many, whole))) ends x px);
    }),
    (λ fitting. refl),
  )
    where
      same : (a b : Edge) → Some a ≡ Some b → a ≡ b
      same a b is = cc (is)
