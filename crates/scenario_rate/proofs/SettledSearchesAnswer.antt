-- A search that has settled gives the answer: its rate, and a cycle of tight edges.
use Rattle.std.proofs.Common.{◌≡◌, ℕ, zero, suc, ◌+◌, ◌*◌, ◌≤◌, List, [], ◌∷◌, length, map, Option, refl, sym, ap, subst, ◌∙◌, arith}
use Rattle.std.specs.Prelude.{slice_index_or, ℤ}
use Rattle.std.proofs.lemmas.Option.{get_or_from_slice_get}
use Rattle.automaton.specs.declared.graph.TimedGraph.{TimedGraph}
use Rattle.automaton.specs.CriticalCycles.{IsCritical, Fit}
use Rattle.sd_base.specs.declared.numbers.Fraction.{Fraction}
use Rattle.scenario_rate.specs.declared.levels.Cell.{Cell}
use Rattle.scenario_rate.specs.declared.passes.Best.{Best}
use Rattle.scenario_rate.specs.declared.answer.Worst.{Worst}
use Rattle.scenario_rate.specs.inside.Levels.{cell_at}
use Rattle.scenario_rate.specs.inside.Searches.{AreLevels, IsLastOf, potential_of}
use Rattle.scenario_rate.specs.Answers.{IsApart, potential_at}
use Rattle.automaton.specs.SoundGraphs.{IsSound, node_count}
use Rattle.scenario_rate.specs.ChosenCycles.{IsChosen}
use Rattle.scenario_rate.specs.inside.Choosing.{HasCycle, IsChosenOf, AreTight}
use Rattle.scenario_rate.specs.inside.Bests.{IsBest, ShowsWorst}
use Rattle.scenario_rate.proofs.TightWalksAreCritical.{has_cycle, chosen_critical, chosen_apart, is_chosen}
use Rattle.scenario_rate.proofs.RowsScoreWalks.{fit, only-reached, least}

mapped : (b : ℕ) (row : List (Option Cell)) (v : ℕ) → potential_at (map (potential_of b) row) v ≡ potential_of b (cell_at row v)
mapped b [] v = refl
mapped b (x ∷ row) zero = refl
mapped b (x ∷ row) (suc v) = mapped b row v

length-mapped : (b : ℕ) (row : List (Option Cell)) → length (map (potential_of b) row) ≡ length row
length-mapped b [] = refl
length-mapped b (x ∷ row) = ap (λ n. suc n) (length-mapped b row)

fit-same : (graph : TimedGraph) (l w : ℕ) (p q : ℕ → Option ℤ) → ((v : ℕ) → q v ≡ p v) → Fit graph l w p → Fit graph l w q
fit-same graph l w p q same f = record {
  there = λ v r. (let t = f.there v r in (t.0, same v ∙ t.1));
  starts = λ v x s at. f.starts v x s (sym (same v) ∙ at);
  steps = λ k e x y r at a b. f.steps k e x y r at (sym (same e.from) ∙ a) (sym (same e.to) ∙ b);
}

pub answered : (graph : TimedGraph) (b : Best) (r : Worst) (rows : List (List (Option Cell))) (level time : ℕ) (row : List (Option Cell)) (ts cycle : List ℕ) → IsSound graph → IsBest graph b
    → AreLevels graph b.rate.num b.rate.den rows → IsLastOf graph b.rate.num b.rate.den rows → level + 1 ≡ length rows → time ≡ b.rate.den → row ≡ slice_index_or rows level []
    → AreTight graph.edges row b.rate.num time (length graph.edges) ts → IsChosenOf graph.edges ts cycle → r.rate ≡ b.rate → r.cycle ≡ cycle → r.potentials ≡ map (potential_of (level * time)) row → ShowsWorst graph r
answered graph b r rows level time row ts cycle sound best levels (k, last_row, few, last) count time_is row_is tight chosen rate cycle_is list =
    let n : length rows ≡ k + 1 = last.count in
    let level_is : level ≡ k = omega arith in
    let same_row : row ≡ last_row = row_is ∙ ap (λ m. slice_index_or rows m []) level_is ∙ get_or_from_slice_get rows k last_row [] last.at in
    let list' : r.potentials ≡ map (potential_of (k * b.rate.den)) last_row =
    list ∙ ap (λ m. map (potential_of (m * time)) row) level_is ∙ ap (λ m. map (potential_of (k * m)) row) time_is ∙ ap (λ (z : List (Option Cell)). map (potential_of (k * b.rate.den)) z) same_row in
    let same : (v : ℕ) → potential_at r.potentials v ≡ potential_of (k * b.rate.den) (cell_at last_row v) =
    λ v. ap (λ (z : List (Option ℤ)). potential_at z v) list' ∙ mapped (k * b.rate.den) last_row v in
    let fits : Fit graph b.rate.num b.rate.den (potential_at r.potentials) = fit-same graph b.rate.num b.rate.den (λ v. potential_of (k * b.rate.den) (cell_at last_row v)) (potential_at r.potentials) same
    (fit graph b.rate.num b.rate.den rows levels k last_row last) in
    let rate' : b.rate ≡ r.rate = sym rate in
    let tight' : AreTight graph.edges last_row b.rate.num b.rate.den (length graph.edges) ts =
    subst (λ (z : List (Option Cell)). AreTight graph.edges z b.rate.num b.rate.den (length graph.edges) ts) same_row (subst (λ (n : ℕ). AreTight graph.edges row b.rate.num n (length graph.edges) ts) time_is tight) in
    record {
      critical = subst (λ (z : List ℕ). IsCritical graph r.rate.num r.rate.den z) (sym cycle_is) (subst (λ (f : Fraction). IsCritical graph f.num f.den cycle) rate'
          (chosen_critical graph b.rate.num b.rate.den rows levels k last_row last sound ts tight' cycle chosen));
      apart = subst (λ (z : List ℕ). IsApart graph.edges z) (sym cycle_is) (chosen_apart graph.edges ts cycle chosen);
      chosen = subst (λ (z : List ℕ). IsChosen graph r.rate.num r.rate.den (potential_at r.potentials) z) (sym cycle_is) (subst (λ (f : Fraction). IsChosen graph f.num f.den (potential_at r.potentials) cycle) rate'
          (is_chosen graph b.rate.num b.rate.den rows levels k last_row last sound ts tight' (potential_at r.potentials) same cycle chosen));
      some_round = subst (λ (f : Fraction). 1 ≤ f.num) rate' best.some_round;
      fit = subst (λ (f : Fraction). Fit graph f.num f.den (potential_at r.potentials)) rate' fits;
      count = ap (λ (z : List (Option ℤ)). length z) list' ∙ length-mapped (k * b.rate.den) last_row ∙ levels.wide k last_row last.at;
      reached = λ v x at. only-reached graph b.rate.num b.rate.den rows levels k last_row last v x (sym (same v) ∙ at);
      least = λ q f v x y at py. least graph b.rate.num b.rate.den rows levels k last_row last q (subst (λ (g : Fraction). Fit graph g.num g.den q) rate f) v x y (sym (same v) ∙ at) py;
    }

-- the cycle of the rate is one of tight edges
pub some_cycle : (graph : TimedGraph) (b : Best) (rows : List (List (Option Cell))) (level time : ℕ) (row : List (Option Cell)) (ts : List ℕ) → IsSound graph → IsBest graph b
    → AreLevels graph b.rate.num b.rate.den rows → IsLastOf graph b.rate.num b.rate.den rows → level + 1 ≡ length rows → time ≡ b.rate.den → row ≡ slice_index_or rows level []
    → AreTight graph.edges row b.rate.num time (length graph.edges) ts → HasCycle graph.edges ts (node_count graph)
some_cycle graph b rows level time row ts sound best levels (k, last_row, few, last) count time_is row_is tight =
    let n : length rows ≡ k + 1 = last.count in
    let level_is : level ≡ k = omega arith in
    let same_row : row ≡ last_row = row_is ∙ ap (λ m. slice_index_or rows m []) level_is ∙ get_or_from_slice_get rows k last_row [] last.at in
    let tight' : AreTight graph.edges last_row b.rate.num b.rate.den (length graph.edges) ts =
    subst (λ (z : List (Option Cell)). AreTight graph.edges z b.rate.num b.rate.den (length graph.edges) ts) same_row (subst (λ (n : ℕ). AreTight graph.edges row b.rate.num n (length graph.edges) ts) time_is tight) in
    has_cycle graph b.rate.num b.rate.den rows levels k last_row last sound ts tight' b.cycle.items best.critical
