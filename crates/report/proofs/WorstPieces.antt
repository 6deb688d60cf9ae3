-- The text of a worst rate, piece by piece.
use Rattle.std.proofs.Common.{◌≡◌, ℕ, ◌+◌, ◌<◌, ◌≤◌, List, ◌∷◌, ◌++◌, length, take, drop, get_or, sym, ap, ap₂, ◌∙◌, add-one, arith}
use Rattle.std.specs.Prelude.{slice_get}
use Rattle.std.specs.List.{flat_map}
use Rattle.std.proofs.Math.Seq.{drop-cons}
use Rattle.std.proofs.lemmas.List.{append_assoc}
use Rattle.sd_base.specs.declared.tables.SharedRow.{SharedRow}
use Rattle.sd_base.specs.declared.tables.StateRow.{StateRow}
use Rattle.sd_base.proofs.ElementsKeepPlaces.{flat_end}
use Rattle.automaton.specs.declared.graph.Edge.{Edge}
use Rattle.automaton.specs.declared.graph.TimedGraph.{TimedGraph}
use Rattle.automaton.specs.CriticalCycles.{weight_in, weights}
use Rattle.scenario_rate.specs.declared.answer.Worst.{Worst}
use Rattle.report.specs.WorstTexts.{no_edge, edge_at, edge_on, worst_header, worst_cycle_lines, potential_count, potentials_header, potential_lines, shown_lines}

-- one more edge of a cycle
pub weights-more : (es : List Edge) (ks : List ℕ) (i t w total : ℕ) → i < length ks → w ≡ weight_in (slice_get es (get_or ks i 0))
    → t + weights es (drop i ks) ≡ total → t + w + weights es (drop (i + 1) ks) ≡ total
weights-more es ks i t w total below is kept =
    let cons : drop i ks ≡ get_or ks i 0 ∷ drop (i + 1) ks = rw add-one (drop-cons ks i 0 below) in
    let split : weights es (drop i ks) ≡ w + weights es (drop (i + 1) ks) = ap (weights es) cons ∙ ap (λ n. n + weights es (drop (i + 1) ks)) (sym is) in
    omega (arith, split, kept)

-- the header of a cycle, and all its lines
pub cycle-end : (states : List StateRow) (shared : List SharedRow) (graph : TimedGraph) (cycle : List ℕ) (es : List Edge) (time i : ℕ) (start headed text : List ℕ) → es ≡ graph.edges → time ≡ weights es cycle → length cycle ≤ i
    → headed ≡ start ++ worst_header states shared graph time (length cycle) (get_or es (get_or cycle 0 0) no_edge) → text ≡ headed ++ flat_map (edge_on states shared graph) (take i cycle) → text ≡ start ++ worst_cycle_lines states shared graph cycle
unfolding worst_cycle_lines
cycle-end states shared graph cycle es time i start headed text same time_is past is kept =
    let lines = flat_map (edge_on states shared graph) cycle in
    let header : worst_header states shared graph time (length cycle) (get_or es (get_or cycle 0 0) no_edge) ≡ worst_header states shared graph (weights graph.edges cycle) (length cycle) (edge_at graph (get_or cycle 0 0)) =
    ap₂ (λ t e. worst_header states shared graph t (length cycle) e) (time_is ∙ ap (λ xs. weights xs cycle) same) (ap (λ xs. get_or xs (get_or cycle 0 0) no_edge) same) in
    flat_end (edge_on states shared graph) headed text cycle i past kept
    ∙ ap (λ l. l ++ lines) (is ∙ ap (λ h. start ++ h) header)
    ∙ append_assoc start (worst_header states shared graph (weights graph.edges cycle) (length cycle) (edge_at graph (get_or cycle 0 0))) lines

-- what shows a worst rate, piece by piece
pub shown-end : (states : List StateRow) (shared : List SharedRow) (graph : TimedGraph) (worst : Worst) (start cycled counted text : List ℕ) (count : ℕ)
    → cycled ≡ start ++ worst_cycle_lines states shared graph worst.cycle → counted ≡ cycled ++ potentials_header count → count ≡ potential_count worst.potentials
    → text ≡ counted ++ potential_lines states shared graph.tokens 0 worst.potentials → text ≡ start ++ shown_lines states shared graph worst
unfolding shown_lines
shown-end states shared graph worst start cycled counted text count first second count_is third =
    let cycle = worst_cycle_lines states shared graph worst.cycle in
    let header = potentials_header (potential_count worst.potentials) in
    let rest = potential_lines states shared graph.tokens 0 worst.potentials in
    third ∙ ap (λ l. l ++ rest) (second ∙ ap₂ (λ l n. l ++ potentials_header n) first count_is)
    ∙ (append_assoc (start ++ cycle) header rest ∙ append_assoc start cycle (header ++ rest))
