-- The timed graph of a file is within its limits.
use Rattle.std.proofs.Common.{◌≡◌, ℕ, ◌+◌, ◌*◌, ◌<◌, ◌≤◌, length, ap, ◌∙◌, subst, arith}
use Rattle.std.specs.Prelude.{slice_get, Some}
use Rattle.std.proofs.lemmas.Option.{slice_get_within}
use Rattle.sd_base.specs.declared.tables.ScenarioFile.{ScenarioFile}
use Rattle.sd_base.specs.Scenarios.{shared_count}
use Rattle.sd_base.proofs.ElementsKeepPlaces.{get-there}
use Rattle.sd_base.proofs.ByteTestsDecide.{pair-small}
use Rattle.automaton.specs.declared.graph.Edge.{Edge}
use Rattle.automaton.specs.declared.graph.TimedGraph.{TimedGraph}
use Rattle.automaton.specs.TimedGraphs.{IsTimedGraph}
use Rattle.automaton.proofs.EdgesComeFromEntries.{Has, get-has, from-from, FromStates}
use Rattle.automaton.specs.SoundGraphs.{IsSound}

-- the ends and the weight of an edge
record IsWithin (n states : ℕ) (f t w : ℕ) : Type 0 where
  from : f < states * n
  to : t < states * n
  light : w ≤ 100000000000000

module _ (file : ScenarioFile) (graph : TimedGraph) (is : IsTimedGraph file graph) where
  abbrev n : ℕ
  n = shared_count file.shared

  within : (f t w : ℕ) → FromStates n 0 is.matrices file.states f t w → IsWithin n (length file.states) f t w
  within f t w h =
      let state = slice_get_within file.states h.place h.state h.at in
      let next = is.leads_on.known h.place h.out.p h.out.r h.state h.at h.out.to in
      let row = get-there file.scenarios h.state.scenario (is.leads_on.scenarios h.place h.state h.at) in
      let matrix = (is.are_matrices.each h.state.scenario row.0 row.1).2 in
      let rows = h.out.rows_of in
      let j : rows.j < n = subst (λ m. rows.j < m) matrix.size rows.row in
      let i : rows.i < n = subst (λ m. rows.i < m) (matrix.square rows.j j) rows.within in
      let from = pair-small h.place rows.i n (length file.states) state i in
      let to = pair-small h.out.r rows.j n (length file.states) next j in
      let first : 0 + h.place ≡ h.place = omega arith in
      let start : f ≡ h.place * n + rows.i = rows.start ∙ ap (λ q. q * n + rows.i) first in
      let end : t ≡ h.out.r * n + rows.j = rows.end in
      record { from = rw start from; to = rw end to; light = matrix.short rows.j rows.i w rows.entry }

  edge-within : (k : ℕ) (e : Edge) → slice_get graph.edges k ≡ Some e → IsWithin n (length file.states) e.from e.to e.weight
  edge-within k e at = within e.from e.to e.weight (from-from n 0 is.matrices file.states e.from e.to e.weight (subst (λ es. Has es e.from e.to e.weight) is.edges (get-has graph.edges k e at)))

pub sound : (file : ScenarioFile) (graph : TimedGraph) → IsTimedGraph file graph → 1 ≤ graph.tokens → graph.states * graph.tokens ≤ 1024 → length graph.edges ≤ 65536 → IsSound graph
sound file graph is some nodes few = record {
  some_token = some;
  some_state = rw (is.initial, is.states) is.leads_on.initial;
  nodes = nodes;
  edges = record {
    few = few;
    from = λ k e at. rw (is.states, is.tokens) (edge-within file graph is k e at).from;
    to = λ k e at. rw (is.states, is.tokens) (edge-within file graph is k e at).to;
    light = λ k e at. (edge-within file graph is k e at).light;
  };
}
