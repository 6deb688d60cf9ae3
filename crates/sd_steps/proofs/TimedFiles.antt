-- The timed graph of a file whose scenarios are measured.
use Rattle.std.proofs.Common.{◌*◌, ◌≤◌, ◌<◌, subst, List, length, IfOk, Result, Ok, Err}
use Rattle.sd_base.specs.declared.limits.TheConstants.{EDGES, NODES}
use Rattle.sd_base.specs.declared.tables.ScenarioFile.{ScenarioFile}
use Rattle.sd_base.specs.Scenarios.{FileKeepsRules, shared_count}
use Rattle.automaton.specs.declared.graph.Edge.{Edge}
use Rattle.automaton.specs.declared.graph.TimedGraph.{TimedGraph}
use Rattle.automaton.specs.TimedGraphs.{AreKept, IsProduct, IsTimedGraph, edges_from}
use Rattle.automaton.proofs.KeptMatricesSuffice.{kept-edges, kept-product, kept-same}
use Rattle.automaton.specs.SoundGraphs.{IsSound}
use Rattle.sd_steps.specs.declared.stop.Stop.{Stop}
use Rattle.sd_steps.specs.ScenarioSteps.{Entries, AreMeasured, linking}
use Rattle.sd_steps.specs.Steps.{Does}
use Rattle.sd_steps.proofs.ScenariosAreMeasured.{file_some, matrices}

module _ (file : ScenarioFile) where
  -- it is that of the file
  pub linked_timed : (ms : List Entries) → AreMeasured file ms → (result : Result TimedGraph Stop) → Does (linking file ms) result → IfOk result (IsTimedGraph file)
  linked_timed ms measured (Ok graph) linked = linked.is.timed ms (kept-same file ms) (matrices file ms measured)
  linked_timed ms measured (Err why) stops = tt

  -- and is within the limits
  module _ (rules : FileKeepsRules file)
      (sound : (f : ScenarioFile) (graph : TimedGraph) → IsTimedGraph f graph → 1 ≤ graph.tokens → graph.states * graph.tokens ≤ NODES → length graph.edges ≤ EDGES → IsSound graph) where
    pub linked_sound : (ms : List Entries) → AreMeasured file ms → (result : Result TimedGraph Stop) → Does (linking file ms) result → IfOk result IsSound
    linked_sound ms measured (Ok graph) linked =
        let some : 1 ≤ graph.tokens = rw linked.is.tokens (file_some file ms measured rules) in
        let nodes : graph.states * graph.tokens ≤ NODES = rw (linked.is.states, linked.is.tokens) rules.few_nodes in
        sound file graph (linked.is.timed ms (kept-same file ms) (matrices file ms measured)) some nodes linked.few
    linked_sound ms measured (Err why) stops = tt

-- what is linked by the matrices that are kept is linked by all
module _ (file : ScenarioFile) (ms kept : List Entries) (are : AreKept file ms kept) where
  pub linked_all : (graph : TimedGraph) → IsProduct file kept graph → length graph.edges ≤ EDGES → (linking file ms).passes graph
  linked_all graph is few = record { is = kept-product file ms kept graph are is; few = few }

  pub many_all : EDGES < length (edges_from (shared_count file.shared) 0 kept file.states) → EDGES < length (edges_from (shared_count file.shared) 0 ms file.states)
  many_all many = subst (λ (es : List Edge). EDGES < length es) (kept-edges file ms kept are (shared_count file.shared) 0) many
