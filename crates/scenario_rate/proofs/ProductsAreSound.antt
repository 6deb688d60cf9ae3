-- The graph that is computed of a file and its matrices is one that is searched.
use Rattle.std.proofs.Common.{ℕ, ◌*◌, ◌≤◌, List, length, Option}
use Rattle.sd_base.specs.declared.limits.TheConstants.{EDGES, NODES}
use Rattle.sd_base.specs.declared.tables.ScenarioFile.{ScenarioFile}
use Rattle.sd_base.specs.Scenarios.{LeadsOn, shared_count}
use Rattle.automaton.specs.declared.graph.TimedGraph.{TimedGraph}
use Rattle.automaton.specs.SoundGraphs.{Grows, IsSound}
use Rattle.automaton.specs.TimedGraphs.{AreComputed, IsProduct, IsTimedGraph}
use Rattle.automaton.proofs.ComputedMatricesHold.{computed-are, computed-share}
use Rattle.automaton.proofs.KeptMatricesSuffice.{kept-same}
use Rattle.scenario_rate.proofs.FileGraphs.{sound}
use Rattle.scenario_rate.proofs.WalksGrowHeavy.{heavy}

pub searched : (file : ScenarioFile) (matrices : List (List (List (Option ℕ)))) (graph : TimedGraph) → AreComputed file matrices → LeadsOn file
    → length file.states * shared_count file.shared ≤ NODES → IsProduct file matrices graph → length graph.edges ≤ EDGES → IsTimedGraph file graph × IsSound graph × Grows graph
searched file matrices graph computed leads nodes is edges =
    let timed = is.timed matrices (kept-same file matrices) (computed-are file matrices computed) in
    let some = computed-share file matrices computed leads in
    (timed, sound file graph timed (rw is.tokens some) (rw (is.states, is.tokens) nodes) edges, heavy file graph timed some)
