-- What a valid certificate of a worst-case rate shows.
use Rattle.std.proofs.Common.{◌≡◌, ℕ, ◌≤◌, ◌<◌, List, [], ◌∷◌, Option, length}
use Rattle.std.specs.Prelude.{ℤ}
use Rattle.std.specs.Int.{IsGcd}
use Rattle.sd_base.specs.declared.tables.ScenarioFile.{ScenarioFile}
use Rattle.automaton.specs.declared.graph.TimedGraph.{TimedGraph}
use Rattle.automaton.specs.TimedGraphs.{IsTimedGraph}
use Rattle.automaton.specs.CriticalCycles.{IsCritical, Fit}
use Rattle.automaton.specs.WorstRates.{IsWorst}
use Rattle.cert_checker.specs.Schedules.{IsRateLine}
use Rattle.cert_checker.specs.ListedNodes.{IsClosedWalk, ListsNodes, FitsAt, potential_of}
use Rattle.cert_checker.proofs.WalkTimes.{walked, critical-walk}
use Rattle.cert_checker.proofs.PotentialListsDecide.{fit}

-- a critical cycle and potentials that fit show the worst rate
abbrev pub Law : Type 0
Law = (file : ScenarioFile) (graph : TimedGraph) (l w : ℕ) (cycle : List ℕ) (p : ℕ → Option ℤ) → IsTimedGraph file graph →
    1 ≤ l → 1 ≤ w → IsGcd l w 1 → IsCritical graph l w cycle → Fit graph l w p → IsWorst file l w

pub worst-shown : Law → (graph : TimedGraph) (rate : ℕ × ℕ) (time : ℕ) (nodes : List (ℕ × ℕ)) (ps : List (ℕ × ℕ × ℤ)) → IsRateLine rate → IsClosedWalk graph rate time nodes → ListsNodes graph ps
    → ((i : ℕ) → i < length ps → FitsAt graph rate ps i) → (x y : ℕ) → (x ≡ rate.0) × (y ≡ rate.1) → (file : ScenarioFile) → IsTimedGraph file graph → IsWorst file x y
worst-shown law graph rate time [] ps line walk lists fits x y parts file is = absurd walk
worst-shown law graph rate time (u ∷ nodes) ps line walk lists fits x y (num, den) file is =
    rw (num, den) (law file graph rate.0 rate.1 (walked graph 0 u nodes time walk.joined).edges (potential_of graph ps) is line.some line.positive line.lowest
    (critical-walk graph rate time u nodes walk) (fit graph rate ps lists fits))
