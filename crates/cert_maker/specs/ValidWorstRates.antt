-- The certificates of worst rates that are put are valid: no line of them is faulty.
use Rattle.std.specs.Prelude.{◌≡◌, ℕ, ℤ, Some}
use Rattle.sd_base.specs.declared.tables.ScenarioFile.{ScenarioFile}
use Rattle.automaton.specs.declared.graph.TimedGraph.{TimedGraph}
use Rattle.automaton.specs.TimedGraphs.{IsTimedGraph}
use Rattle.automaton.specs.CriticalCycles.{IsCritical, IsReachedNode, Fit}
use Rattle.automaton.specs.WorstRates.{IsWorst}
use Rattle.scenario_rate.specs.declared.answer.Worst.{Worst}
use Rattle.scenario_rate.specs.Answers.{potential_at}
use Rattle.cert_text.specs.declared.certificates.ScenarioCertificate.{ScenarioCertificate}
use Rattle.cert_checker.specs.declared.verdict.Reason.{Reason}
use Rattle.cert_checker.specs.ScenarioCertificates.{IsScenarioFault}
use Rattle.cert_maker.specs.WorstCertificates.{IsWorstCertificate}

-- no line of the certificate of a file's worst rate is faulty, where a critical cycle and potentials that fit, at the nodes that
-- are reached, show the rate
abbrev pub WorstRatesAreValid : Type 0
WorstRatesAreValid =
    (file : ScenarioFile) (graph : TimedGraph) (worst : Worst) (c : ScenarioCertificate)
    → IsTimedGraph file graph → IsWorst file worst.rate.num worst.rate.den
    → IsCritical graph worst.rate.num worst.rate.den worst.cycle → Fit graph worst.rate.num worst.rate.den (potential_at worst.potentials)
    → ((v : ℕ) (x : ℤ) → potential_at worst.potentials v ≡ Some x → IsReachedNode graph v)
    → IsWorstCertificate graph worst c
    → (line : ℕ) (reason : Reason) → IsScenarioFault graph c line reason → ⊥
