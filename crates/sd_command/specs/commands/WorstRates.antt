-- The command `scenario`.
use Rattle.std.specs.Prelude.{◌≡◌, ℕ, ℤ, List, Option, Some}
use Rattle.sd_base.specs.declared.tables.ScenarioFile.{ScenarioFile}
use Rattle.automaton.specs.declared.graph.TimedGraph.{TimedGraph}
use Rattle.automaton.specs.TimedGraphs.{IsTimedGraph}
use Rattle.automaton.specs.CriticalCycles.{AreLeast, IsCritical, IsReachedNode, Fit}
use Rattle.automaton.specs.WorstRates.{IsWorst}
use Rattle.scenario_rate.specs.declared.answer.Worst.{Worst}
use Rattle.scenario_rate.specs.Answers.{potential_at}
use Rattle.scenario_rate.specs.ChosenCycles.{IsChosen}
use Rattle.cert_text.specs.declared.certificates.Certificate.{Certificate}
use Rattle.cert_text.specs.declared.certificates.Certificate.TheVariants as certificates
use Rattle.cert_text.specs.declared.certificates.ScenarioCertificate.{ScenarioCertificate}
use Rattle.cert_maker.specs.WorstCertificates.{IsWorstCertificate}
use Rattle.report.specs.declared.refusal.Refusal.{Refusal}
use Rattle.report.specs.WorstTexts.{worst_lines}
use Rattle.sd_io.specs.Outside.{Files}
use Rattle.sd_steps.specs.declared.answer.Answer.{Answer}
use Rattle.sd_steps.specs.Certifyings.{Certifies, IsTooLong}
use Rattle.sd_steps.specs.Courses.{Analysis, Ending, After, ends_by}
use Rattle.sd_steps.specs.ScenarioSteps.{opening_scenarios, timing}
use Rattle.sd_command.specs.PlainCertificates.{IsPlainWorst}

-- a worst rate of a file is shown by its timed graph: by the chosen critical cycle, and by the least potentials that fit, which
-- stand at the nodes that are reached
pub record IsShown (file : ScenarioFile) (graph : TimedGraph) (worst : Worst) : Type 0 where
  pub timed : IsTimedGraph file graph
  pub rate : IsWorst file worst.rate.num worst.rate.den
  pub critical : IsCritical graph worst.rate.num worst.rate.den worst.cycle
  pub chosen : IsChosen graph worst.rate.num worst.rate.den (potential_at worst.potentials) worst.cycle
  pub fit : Fit graph worst.rate.num worst.rate.den (potential_at worst.potentials)
  pub reached : (v : ℕ) (x : ℤ) → potential_at worst.potentials v ≡ Some x → IsReachedNode graph v
  pub least : AreLeast graph worst.rate.num worst.rate.den (potential_at worst.potentials)

-- a certificate of a worst rate, which is plain
abbrev pub IsOfWorst : TimedGraph → Worst → Certificate → Type 0
IsOfWorst graph worst c = (s : ScenarioCertificate) × (c ≡ certificates.Scenario s) × IsWorstCertificate graph worst s × IsPlainWorst graph s

-- its text is sent, and the certificate is made of it; nothing is executed
pub record IsWorstAnswer (file : ScenarioFile) (graph : TimedGraph) (certificate : Option (List ℕ)) (answer : Answer) (n : ℕ) : Type 0 where
  pub worst : Worst
  pub is : IsShown file graph worst
  pub text : answer.text ≡ worst_lines file.states file.shared graph worst
  pub put : Certifies certificate (IsOfWorst graph worst) answer.put
  pub none : n ≡ 0

-- the certificate of a worst rate is too long
pub record IsWorstTooLong (file : ScenarioFile) (graph : TimedGraph) (certificate : Option (List ℕ)) (refusal : Refusal) (n : ℕ) : Type 0 where
  pub worst : Worst
  pub is : IsShown file graph worst
  pub long : IsTooLong certificate (IsOfWorst graph worst) refusal
  pub none : n ≡ 0

abbrev pub telling_worst : ScenarioFile → Option (List ℕ) → TimedGraph → Analysis
telling_worst file certificate graph = record {
  answered = λ answer n. IsWorstAnswer file graph certificate answer n;
  refused = λ refusal n. ⊥;
  ended = λ refusal n. IsWorstTooLong file graph certificate refusal n;
  counted = λ n. n ≡ 0;
}

-- the worst rate of a file of scenarios
abbrev pub worst_of : Option (List ℕ) → ScenarioFile → Ending → ℕ → Type 0
worst_of certificate file =
    After (timing file) λ graph.
    ends_by (telling_worst file certificate graph)

abbrev pub scenario : List ℕ → Option (List ℕ) → Files → Ending → ℕ → Type 0
scenario name certificate files =
    After (opening_scenarios files name) λ file.
    worst_of certificate file
