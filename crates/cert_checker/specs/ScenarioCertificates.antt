-- Valid certificates of worst-case rates of scenarios, and what they show.
use Rattle.std.specs.Prelude.{◌≡◌, ℕ, ◌+◌, ◌<◌, length}
use Rattle.sd_base.specs.declared.tables.ScenarioFile.{ScenarioFile}
use Rattle.automaton.specs.declared.graph.TimedGraph.{TimedGraph}
use Rattle.automaton.specs.TimedGraphs.{IsTimedGraph}
use Rattle.automaton.specs.WorstRates.{IsWorst}
use Rattle.cert_text.specs.declared.certificates.ScenarioCertificate.{ScenarioCertificate}
use Rattle.cert_checker.specs.declared.verdict.Claim.{Claim}
use Rattle.cert_checker.specs.declared.verdict.Claim.TheVariants as claims
use Rattle.cert_checker.specs.declared.verdict.Reason.{Reason}
use Rattle.cert_checker.specs.declared.verdict.Reason.TheVariants as reasons
use Rattle.cert_checker.specs.Schedules.{IsRateLine}
use Rattle.cert_checker.specs.ListedNodes.{IsClosedWalk, ListsNodes, FitsAt}

-- The faults of lines. Line 1 has the version, 2 the kind, 3 the rate, 4 the cycle with its first node; then come a line for each
-- further node, that of the number of potentials, and a line for each potential.
pub data IsScenarioFault (graph : TimedGraph) (c : ScenarioCertificate) (line : ℕ) (reason : Reason) : Type 0 where
  rate : (IsRateLine c.rate → ⊥) → line ≡ 3 → reason ≡ reasons.Rate → IsScenarioFault graph c line reason
  cycle : (IsClosedWalk graph c.rate c.time c.nodes → ⊥) → line ≡ 4 → reason ≡ reasons.Cycle → IsScenarioFault graph c line reason
  nodes : (ListsNodes graph c.potentials → ⊥) → line ≡ 4 + length c.nodes → reason ≡ reasons.Node → IsScenarioFault graph c line reason
  potential : (i : ℕ) → i < length c.potentials → (FitsAt graph c.rate c.potentials i → ⊥) →
      line ≡ 5 + length c.nodes + i → reason ≡ reasons.Potential → IsScenarioFault graph c line reason

-- the faults in a version: a certificate of a worst-case rate has the same lines in each
abbrev pub IsWorstFault : TimedGraph → ℕ → ScenarioCertificate → ℕ → Reason → Type 0
IsWorstFault graph version c = IsScenarioFault graph c

-- the claim is the worst rate of each file whose timed graph this is
abbrev pub IsWorstClaim : TimedGraph → ScenarioCertificate → Claim → Type 0
IsWorstClaim graph c (claims.Worst x) = (x.num ≡ c.rate.0) × (x.den ≡ c.rate.1) × ((file : ScenarioFile) → IsTimedGraph file graph → IsWorst file x.num x.den)
IsWorstClaim graph c (claims.Rate x) = ⊥
IsWorstClaim graph c (claims.Points number limit) = ⊥
