-- The first fault of a certificate of a worst-case rate.
use Rattle.std.proofs.Common.{◌≡◌, ℕ, ◌+◌, ◌≤◌, ◌<◌, ◌⊎◌, length, inl, inr, sym, refl, subst, ⊎_elim, arith}
use Rattle.std.proofs.lemmas.Bool.{cases_lt}
use Rattle.automaton.specs.declared.graph.TimedGraph.{TimedGraph}
use Rattle.cert_text.specs.declared.certificates.ScenarioCertificate.{ScenarioCertificate}
use Rattle.cert_checker.specs.declared.verdict.Reason.{Reason}
use Rattle.cert_checker.specs.declared.verdict.Reason.TheVariants as reasons
use Rattle.cert_checker.specs.Verdicts.{IsFirst, rank_of}
use Rattle.cert_checker.specs.Schedules.{IsRateLine}
use Rattle.cert_checker.specs.ListedNodes.{IsClosedWalk, ListsNodes, FitsAt}
use Rattle.cert_checker.specs.ScenarioCertificates.{IsScenarioFault, rate, cycle, nodes, potential}

module _ (graph : TimedGraph) (c : ScenarioCertificate) (is_rate : IsRateLine c.rate) (is_walk : IsClosedWalk graph c.rate c.time c.nodes) (lists : ListsNodes graph c.potentials) where
  pub first-unfit : (i line : ℕ) → (i < length c.potentials) × (FitsAt graph c.rate c.potentials i → ⊥) × ((j : ℕ) → j < i → FitsAt graph c.rate c.potentials j) → line ≡ 5 + length c.nodes + i
      → IsFirst (IsScenarioFault graph c) line reasons.Potential
  first-unfit i line (below, wrong, earlier) at = record { is = potential i below wrong at refl; least = least }
    where
      least : (l : ℕ) (r : Reason) → IsScenarioFault graph c l r → (line < l) ⊎ ((line ≡ l) × (rank_of reasons.Potential ≤ rank_of r))
      least l r (rate h il ir) = absurd (h is_rate)
      least l r (cycle h il ir) = absurd (h is_walk)
      least l r (nodes h il ir) = absurd (h lists)
      least l r (potential j within h il ir) = ⊎_elim
          (λ (less : j < i). absurd (h (earlier j less)))
          (λ (more : i ≤ j). ⊎_elim
          (λ (less : i < j). inl (omega arith))
          (λ (no_more : j ≤ i). inr (omega arith, subst (λ (x : Reason). rank_of reasons.Potential ≤ rank_of x) (sym ir) (omega arith)))
          (cases_lt i j))
          (cases_lt j i)

  pub no-fault : ((i : ℕ) → i < length c.potentials → FitsAt graph c.rate c.potentials i) → (l : ℕ) (r : Reason) → IsScenarioFault graph c l r → ⊥
  no-fault fits l r (rate h il ir) = h is_rate
  no-fault fits l r (cycle h il ir) = h is_walk
  no-fault fits l r (nodes h il ir) = h lists
  no-fault fits l r (potential i below h il ir) = h (fits i below)
