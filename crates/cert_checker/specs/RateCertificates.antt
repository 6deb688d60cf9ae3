-- Valid certificates of rates, and what they show.
use Rattle.std.specs.Prelude.{◌≡◌, ℕ, ◌+◌, ◌*◌, ◌≤◌, ◌<◌, List, length}
use Rattle.std.specs.Int.{IsGcd}
use Rattle.sd_base.specs.declared.tables.GraphFile.{GraphFile}
use Rattle.sd_base.specs.Net.{Net}
use Rattle.sd_base.specs.FileNet.{net_of}
use Rattle.sd_base.specs.Schedules.{HasInputs}
use Rattle.sd_base.specs.Connection.{IsStronglyConnected}
use Rattle.sd_base.specs.Lawful.{Lawful}
use Rattle.sd_base.specs.Rates.{Rate}
use Rattle.periodic.specs.Periods.{Holds}
use Rattle.periodic.specs.ScheduleLines.{LineHolds}
use Rattle.critical.specs.Cycles.{HoldsOn}
use Rattle.critical.specs.declared.cycle.NeedCycle.{NeedCycle}
use Rattle.storage.specs.BoundedNets.{bound}
use Rattle.cert_text.specs.declared.certificates.RateCertificate.{RateCertificate}
use Rattle.cert_checker.specs.declared.verdict.Claim.{Claim}
use Rattle.cert_checker.specs.declared.verdict.Claim.TheVariants as claims
use Rattle.cert_checker.specs.declared.verdict.Reason.{Reason}
use Rattle.cert_checker.specs.declared.verdict.Reason.TheVariants as reasons
use Rattle.cert_checker.specs.NumberedBuffers.{AreBuffers, capacities_in}
use Rattle.cert_checker.specs.LinkCycles.{IsCycleLine}
use Rattle.cert_checker.specs.Schedules.{IsRateLine, IsScheduleLine}

-- the net of which a certificate speaks: that of the graph, bounded by the certificate's buffers
abbrev pub net_by : GraphFile → List ℕ → RateCertificate → Net
net_by graph gamma c = bound (net_of graph gamma c.no_overlap) (capacities_in (length graph.channels) c.buffers)

-- a path leads from each actor to each, and each has an input
pub record IsJoined (net : Net) : Type 0 where
  pub strong : IsStronglyConnected net
  pub inputs : HasInputs net

-- The faults of lines, of a net with the certificate's buffers. Line 1 has the version, 2 the kind, 3 whether firings may
-- overlap, 4 the buffers, 5 the rate, 6 the schedule; then come a line of starts by actor, and the cycle.
pub data IsLineFault (net : Net) (c : RateCertificate) (line : ℕ) (reason : Reason) : Type 0 where
  joined : (IsJoined net → ⊥) → line ≡ 2 → reason ≡ reasons.Connection → IsLineFault net c line reason
  rate : (IsRateLine c.rate → ⊥) → line ≡ 5 → reason ≡ reasons.Rate → IsLineFault net c line reason
  schedule : (IsScheduleLine net c.rate c.schedule → ⊥) → line ≡ 6 → reason ≡ reasons.Schedule → IsLineFault net c line reason
  starts : (a : ℕ) → a < length c.schedule.starts → (LineHolds net c.schedule.period c.schedule.rounds c.schedule.starts a → ⊥) →
      line ≡ 7 + a → reason ≡ reasons.Schedule → IsLineFault net c line reason
  cycle : (IsCycleLine net c.rate c.cycle → ⊥) → line ≡ 7 + length c.schedule.starts → reason ≡ reasons.Cycle → IsLineFault net c line reason

-- the faults of a certificate: where its buffers aren't right, no other line is asked
pub data IsRateFault (graph : GraphFile) (gamma : List ℕ) (c : RateCertificate) (line : ℕ) (reason : Reason) : Type 0 where
  buffers : (AreBuffers graph.channels c.buffers → ⊥) → line ≡ 4 → reason ≡ reasons.Buffers → IsRateFault graph gamma c line reason
  of_line : AreBuffers graph.channels c.buffers → IsLineFault (net_by graph gamma c) c line reason → IsRateFault graph gamma c line reason

-- the claim is the rate of the net
abbrev pub IsRateClaim : Net → RateCertificate → Claim → Type 0
IsRateClaim net c (claims.Rate x) = (x.num ≡ c.rate.0) × (x.den ≡ c.rate.1) × Rate net x.num x.den
IsRateClaim net c (claims.Points number limit) = ⊥
IsRateClaim net c (claims.Worst x) = ⊥

-- a schedule and a need cycle that hold, both of p rounds in q time units, show that p/q is the rate
abbrev pub RateIsShown : Type 0
RateIsShown =
    (net : Net) (period rounds : ℕ) (starts : List (List ℕ)) (cycle : NeedCycle) (p q : ℕ) → Lawful net → HasInputs net → IsStronglyConnected net
    → Holds net period rounds starts → HoldsOn net cycle → 1 ≤ q → IsGcd p q 1 → rounds * q ≡ p * period → cycle.rounds * q ≡ p * cycle.time → Rate net p q
