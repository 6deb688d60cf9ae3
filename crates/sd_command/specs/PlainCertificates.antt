-- Plain certificates: what is listed beside what makes a certificate valid.
use Rattle.std.specs.Prelude.{◌≡◌, ℕ, Option, Some, List, All, map, slice_get}
use Rattle.sd_base.specs.Net.{Net}
use Rattle.sd_base.specs.Untimed.{IsBlockedBy}
use Rattle.firing.specs.declared.table.LoopTable.{LoopTable}
use Rattle.lasso.specs.LoopAnswers.{IsFound}
use Rattle.periodic.specs.LoopSchedules.{IsScheduleOf}
use Rattle.critical.specs.declared.cycle.NeedCycle.{NeedCycle}
use Rattle.critical.specs.CriticalCycles.{IsCriticalCycleOf}
use Rattle.storage.specs.BoundedNets.{bound}
use Rattle.storage.specs.StorageOrder.{AreInOrder}
use Rattle.explore.specs.Reachable.{IsReachable}
use Rattle.automaton.specs.declared.graph.TimedGraph.{TimedGraph}
use Rattle.automaton.specs.CriticalCycles.{AreLeast, Fit}
use Rattle.scenario_rate.specs.declared.answer.Worst.{Worst}
use Rattle.scenario_rate.specs.Answers.{IsApart, potential_at}
use Rattle.cert_text.specs.declared.certificates.LinkCycle.{LinkCycle}
use Rattle.cert_text.specs.declared.certificates.MemberLine.{MemberLine}
use Rattle.cert_text.specs.declared.certificates.MemberShown.{MemberShown}
use Rattle.cert_text.specs.declared.certificates.MemberShown.TheVariants.{Cycle, Blocked}
use Rattle.cert_text.specs.declared.certificates.PointLine.{PointLine}
use Rattle.cert_text.specs.declared.certificates.RateCertificate.{RateCertificate}
use Rattle.cert_text.specs.declared.certificates.ScenarioCertificate.{ScenarioCertificate}
use Rattle.cert_text.specs.declared.certificates.StorageCertificate.{StorageCertificate}
use Rattle.cert_maker.specs.Links.{link_cycle}
use Rattle.cert_maker.specs.WorstCertificates.{IsWorstCertificate}

-- the need cycle that is listed is a critical one of a loop, so it goes round once, and is numbered as low as leaves no firing below 0
abbrev pub IsPlainCycle : Net → LoopTable → LinkCycle → Type 0
IsPlainCycle net table listed = (cycle : NeedCycle) × IsCriticalCycleOf net table cycle × (listed ≡ link_cycle net cycle)

-- the certificate of a rate lists the schedule and a critical need cycle of the loop of its net
pub record IsPlainRate (net : Net) (states : ℕ) (c : RateCertificate) : Type 0 where
  pub table : LoopTable
  pub found : IsFound net states table
  pub schedule : IsScheduleOf net table c.schedule
  pub cycle : IsPlainCycle net table c.cycle

-- a line shows a critical need cycle of the loop of a member's net, by its number, or counts that block the net
abbrev pub IsPlainlyShown : Net → ℕ → List LinkCycle → MemberShown → Type 0
IsPlainlyShown net states cycles (Cycle rate i) =
    (listed : LinkCycle) × (slice_get cycles i ≡ Some listed) × ((table : LoopTable) × IsFound net states table × IsPlainCycle net table listed)
IsPlainlyShown net states cycles (Blocked counts) = (lacks : List (Option ℕ)) × IsBlockedBy net counts lacks

-- the member of a line is reachable within the limit
pub record IsPlainMember (net : Net) (states : ℕ) (c : StorageCertificate) (line : MemberLine) : Type 0 where
  pub reachable : IsReachable net c.limit line.capacities.capacities
  pub shown : IsPlainlyShown (bound net line.capacities.capacities) states c.cycles line.shown

-- the distributions of the lines of members
abbrev pub distributions_in : List MemberLine → List (List (Option ℕ))
distributions_in lines = map (λ (line : MemberLine). line.capacities.capacities) lines

-- the line of a point lists the schedule of the loop of its member's net
pub record IsPlainPoint (net : Net) (states : ℕ) (members : List MemberLine) (line : PointLine) : Type 0 where
  pub distribution : List (Option ℕ)
  pub at : slice_get (distributions_in members) line.member ≡ Some distribution
  pub table : LoopTable
  pub found : IsFound (bound net distribution) states table
  pub schedule : IsScheduleOf (bound net distribution) table line.schedule

-- the certificate of a trade-off lists such members, by storage and then lexicographically, and such points
pub record IsPlainTradeOff (net : Net) (states : ℕ) (c : StorageCertificate) : Type 0 where
  pub members : All (IsPlainMember net states c) c.members
  pub order : AreInOrder net.channels (distributions_in c.members)
  pub points : All (IsPlainPoint net states c.members) c.points

-- the certificate of a worst rate lists a cycle that comes to no node again before it closes, and of potentials that fit the least
pub record IsPlainWorst (graph : TimedGraph) (c : ScenarioCertificate) : Type 0 where
  pub worst : Worst
  pub listed : IsWorstCertificate graph worst c
  pub once : IsApart graph.edges worst.cycle
  pub fit : Fit graph worst.rate.num worst.rate.den (potential_at worst.potentials)
  pub least : AreLeast graph worst.rate.num worst.rate.den (potential_at worst.potentials)
