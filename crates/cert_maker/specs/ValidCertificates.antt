-- The certificates that are put are valid: no line of them is faulty.
use Rattle.std.specs.Prelude.{◌≡◌, ◌≢◌, ℕ, ◌*◌, ◌≤◌, Bool, Option, None, Some, List, [], ◌∷◌}
use Rattle.sd_base.specs.declared.limits.TheConstants.{CAPACITY}
use Rattle.sd_base.specs.declared.tables.ChannelRow.{ChannelRow}
use Rattle.sd_base.specs.declared.tables.GraphFile.{GraphFile}
use Rattle.sd_base.specs.FileNet.{net_of}
use Rattle.sd_base.specs.Lawful.{Lawful}
use Rattle.periodic.specs.declared.schedule.Periodic.{Periodic}
use Rattle.periodic.specs.Periods.{Holds}
use Rattle.critical.specs.declared.cycle.NeedCycle.{NeedCycle}
use Rattle.critical.specs.Cycles.{HoldsOn}
use Rattle.storage.specs.BoundedNets.{bound}
use Rattle.cert_text.specs.declared.certificates.RateCertificate.{RateCertificate}
use Rattle.cert_checker.specs.declared.verdict.Reason.{Reason}
use Rattle.cert_checker.specs.RateCertificates.{IsJoined, IsRateFault}
use Rattle.cert_maker.specs.RateCertificates.{IsRateCertificate}

-- by channel of a file a capacity as words give them, or none: self-loops have none, and each is at least the tokens
-- and at most 1,000,000
abbrev pub AreGiven : List ChannelRow → List (Option ℕ) → Type 0
AreGiven [] [] = Unit {0}
AreGiven [] (d ∷ ds) = ⊥
AreGiven (r ∷ rows) [] = ⊥
AreGiven (r ∷ rows) (None ∷ ds) = AreGiven rows ds
AreGiven (r ∷ rows) (Some k ∷ ds) = (r.source ≢ r.target) × (r.tokens ≤ k) × (k ≤ CAPACITY) × AreGiven rows ds

-- no line of the certificate of a schedule and a need cycle that hold, with the same rounds by time, is faulty
abbrev pub RatesAreValid : Type 0
RatesAreValid =
    (graph : GraphFile) (gamma : List ℕ) (no_overlap : Bool) (ds : List (Option ℕ)) (schedule : Periodic) (cycle : NeedCycle) (c : RateCertificate)
    → Lawful (bound (net_of graph gamma no_overlap) ds) → IsJoined (bound (net_of graph gamma no_overlap) ds) → AreGiven graph.channels ds
    → Holds (bound (net_of graph gamma no_overlap) ds) schedule.period schedule.rounds schedule.starts → HoldsOn (bound (net_of graph gamma no_overlap) ds) cycle
    → cycle.rounds * schedule.period ≡ schedule.rounds * cycle.time
    → IsRateCertificate (bound (net_of graph gamma no_overlap) ds) no_overlap ds schedule cycle c
    → (line : ℕ) (reason : Reason) → IsRateFault graph gamma c line reason → ⊥
