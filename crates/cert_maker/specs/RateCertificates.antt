-- What is put for a rate.
use Rattle.std.specs.Prelude.{◌≡◌, ℕ, suc, ◌*◌, Bool, List, [], ◌∷◌, Option, Some, None}
use Rattle.std.specs.Int.{IsGcd}
use Rattle.sd_base.specs.Net.{Net}
use Rattle.periodic.specs.declared.schedule.Periodic.{Periodic}
use Rattle.critical.specs.declared.cycle.NeedCycle.{NeedCycle}
use Rattle.cert_text.specs.declared.certificates.RateCertificate.{RateCertificate}
use Rattle.cert_maker.specs.Links.{link_cycle}

-- the channels from c on that have a capacity, each with it
abbrev pub buffers_from : ℕ → List (Option ℕ) → List (ℕ × ℕ)
buffers_from c [] = []
buffers_from c (None ∷ ds) = buffers_from (suc c) ds
buffers_from c (Some k ∷ ds) = (c, k) ∷ buffers_from (suc c) ds

-- a rate is so many rounds by a period, in lowest terms
pub record IsLowest (rounds period : ℕ) (rate : ℕ × ℕ) : Type 0 where
  pub same : rate.0 * period ≡ rounds * rate.1
  pub lowest : IsGcd rate.0 rate.1 1

-- a certificate has a schedule and a need cycle of a net that is bounded by a distribution, and the rate of the schedule
pub record IsRateCertificate (net : Net) (no_overlap : Bool) (ds : List (Option ℕ)) (schedule : Periodic) (cycle : NeedCycle) (c : RateCertificate) : Type 0 where
  pub overlap : c.no_overlap ≡ no_overlap
  pub buffers : c.buffers ≡ buffers_from 0 ds
  pub rate : IsLowest schedule.rounds schedule.period c.rate
  pub keeps : c.schedule ≡ schedule
  pub bounds : c.cycle ≡ link_cycle net cycle
