-- Which certificates have a spelling.
use Rattle.std.specs.Prelude.{◌≡◌, ℕ, ◌+◌, ◌<◌, ◌≤◌, List, All, length, slice_index_or}
use Rattle.sd_base.specs.declared.limits.TheConstants.{START}
use Rattle.sd_base.specs.declared.role.Role.TheVariants.{Order}
use Rattle.cert_text.specs.declared.certificates.Certificate.{Certificate}
use Rattle.cert_text.specs.declared.certificates.Certificate.TheVariants.{Rate, Storage, Scenario}
use Rattle.cert_text.specs.declared.certificates.LinkCycle.{LinkCycle}
use Rattle.cert_text.specs.declared.certificates.LinkStep.{LinkStep}
use Rattle.cert_text.specs.declared.certificates.MemberLine.{MemberLine}
use Rattle.cert_text.specs.declared.certificates.MemberShown.{MemberShown}
use Rattle.cert_text.specs.declared.certificates.MemberShown.TheVariants.{Cycle, Blocked}
use Rattle.cert_text.specs.declared.certificates.PointLine.{PointLine}
use Rattle.cert_text.specs.declared.certificates.RateCertificate.{RateCertificate}
use Rattle.cert_text.specs.declared.certificates.StorageCertificate.{StorageCertificate}

-- the channels of buffers rise
abbrev pub Rise : List (ℕ × ℕ) → Type 0
Rise buffers = (i : ℕ) → i + 1 < length buffers → (slice_index_or buffers i (0, 0)).0 < (slice_index_or buffers (i + 1) (0, 0)).0

-- an actor's starts are some, and none is too late
pub record AreStarts (starts : List ℕ) : Type 0 where
  pub some : 0 < length starts
  pub early : All (λ s. s ≤ START) starts

-- an edge of an order has no text
abbrev pub HasText : LinkStep → Type 0
HasText step = (a b : ℕ) → step.link ≡ Order a b → ⊥

abbrev pub IsCycleText : LinkCycle → Type 0
IsCycleText cycle = All HasText cycle.steps

abbrev pub AreShown : MemberShown → Type 0
AreShown (Cycle _ _) = Unit {0}
AreShown (Blocked counts) = 0 < length counts

pub record IsRateSpellable (c : RateCertificate) : Type 0 where
  pub buffers : Rise c.buffers
  pub schedule : All AreStarts c.schedule.starts
  pub cycle : IsCycleText c.cycle

pub record IsStorageSpellable (c : StorageCertificate) : Type 0 where
  pub cycles : All IsCycleText c.cycles
  pub members : All (λ (m : MemberLine). AreShown m.shown) c.members
  pub points : All (λ (p : PointLine). All AreStarts p.schedule.starts) c.points

-- each list of starts and of counts has a number, no start is too late, buffers rise, and the cycle of a worst-case rate has a node
abbrev pub IsSpellable : Certificate → Type 0
IsSpellable (Rate c) = IsRateSpellable c
IsSpellable (Storage c) = IsStorageSpellable c
IsSpellable (Scenario c) = 0 < length c.nodes
