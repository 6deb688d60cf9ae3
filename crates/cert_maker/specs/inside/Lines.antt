-- What the lines of members and of points rest on.
use Rattle.std.specs.Prelude.{◌≡◌, ℕ, ◌<◌, ◌≤◌, Option, Some, List, ◌++◌, All, length, drop, slice_get, slice_index_or, Contains}
use Rattle.sd_base.specs.declared.limits.TheConstants.{STORAGE}
use Rattle.sd_base.specs.Net.{Net}
use Rattle.critical.specs.declared.cycle.CycleStep.{CycleStep}
use Rattle.storage.specs.BoundedNets.{bound}
use Rattle.storage.specs.Distributions.{IsDistribution, storage_of}
use Rattle.pareto_front.specs.declared.point.Point.{Point}
use Rattle.explore.specs.declared.exploration.Member.{Member}
use Rattle.evaluations.specs.declared.shown.Shown.{Shown}
use Rattle.evaluations.specs.declared.shown.Shown.TheVariants.{Cycle, Blocked}
use Rattle.cert_text.specs.declared.certificates.LinkCycle.{LinkCycle}
use Rattle.cert_text.specs.declared.certificates.MemberShown.{MemberShown}
use Rattle.cert_text.specs.Orderly.{used_with}
use Rattle.cert_text.specs.Spellable.{IsCycleText}

-- the steps are along channels of the net; there are counts
abbrev pub HasText : Net → Shown → Type 0
HasText net (Cycle cycle) = All (λ (s : CycleStep). s.channel < length net.channels) cycle.steps
HasText net (Blocked counts) = 0 < length counts

-- a member whose bounded net can be made, and whose line has a text
pub record HasLine (net : Net) (m : Member) : Type 0 where
  pub distribution : IsDistribution net.channels m.capacities.capacities
  pub small : storage_of net.channels m.capacities.capacities ≤ STORAGE
  pub shown : HasText (bound net m.capacities.capacities) m.shown

-- the cycles after a line: those before it, and a new one if the line shows one
pub record AddsCycles (old new : List LinkCycle) (line : MemberShown) : Type 0 where
  pub used : used_with (length old) line ≡ Some (length new)
  pub more : List LinkCycle
  pub begins : new ≡ old ++ more
  pub text : All IsCycleText more

-- each point's distribution is among these, and after that of each point before it
pub record ArePlaced (dss : List (List (Option ℕ))) (points : List Point) : Type 0 where
  pub there : (k : ℕ) (d : Point) → k < length points → Contains dss (slice_index_or points k d).capacities.capacities
  pub later : (j k i : ℕ) (d : Point) → j < k → k < length points → slice_get dss i ≡ Some (slice_index_or points j d).capacities.capacities
      → Contains (drop i dss) (slice_index_or points k d).capacities.capacities
