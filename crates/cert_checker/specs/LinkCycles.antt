-- Need cycles by links.
use Rattle.std.specs.Prelude.{◌≡◌, ℕ, ◌*◌, ◌<◌, List, [], ◌∷◌, length}
use Rattle.sd_base.specs.Net.{Net, channel_at}
use Rattle.critical.specs.Cycles.{HoldsOn}
use Rattle.critical.specs.declared.cycle.CycleStep.{CycleStep}
use Rattle.critical.specs.declared.cycle.NeedCycle.{NeedCycle}
use Rattle.cert_text.specs.declared.certificates.LinkCycle.{LinkCycle}
use Rattle.cert_text.specs.declared.certificates.LinkStep.{LinkStep}

-- the step is along a channel of the net that stands for the link
pub record IsAlong (net : Net) (link : LinkStep) (step : CycleStep) : Type 0 where
  pub place : step.channel < length net.channels
  pub role : (channel_at net step.channel).role ≡ link.link
  pub to : step.to ≡ link.to

abbrev pub AreAlong : Net → List LinkStep → List CycleStep → Type 0
AreAlong net [] [] = Unit {0}
AreAlong net [] (s ∷ ss) = ⊥
AreAlong net (l ∷ ls) [] = ⊥
AreAlong net (l ∷ ls) (s ∷ ss) = IsAlong net l s × AreAlong net ls ss

-- the same cycle along the channels of a net
pub record IsSpelledBy (net : Net) (links : LinkCycle) (cycle : NeedCycle) : Type 0 where
  pub time : cycle.time ≡ links.time
  pub rounds : cycle.rounds ≡ links.rounds
  pub first : cycle.first ≡ links.first
  pub steps : AreAlong net links.steps cycle.steps

-- a need cycle on the net, of as many rounds for its time as the rate has
pub record IsCycleOf (net : Net) (rate : ℕ × ℕ) (cycle : NeedCycle) : Type 0 where
  pub holds : HoldsOn net cycle
  pub ratio : cycle.rounds * rate.1 ≡ rate.0 * cycle.time

-- the links are one
pub record IsCycleLine (net : Net) (rate : ℕ × ℕ) (links : LinkCycle) : Type 0 where
  pub cycle : NeedCycle
  pub spelled : IsSpelledBy net links cycle
  pub is : IsCycleOf net rate cycle
