-- The lines of a need cycle.
use Rattle.std.specs.Prelude.{ℕ, ◌<◌, List, [], ◌∷◌, ◌++◌, length, All, codes}
use Rattle.std.specs.List.{flat_map}
use Rattle.std.specs.Fmt.{decimal}
use Rattle.sd_base.specs.declared.role.Role.{Role}
use Rattle.sd_base.specs.declared.tables.GraphFile.{GraphFile}
use Rattle.sd_base.specs.Net.{Net, channel_at}
use Rattle.critical.specs.declared.cycle.FiringNo.{FiringNo}
use Rattle.critical.specs.declared.cycle.CycleStep.{CycleStep}
use Rattle.critical.specs.declared.cycle.NeedCycle.{NeedCycle}
use Rattle.report.specs.LinkTexts.{actor_name, link_text}

-- a firing is its actor's name and its number
unfoldable pub firing_text : GraphFile → FiringNo → List ℕ
firing_text g firing = actor_name g firing.actor ++ (codes " " ++ decimal firing.number)

-- the time and the rounds of a cycle, and its first firing
unfoldable pub cycle_header : GraphFile → ℕ → ℕ → FiringNo → List ℕ
cycle_header g time rounds first =
    codes "cycle " ++ (decimal time ++ (codes " " ++ (decimal rounds ++ (codes " " ++ (firing_text g first ++ 10 ∷ [])))))

-- a step is its firing and the link that leads to it
unfoldable pub step_line : GraphFile → FiringNo → Role → List ℕ
step_line g to role = firing_text g to ++ (codes " " ++ (link_text g role ++ 10 ∷ []))

abbrev pub step_on : GraphFile → Net → CycleStep → List ℕ
step_on g net step = step_line g step.to (channel_at net step.channel).role

-- the first firing, and a line for each step
unfoldable pub cycle_lines : GraphFile → Net → NeedCycle → List ℕ
cycle_lines g net cycle = cycle_header g cycle.time cycle.rounds cycle.first ++ flat_map (step_on g net) cycle.steps

-- the step leads along a channel of the net to an actor of the graph
pub record IsStepIn (g : GraphFile) (net : Net) (step : CycleStep) : Type 0 where
  pub channel : step.channel < length net.channels
  pub actor : step.to.actor < length g.actors

-- so do the steps of a cycle, whose first firing is of an actor of the graph
pub record IsCycleIn (g : GraphFile) (net : Net) (cycle : NeedCycle) : Type 0 where
  pub first : cycle.first.actor < length g.actors
  pub steps : All (IsStepIn g net) cycle.steps
