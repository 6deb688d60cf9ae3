use Rattle.std.proofs.Common.{◌-◌, ℕ, List, IfOk, subst}
use Rattle.scenario_storage.specs.declared.point.ScenarioLimits.{ScenarioLimits}
use Rattle.sd_command.specs.declared.commands.wanted.WantedPoints.{WantedPoints}
use Rattle.sd_command.specs.Entrances.{scenario_storage_entered, storage_entered}
use Rattle.sd_command.proofs.command_lemmas.DoneRunsEntered.{ok-nothing}
use Rattle.sd_command.proofs.requests.command_answer.Goals as goal

pub returns-in-Repetition-clause-entered : goal.returns-in-Repetition-clause-entered
returns-in-Repetition-clause-entered g c = rw c.in-Repetition.is (ok-nothing _)

pub returns-in-Throughput-clause-entered : goal.returns-in-Throughput-clause-entered
returns-in-Throughput-clause-entered g c = rw c.in-Throughput.is (ok-nothing _)

pub returns-in-Scenario-clause-entered : goal.returns-in-Scenario-clause-entered
returns-in-Scenario-clause-entered g c = rw c.in-Scenario.is (ok-nothing _)

pub returns-in-Check-clause-entered : goal.returns-in-Check-clause-entered
returns-in-Check-clause-entered g c = rw c.in-Check.is (ok-nothing _)

pub returns-in-Convert-clause-entered : goal.returns-in-Convert-clause-entered
returns-in-Convert-clause-entered g c = rw c.in-Convert.is (ok-nothing _)

pub returns-in-Expand-clause-entered : goal.returns-in-Expand-clause-entered
returns-in-Expand-clause-entered g c = rw c.in-Expand.is (ok-nothing _)

pub returns-in-Ordered-clause-entered : goal.returns-in-Ordered-clause-entered
returns-in-Ordered-clause-entered g c = rw c.in-Ordered.is (ok-nothing _)

pub returns-in-Complete-clause-entered : goal.returns-in-Complete-clause-entered
returns-in-Complete-clause-entered g c = rw c.in-Complete.is (ok-nothing _)

pub returns-in-Storage-clause-entered : goal.returns-in-Storage-clause-entered
returns-in-Storage-clause-entered g c =
    let wanted : WantedPoints = record { limits = c.in-Storage.limits; no_overlap = c.in-Storage.no_overlap; certificate = c.in-Storage.certificate } in
    rw c.in-Storage.is
    (subst (λ (name : List ℕ). IfOk c.answer-in-Storage.result (λ answer. storage_entered name wanted (g.S.Shelf.files c.args.shelf.now) (g.G.Gate.entered c.args.parallel.now.gate.now) (c.answer-in-Storage.new.steps.count - c.args.steps.now.count)))
    c.as_str-in-Storage.ensures c.answer-in-Storage.ensures.entered)

pub returns-in-ScenarioStorage-clause-entered : goal.returns-in-ScenarioStorage-clause-entered
returns-in-ScenarioStorage-clause-entered g c =
    let limits : ScenarioLimits = record { total = c.in-ScenarioStorage.limit; distributions = c.in-ScenarioStorage.distributions } in
    rw c.in-ScenarioStorage.is
    (subst (λ (name : List ℕ). IfOk c.answer-in-ScenarioStorage.result (λ answer. scenario_storage_entered name limits (g.S.Shelf.files c.args.shelf.now) (g.G.Gate.entered c.args.parallel.now.gate.now)))
    c.as_str-in-ScenarioStorage.ensures c.answer-in-ScenarioStorage.ensures.entered)
