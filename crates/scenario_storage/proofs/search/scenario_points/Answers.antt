use Rattle.std.proofs.Common.{sym, subst}
use Rattle.levels.specs.Entrances.{EnterByLevels}
use Rattle.bounded_scenarios.specs.SharedChannels.{shared_channels}
use Rattle.scenario_storage.specs.Entrances.{AreEntered}
use Rattle.scenario_storage.specs.ScenarioPoints.{AreScenarioPoints}
use Rattle.scenario_storage.proofs.EndedPointsAreFront.{are-entered, points-are}
use Rattle.scenario_storage.proofs.FilesAllowSearch.{searchable}
use Rattle.scenario_storage.proofs.search.scenario_points.Goals as goal

pub gammas_of-requires-clause-rules : goal.gammas_of-requires-clause-rules
gammas_of-requires-clause-rules g c = c.requires.bounded.rules

pub gammas_of-requires-clause-rounds : goal.gammas_of-requires-clause-rounds
gammas_of-requires-clause-rounds g c = λ s row at. let r = c.requires.bounded.runs s row at in (r.gamma, r.round)

pub corner_of-requires : goal.corner_of-requires
corner_of-requires g c = c.requires.bounded.rules

pub begin-requires-clause-plan : goal.begin-requires-clause-plan
begin-requires-clause-plan g c = record { bounded = c.requires.bounded; rounds = c.in_ok-gammas.ensures; total = c.requires.total }

pub take_turns-requires-clause-plan : goal.take_turns-requires-clause-plan
take_turns-requires-clause-plan g c = λ κs outlive. record { bounded = c.requires.bounded; rounds = c.in_ok-gammas.ensures; total = c.requires.total }

pub returns-clause-points : goal.returns-clause-points
returns-clause-points g c =
    subst (λ v. AreScenarioPoints c.args.file.now c.args.limits v.items) (sym c.into_points.ensures)
    (points-are c.args.file.now c.args.limits (searchable c.args.file.now c.args.limits.total c.requires.bounded) c.take_turns.new.search.points.items c.in_ok-take_turns.ensures.ended.1.0)

pub returns-clause-entered : goal.returns-clause-entered
returns-clause-entered g c =
    let ended = c.in_ok-take_turns.ensures.ended in
    subst (λ v. AreEntered c.args.file.now c.args.limits (g.G.Gate.entered c.args.gate.now) v.items) (sym c.into_points.ensures)
    (are-entered c.args.file.now c.args.limits (searchable c.args.file.now c.args.limits.total c.requires.bounded) c.take_turns.new.search.points.items ended.1.0 (g.G.Gate.entered c.args.gate.now)
    (subst (EnterByLevels (shared_channels c.args.file.now) (g.G.Gate.entered c.args.gate.now)) (sym ended.1.1) ended.2))
