use Rattle.std.proofs.Common.{◌+◌, ◌++◌, ℕ, List, Option, sym, ap, subst}
use Rattle.levels.specs.Frontiers.{distributions_of}
use Rattle.scenario_storage.specs.declared.point.ScenarioPoint.{ScenarioPoint}
use Rattle.scenario_storage.specs.inside.Points.{IsBestOf}
use Rattle.scenario_storage.specs.inside.Searches.{IsSearch, IsSearchOf}
use Rattle.scenario_storage.proofs.LevelsHaveEntered.{turn-entered}
use Rattle.scenario_storage.proofs.TurnsKeepSearch.{all-within, answered-level, best-before, level-answers}
use Rattle.scenario_storage.proofs.search.take_turn.Goals as goal

pub run_level-requires-clause-fits : goal.run_level-requires-clause-fits
run_level-requires-clause-fits g c = λ κs outlive. all-within c.args.plan.now.file.now c.args.plan.now.limits c.args.level.visits.items c.requires.turn.candidates

pub take_in_all-requires-clause-answers : goal.take_in_all-requires-clause-answers
take_in_all-requires-clause-answers g c =
    let plan = c.args.plan.now in (
      c.best_rate-best.result,
      best-before c.best_rate-best.result c.args.level.total c.args.search.now.points.items c.requires.turn.before
          (subst (λ (ps : List ScenarioPoint). IsBestOf ps c.best_rate-best.result) c.as_slice.ensures.value c.best_rate-best.ensures),
      level-answers plan.file.now plan.limits c.args.level.total c.best_rate-best.result c.in_ok-answers.answers.items c.args.level.visits.items c.in_ok-answers.ensures.order c.requires.turn.totals c.in_ok-answers.ensures.answers,
    )

pub take_in_all-requires-clause-search : goal.take_in_all-requires-clause-search
take_in_all-requires-clause-search g c =
    subst (λ (taken : List (List (Option ℕ))). IsSearch c.args.plan.now.file.now c.args.plan.now.limits (c.args.level.total + 1) taken c.args.search.now)
    (sym (answered-level c.in_ok-answers.answers.items c.args.level.visits.items c.in_ok-answers.ensures.order)) c.requires.turn.search

pub returns-clause-stands : goal.returns-clause-stands
returns-clause-stands g c = λ all after.
    let level = c.args.level in
    c.in_ok-take_in_all.ensures.search (all ++ distributions_of level.visits.items)
    (subst (λ (taken : List (List (Option ℕ))). IsSearchOf c.args.plan.now.file.now c.args.plan.now.limits (level.total + 1) (all ++ distributions_of level.visits.items) taken c.args.search.now)
    (sym (answered-level c.in_ok-answers.answers.items level.visits.items c.in_ok-answers.ensures.order))
    (after.0.search, ap (λ (dss : List (List (Option ℕ))). dss ++ distributions_of level.visits.items) after.1))

pub returns-clause-entered : goal.returns-clause-entered
returns-clause-entered g c = λ all after before.
    turn-entered c.args.plan.now.file.now c.args.plan.now.limits c.args.level c.args.search.now after.0 (g.G.Gate.entered c.args.gate.now) c.in_ok-answers.answers.items c.in_ok-answers.ensures.order c.in_ok-answers.ensures.entered all after.1 before
