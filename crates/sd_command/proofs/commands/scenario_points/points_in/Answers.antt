use Rattle.std.proofs.Common.{◌≡◌, ◌∙◌, ◌+◌, ◌≤◌, ℕ, List, Result, Err, Ok, ap, refl, subst, sym, arith}
use Rattle.std.proofs.lemmas.Result.{err_from_is_err_and}
use Rattle.sd_base.specs.declared.limits.TheConstants.{NODES, STORAGE}
use Rattle.sd_base.specs.declared.tables.ScenarioFile.{ScenarioFile}
use Rattle.sd_base.specs.Scenarios.{FileKeepsRules}
use Rattle.bounded_scenarios.specs.Boundings.{looped_tokens}
use Rattle.scenario_storage.specs.declared.point.ScenarioLimits.{ScenarioLimits}
use Rattle.scenario_storage.specs.declared.point.ScenarioPoint.{ScenarioPoint}
use Rattle.report.specs.ScenarioPointTexts.{scenario_points_lines}
use Rattle.sd_steps.specs.declared.answer.Answer.{Answer}
use Rattle.sd_steps.specs.declared.stop.Stop.{Stop}
use Rattle.sd_steps.specs.Courses.{Ending, After, ends_by}
use Rattle.sd_steps.specs.ScenarioBounds.{ArePassed, bounding_all, fitting_nodes}
use Rattle.sd_command.specs.commands.ScenarioPoints.{points_in, searching}
use Rattle.sd_steps.specs.Steps.{Does}
use Rattle.sd_command.specs.inside.Goings.{Goes}
use Rattle.sd_command.proofs.command_lemmas.TestedFilesHaveBounds.{can-be-bounded, tokens-few}
use Rattle.sd_command.proofs.command_lemmas.CommandsFollowSteps.{goes_on, step_stops}
use Rattle.sd_command.proofs.command_lemmas.AnalysesEndCommands.{search_answers, search_stops}
use Rattle.sd_command.proofs.commands.scenario_points.points_in.Goals as goal

abbrev tokens : ScenarioFile → ScenarioLimits → ℕ
tokens file limits = limits.total + looped_tokens file.scenarios file.shared

abbrev bounded_on : ScenarioFile → ScenarioLimits → Unit {0} → Ending → ℕ → Type 0
bounded_on file limits bounded = After (fitting_nodes file (tokens file limits)) (λ few. ends_by (searching file limits))

-- the number of tokens that is computed
few : (file : ScenarioFile) (limits : ScenarioLimits) (n : ℕ) → FileKeepsRules file → limits.total ≤ STORAGE → n ≡ looped_tokens file.scenarios file.shared → limits.total + n ≤ STORAGE + NODES
few file limits n rules small is = subst (λ (m : ℕ). limits.total + m ≤ STORAGE + NODES) (sym is) (tokens-few file limits.total rules small)

pub overflow_add-tokens : goal.overflow_add-tokens
overflow_add-tokens g c = let most = few c.args.file.now c.args.limits c.looped_tokens.result c.requires.rules c.requires.total c.looped_tokens.ensures in omega (arith, most)

pub bound_all-requires-clause-tokens : goal.bound_all-requires-clause-tokens
bound_all-requires-clause-tokens g c = few c.args.file.now c.args.limits c.looped_tokens.result c.requires.rules c.requires.total c.looped_tokens.ensures

pub returns-in_err-bound_all-clause-goes : goal.returns-in_err-bound_all-clause-goes
returns-in_err-bound_all-clause-goes g c = λ faults.
    let file = c.args.file.now in
    let limits = c.args.limits in
    let p = err_from_is_err_and c.from_residual.result c.from_residual.ensures.1 in
    rw (p.1, p.2) (step_stops (bounding_all file (tokens file limits)) (bounded_on file limits) 0 refl _ faults
    (subst (λ (n : ℕ). Does (bounding_all file (limits.total + n)) (Err c.in_err-bound_all.field-0.0)) c.looped_tokens.ensures c.in_err-bound_all.ensures))

pub fit_nodes-requires-clause-tokens : goal.fit_nodes-requires-clause-tokens
fit_nodes-requires-clause-tokens g c = few c.args.file.now c.args.limits c.looped_tokens.result c.requires.rules c.requires.total c.looped_tokens.ensures

-- the scenarios pass their tests, with the tokens as they are defined
passed : (file : ScenarioFile) (limits : ScenarioLimits) (n : ℕ) → n ≡ looped_tokens file.scenarios file.shared → ArePassed file (limits.total + n) → ArePassed file (tokens file limits)
passed file limits n is all = subst (λ (m : ℕ). ArePassed file (limits.total + m)) is all

pub returns-in_err-fit_nodes-clause-goes : goal.returns-in_err-fit_nodes-clause-goes
returns-in_err-fit_nodes-clause-goes g c = λ faults.
    let file = c.args.file.now in
    let limits = c.args.limits in
    let p = err_from_is_err_and c.from_residual-in_err-fit_nodes.result c.from_residual-in_err-fit_nodes.ensures.1 in
    rw (p.1, p.2) (goes_on (bounding_all file (tokens file limits)) (bounded_on file limits) tt _ 0 faults faults
    (passed file limits c.looped_tokens.result c.looped_tokens.ensures c.in_ok-bound_all.ensures)
    (step_stops (fitting_nodes file (tokens file limits)) _ 0 refl _ faults
    (subst (λ (n : ℕ). Does (fitting_nodes file (limits.total + n)) (Err c.in_err-fit_nodes.field-0.0)) c.looped_tokens.ensures c.in_err-fit_nodes.ensures)))

-- and the nodes fit
fits : (file : ScenarioFile) (limits : ScenarioLimits) (n : ℕ) → n ≡ looped_tokens file.scenarios file.shared → (fitting_nodes file (limits.total + n)).passes tt
    → (fitting_nodes file (tokens file limits)).passes tt
fits file limits n is few = subst (λ (m : ℕ). (fitting_nodes file (limits.total + m)).passes tt) is few

pub search-requires-clause-bounded : goal.search-requires-clause-bounded
search-requires-clause-bounded g c κs within =
    let file = c.args.file.now in
    let limits = c.args.limits in
    can-be-bounded file limits.total c.requires.rules c.requires.names (passed file limits c.looped_tokens.result c.looped_tokens.ensures c.in_ok-bound_all.ensures)
    (fits file limits c.looped_tokens.result c.looped_tokens.ensures c.in_ok-fit_nodes.ensures)

-- past the tests the command goes as the search
searched : (file : ScenarioFile) (limits : ScenarioLimits) (n faults : ℕ) (result : Result Answer Stop) → n ≡ looped_tokens file.scenarios file.shared
    → ArePassed file (limits.total + n) → (fitting_nodes file (limits.total + n)).passes tt
    → Goes (ends_by (searching file limits)) result 0 faults faults → Goes (points_in limits file) result 0 faults faults
searched file limits n faults result is all few goes =
    goes_on (bounding_all file (tokens file limits)) (bounded_on file limits) tt result 0 faults faults (passed file limits n is all)
    (goes_on (fitting_nodes file (tokens file limits)) _ tt result 0 faults faults (fits file limits n is few) goes)

pub returns-in_err-points-clause-goes : goal.returns-in_err-points-clause-goes
returns-in_err-points-clause-goes g c = λ faults.
    let p = err_from_is_err_and c.from_residual-in_err-points.result c.from_residual-in_err-points.ensures.1 in
    rw (p.1, p.2) (searched c.args.file.now c.args.limits c.looped_tokens.result faults (Err c.in_err-points.field-0.0) c.looped_tokens.ensures c.in_ok-bound_all.ensures c.in_ok-fit_nodes.ensures
    (search_stops c.args.file.now c.args.limits faults c.in_err-points.field-0.0 c.in_err-points.ensures.does))

pub returns-clause-goes : goal.returns-clause-goes
returns-clause-goes g c = λ faults.
    searched c.args.file.now c.args.limits c.looped_tokens.result faults (Ok _) c.looped_tokens.ensures c.in_ok-bound_all.ensures c.in_ok-fit_nodes.ensures
    (search_answers c.args.file.now c.args.limits faults _ (record {
      points = c.in_ok-points.points.items;
      are = c.in_ok-points.ensures.does;
      text = c.in_ok-scenario_points_text.ensures ∙ ap (λ (ps : List ScenarioPoint). scenario_points_lines c.args.file.now ps) c.as_slice.ensures.value;
      put = refl;
      none = refl;
    }))

pub returns-clause-entered : goal.returns-clause-entered
returns-clause-entered g c = (c.in_ok-points.points.items, c.in_ok-points.ensures.does, c.in_ok-points.ensures.entered)
