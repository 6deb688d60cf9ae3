use Rattle.std.proofs.Common.{◌∙◌, ℕ, List, ap, refl}
use Rattle.std.proofs.lemmas.Result.{err_from_is_err_and}
use Rattle.report.specs.AnswerTexts.{repetition_lines}
use Rattle.sd_steps.specs.Balancings.{balancing}
use Rattle.sd_command.proofs.command_lemmas.CommandsFollowSteps.{step_stops, goes_on, taking_stops, taken_on}
use Rattle.sd_command.proofs.command_lemmas.AnalysesEndCommands.{print_answers}
use Rattle.sd_command.proofs.commands.repetition.answer.Goals as goal

pub returns-in_err-graph : goal.returns-in_err-graph
returns-in_err-graph g c =
    let p = err_from_is_err_and c.from_residual.result c.from_residual.ensures.1 in
    rw (p.1, p.2) (record {
      answers = record {
        goes = taking_stops _ _ _ refl _ _ _ c.in_err-graph.ensures.takes;
        stays = c.in_err-graph.ensures.stays;
        grows = c.in_err-graph.ensures.grows;
      };
    })

pub returns-in_err-gamma : goal.returns-in_err-gamma
returns-in_err-gamma g c =
    let p = err_from_is_err_and c.from_residual-in_err-gamma.result c.from_residual-in_err-gamma.ensures.1 in
    rw (p.1, p.2) (record {
      answers = record {
        goes = taken_on _ _ c.in_ok-graph.graph _ _ _ _ _ c.in_ok-graph.ensures.takes (step_stops (balancing c.in_ok-graph.graph) _ 0 refl _ _ c.in_err-gamma.ensures);
        stays = c.in_ok-graph.ensures.stays;
        grows = c.in_ok-graph.ensures.grows;
      };
    })

pub returns : goal.returns
returns g c = record {
  answers = record {
    goes =
        taken_on _ _ c.in_ok-graph.graph _ _ _ _ _ c.in_ok-graph.ensures.takes
        (goes_on (balancing c.in_ok-graph.graph) _ c.in_ok-gamma.gamma _ _ _ _ c.in_ok-gamma.ensures
        (print_answers _ _ _ _ (c.in_ok-repetition_text.ensures ∙ ap (λ (v : List ℕ). repetition_lines c.in_ok-graph.graph v) c.as_slice.ensures) refl));
    stays = c.in_ok-graph.ensures.stays;
    grows = c.in_ok-graph.ensures.grows;
  };
}
