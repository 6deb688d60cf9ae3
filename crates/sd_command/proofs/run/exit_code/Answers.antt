use Rattle.std.proofs.Common.{sym, ◌∙◌}
use Rattle.sd_command.proofs.command_lemmas.DoneRunsEntered.{done-alone}
use Rattle.sd_command.proofs.run.exit_code.Goals as goal

pub returns : goal.returns
returns g c = record {
  shows = record {
    status = c.analyse.result;
    is = c.code.ensures;
    cut = c.analyse.ensures.shows.0;
    shows = c.analyse.ensures.shows.1;
  };
  entered = λ none. c.analyse.ensures.entered (done-alone c.analyse.result (sym c.code.ensures ∙ none));
  shelf_grows = c.analyse.ensures.shelf_grows;
  out_grows = c.analyse.ensures.out_grows;
  err_grows = c.analyse.ensures.err_grows;
  steps_stay = c.analyse.ensures.steps_stay;
}
