use Rattle.std.proofs.Common.{refl}
use Rattle.std.proofs.lemmas.Result.{err_from_is_err_and}
use Rattle.sd_command.proofs.command_lemmas.CommandsFollowSteps.{taking_stops, taken_on}
use Rattle.sd_command.proofs.commands.worst_rate.answer.Goals as goal

pub returns-in_err-file : goal.returns-in_err-file
returns-in_err-file g c =
    let p = err_from_is_err_and c.from_residual.result c.from_residual.ensures.1 in
    rw (p.1, p.2) (record {
      answers = record {
        goes = taking_stops _ _ _ refl _ _ _ c.in_err-file.ensures.takes;
        stays = c.in_err-file.ensures.stays;
        grows = c.in_err-file.ensures.grows;
      };
    })

pub returns : goal.returns
returns g c = record {
  answers = record {
    goes = taken_on _ _ c.in_ok-file.file _ _ _ _ _ c.in_ok-file.ensures.takes (c.worst_of.ensures _);
    stays = c.in_ok-file.ensures.stays;
    grows = c.in_ok-file.ensures.grows;
  };
}
