use Rattle.std.proofs.Common.{refl}
use Rattle.std.proofs.lemmas.Result.{err_from_is_err_and}
use Rattle.sd_command.proofs.command_lemmas.CommandsFollowSteps.{taking_stops, taken_on}
use Rattle.sd_command.proofs.commands.conversion.answer.Goals as goal

pub returns-in_err-read : goal.returns-in_err-read
returns-in_err-read g c =
    let p = err_from_is_err_and c.from_residual.result c.from_residual.ensures.1 in
    rw (p.1, p.2) (record {
      answers = record {
        goes = taking_stops _ _ _ refl _ _ _ c.in_err-read.ensures.takes;
        stays = c.in_err-read.ensures.stays;
        grows = c.in_err-read.ensures.grows;
      };
    })

pub returns : goal.returns
returns g c = record {
  answers = record {
    goes = taken_on _ _ c.in_ok-read.read _ 0 _ _ _ c.in_ok-read.ensures.takes (c.converted.ensures _);
    stays = c.in_ok-read.ensures.stays;
    grows = c.in_ok-read.ensures.grows;
  };
}
