use Rattle.std.proofs.Common.{arith, refl}
use Rattle.sd_command.proofs.RunsShowWhatIsSent.{shows_answer, shows_stop}
use Rattle.sd_command.proofs.command_lemmas.DoneRunsEntered.{stopped-undone}
use Rattle.sd_command.proofs.run.analyse.Goals as goal

pub returns-in-Ok-clause-shows : goal.returns-in-Ok-clause-shows
returns-in-Ok-clause-shows g c =
    shows_answer _ (g.S.Shelf.files c.args.shelf.now) _ _ _ _ _ _ _ _ c.in-Ok.ensures.answers.stays _ _ _ (omega arith) _ c.in-Ok.ensures.answers.goes c.deliver.ensures.ends

pub returns-in-Err-clause-shows : goal.returns-in-Err-clause-shows
returns-in-Err-clause-shows g c =
    shows_stop _ (g.S.Shelf.files c.args.shelf.now) _ _ _ _ _ _ c.in-Err.ensures.answers.stays _ _ _ (omega arith) (refl, refl) _ c.in-Err.ensures.answers.goes c.send_stop.ensures.sends

pub returns-in-Ok-clause-entered : goal.returns-in-Ok-clause-entered
returns-in-Ok-clause-entered g c = λ done. c.in-Ok.ensures.entered

pub returns-in-Err-clause-entered : goal.returns-in-Err-clause-entered
returns-in-Err-clause-entered g c = λ done. absurd (stopped-undone c.in-Err.stop c.send_stop.result _ c.send_stop.ensures.sends done)
