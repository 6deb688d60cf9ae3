use Rattle.std.proofs.Common.{sym, subst}
use Rattle.std.proofs.lemmas.Result.{err_from_is_err_and}
use Rattle.automaton.specs.TimedGraphs.{AreKept}
use Rattle.sd_steps.specs.ScenarioSteps.{linking, measuring}
use Rattle.sd_steps.proofs.ScenariosAreMeasured.{sized}
use Rattle.sd_steps.proofs.StepsCompose.{through_on, through_stops}
use Rattle.sd_steps.proofs.TimedFiles.{linked_sound, linked_timed}
use Rattle.sd_steps.proofs.scenario_steps.timed.Goals as goal

pub returns-in_err-matrices-clause-does : goal.returns-in_err-matrices-clause-does
returns-in_err-matrices-clause-does c =
    let p = err_from_is_err_and c.from_residual.result c.from_residual.ensures.1 in
    rw (p.1, p.2) (through_stops (measuring c.args.file.now) (λ ms. linking c.args.file.now ms) _ c.in_err-matrices.ensures)

pub link-requires-clause-sized : goal.link-requires-clause-sized
link-requires-clause-sized c =
    let m = c.in_ok-matrices.ensures in
    sized c.args.file.now m.0 m.1 c.requires.leads_on c.as_slice.result.now (subst (AreKept c.args.file.now m.0) (sym c.as_slice.ensures) m.2)

pub returns-clause-does : goal.returns-clause-does
returns-clause-does c =
    let m = c.in_ok-matrices.ensures in
    through_on (measuring c.args.file.now) (λ ms. linking c.args.file.now ms) m.0 c.link.result m.1
    (c.link.ensures m.0 (subst (AreKept c.args.file.now m.0) (sym c.as_slice.ensures) m.2))

pub returns-clause-timed : goal.returns-clause-timed
returns-clause-timed c =
    let m = c.in_ok-matrices.ensures in
    linked_timed c.args.file.now m.0 m.1 c.link.result (c.link.ensures m.0 (subst (AreKept c.args.file.now m.0) (sym c.as_slice.ensures) m.2))

pub returns-clause-sound : goal.returns-clause-sound
returns-clause-sound c =
    let m = c.in_ok-matrices.ensures in
    linked_sound c.args.file.now c.requires c.files_are_sound.ensures m.0 m.1 c.link.result (c.link.ensures m.0 (subst (AreKept c.args.file.now m.0) (sym c.as_slice.ensures) m.2))
