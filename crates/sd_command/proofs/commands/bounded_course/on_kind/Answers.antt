use Rattle.std.proofs.Common.{arith}
use Rattle.std.proofs.lemmas.Result.{err_from_is_err_and}
use Rattle.sd_command.proofs.command_lemmas.LackStopsFirst.{lacks-first}
use Rattle.sd_command.proofs.commands.bounded_course.on_kind.Goals as goal

pub returns-in_err-net-in-Sdf-clause-goes : goal.returns-in_err-net-in-Sdf-clause-goes
returns-in_err-net-in-Sdf-clause-goes g c = λ faults.
    let p = err_from_is_err_and c.from_residual.result c.from_residual.ensures.1 in
    rw (p.1, p.2) (lacks-first c.args.wanted.now _ _ _ _ _ faults (omega arith))

pub returns-in_err-net-in-Csdf-clause-goes : goal.returns-in_err-net-in-Csdf-clause-goes
returns-in_err-net-in-Csdf-clause-goes g c = λ faults.
    let p = err_from_is_err_and c.from_residual-in_err-net-in-Csdf.result c.from_residual-in_err-net-in-Csdf.ensures.1 in
    rw (p.1, p.2) (lacks-first c.args.wanted.now _ _ _ _ _ faults (omega arith))
