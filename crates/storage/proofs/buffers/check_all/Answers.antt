use Rattle.std.proofs.Common.{◌∙◌, sym, subst}
use Rattle.std.proofs.lemmas.Result.{err_from_is_err_and}
use Rattle.storage.specs.NamedBuffers.{Tells}
use Rattle.storage.proofs.NamedFaults.{no-fault, end-fault, one-fault}
use Rattle.storage.proofs.buffers.check_all.Goals as goal

pub returns-in_err-check-clause-fault : goal.returns-in_err-check-clause-fault
returns-in_err-check-clause-fault c =
    let p = err_from_is_err_and c.from_residual.result c.from_residual.ensures.1 in
    let tells = one-fault c.args.channels.now c.args.buffers.now c.loop-buffer.buffer-index c.buffer-item.result c.in_err-check.field-0.0 c.loop-buffer-test.true c.buffer-item.is c.in_err-check.ensures.fault in
    rw (p.1, p.2) (subst (Tells c.in_err-check.field-0.0) c.loop-buffer.invariant tells)

pub loop-buffer-preserved : goal.loop-buffer-preserved
loop-buffer-preserved c = no-fault c.args.channels.now c.args.buffers.now c.loop-buffer.buffer-index c.buffer-item.result c.loop-buffer-test.true c.buffer-item.is c.in_ok-check.ensures.whole ∙ c.loop-buffer.invariant

pub returns-clause-whole : goal.returns-clause-whole
returns-clause-whole c = sym c.loop-buffer.invariant ∙ end-fault c.args.channels.now c.args.buffers.now c.loop-buffer.buffer-index c.loop-buffer-test.false
