use Rattle.std.proofs.Common.{subst}
use Rattle.file_text.specs.declared.taken.Taken.{Taken}
use Rattle.file_text.specs.inside.Exits.{IsStop}
use Rattle.file_text.proofs.LoopOutcomes.{leaves_fault, too_deep_fault, encoding_fault}
use Rattle.file_text.proofs.read.fault_of.Goals as goal

pub overflow_sub-result : goal.overflow_sub-result
overflow_sub-result c =
    (too_deep_fault c.args.bytes.now c.args.n (subst (λ (t : Taken). IsStop c.args.bytes.now c.args.n t) c.in-TooDeep.is c.requires)).0

pub returns-in-Leaves : goal.returns-in-Leaves
returns-in-Leaves c =
    leaves_fault c.args.bytes.now c.args.n c.fault_at.result (subst (λ (t : Taken). IsStop c.args.bytes.now c.args.n t) c.in-Leaves.is c.requires) c.fault_at.ensures

pub returns-in-TooDeep : goal.returns-in-TooDeep
returns-in-TooDeep c =
    (too_deep_fault c.args.bytes.now c.args.n (subst (λ (t : Taken). IsStop c.args.bytes.now c.args.n t) c.in-TooDeep.is c.requires)).1

pub returns-in-OtherEncoding : goal.returns-in-OtherEncoding
returns-in-OtherEncoding c =
    encoding_fault c.args.bytes.now c.args.n c.value_start.result
    (subst (λ (t : Taken). IsStop c.args.bytes.now c.args.n t) c.in-OtherEncoding.is c.requires)
    (record { within = c.value_start.ensures.within; behind = c.value_start.ensures.behind; last = c.value_start.ensures.last })
