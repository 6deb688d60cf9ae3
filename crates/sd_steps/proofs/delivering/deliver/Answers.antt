use Rattle.std.proofs.Common.{refl}
use Rattle.report.specs.RefusalLines.{memory_line}
use Rattle.sd_steps.specs.declared.status.Status.TheVariants as statuses
use Rattle.sd_steps.specs.Courses.{Answered}
use Rattle.sd_steps.specs.RunEndings.{of_memory, of_putting}
use Rattle.sd_steps.proofs.SentDecidesEnding.{ends_answered, ends_told}
use Rattle.sd_steps.proofs.delivering.deliver.Goals as goal

pub returns-in-Ok-clause-ends : goal.returns-in-Ok-clause-ends
returns-in-Ok-clause-ends g c = ends_answered _ _ c.args.answer.now _ c.in-Ok.ensures.puts c.as_slice.ensures c.send_answer.ensures.sends (refl, refl)

pub returns-in-Err-Failed-clause-ends : goal.returns-in-Err-Failed-clause-ends
returns-in-Err-Failed-clause-ends g c =
    let failed = rw c.in-Err-Failed.field-0-is at c.in-Err-Failed.ensures.puts in
    ends_told _ _ (Answered c.args.answer.now) c.in-Err-Failed.line.text c.in-Err-Failed.line.status
    (of_putting c.args.answer.now failed.0 refl failed.1 failed.2 failed.3) c.send_line.ensures.sends (refl, refl)

pub returns-in-Err-OutOfMemory-clause-ends : goal.returns-in-Err-OutOfMemory-clause-ends
returns-in-Err-OutOfMemory-clause-ends g c =
    let lacking = rw c.in-Err-OutOfMemory.field-0-is at c.in-Err-OutOfMemory.ensures.puts in
    ends_told _ _ (Answered c.args.answer.now) memory_line statuses.Memory
    (of_memory (record { stay = lacking.0; counted = lacking.1 }) refl refl) c.lack_memory.ensures.sends (refl, refl)
