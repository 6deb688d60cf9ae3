-- A run that is done is that of a command which answered, so what this says of the gate holds.
use Rattle.std.proofs.Common.{◌≡◌, ℕ, List, Result, Ok, Err, IfOk, inl, inr, refl, sym, ◌∙◌, arith}
use Rattle.report.specs.declared.refusal.Class.{Class}
use Rattle.report.specs.declared.refusal.Class.TheVariants as classes
use Rattle.report.specs.RefusalLines.{cause_of, line_of, memory_line}
use Rattle.sd_steps.specs.declared.status.Status.{Status}
use Rattle.sd_steps.specs.declared.status.Status.TheVariants as statuses
use Rattle.sd_steps.specs.declared.stop.Stop.{Stop}
use Rattle.sd_steps.specs.declared.stop.Stop.TheVariants as stop
use Rattle.sd_steps.specs.Statuses.{class_status, code_of, status_of}
use Rattle.sd_steps.specs.RunEndings.{Sending}
use Rattle.sd_steps.specs.Deliveries.{Sends, SendsStop}

-- what says nothing holds of each result
pub ok-nothing : {A E : Type 0} (result : Result A E) → IfOk result (λ a. Unit {0})
ok-nothing (Ok a) = tt
ok-nothing (Err e) = tt

-- no refusal has the status of a run that is done
refused-undone : (k : Class) → class_status k ≡ statuses.Done → ⊥
refused-undone classes.Usage is = (cc)
refused-undone classes.Form is = (cc)
refused-undone classes.Limit is = (cc)
refused-undone classes.Inconsistent is = (cc)
refused-undone classes.Connection is = (cc)
refused-undone classes.Deadlock is = (cc)
refused-undone classes.Budget is = (cc)
refused-undone classes.Rejected is = (cc)
refused-undone classes.Shelf is = (cc)

memory-undone : statuses.Memory ≡ statuses.Done → ⊥
memory-undone is = (cc)

-- nor has a line that is sent, whole or in part
sends-undone : (whole status : Status) (text : List ℕ) (sink : Sending) → (whole ≡ statuses.Done → ⊥) → Sends whole text status sink → status ≡ statuses.Done → ⊥
sends-undone whole status text sink never (inl sent) is = never (sym sent.0 ∙ is)
sends-undone whole status text sink never (inr sent) is = let e : statuses.SinkFault ≡ statuses.Done = sym sent.0 ∙ is in (cc)

-- a run whose command stopped isn't done
pub stopped-undone : (why : Stop) (status : Status) (sink : Sending) → SendsStop why status sink → status ≡ statuses.Done → ⊥
stopped-undone (stop.Refused refusal) status sink (inl sends) is = sends-undone (status_of refusal) status (line_of refusal) sink (refused-undone (cause_of refusal).class) sends is
stopped-undone (stop.Refused refusal) status sink (inr sends) is = sends-undone statuses.Memory status memory_line sink memory-undone sends is
stopped-undone stop.OutOfMemory status sink sends is = sends-undone statuses.Memory status memory_line sink memory-undone sends is

-- its exit status is 0, and that of no other run is
pub done-alone : (status : Status) → code_of status ≡ 0 → status ≡ statuses.Done
done-alone statuses.Done is = refl
done-alone statuses.Usage is = let e : 2 ≡ 0 = is in absurd (omega (arith, e))
done-alone statuses.Form is = let e : 3 ≡ 0 = is in absurd (omega (arith, e))
done-alone statuses.Limit is = let e : 4 ≡ 0 = is in absurd (omega (arith, e))
done-alone statuses.Inconsistent is = let e : 5 ≡ 0 = is in absurd (omega (arith, e))
done-alone statuses.Connection is = let e : 6 ≡ 0 = is in absurd (omega (arith, e))
done-alone statuses.Deadlock is = let e : 7 ≡ 0 = is in absurd (omega (arith, e))
done-alone statuses.Budget is = let e : 8 ≡ 0 = is in absurd (omega (arith, e))
done-alone statuses.Rejected is = let e : 9 ≡ 0 = is in absurd (omega (arith, e))
done-alone statuses.ShelfFault is = let e : 10 ≡ 0 = is in absurd (omega (arith, e))
done-alone statuses.SinkFault is = let e : 11 ≡ 0 = is in absurd (omega (arith, e))
done-alone statuses.Memory is = let e : 12 ≡ 0 = is in absurd (omega (arith, e))
