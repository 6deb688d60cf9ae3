-- From what was put and sent to what the run shows.
use Rattle.std.proofs.Common.{◌≡◌, ℕ, ◌+◌, List, Bool, Result, Ok, Err, refl, sym, subst, inl, inr}
use Rattle.report.specs.RefusalLines.{line_of, memory_line}
use Rattle.sd_io.specs.Outside.{Files}
use Rattle.sd_steps.specs.declared.answer.Answer.{Answer}
use Rattle.sd_steps.specs.declared.status.Status.{Status}
use Rattle.sd_steps.specs.declared.status.Status.TheVariants as statuses
use Rattle.sd_steps.specs.declared.stop.Stop.{Stop}
use Rattle.sd_steps.specs.declared.stop.Stop.TheVariants as stop
use Rattle.sd_steps.specs.Statuses.{status_of}
use Rattle.sd_steps.specs.Courses.{Ending, Answered, Counted}
use Rattle.sd_steps.specs.RunEndings.{Sending, GetsNothing, HasTaken, of_refusal, of_memory, Outside, Ends}
use Rattle.sd_steps.specs.Deliveries.{Sends, SendsStop}
use Rattle.sd_steps.proofs.SentDecidesEnding.{ends_told}
use Rattle.sd_command.specs.Requests.{course_of}
use Rattle.sd_command.specs.Runs.{Run, Shows}
use Rattle.sd_command.specs.inside.Goings.{IsEnd, Goes}

-- a shelf in the middle of a run, where nothing was put yet
module _ (words : List (List ℕ)) (files middle after : Files) (faults faults' faults'' : ℕ) (out err : Sending) (status : Status) (stays : middle ≡ files)
    (n executions executions' : ℕ) (counted : executions' ≡ executions + n) where
  abbrev outside : Files → ℕ → Outside
  outside from count = record {
    shelf = record { files = from; files_after = after; faults = count; faults_after = faults'' };
    out = out;
    err = err;
  }

  abbrev run : Run
  run = record { words = words; status = status; outside = outside files faults; executions = executions; executions_after = executions' }

  -- what a command came to, and how the run then ended
  pub shows : (result : Result Answer Stop) (goes : Goes (course_of words files) result n faults faults') → (cut : Bool) × Ends (outside files faults) status cut goes.ending → (cut : Bool) × Shows run cut
  shows result goes (cut, ends) = (cut, record { ending = goes.ending; number = n; came = goes.came; counted = counted; ends = ends })

  pub shows_answer : (answer : Answer) → Goes (course_of words files) (Ok answer) n faults faults' → (cut : Bool) × Ends (outside middle faults') status cut (Answered answer) → (cut : Bool) × Shows run cut
  shows_answer answer goes ends =
      let same : faults' ≡ faults = subst (λ (e : Ending). Counted e faults faults') goes.is goes.counted in
      let there : (cut : Bool) × Ends (outside files faults) status cut (Answered answer) =
      subst (λ (f : Files). (cut : Bool) × Ends (outside f faults) status cut (Answered answer)) stays
      (subst (λ (k : ℕ). (cut : Bool) × Ends (outside middle k) status cut (Answered answer)) same ends) in
      shows (Ok answer) goes (subst (λ (e : Ending). (cut : Bool) × Ends (outside files faults) status cut e) (sym goes.is) there)

-- the line of a stop was sent; nothing was put
module _ (words : List (List ℕ)) (files after : Files) (faults faults' : ℕ) (out err : Sending) (status : Status) (stay : after ≡ files)
    (n executions executions' : ℕ) (counted : executions' ≡ executions + n) (nothing : GetsNothing out) where
  abbrev stopped : Outside
  stopped = record {
    shelf = record { files = files; files_after = after; faults = faults; faults_after = faults' };
    out = out;
    err = err;
  }

  module _ (ending : Ending) (took : Counted ending faults faults') where
    taken : HasTaken ending stopped.shelf
    taken = record { stay = stay; counted = took }

    by_memory : Sends statuses.Memory memory_line status err → (cut : Bool) × Ends stopped status cut ending
    by_memory sends = ends_told stopped status ending memory_line statuses.Memory (of_memory taken refl refl) sends nothing

    by_stop : (why : Stop) → IsEnd (Err why) ending → SendsStop why status err → (cut : Bool) × Ends stopped status cut ending
    by_stop (stop.Refused refusal) is (inl sends) = ends_told stopped status ending (line_of refusal) (status_of refusal) (of_refusal refusal is taken refl refl) sends nothing
    by_stop (stop.Refused refusal) is (inr sends) = by_memory sends
    by_stop stop.OutOfMemory is sends = by_memory sends

  pub shows_stop : (why : Stop) → Goes (course_of words files) (Err why) n faults faults' → SendsStop why status err
      → (cut : Bool) × Shows (record { words = words; status = status; outside = stopped; executions = executions; executions_after = executions' }) cut
  shows_stop why goes sends =
      let ends = by_stop goes.ending goes.counted why goes.is sends in
      (ends.0, record { ending = goes.ending; number = n; came = goes.came; counted = counted; ends = ends.1 })
