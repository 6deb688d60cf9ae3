-- What calls promise of commands.
use Rattle.std.specs.Prelude.{◌≡◌, ◌≤◌, ℕ, Result, Ok, Err}
use Rattle.sd_io.specs.Outside.{Files}
use Rattle.sd_steps.specs.declared.answer.Answer.{Answer}
use Rattle.sd_steps.specs.declared.stop.Stop.{Stop}
use Rattle.sd_steps.specs.declared.stop.Stop.TheVariants.{Refused, OutOfMemory}
use Rattle.sd_steps.specs.Courses.{Ending, Answered, Lacking, Counted, IsRefusedBy}

-- a call's result is this end of a command
abbrev pub IsEnd : Result Answer Stop → Ending → Type 0
IsEnd (Ok answer) ending = ending ≡ Answered answer
IsEnd (Err (Refused refusal)) ending = IsRefusedBy ending refusal
IsEnd (Err OutOfMemory) ending = ending ≡ Lacking

-- a call goes through a command, after so many executions
pub record Goes (command : Ending → ℕ → Type 0) (result : Result Answer Stop) (n faults faults' : ℕ) : Type 0 where
  pub ending : Ending
  pub is : IsEnd result ending
  pub came : command ending n
  pub counted : Counted ending faults faults'

-- what an answer from a shelf promises: it goes through a command over the files of the shelf, after so many executions; the files
-- stay, and no count of faults falls
pub record AnswersFrom (command : Files → Ending → ℕ → Type 0) (before after : Files) (faults faults' : ℕ) (result : Result Answer Stop) (n : ℕ) : Type 0 where
  pub goes : Goes (command before) result n faults faults'
  pub stays : after ≡ before
  pub grows : faults ≤ faults'
