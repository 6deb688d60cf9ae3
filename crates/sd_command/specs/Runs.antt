-- What one run of the program shows: how its command ended, and how the run ended by that.
use Rattle.std.specs.Prelude.{◌≡◌, ℕ, ◌+◌, Bool, List}
use Rattle.sd_steps.specs.declared.status.Status.{Status}
use Rattle.sd_steps.specs.Courses.{Ending}
use Rattle.sd_steps.specs.RunEndings.{Ends, Outside}
use Rattle.sd_steps.specs.Statuses.{code_of}
use Rattle.sd_command.specs.Requests.{course_of}

-- one run: its words, how it ends, what it did outside, and the count of executions before and after it
pub record Run : Type 0 where
  pub words : List (List ℕ)
  pub status : Status
  pub outside : Outside
  pub executions : ℕ
  pub executions_after : ℕ

-- What a run shows: its command came to an end that its words and files allow, after so many executions, which were counted,
-- and the run ends by it.
pub record Shows (run : Run) (cut : Bool) : Type 0 where
  pub ending : Ending
  pub number : ℕ
  pub came : course_of run.words run.outside.shelf.files ending number
  pub counted : run.executions_after ≡ run.executions + number
  pub ends : Ends run.outside run.status cut ending

-- the exit status of the program is that of a status with which a run shows this
pub record ShowsBy (code : ℕ) (words : List (List ℕ)) (outside : Outside) (executions executions' : ℕ) : Type 0 where
  pub status : Status
  pub is : code ≡ code_of status
  pub cut : Bool
  pub shows : Shows (record { words = words; status = status; outside = outside; executions = executions; executions_after = executions' }) cut
