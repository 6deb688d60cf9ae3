-- How a run ends whose command came to this: its status, what it put on the shelf, and what it sent.
use Rattle.std.specs.Prelude.{◌≡◌, ℕ, Bool, true, false, List, Option, Some, None, IsSome}
use Rattle.sd_io.specs.Outside.{Files, file_under, OthersStay, Rose, SentPart, with_sent}
use Rattle.report.specs.declared.refusal.Refusal.{Refusal}
use Rattle.report.specs.RefusalLines.{line_of, memory_line}
use Rattle.sd_steps.specs.declared.answer.Answer.{Answer}
use Rattle.sd_steps.specs.declared.answer.Put.{Put}
use Rattle.sd_steps.specs.declared.status.Status.{Status}
use Rattle.sd_steps.specs.declared.status.Status.TheVariants as statuses
use Rattle.sd_steps.specs.Statuses.{status_of}
use Rattle.sd_steps.specs.Courses.{Ending, Answered, Counted, IsRefusedBy}
use Rattle.sd_steps.specs.Takings.{shelf_refusal}

-- a sink before and after a run: what it was sent, where it tells that, and its count of faults
pub record Sending : Type 0 where
  pub sent : Option (List ℕ)
  pub sent_after : Option (List ℕ)
  pub faults : ℕ
  pub faults_after : ℕ

-- it was sent a text whole; a first part, and then a send failed; or nothing
abbrev pub GetsWhole : List ℕ → Sending → Type 0
GetsWhole text sink = (sink.sent_after ≡ with_sent text sink.sent) × (sink.faults_after ≡ sink.faults)

abbrev pub GetsPart : List ℕ → Sending → Type 0
GetsPart text sink = SentPart text sink.sent sink.sent_after × Rose sink.faults sink.faults_after

abbrev pub GetsNothing : Sending → Type 0
GetsNothing sink = (sink.sent_after ≡ sink.sent) × (sink.faults_after ≡ sink.faults)

-- the shelf before and after a run: what it tells of its files, and its count of faults
pub record Shelving : Type 0 where
  pub files : Files
  pub files_after : Files
  pub faults : ℕ
  pub faults_after : ℕ

-- the file that an answer puts is there, where the shelf tells its files, and the others are as before; no fault was counted
abbrev pub HasPut : Option Put → Shelving → Type 0
HasPut None shelf = (shelf.files_after ≡ shelf.files) × (shelf.faults_after ≡ shelf.faults)
HasPut (Some put) shelf =
    OthersStay put.name shelf.files shelf.files_after × (IsSome shelf.files → file_under shelf.files_after put.name ≡ Some put.bytes) × (shelf.faults_after ≡ shelf.faults)

-- the file that an answer puts couldn't be put, and a fault was counted; the others are as before
pub record HasNotPut (file : Option Put) (put : Put) (shelf : Shelving) : Type 0 where
  pub asked : file ≡ Some put
  pub others : OthersStay put.name shelf.files shelf.files_after
  pub rose : Rose shelf.faults shelf.faults_after

-- nothing was put; the shelf counted one fault where taking a file failed, and else none
pub record HasTaken (ending : Ending) (shelf : Shelving) : Type 0 where
  pub stay : shelf.files_after ≡ shelf.files
  pub counted : Counted ending shelf.faults shelf.faults_after

-- a line for `err`, with the status of a run that sends it: that of the refusal by which the command ended; of the one for a
-- file that couldn't be put; or for want of memory, which may come until anything is put or sent
pub data HasLine (ending : Ending) (shelf : Shelving) (line : List ℕ) (status : Status) : Type 0 where
  of_refusal : (refusal : Refusal) → IsRefusedBy ending refusal → HasTaken ending shelf → line ≡ line_of refusal → status ≡ status_of refusal
      → HasLine ending shelf line status
  of_putting : (answer : Answer) (put : Put) → ending ≡ Answered answer → HasNotPut answer.put put shelf → line ≡ line_of (shelf_refusal put.kind) → status ≡ status_of (shelf_refusal put.kind)
      → HasLine ending shelf line status
  of_memory : HasTaken ending shelf → line ≡ memory_line → status ≡ statuses.Memory → HasLine ending shelf line status

-- the shelf and the two sinks before and after a run
pub record Outside : Type 0 where
  pub shelf : Shelving
  pub out : Sending
  pub err : Sending

-- How a run ends whose command came to this. `cut` is true where a piece for `out` didn't go through.
pub data Ends (o : Outside) (status : Status) (cut : Bool) (ending : Ending) : Type 0 where
  done : cut ≡ false → (answer : Answer) → ending ≡ Answered answer → HasPut answer.put o.shelf → status ≡ statuses.Done
      → GetsWhole answer.text o.out → GetsNothing o.err → Ends o status cut ending
  told : cut ≡ false → (line : List ℕ) → HasLine ending o.shelf line status → GetsNothing o.out → GetsWhole line o.err → Ends o status cut ending
  out_fault : cut ≡ true → (answer : Answer) → ending ≡ Answered answer → HasPut answer.put o.shelf → status ≡ statuses.SinkFault
      → GetsPart answer.text o.out → GetsNothing o.err → Ends o status cut ending
  err_fault : cut ≡ false → (line : List ℕ) (whole : Status) → HasLine ending o.shelf line whole → status ≡ statuses.SinkFault
      → GetsNothing o.out → GetsPart line o.err → Ends o status cut ending
