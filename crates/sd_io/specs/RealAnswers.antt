-- What a shelf of real files answers to what the system gave, and whether it counts a fault: for each error but want of memory.
use Rattle.std.specs.Prelude.{◌≡◌, ◌≢◌, ℕ, ◌-◌, ◌<◌, ◌≤◌, ◌^◌, min, ⊤, List, length, Option, None, Some, Result, Ok, Err, IfErr}
use Rattle.std.specs.Io.KnownBytes.{Appends}
use Rattle.std.specs.IoError.{error_kind}
use Rattle.std.specs.declared.io.Error.{Error}
use Rattle.std.specs.declared.io.ErrorKind.TheVariants.{OutOfMemory}
use Rattle.sd_io.specs.Outside.{Rose}
use Rattle.sd_io.specs.declared.shelf.TakeError.{TakeError}
use Rattle.sd_io.specs.declared.shelf.TakeError.TheVariants.{Failed, TooLong, NoMemory}
use Rattle.sd_io.specs.declared.shelf.PutError.{PutError}
use Rattle.sd_io.specs.declared.shelf.PutError.TheVariants as put

-- a take's answer to what reading the file gave: its bytes, nothing where it has more than the limit, or an error
abbrev pub AnswersRead : Result (Option (List ℕ)) Error → ℕ → ℕ → Result (List ℕ) TakeError → Type 0
AnswersRead read old new (Ok bytes) = (read ≡ Ok (Some bytes)) × (new ≡ old)
AnswersRead read old new (Err TooLong) = (read ≡ Ok None) × (new ≡ old)
AnswersRead read old new (Err NoMemory) = ((error : Error) × (read ≡ Err error) × (error_kind error ≡ OutOfMemory)) × (new ≡ old)
AnswersRead read old new (Err Failed) = ((error : Error) × (read ≡ Err error) × (error_kind error ≢ OutOfMemory)) × Rose old new

-- a take of a file that was opened, where its bytes are known: they are all taken if they are within the limit, and are told to be too
-- many only if they aren't; no list has 2^64 - 1 bytes
abbrev pub AnswersTake : Option (List ℕ) → ℕ → Result (List ℕ) TakeError → Type 0
AnswersTake None limit result = ⊤
AnswersTake (Some known) limit (Ok bytes) = (bytes ≡ known) × (length known ≤ limit)
AnswersTake (Some known) limit (Err TooLong) = min limit (2 ^ 64 - 2) < length known
AnswersTake (Some known) limit (Err Failed) = ⊤
AnswersTake (Some known) limit (Err NoMemory) = ⊤

-- a take counts a fault where it fails, and else none
abbrev pub IsCountedTake : ℕ → ℕ → Result (List ℕ) TakeError → Type 0
IsCountedTake old new (Ok bytes) = new ≡ old
IsCountedTake old new (Err TooLong) = new ≡ old
IsCountedTake old new (Err NoMemory) = new ≡ old
IsCountedTake old new (Err Failed) = Rose old new

-- all bytes were appended to what a created file holds, where that is known
abbrev pub IsWrittenTo : {W : Type 0} → (W → Option (List ℕ)) → Result W Error → Result W Error → List ℕ → Type 0
IsWrittenTo contents (Ok old) (Ok new) bytes = Appends (contents old) (contents new) bytes
IsWrittenTo contents (Ok old) (Err error) bytes = ⊥
IsWrittenTo contents (Err error) new bytes = ⊤

-- why a put fails: its file wasn't created, or writing to it failed
abbrev pub IsPutErrorOf : {W : Type 0} → Result W Error → ℕ → ℕ → PutError → Type 0
IsPutErrorOf created old new put.NoMemory = ((error : Error) × (created ≡ Err error) × (error_kind error ≡ OutOfMemory)) × (new ≡ old)
IsPutErrorOf created old new put.Failed = IfErr created (λ error. error_kind error ≢ OutOfMemory) × Rose old new
