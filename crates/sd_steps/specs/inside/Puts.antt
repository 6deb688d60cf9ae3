-- What calls promise of what is put.
use Rattle.std.specs.Prelude.{◌≡◌, Option, Result, Ok, Err}
use Rattle.report.specs.RefusalLines.{line_of}
use Rattle.sd_steps.specs.declared.answer.Put.{Put}
use Rattle.sd_steps.specs.declared.delivering.Unput.{Unput}
use Rattle.sd_steps.specs.declared.delivering.Unput.TheVariants as unput
use Rattle.sd_steps.specs.Statuses.{status_of}
use Rattle.sd_steps.specs.Takings.{shelf_refusal}
use Rattle.sd_steps.specs.RunEndings.{Shelving, HasPut, HasNotPut}

-- the file of an answer was put; or that failed, and there is a line for it; or there was no memory
abbrev pub Puts : Option Put → Result (Unit {0}) Unput → Shelving → Type 0
Puts file (Ok done) shelf = HasPut file shelf
Puts file (Err (unput.Failed line)) shelf = (put : Put) × HasNotPut file put shelf × (line.text ≡ line_of (shelf_refusal put.kind)) × (line.status ≡ status_of (shelf_refusal put.kind))
Puts file (Err unput.OutOfMemory) shelf = (shelf.files_after ≡ shelf.files) × (shelf.faults_after ≡ shelf.faults)
