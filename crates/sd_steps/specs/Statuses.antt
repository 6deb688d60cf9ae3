-- The exit status of each ending, and the ending of each refusal.
use Rattle.std.specs.Prelude.{ℕ}
use Rattle.report.specs.declared.refusal.Refusal.{Refusal}
use Rattle.report.specs.declared.refusal.Class.{Class}
use Rattle.report.specs.declared.refusal.Class.TheVariants as classes
use Rattle.report.specs.RefusalLines.{cause_of}
use Rattle.sd_steps.specs.declared.status.Status.{Status}
use Rattle.sd_steps.specs.declared.status.Status.TheVariants as statuses

abbrev pub code_of : Status → ℕ
code_of statuses.Done = 0
code_of statuses.Usage = 2
code_of statuses.Form = 3
code_of statuses.Limit = 4
code_of statuses.Inconsistent = 5
code_of statuses.Connection = 6
code_of statuses.Deadlock = 7
code_of statuses.Budget = 8
code_of statuses.Rejected = 9
code_of statuses.ShelfFault = 10
code_of statuses.SinkFault = 11
code_of statuses.Memory = 12

abbrev pub class_status : Class → Status
class_status classes.Usage = statuses.Usage
class_status classes.Form = statuses.Form
class_status classes.Limit = statuses.Limit
class_status classes.Inconsistent = statuses.Inconsistent
class_status classes.Connection = statuses.Connection
class_status classes.Deadlock = statuses.Deadlock
class_status classes.Budget = statuses.Budget
class_status classes.Rejected = statuses.Rejected
class_status classes.Shelf = statuses.ShelfFault

abbrev pub status_of : Refusal → Status
status_of refusal = class_status (cause_of refusal).class
