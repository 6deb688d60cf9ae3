-- What calls promise of what is sent.
use Rattle.std.specs.Prelude.{◌≡◌, ℕ, ◌⊎◌, List}
use Rattle.report.specs.RefusalLines.{line_of, memory_line}
use Rattle.sd_steps.specs.declared.stop.Stop.{Stop}
use Rattle.sd_steps.specs.declared.stop.Stop.TheVariants.{Refused, OutOfMemory}
use Rattle.sd_steps.specs.declared.status.Status.{Status}
use Rattle.sd_steps.specs.declared.status.Status.TheVariants as statuses
use Rattle.sd_steps.specs.Statuses.{status_of}
use Rattle.sd_steps.specs.RunEndings.{Sending, GetsWhole, GetsPart}

-- a sink was sent a text whole, with its status; or a first part, and a send failed
abbrev pub Sends : Status → List ℕ → Status → Sending → Type 0
Sends whole text status sink = ((status ≡ whole) × GetsWhole text sink) ⊎ ((status ≡ statuses.SinkFault) × GetsPart text sink)

-- it was sent the line of a stop, or, where there was no memory to make it, that for want of memory
abbrev pub SendsStop : Stop → Status → Sending → Type 0
SendsStop (Refused refusal) status sink = Sends (status_of refusal) (line_of refusal) status sink ⊎ Sends statuses.Memory memory_line status sink
SendsStop OutOfMemory status sink = Sends statuses.Memory memory_line status sink
