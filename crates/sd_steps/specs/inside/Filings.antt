-- What a function promises that makes a file of a text that was written.
use Rattle.std.specs.Prelude.{◌≡◌, ℕ, List, Result, Ok, Err}
use Rattle.cert_text.specs.declared.error.CertError.{CertError}
use Rattle.cert_text.specs.declared.error.CertError.TheVariants.{TooLong}
use Rattle.report.specs.declared.refusal.Refusal.{Refusal}
use Rattle.sd_steps.specs.declared.answer.Put.{Put}
use Rattle.sd_steps.specs.declared.file_kind.FileKind.{FileKind}
use Rattle.sd_steps.specs.declared.stop.Stop.{Stop}
use Rattle.sd_steps.specs.declared.stop.Stop.TheVariants.{Refused, OutOfMemory}

-- the text is in the file; one that is too long is refused by this refusal; and any other fault of writing is want of memory
abbrev pub IsFiled : FileKind → List ℕ → Result (List ℕ) CertError → Refusal → Result Put Stop → Type 0
IsFiled kind name (Ok bytes) too_long result = result ≡ Ok (record { kind = kind; name = name; bytes = bytes })
IsFiled kind name (Err TooLong) too_long result = result ≡ Err (Refused too_long)
IsFiled kind name (Err e) too_long result = result ≡ Err OutOfMemory
