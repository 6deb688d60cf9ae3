-- What is read of a text: the version and the certificate that it spells, or its first faulty line.
use Rattle.std.specs.Prelude.{◌≡◌, ◌⊎◌, ℕ, ◌-◌, List, [], ◌∷◌, Result, Ok, Err, length, if◌then◌else◌}
use Rattle.cert_text.specs.declared.error.CertError.{CertError}
use Rattle.cert_text.specs.declared.error.CertError.TheVariants.{Syntax, Number, NoMemory}
use Rattle.cert_text.specs.declared.certificates.Certificate.{Certificate}
use Rattle.cert_text.specs.declared.certificates.Certificate.TheVariants.{Rate, Storage, Scenario}
use Rattle.cert_text.specs.declared.reading.fault.Fault.{Fault}
use Rattle.cert_text.specs.declared.reading.fault.Fault.TheVariants.{Form, Large, Memory}
use Rattle.cert_text.specs.Reads.{Reads, ◌>>=◌, next_by, lines_of}
use Rattle.cert_text.specs.LineForms.{same, version_due}
use Rattle.cert_text.specs.Orderly.{IsOrderly}
use Rattle.cert_text.specs.Sections.{rate_from, storage_from, scenario_from}
use Rattle.cert_text.specs.Spellable.{IsSpellable}
use Rattle.cert_text.specs.Spelling.{rate_kind, storage_kind, scenario_kind, lines_after, spelling}

-- the lines of a certificate after the first one
unfoldable pub certificate_from : ℕ → List (List ℕ) → Reads Certificate
certificate_from version [] = Err (Form, [])
certificate_from version (line ∷ left) = if same line rate_kind then (do
  c ← rate_from left
  Ok (Rate c.0, c.1)) else if same line storage_kind then (do
    c ← storage_from version left
    Ok (Storage c.0, c.1)) else if same line scenario_kind then (do
      c ← scenario_from left
      Ok (Scenario c.0, c.1)) else Err (Form, left)

unfoldable pub text_from : List (List ℕ) → Reads (ℕ × Certificate)
text_from lines = do
  version ← next_by version_due lines
  certificate ← certificate_from version.0 version.1
  Ok ((version.0, certificate.0), certificate.1)

-- the error of a line in front of `left` others, of so many lines
abbrev pub error_of : ℕ → Fault → ℕ → CertError
error_of all Form left = Syntax (all - left)
error_of all Large left = Number (all - left)
error_of all Memory left = NoMemory

abbrev pub answer_of : ℕ → Reads (ℕ × Certificate) → Result (ℕ × Certificate) CertError
answer_of all (Ok read) = Ok read.0
answer_of all (Err fault) = Err (error_of all fault.0 (length fault.1))

unfoldable pub reading_of : List ℕ → Result (ℕ × Certificate) CertError
reading_of text = answer_of (length (lines_of text)) (text_from (lines_of text))

-- a text is that of a certificate in a version, or has a fault: at most one of both, and at most one of each
abbrev pub IsCertText : List ℕ → ℕ → Certificate → Type 0
IsCertText text version c = reading_of text ≡ Ok (version, c)

-- what a reader answers, unless memory runs out
abbrev pub IsReading : List ℕ → Result (ℕ × Certificate) CertError → Type 0
IsReading text answer = (answer ≡ Err NoMemory) ⊎ (reading_of text ≡ answer)

-- an orderly certificate that has a spelling, which is the text
pub record IsSpelled (bytes spelled : List ℕ) (c : Certificate) : Type 0 where
  pub text : bytes ≡ spelled
  pub spellable : IsSpellable c
  pub orderly : IsOrderly c

-- what is read is spelled so, after the first line and with it
abbrev pub IsReadAfter : List ℕ → ℕ → Certificate → Type 0
IsReadAfter text version c = IsSpelled text (lines_after version c) c

abbrev pub IsRead : List ℕ → ℕ → Certificate → Type 0
IsRead text version c = IsSpelled text (spelling version c) c
