-- Each certificate is read from its spelling, so that a spelling is of one alone.
use Rattle.std.proofs.Common.{◌≡◌, ◌⊎◌, ℕ, List, [], ◌∷◌, Result, Ok, refl, sym, ap, ◌∙◌}
use Rattle.std.specs.Prelude.{codes}
use Rattle.cert_text.specs.declared.certificates.Certificate.{Certificate}
use Rattle.cert_text.specs.declared.certificates.Certificate.TheVariants.{Rate, Storage, Scenario}
use Rattle.cert_text.specs.declared.error.CertError.{CertError}
use Rattle.cert_text.specs.Limits.{IsReadable, IsWithinLimits}
use Rattle.cert_text.specs.LineForms.{version_due}
use Rattle.cert_text.specs.NumberLines.{version_line}
use Rattle.cert_text.specs.Orderly.{IsOrderly}
use Rattle.cert_text.specs.Reading.{IsCertText, certificate_from, text_from, reading_of}
use Rattle.cert_text.specs.Reads.{lines_of}
use Rattle.cert_text.specs.Spellable.{IsSpellable}
use Rattle.cert_text.specs.Spelling.{rate_kind, storage_kind, scenario_kind, rate_lines, storage_lines, scenario_lines, lines_after, spelling}
use Rattle.cert_text.proofs.ReadLines.{closes-end, closes-word, next-line, version-closes, version-read}
use Rattle.cert_text.proofs.ReadSections.{rate-back, scenario-back}
use Rattle.cert_text.proofs.ReadMembers.{storage-back}

certificate-back : (version : ℕ) → (version ≡ 1) ⊎ (version ≡ 2) → (c : Certificate) → IsOrderly c → IsSpellable c → IsWithinLimits c → certificate_from version (lines_of (lines_after version c)) ≡ Ok (c, [])
unfolding certificate_from lines_after rate_lines storage_lines scenario_lines rate_kind storage_kind scenario_kind
certificate-back version is (Rate c) orderly spellable within = rw (closes-word (codes "throughput") refl (10 ∷ []) closes-end _, rate-back c within spellable) refl
certificate-back version is (Storage c) orderly spellable within = rw (closes-word (codes "storage") refl (10 ∷ []) closes-end _, storage-back version is c within spellable orderly) refl
certificate-back version is (Scenario c) orderly spellable within = rw (closes-word (codes "scenario") refl (10 ∷ []) closes-end _, scenario-back c within spellable) refl

pub spellings_are_read : (bytes : List ℕ) (version : ℕ) (c : Certificate) → (version ≡ 1) ⊎ (version ≡ 2) → IsOrderly c → IsSpellable c → IsWithinLimits c → bytes ≡ spelling version c → IsCertText bytes version c
unfolding reading_of text_from spelling
spellings_are_read bytes version c is orderly spellable within text =
    let first = next-line version_due (version_line version) (lines_after version c) version (version-closes version is) (version-read version is) in
    rw (text, first, certificate-back version is c orderly spellable within) refl

abbrev reads : ℕ × Certificate → Result (ℕ × Certificate) CertError
reads r = Ok r

read-is : (a b : ℕ × Certificate) → reads a ≡ reads b → a ≡ b
read-is a b e = cc

pub spellings_are_one : (v w : ℕ) (c d : Certificate) → IsReadable v c → IsReadable w d → spelling v c ≡ spelling w d → (v ≡ w) × (c ≡ d)
spellings_are_one v w c d first second text =
    let a = spellings_are_read (spelling v c) v c first.known first.orderly first.spellable first.limits refl in
    let b = spellings_are_read (spelling v c) w d second.known second.orderly second.spellable second.limits text in
    let both = read-is (v, c) (w, d) (sym a ∙ b) in
    (ap (λ (r : ℕ × Certificate). r.0) both, ap (λ (r : ℕ × Certificate). r.1) both)
