-- What is read of a text has it as its spelling, and is within its limits.
use Rattle.std.proofs.Common.{◌≡◌, ◌⊎◌, ℕ, Bool, true, false, List, [], ◌∷◌, ◌++◌, length, Result, Ok, Err, refl, sym, ap, ◌∙◌, subst}
use Rattle.std.specs.Prelude.{if◌then◌else◌}
use Rattle.cert_text.specs.declared.certificates.Certificate.{Certificate}
use Rattle.cert_text.specs.declared.certificates.Certificate.TheVariants.{Rate, Storage, Scenario}
use Rattle.cert_text.specs.declared.certificates.RateCertificate.{RateCertificate}
use Rattle.cert_text.specs.declared.certificates.StorageCertificate.{StorageCertificate}
use Rattle.cert_text.specs.declared.certificates.ScenarioCertificate.{ScenarioCertificate}
use Rattle.cert_text.specs.declared.error.CertError.{CertError}
use Rattle.cert_text.specs.declared.reading.fault.Fault.TheVariants.{Form}
use Rattle.cert_text.specs.Limits.{IsReadable, IsWithinLimits}
use Rattle.cert_text.specs.LineForms.{same, version_due}
use Rattle.cert_text.specs.NumberLines.{version_line}
use Rattle.cert_text.specs.Orderly.{IsOrderly}
use Rattle.cert_text.specs.Reading.{IsCertText, answer_of, certificate_from, text_from, reading_of}
use Rattle.cert_text.specs.Reads.{Reads, ◌>>=◌, lines_of, next_by}
use Rattle.cert_text.specs.Sections.{rate_from, storage_from, scenario_from}
use Rattle.cert_text.specs.Spellable.{IsSpellable}
use Rattle.cert_text.specs.Spelling.{rate_kind, storage_kind, scenario_kind, rate_lines, storage_lines, scenario_lines, lines_after, spelling}
use Rattle.cert_text.proofs.SoundLines.{version-sound, same-is}
use Rattle.cert_text.proofs.SoundMembers.{storage-was}
use Rattle.cert_text.proofs.SoundSections.{joined, joined-lines, reads, reads-is, next-was, rate-was, scenario-was}
use Rattle.cert_text.proofs.EntriesAreReadInTurn.{bind-ok}

-- a certificate that was read of the lines after the first one
record IsAfter (version : ℕ) (lines : List (List ℕ)) (c : Certificate) : Type 0 where
  spelled : joined lines ≡ lines_after version c
  orderly : IsOrderly c
  spellable : IsSpellable c
  limits : IsWithinLimits c

rate-after : (version : ℕ) (line : List ℕ) (ls : List (List ℕ)) (c : RateCertificate) (left : List (List ℕ)) → line ≡ rate_kind → rate_from ls ≡ Ok (c, left) → IsAfter version (line ∷ ls) (Rate c)
unfolding lines_after rate_lines
rate-after version line ls c left kind read =
    let h = rate-was ls c left read in
    record { spelled = ap (λ (l : List ℕ). l ++ joined ls) kind ∙ ap (λ (l : List ℕ). rate_kind ++ l) h.0; orderly = tt; spellable = h.2; limits = h.1 }

storage-after : (version : ℕ) → (version ≡ 1) ⊎ (version ≡ 2) → (line : List ℕ) (ls : List (List ℕ)) (c : StorageCertificate) (left : List (List ℕ)) → line ≡ storage_kind → storage_from version ls ≡ Ok (c, left) → IsAfter version (line ∷ ls) (Storage c)
unfolding lines_after storage_lines
storage-after version is line ls c left kind read =
    let h = storage-was version is ls c left read in
    record { spelled = ap (λ (l : List ℕ). l ++ joined ls) kind ∙ ap (λ (l : List ℕ). storage_kind ++ l) h.0; orderly = h.3; spellable = h.2; limits = h.1 }

scenario-after : (version : ℕ) (line : List ℕ) (ls : List (List ℕ)) (c : ScenarioCertificate) (left : List (List ℕ)) → line ≡ scenario_kind → scenario_from ls ≡ Ok (c, left) → IsAfter version (line ∷ ls) (Scenario c)
unfolding lines_after scenario_lines
scenario-after version line ls c left kind read =
    let h = scenario-was ls c left read in
    record { spelled = ap (λ (l : List ℕ). l ++ joined ls) kind ∙ ap (λ (l : List ℕ). scenario_kind ++ l) h.0; orderly = tt; spellable = h.2; limits = h.1 }

certificate-was : (version : ℕ) → (version ≡ 1) ⊎ (version ≡ 2) → (lines : List (List ℕ)) (c : Certificate) (left : List (List ℕ)) → certificate_from version lines ≡ Ok (c, left) → IsAfter version lines c
unfolding certificate_from
certificate-was version is [] c left e = absurd cc
certificate-was version is (line ∷ ls) c left e = split (same line rate_kind) refl (same line storage_kind) refl (same line scenario_kind) refl e
  where
    split : (x : Bool) → same line rate_kind ≡ x → (y : Bool) → same line storage_kind ≡ y → (z : Bool) → same line scenario_kind ≡ z
        → (if x then (rate_from ls >>= λ r. reads (Rate r.0) r.1) else if y then (storage_from version ls >>= λ r. reads (Storage r.0) r.1) else if z then (scenario_from ls >>= λ r. reads (Scenario r.0) r.1) else Err (Form, ls)) ≡ Ok (c, left)
        → IsAfter version (line ∷ ls) c
    split true x y b z d g =
        let a = bind-ok (rate_from ls) (λ r. reads (Rate r.0) r.1) (c, left) g in
        subst (IsAfter version (line ∷ ls)) (ap (λ (r : Certificate × List (List ℕ)). r.0) (reads-is (Rate a.0.0, a.0.1) (c, left) a.2)) (rate-after version line ls a.0.0 a.0.1 (same-is line rate_kind x) a.1)
    split false x true y z d g =
        let a = bind-ok (storage_from version ls) (λ r. reads (Storage r.0) r.1) (c, left) g in
        subst (IsAfter version (line ∷ ls)) (ap (λ (r : Certificate × List (List ℕ)). r.0) (reads-is (Storage a.0.0, a.0.1) (c, left) a.2)) (storage-after version is line ls a.0.0 a.0.1 (same-is line storage_kind y) a.1)
    split false x false y true z g =
        let a = bind-ok (scenario_from ls) (λ r. reads (Scenario r.0) r.1) (c, left) g in
        subst (IsAfter version (line ∷ ls)) (ap (λ (r : Certificate × List (List ℕ)). r.0) (reads-is (Scenario a.0.0, a.0.1) (c, left) a.2)) (scenario-after version line ls a.0.0 a.0.1 (same-is line scenario_kind z) a.1)
    split false x false y false z g = absurd cc

-- a version and a certificate that are read of a text
record IsWhole (text : List ℕ) (r : ℕ × Certificate) : Type 0 where
  readable : IsReadable r.0 r.1
  spelled : text ≡ spelling r.0 r.1

abbrev versioned : ℕ → Certificate → ℕ × Certificate
versioned v c = (v, c)

text-was : (text : List ℕ) (r : ℕ × Certificate) (left : List (List ℕ)) → text_from (lines_of text) ≡ Ok (r, left) → IsWhole text r
unfolding text_from spelling
text-was text r left e =
    let a = bind-ok (next_by version_due (lines_of text)) (λ v. certificate_from v.0 v.1 >>= λ c. reads (versioned v.0 c.0) c.1) (r, left) e in
    let b = bind-ok (certificate_from a.0.0 a.0.1) (λ c. reads (versioned a.0.0 c.0) c.1) (r, left) a.2 in
    let first = next-was version_due version_line (λ v. (v ≡ 1) ⊎ (v ≡ 2)) version-sound (lines_of text) a.0.0 a.0.1 a.1 in
    let rest = certificate-was a.0.0 first.fits a.0.1 b.0.0 b.0.1 b.1 in
    let is = reads-is (versioned a.0.0 b.0.0, b.0.1) (r, left) b.2 in
    subst (IsWhole text) (ap (λ (q : (ℕ × Certificate) × List (List ℕ)). q.0) is) (record {
      readable = record { known = first.fits; orderly = rest.orderly; spellable = rest.spellable; limits = rest.limits };
      spelled = sym (joined-lines text) ∙ (first.spelled ∙ ap (λ (l : List ℕ). version_line a.0.0 ++ l) rest.spelled);
    })

abbrev answered : ℕ × Certificate → Result (ℕ × Certificate) CertError
answered q = Ok q

answer-is : (a b : ℕ × Certificate) → answered a ≡ answered b → a ≡ b
answer-is a b e = cc

answer-ok : (all : ℕ) (read : Reads (ℕ × Certificate)) (r : ℕ × Certificate) → answer_of all read ≡ Ok r → (left : List (List ℕ)) × (read ≡ Ok (r, left))
answer-ok all (Ok read) r e = (read.1, ap (λ (q : ℕ × Certificate). let x : Reads (ℕ × Certificate) = Ok (q, read.1) in x) (answer-is read.0 r e))
answer-ok all (Err fault) r e = absurd cc

pub texts_are_spelled : (bytes : List ℕ) (version : ℕ) (c : Certificate) → IsCertText bytes version c → IsReadable version c × (bytes ≡ spelling version c)
unfolding reading_of
texts_are_spelled bytes version c read =
    let a = answer-ok (length (lines_of bytes)) (text_from (lines_of bytes)) (version, c) read in
    let h = text-was bytes (version, c) a.0 a.1 in
    (h.readable, h.spelled)
