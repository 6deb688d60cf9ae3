-- The lines of a text, read one after the other, make a whole certificate.
use Rattle.std.proofs.Common.{◌≡◌, ◌⊎◌, ℕ, Bool, List, ◌++◌, Result, Ok, Err, length, ap, ◌∙◌, sym, inl, inr}
use Rattle.cert_text.specs.declared.certificates.Certificate.{Certificate}
use Rattle.cert_text.specs.declared.certificates.LinkCycle.{LinkCycle}
use Rattle.cert_text.specs.declared.certificates.MemberLine.{MemberLine}
use Rattle.cert_text.specs.declared.certificates.PointLine.{PointLine}
use Rattle.cert_text.specs.NumberLines.{version_line, overlap_line, limit_line}
use Rattle.cert_text.specs.declared.error.CertError.{CertError}
use Rattle.cert_text.specs.declared.reading.fault.Fault.{Fault}
use Rattle.cert_text.specs.declared.reading.fault.Fault.TheVariants.{Memory}
use Rattle.cert_text.specs.Reads.{Reads, lines_of}
use Rattle.cert_text.specs.Reading.{IsRead, IsReadAfter, IsReading, answer_of, error_of, reading_of, text_from}
use Rattle.cert_text.specs.Spelling.{spelling, cycle_list, member_list, point_list, end_line, storage_kind, storage_lines, storage_lists}

pub read-all : (text rest : List ℕ) (version : ℕ) (c : Certificate) → text ≡ version_line version ++ rest → IsReadAfter rest version c → IsRead text version c
unfolding spelling
read-all text rest version c first read = record { text = first ∙ ap (λ (l : List ℕ). version_line version ++ l) read.text; spellable = read.spellable; orderly = read.orderly }

pub read-ok : (text left : List ℕ) (r : ℕ × Certificate) → text_from (lines_of text) ≡ Ok (r, lines_of left) → reading_of text ≡ Ok r
unfolding reading_of
read-ok text left r read = ap (λ (x : Reads (ℕ × Certificate)). answer_of (length (lines_of text)) x) read

abbrev fails : CertError → Result (ℕ × Certificate) CertError
fails e = Err e

pub read-err : (text left : List ℕ) (e : Fault) (error : CertError) → (e ≡ Memory) ⊎ (text_from (lines_of text) ≡ Err (e, lines_of left)) → error ≡ error_of (length (lines_of text)) e (length (lines_of left)) → IsReading text (Err error)
unfolding reading_of
read-err text left e error (inl memory) is = inl (ap fails (is ∙ ap (λ (x : Fault). error_of (length (lines_of text)) x (length (lines_of left))) memory))
read-err text left e error (inr read) is = inr (ap (λ (x : Reads (ℕ × Certificate)). answer_of (length (lines_of text)) x) read ∙ ap fails (sym is))

-- the lines of a trade-off, one after the other
pub storage-whole : (version : ℕ) (no_overlap : Bool) (limit : ℕ) (cycles : List LinkCycle) (members : List MemberLine) (points : List PointLine) (text a b d e : List ℕ) → text ≡ overlap_line no_overlap ++ a → a ≡ limit_line limit ++ b
    → b ≡ cycle_list version cycles ++ (member_list version cycles members ++ d) → d ≡ point_list points ++ e → e ≡ end_line
    → storage_kind ++ text ≡ storage_lines version (record { no_overlap = no_overlap; limit = limit; cycles = cycles; members = members; points = points })
unfolding storage_lines storage_lists
storage-whole version no_overlap limit cycles members points text a b d e first second third fourth fifth =
    let ends : d ≡ point_list points ++ end_line = fourth ∙ ap (λ (l : List ℕ). point_list points ++ l) fifth in
    let lists : b ≡ cycle_list version cycles ++ (member_list version cycles members ++ (point_list points ++ end_line)) = third ∙ ap (λ (l : List ℕ). cycle_list version cycles ++ (member_list version cycles members ++ l)) ends in
    ap (λ (l : List ℕ). storage_kind ++ l) (first ∙ ap (λ (l : List ℕ). overlap_line no_overlap ++ l) (second ∙ ap (λ (l : List ℕ). limit_line limit ++ l) lists))
