-- Taking a file from the shelf.
use Rattle.std.specs.Prelude.{◌≡◌, ℕ, ◌<◌, ◌≤◌, List, length, Some, None, IsSome, IsSomeAnd}
use Rattle.sd_base.specs.declared.limits.Quantity.{Quantity}
use Rattle.sd_base.specs.declared.limits.Quantity.TheVariants as quantities
use Rattle.sd_base.specs.Limits.{greatest_of}
use Rattle.report.specs.declared.refusal.Refusal.{Refusal}
use Rattle.report.specs.declared.refusal.Refusal.TheVariants.{Above, ShelfGraph, ShelfCertificate, ShelfOutput}
use Rattle.report.specs.QuantityWords.{quantity_text}
use Rattle.sd_io.specs.Outside.{Files, file_under}
use Rattle.sd_steps.specs.declared.file_kind.FileKind.{FileKind}
use Rattle.sd_steps.specs.declared.file_kind.FileKind.TheVariants.{Graph, Certificate, Output}
use Rattle.sd_steps.specs.Courses.{Step}

-- the quantity that bounds the bytes of a file
abbrev pub bytes_of : FileKind → Quantity
bytes_of Graph = quantities.FileBytes
bytes_of Certificate = quantities.CertificateBytes
bytes_of Output = quantities.CertificateBytes

-- the refusal where a file can't be taken or put
abbrev pub shelf_refusal : FileKind → Refusal
shelf_refusal Graph = ShelfGraph
shelf_refusal Certificate = ShelfCertificate
shelf_refusal Output = ShelfOutput

-- these bytes were taken as the file of a name: they are no more than such a file may have, and they are that file, where the
-- shelf tells its files
pub record IsTaken (files : Files) (kind : FileKind) (name bytes : List ℕ) : Type 0 where
  pub fits : length bytes ≤ greatest_of (bytes_of kind)
  pub told : IsSome files → file_under files name ≡ Some bytes

-- the file of a name isn't there, or is too long
pub data IsUntaken (files : Files) (kind : FileKind) (name : List ℕ) (refusal : Refusal) : Type 0 where
  missing : IsSome files → file_under files name ≡ None → refusal ≡ shelf_refusal kind → IsUntaken files kind name refusal
  too_long : (IsSome files → IsSomeAnd (file_under files name) (λ bytes. greatest_of (bytes_of kind) < length bytes))
      → refusal ≡ Above None (quantity_text (bytes_of kind)) (greatest_of (bytes_of kind)) → IsUntaken files kind name refusal

-- taking the file of a name
abbrev pub taking : Files → FileKind → List ℕ → Step (List ℕ)
taking files kind name = record {
  passes = λ bytes. IsTaken files kind name bytes;
  refuses = λ refusal. IsUntaken files kind name refusal;
  fails = λ refusal. refusal ≡ shelf_refusal kind;
}
