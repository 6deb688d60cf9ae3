-- Which of a list of files has a name.
use Rattle.std.proofs.Common.{◌≡◌, ◌≢◌, ℕ, ◌+◌, ◌<◌, zero, suc, Bool, true, false, nat_eq, if◌then◌else◌, List, [], ◌∷◌, length, take, Option, None, Some, refl, sym, ap, ◌∙◌, arith, true≢false, ◌⊎◌, inl, inr}
use Rattle.std.specs.Prelude.{slice_index_or}
use Rattle.std.specs.Cmp.Lexicographic.{pointwise}
use Rattle.std.specs.Bool.{Decides}
use Rattle.std.proofs.lemmas.Slice.Eq.{bytes_eq-Decides}
use Rattle.std.proofs.lemmas.List.{get_or-take, get_or_default, length-take}
use Rattle.std.specs.Prelude.{is_some}
use Rattle.std.specs.Borrow.{Bor}
use Rattle.std.specs.Option.{option_copied}
use Rattle.sd_io.specs.Files.{file_named, NamesDiffer}

abbrev pub name_at : List (List ℕ × List ℕ) → ℕ → List ℕ
name_at files j = (slice_index_or files j ([], [])).0

-- a file's own name, and what is left to look through, where no file has a name
none-step : (b : Bool) (a name bytes : List ℕ) (rest : Option (List ℕ)) → Decides b (a ≡ name)
    → (if b then Some bytes else rest) ≡ None → (a ≢ name) × (rest ≡ None)
none-step true a name bytes rest d is = cc
none-step false a name bytes rest d is = ((λ same. true≢false (sym (d.1 same))), is)

-- where no file has a name, none of them has it
pub absent-name : (name : List ℕ) (files : List (List ℕ × List ℕ)) → file_named name files ≡ None
    → (j : ℕ) → j < length files → name_at files j ≢ name
absent-name name [] is j below = absurd (omega arith)
absent-name name (f ∷ fs) is zero below =
    (none-step (pointwise nat_eq f.0 name) f.0 name f.1 (file_named name fs) (bytes_eq-Decides f.0 name) is).0
absent-name name (f ∷ fs) is (suc j) below =
    absent-name name fs (none-step (pointwise nat_eq f.0 name) f.0 name f.1 (file_named name fs) (bytes_eq-Decides f.0 name) is).1 j (omega arith)

abbrev Named : List ℕ → List (List ℕ × List ℕ) → Type 0
Named name files = (j : ℕ) × (j < length files) × (name_at files j ≡ name)

later-named : (name : List ℕ) (f : List ℕ × List ℕ) (fs : List (List ℕ × List ℕ)) → Named name fs → Named name (f ∷ fs)
later-named name f fs (j, below, is) = (suc j, omega arith, is)

some-step : (b : Bool) (name : List ℕ) (f : List ℕ × List ℕ) (fs : List (List ℕ × List ℕ)) (bytes : List ℕ) → Decides b (f.0 ≡ name)
    → (if b then Some f.1 else file_named name fs) ≡ Some bytes → (file_named name fs ≡ Some bytes → Named name fs) → Named name (f ∷ fs)
some-step true name f fs bytes d is later = (0, omega arith, d.0 refl)
some-step false name f fs bytes d is later = later-named name f fs (later is)

-- a name that names a file is that of one of them
pub present-name : (name : List ℕ) (files : List (List ℕ × List ℕ)) (bytes : List ℕ) → file_named name files ≡ Some bytes → Named name files
present-name name [] bytes is = cc
present-name name (f ∷ fs) bytes is =
    some-step (pointwise nat_eq f.0 name) name f fs bytes (bytes_eq-Decides f.0 name) is (present-name name fs bytes)

copied-none : (found : Option (Bor (List ℕ))) → is_some found ≡ false → option_copied found ≡ None
copied-none None is = refl
copied-none (Some x) is = cc

copied-some : (found : Option (Bor (List ℕ))) → is_some found ≡ true → (bytes : List ℕ) × (option_copied found ≡ Some bytes)
copied-some None is = cc
copied-some (Some x) is = (x.now, refl)

-- the names below a place differ
abbrev pub DifferBelow : List (List ℕ × List ℕ) → ℕ → Type 0
DifferBelow files i = (j k : ℕ) → j < k → k < i → name_at files j ≢ name_at files k

pub own-name : (files : List (List ℕ × List ℕ)) (i : ℕ) (file : List ℕ × List ℕ) (name : List ℕ) → i < length files
    → file ≡ slice_index_or files i file → name ≡ (slice_index_or files i file).0 → name ≡ name_at files i
own-name files i file name below is own =
    own ∙ ap (λ (f : List ℕ × List ℕ). f.0) (get_or_default files i file ([], []) below)

earlier-name : (files : List (List ℕ × List ℕ)) (i j : ℕ) → j < i → name_at (take i files) j ≡ name_at files j
earlier-name files i j below = ap (λ (f : List ℕ × List ℕ). f.0) (get_or-take i files j ([], []) below)

-- a name that stands before its place stands twice
pub twice : (files : List (List ℕ × List ℕ)) (i : ℕ) (name : List ℕ) (found : Option (Bor (List ℕ))) → i < length files → name ≡ name_at files i
    → option_copied found ≡ file_named name (take i files) → is_some found ≡ true → NamesDiffer files → ⊥
twice files i name found below own is some differ =
    let (bytes, copied) = copied-some found some in
    let (j, early, same) = present-name name (take i files) bytes (sym is ∙ copied) in
    let before : j < i = omega (arith, length-take i files) in
    differ j i before below (sym (earlier-name files i j before) ∙ same ∙ own)

-- a name that doesn't stand before its place leaves the names different
pub one_more_differs : (files : List (List ℕ × List ℕ)) (i : ℕ) (name : List ℕ) (found : Option (Bor (List ℕ))) → i < length files → name ≡ name_at files i
    → option_copied found ≡ file_named name (take i files) → is_some found ≡ false → DifferBelow files i → DifferBelow files (i + 1)
one_more_differs files i name found below own is none differ j k first second same =
    let cases : (k < i) ⊎ (k ≡ i) = grind arith in
    elim cases [
      | inl early ↦ differ j k first early same
      | inr last ↦
          let before : j < i = omega arith in
          absent-name name (take i files) (sym is ∙ copied-none found none) j (omega (arith, length-take i files))
          (earlier-name files i j before ∙ same ∙ ap (name_at files) last ∙ sym own)
    ]
