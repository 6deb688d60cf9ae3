-- Numbers that are written one by one, each behind a space, are the spaced text of all.
use Rattle.std.proofs.Common.{◌≡◌, ℕ, suc, ◌+◌, ◌<◌, List, [], ◌∷◌, ◌++◌, length, drop, sym, ap, ◌∙◌, Fits, arith, add-one}
use Rattle.std.specs.Prelude.{slice_index_or}
use Rattle.std.specs.Int.{w128}
use Rattle.std.proofs.Math.Seq.{drop-cons}
use Rattle.std.specs.Str.{IsAscii}
use Rattle.std.specs.List.{flat_map}
use Rattle.std.specs.Fmt.{decimal}
use Rattle.std.proofs.lemmas.Str.{IsAscii-append}
use Rattle.std.proofs.lemmas.Str.Ascii.{IsAscii-nil, IsAscii-cons}
use Rattle.std.proofs.lemmas.Fmt.{IsAscii-decimal_wide}
use Rattle.std.proofs.lemmas.List.{append_assoc}
use Rattle.std.proofs.lemmas.List.Concat.{flat_map-cons}
use Rattle.std.proofs.lemmas.Grind.{flat_map-append}
use Rattle.report.specs.ScheduleTexts.{spaced}

-- the numbers from the i-th on: that one, and those after it
pub spaced-from : (ns : List ℕ) (i : ℕ) → i < length ns → flat_map spaced (drop i ns) ≡ 32 ∷ (decimal (slice_index_or ns i 0) ++ flat_map spaced (drop (i + 1) ns))
unfolding spaced
spaced-from ns i h = rw (add-one, drop-cons ns i 0 h) (flat_map-cons spaced _ _)

pub IsAscii-spaced : (ns : List ℕ) → ((i : ℕ) → Fits w128 (slice_index_or ns i 0)) → IsAscii (flat_map spaced ns)
unfolding spaced
IsAscii-spaced [] fits = IsAscii-nil
IsAscii-spaced (n ∷ ns) fits =
    let first = fits 0 in
    IsAscii-cons 32 _ (omega arith) (IsAscii-append (decimal n) _ (IsAscii-decimal_wide n (omega (arith, first.fits))) (IsAscii-spaced ns (λ i. fits (suc i))))

-- numbers more are written and fewer are left
pub spaced-next : (text new whole all some rest : List ℕ) → all ≡ some ++ rest → text ++ flat_map spaced all ≡ whole → new ≡ text ++ flat_map spaced some
    → new ++ flat_map spaced rest ≡ whole
spaced-next text new whole all some rest split kept is =
    ap (λ (l : List ℕ). l ++ flat_map spaced rest) is ∙ append_assoc text (flat_map spaced some) (flat_map spaced rest)
    ∙ ap (λ (l : List ℕ). text ++ l) (sym (flat_map-append spaced some rest) ∙ sym (ap (flat_map spaced) split)) ∙ kept
