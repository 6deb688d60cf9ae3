-- Entries of rows in one word each.
use Rattle.std.specs.Prelude.{◌≡◌, ℕ, zero, suc, Option, Some, None}
use Rattle.std.proofs.Common.{refl, ap}
use Rattle.token_matrix.specs.declared.entries.Entry.TheInside.{Inside}

-- one more than the entry, or 0 for none
abbrev pub entry_of : ℕ → Option ℕ
entry_of zero = None
entry_of (suc e) = Some e

abbrev pub word_of : Option ℕ → ℕ
word_of None = zero
word_of (Some e) = suc e

-- the place that a word stands for
abbrev pub place_of : ℕ → Inside
place_of n = record { word = n }

-- a word is that of its entry
pub same_word : (a : Inside) → place_of (word_of (entry_of a.word)) ≡ a
same_word a = ap place_of (same a.word)
  where
    same : (n : ℕ) → word_of (entry_of n) ≡ n
    same zero = refl
    same (suc n) = refl
