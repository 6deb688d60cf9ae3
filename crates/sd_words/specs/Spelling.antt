-- Which lists of words are well spelled, in plain words.
use Rattle.std.specs.Prelude.{◌≡◌, ◌≢◌, ℕ, ◌⊎◌, IsTrue, List, [], ◌∷◌, ◌++◌, map, codes}
use Rattle.std.specs.List.{IsDistinct}
use Rattle.std.specs.Str.{bytes_eq}
use Rattle.sd_words.specs.declared.names.OptionName.{OptionName}
use Rattle.sd_words.specs.declared.names.OptionName.TheVariants as option
use Rattle.sd_words.specs.OptionWords.{option_word}
use Rattle.sd_words.specs.Values.{is_value}

-- an option's name and its value; that of `no-overlap` is empty
pub record Setting : Type 0 where
  pub name : List ℕ
  pub value : List ℕ

-- an option that has a value, and one, spelled as `--N=V` in one word or as `--N` and V in two
pub record SpellsValue (words : List (List ℕ)) (s : Setting) : Type 0 where
  pub which : OptionName
  pub valued : which ≢ option.NoOverlap
  pub name : s.name ≡ option_word which
  pub value : IsTrue (is_value s.value)
  pub spelled : (words ≡ (codes "--" ++ (s.name ++ (codes "=" ++ s.value))) ∷ []) ⊎ (words ≡ (codes "--" ++ s.name) ∷ s.value ∷ [])

-- the word `--no-overlap`
pub record SpellsFlag (words : List (List ℕ)) (s : Setting) : Type 0 where
  pub name : s.name ≡ option_word option.NoOverlap
  pub value : s.value ≡ []
  pub spelled : words ≡ (codes "--" ++ s.name) ∷ []

-- one of the two
abbrev pub Spells : List (List ℕ) → Setting → Type 0
Spells words s = SpellsValue words s ⊎ SpellsFlag words s

-- the words split from the left into parts that spell these settings
abbrev pub SplitInto : List Setting → List (List ℕ) → Type 0
SplitInto [] words = words ≡ []
SplitInto (s ∷ ss) words = (part : List (List ℕ)) × (rest : List (List ℕ)) × (words ≡ part ++ rest) × Spells part s × SplitInto ss rest

-- the words are well spelled: they split into settings whose names differ
pub record IsSpelling (words : List (List ℕ)) (settings : List Setting) : Type 0 where
  pub split : SplitInto settings words
  pub differ : IsDistinct bytes_eq (map (λ s. s.name) settings)
