-- The settings of a list of words, read from the left.
use Rattle.std.specs.Prelude.{ℕ, Bool, ◌==◌, nat_eq, nat_lt, List, [], ◌∷◌, ◌++◌, length, drop, Option, Some, None, Result, Ok, Err, if◌then◌else◌, codes}
use Rattle.std.specs.List.{starts_with, list_any, position_or_len, before_first, after_first}
use Rattle.std.specs.Str.{bytes_eq}
use Rattle.sd_words.specs.declared.request.UsageCause.{UsageCause}
use Rattle.sd_words.specs.declared.request.UsageCause.TheVariants.{Words}
use Rattle.sd_words.specs.OptionWords.{names_value, names_flag}
use Rattle.sd_words.specs.Values.{is_value}
use Rattle.sd_words.specs.Spelling.{Setting}

infixl 10 ◌>>=◌
-- one test after another; the first cause ends them
abbrev pub ◌>>=◌ : {A B : Type 0} → Result A UsageCause → (A → Result B UsageCause) → Result B UsageCause
(Ok x) >>= f = f x
(Err cause) >>= f = Err cause

-- what the words so far give: settings, and the name of an option whose value is the next word
pub record Progress : Type 0 where
  pub settings : List Setting
  pub due : Option (List ℕ)

-- some of the settings has this name
abbrev pub is_taken : List ℕ → List Setting → Bool
is_taken name settings = list_any (λ s. bytes_eq s.name name) settings

-- a setting more, whose name none of the others has
unfoldable pub with_setting : Progress → List ℕ → List ℕ → Result Progress UsageCause
with_setting p name value =
    if is_taken name p.settings then Err Words else Ok (record { settings = p.settings ++ record { name = name; value = value } ∷ []; due = None })

-- a name with its value
unfoldable pub with_value : Progress → List ℕ → List ℕ → Result Progress UsageCause
with_value p name value = if is_value value then with_setting p name value else Err Words

-- a name that has no value in its word
unfoldable pub with_name : Progress → List ℕ → Result Progress UsageCause
with_name p name = if names_flag name then with_setting p name [] else if names_value name then Ok (record { settings = p.settings; due = Some name }) else Err Words

-- what follows `--` in a word: a name, or a name, `=` and a value
unfoldable pub with_text : Progress → List ℕ → Result Progress UsageCause
with_text p text =
    if nat_lt (position_or_len (λ b. b == 61) text) (length text)
    then (if names_value (before_first (λ b. b == 61) text) then with_value p (before_first (λ b. b == 61) text) (after_first (λ b. b == 61) text) else Err Words)
    else with_name p text

-- a word that isn't a value
unfoldable pub with_option : Progress → List ℕ → Result Progress UsageCause
with_option p word = if starts_with nat_eq word (codes "--") then with_text p (drop 2 word) else Err Words

-- a word more
unfoldable pub with_word : Progress → List ℕ → Result Progress UsageCause
with_word p word = elim p.due [ None ↦ with_option p word | Some name ↦ with_value p name word ]

-- some words more
unfoldable pub with_words : Progress → List (List ℕ) → Result Progress UsageCause
with_words p [] = Ok p
with_words p (w ∷ ws) = with_word p w >>= λ q. with_words q ws

-- the settings, where no value is due
unfoldable pub finished : Progress → Result (List Setting) UsageCause
finished p = elim p.due [ None ↦ Ok p.settings | Some name ↦ Err Words ]

-- the settings of all words
unfoldable pub settings_of : List (List ℕ) → Result (List Setting) UsageCause
settings_of words = with_words (record { settings = []; due = None }) words >>= finished
