-- When words ask for a request, and when for nothing and why, in plain words.
use Rattle.std.specs.Prelude.{◌≡◌, ◌≢◌, ℕ, ◌⊎◌, false, List, [], ◌∷◌, ◌++◌, Some, None}
use Rattle.sd_words.specs.declared.names.OptionName.{OptionName}
use Rattle.sd_words.specs.declared.names.OptionName.TheVariants as option
use Rattle.sd_words.specs.declared.names.Algorithm.{Algorithm}
use Rattle.sd_words.specs.declared.request.Request.{Request}
use Rattle.sd_words.specs.declared.request.UsageCause.{UsageCause}
use Rattle.sd_words.specs.declared.request.UsageCause.TheVariants.{Words, Missing, NotFor, BadValue}
use Rattle.sd_words.specs.declared.form.Form.{Form}
use Rattle.sd_words.specs.declared.table.Standing.TheVariants.{Required, Foreign}
use Rattle.sd_words.specs.OptionWords.{algorithm_word, options}
use Rattle.sd_words.specs.Spelling.{Setting, IsSpelling}
use Rattle.sd_words.specs.Asked.{value_of, values_in, standing, source_of, is_good, certified, readings, request_for}

-- a file that is to be put has the name of one that is read
abbrev pub IsNamedAs : List Setting → OptionName → OptionName → Type 0
IsNamedAs settings o p = (w : List ℕ) × (value_of o settings ≡ Some w) × (value_of p settings ≡ Some w)

-- what is wrong with an option: it is required and isn't there; or it is there and the algorithm doesn't have it; or the
-- algorithm has it and its value isn't good; or it is an output, and has the name of the file of which it is made
abbrev pub IsFault : Algorithm → List Setting → OptionName → UsageCause → Type 0
IsFault a settings o cause =
    ((form : Form) × (standing a o ≡ Required form) × (value_of o settings ≡ None) × (cause ≡ Missing o))
    ⊎ (((v : List ℕ) × (standing a o ≡ Foreign) × (value_of o settings ≡ Some v) × (cause ≡ NotFor o a))
    ⊎ (((v : List ℕ) × (standing a o ≢ Foreign) × (value_of o settings ≡ Some v) × (is_good (standing a o) v ≡ false) × (cause ≡ BadValue o))
    ⊎ ((p : OptionName) × (source_of (standing a o) ≡ Some p) × IsNamedAs settings o p × (cause ≡ BadValue o))))

-- nothing is wrong with any of these options
abbrev pub AllFit : Algorithm → List Setting → List OptionName → Type 0
AllFit a settings [] = Unit {0}
AllFit a settings (o ∷ os) = ((cause : UsageCause) → IsFault a settings o cause → ⊥) × AllFit a settings os

-- what is wrong with the first of these options that doesn't fit
abbrev pub IsFirstFault : Algorithm → List Setting → List OptionName → UsageCause → Type 0
IsFirstFault a settings os cause =
    (before : List OptionName) × (o : OptionName) × (after : List OptionName) × (os ≡ before ++ o ∷ after) × AllFit a settings before × IsFault a settings o cause

-- a certificate that is put is to have the name of the file that it is put for
abbrev pub IsNamedTwice : Algorithm → List Setting → Type 0
IsNamedTwice a settings = (p : OptionName) × (certified (standing a option.Certificate) ≡ Some p) × IsNamedAs settings option.Certificate p

-- the first thing that is wrong with the options of an algorithm: an option that doesn't fit, or else the name of the certificate
abbrev pub IsWrong : Algorithm → List Setting → UsageCause → Type 0
IsWrong a settings cause =
    IsFirstFault a settings options cause ⊎ (AllFit a settings options × IsNamedTwice a settings × (cause ≡ BadValue option.Certificate))

-- the words are well spelled, name an algorithm, and give each option as it asks
abbrev pub Asks : List (List ℕ) → Request → Type 0
Asks words request =
    (settings : List Setting) × (a : Algorithm) × IsSpelling words settings × (value_of option.Algo settings ≡ Some (algorithm_word a))
    × AllFit a settings options × (IsNamedTwice a settings → ⊥) × (request ≡ request_for a (readings a (values_in settings)))

-- the words aren't well spelled
abbrev pub AreMisspelled : List (List ℕ) → Type 0
AreMisspelled words = (settings : List Setting) → IsSpelling words settings → ⊥

-- the first reason, in the order of the tests, why the words ask for nothing
abbrev pub AskNothing : List (List ℕ) → UsageCause → Type 0
AskNothing words cause =
    (AreMisspelled words × (cause ≡ Words))
    ⊎ ((settings : List Setting) × IsSpelling words settings
    × (((value_of option.Algo settings ≡ None) × (cause ≡ Missing option.Algo))
    ⊎ (((w : List ℕ) × (value_of option.Algo settings ≡ Some w) × ((a : Algorithm) → w ≢ algorithm_word a) × (cause ≡ BadValue option.Algo))
    ⊎ ((a : Algorithm) × (value_of option.Algo settings ≡ Some (algorithm_word a)) × IsWrong a settings cause))))
