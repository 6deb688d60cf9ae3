-- How contracts see the test of the spelling, which keeps names and no values.
use Rattle.std.specs.Prelude.{◌≡◌, ℕ, List, map, Some, Result, Ok, Err, MatchResult}
use Rattle.std.specs.Option.{option_map}
use Rattle.sd_words.specs.declared.spelling.Part.{Part}
use Rattle.sd_words.specs.declared.spelling.Part.TheVariants.{Name, Whole}
use Rattle.sd_words.specs.declared.spelling.Reader.{Reader}
use Rattle.sd_words.specs.declared.request.UsageCause.{UsageCause}
use Rattle.sd_words.specs.declared.request.WordsError.{WordsError}
use Rattle.sd_words.specs.Spelling.{Setting}
use Rattle.sd_words.specs.Reading.{Progress, with_setting}
use Rattle.sd_words.specs.Asked.{Fails}

-- what a part adds to what the words before it give
abbrev pub IsPart : Progress → Part → Result Progress UsageCause → Type 0
IsPart p (Name name) next = next ≡ Ok (record { settings = p.settings; due = Some name.now })
IsPart p (Whole name) next = (value : List ℕ) × (next ≡ with_setting p name.now value)

-- a word is of this part, or ends the reading
abbrev pub GivesPart : Progress → Result Part UsageCause → Result Progress UsageCause → Type 0
GivesPart p result next = MatchResult result (λ part. IsPart p part next) (λ cause. next ≡ Err cause)

-- the reader has the names of the settings, and the same name is due
abbrev pub Sees : Reader → Progress → Type 0
Sees r p = (map (λ name. name.now) r.names.items ≡ map (λ (s : Setting). s.name) p.settings) × (option_map (λ name. name.now) r.due ≡ p.due)

-- the reader goes on with the reading, or ends as it does
abbrev pub StepsTo : Reader → Result (Unit {0}) WordsError → Result Progress UsageCause → Type 0
StepsTo r result next = MatchResult result (λ _. (q : Progress) × (next ≡ Ok q) × Sees r q) (λ error. Fails error next)

-- the reading ends well, or as the test does
abbrev pub IsTested : Result (Unit {0}) WordsError → Result (List Setting) UsageCause → Type 0
IsTested result read = MatchResult result (λ _. (settings : List Setting) × (read ≡ Ok settings)) (λ error. Fails error read)
