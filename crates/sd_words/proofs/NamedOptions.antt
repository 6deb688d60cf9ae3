-- The words of options.
use Rattle.std.proofs.Common.{◌≡◌, ◌≢◌, ℕ, true, false, ◌&&◌, inl, inr, List, [], ◌∷◌, ◌++◌, codes, drop, nat_eq, refl, sym, ap}
use Rattle.std.specs.List.{list_any, starts_with}
use Rattle.std.specs.Str.{bytes_eq}
use Rattle.std.proofs.lemmas.Slice.Eq.{bytes_eq-Decides, starts_is}
use Rattle.std.proofs.lemmas.Bool.Decides.{Decides-eqb}
use Rattle.std.proofs.lemmas.Bool.{and_parts, or_cases}
use Rattle.sd_words.specs.declared.names.OptionName.{OptionName}
use Rattle.sd_words.specs.declared.names.OptionName.TheVariants as option
use Rattle.sd_words.specs.OptionWords.{option_word, has_value, names_value, names_flag, options}
use Rattle.sd_words.proofs.CutWords.{is_whole}

valued : (o : OptionName) → has_value o ≡ true → o ≢ option.NoOverlap
valued o h = λ e.
    let none : has_value o ≡ false = ap has_value e in
    cc

valued_among : (os : List OptionName) (name : List ℕ) → list_any (λ o. has_value o && bytes_eq (option_word o) name) os ≡ true
    → (o : OptionName) × (o ≢ option.NoOverlap) × (name ≡ option_word o)
valued_among [] name h = absurd (cc)
valued_among (o ∷ os) name h = elim (or_cases (has_value o && bytes_eq (option_word o) name) (list_any (λ p. has_value p && bytes_eq (option_word p) name) os) h) [
  | inl e ↦
      let both = and_parts (has_value o) (bytes_eq (option_word o) name) e in
      (o, valued o both.0, sym ((bytes_eq-Decides (option_word o) name).0 both.1))
  | inr e ↦ valued_among os name e
]

-- a name of an option that has a value
pub names_value-is : (name : List ℕ) → names_value name ≡ true → (o : OptionName) × (o ≢ option.NoOverlap) × (name ≡ option_word o)
unfolding names_value
names_value-is name h = valued_among options name h

pub names_value-of : (o : OptionName) → o ≢ option.NoOverlap → names_value (option_word o) ≡ true
unfolding names_value option_word
names_value-of option.Algo n = refl
names_value-of option.Graph n = refl
names_value-of option.Certificate n = refl
names_value-of option.Buffers n = refl
names_value-of option.States n = refl
names_value-of option.Distributions n = refl
names_value-of option.Limit n = refl
names_value-of option.Seed n = refl
names_value-of option.Actors n = refl
names_value-of option.Output n = refl
names_value-of option.Order n = refl
names_value-of option.Rounds n = refl
names_value-of option.NoOverlap n = absurd (n refl)

pub names_flag-other : (o : OptionName) → o ≢ option.NoOverlap → names_flag (option_word o) ≡ false
unfolding names_flag option_word
names_flag-other option.Algo n = refl
names_flag-other option.Graph n = refl
names_flag-other option.Certificate n = refl
names_flag-other option.Buffers n = refl
names_flag-other option.States n = refl
names_flag-other option.Distributions n = refl
names_flag-other option.Limit n = refl
names_flag-other option.Seed n = refl
names_flag-other option.Actors n = refl
names_flag-other option.Output n = refl
names_flag-other option.Order n = refl
names_flag-other option.Rounds n = refl
names_flag-other option.NoOverlap n = absurd (n refl)

pub names_flag-of : names_flag (option_word option.NoOverlap) ≡ true
unfolding names_flag option_word
names_flag-of = refl

pub names_flag-is : (name : List ℕ) → names_flag name ≡ true → name ≡ option_word option.NoOverlap
unfolding names_flag
names_flag-is name h = sym ((bytes_eq-Decides (option_word option.NoOverlap) name).0 h)

-- no option's word has a `=`
pub words_whole : (o : OptionName) → is_whole (option_word o) ≡ true
unfolding option_word
words_whole option.Algo = refl
words_whole option.Graph = refl
words_whole option.Certificate = refl
words_whole option.Buffers = refl
words_whole option.States = refl
words_whole option.Distributions = refl
words_whole option.Limit = refl
words_whole option.Seed = refl
words_whole option.Actors = refl
words_whole option.Output = refl
words_whole option.Order = refl
words_whole option.Rounds = refl
words_whole option.NoOverlap = refl

-- what follows `--`
pub after_dashes : (word : List ℕ) → starts_with nat_eq word (codes "--") ≡ true → word ≡ codes "--" ++ drop 2 word
after_dashes word h = (starts_is Decides-eqb word (codes "--") true (sym h)).0 refl

pub dashes : (text : List ℕ) → starts_with nat_eq (codes "--" ++ text) (codes "--") ≡ true
dashes text = (starts_is Decides-eqb (codes "--" ++ text) (codes "--") (starts_with nat_eq (codes "--" ++ text) (codes "--")) refl).1 text refl
