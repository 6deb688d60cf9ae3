-- `clap` reads words that are well spelled: it takes them, and finds the value of each option.
use Rattle.std.proofs.Common.{◌≡◌, ◌≢◌, ℕ, Bool, true, false, cond, ◌||◌, inl, inr, List, [], ◌∷◌, ◌++◌, map, codes, nat_eq, Option, Some, None, Ok, refl, sym, ap, ap₂, ◌∙◌}
use Rattle.std.specs.List.{filter, fold, list_all}
use Rattle.std.specs.Str.{bytes_eq}
use Rattle.std.proofs.lemmas.List.{append-nil, map-append}
use Rattle.std.proofs.lemmas.Slice.Eq.{bytes_eq-Decides}
use Rattle.std.proofs.lemmas.Bool.{or_right, not-true}
use Rattle.clap.specs.Words.{Row, Rule, Shape, first_of, first_value, rows_of, is_simple, built, new_rule, takes}
use Rattle.clap.specs.Lexer.{long_of, long_of_rest, short_of, has_byte, name_and_value}
use Rattle.clap.specs.Simple.{argument_words, filled, matches_of}
use Rattle.clap.specs.Walk.{Held, Waiting, idle, option, Walk, arg_by_id, arg_by_long, at_row, finished, has_row, more_values, nothing_held, reading_by, settled_rows, used, walk, walk_from, walked, with_default, with_values}
use Rattle.clap.specs.Takes.{built_takes, default_passes, is_valid, settle_passes, turn_passes, use_passes, walk_passes}
use Rattle.clap.specs.declared.builder.action.ArgAction.TheVariants.{Set, SetTrue}
use Rattle.clap.proofs.WalkLemmas.{first_value-rows}
use Rattle.clap.specs.declared.parser.matches.Found.{Found}
use Rattle.clap.specs.declared.parser.matches.ValueSource.TheVariants.{CommandLine, DefaultValue}
use Rattle.sd_base.proofs.ElementsKeepPlaces.{any-map}
use Rattle.sd_base.proofs.ByteTestsDecide.{same_bytes}
use Rattle.sd_words.specs.declared.names.OptionName.{OptionName}
use Rattle.sd_words.specs.declared.names.OptionName.TheVariants as opt
use Rattle.sd_words.specs.OptionWords.{option_word, has_value, names_flag, names_value, options}
use Rattle.sd_words.specs.Values.{is_value}
use Rattle.sd_words.specs.Spelling.{Setting, SpellsValue, SpellsFlag, Spells, SplitInto}
use Rattle.sd_words.specs.Reading.{Progress, is_taken, finished as done_when, with_word, with_words, settings_of}
use Rattle.sd_words.specs.Asked.{value_named, value_of, values_in}
use Rattle.sd_words.specs.Given.{action_for, argument, argument_of, command_of_options, empty_command, flag_value, value_found}
use Rattle.sd_words.proofs.TestChains.{bind-ok}
use Rattle.sd_words.proofs.CutWords.{is_whole, cut-before, cut-after}
use Rattle.sd_words.proofs.NamedOptions.{names_value-is, names_flag-other, names_flag-of, words_whole}
use Rattle.sd_words.proofs.ReadingGivesSettings.{free, waiting, pair, with_option-ok, with_value-ok, waiting-ok, read-spelled}

-- ---- the command when it is built

unfoldable shape : Shape
shape = (built command_of_options).top

abbrev rules : List Rule
rules = shape.rules

-- the argument of an option that has a value
abbrev text_rule : List ℕ → Rule
text_rule word = filled (record (new_rule word) { long = Some word; action = Some Set })

-- the argument of the option that has none
abbrev flag_word : List ℕ
flag_word = option_word opt.NoOverlap

abbrev flag_rule : Rule
flag_rule = filled (record (new_rule flag_word) { long = Some flag_word; action = Some SetTrue })

is-built : built command_of_options ≡ record { top = shape; subs = [] }
unfolding shape command_of_options empty_command
is-built = refl

pub simple : is_simple command_of_options ≡ true
unfolding command_of_options empty_command argument_of argument action_for option_word
simple = refl

once : shape.args_override_self ≡ false
unfolding shape command_of_options empty_command
once = refl

-- the words of the options that have a value
abbrev valued_words : List (List ℕ)
valued_words = map option_word (filter has_value options)

rules-are : rules ≡ map text_rule valued_words ++ flag_rule ∷ []
unfolding shape command_of_options empty_command argument_of argument action_for option_word
rules-are = refl

by-long : (o : OptionName) → o ≢ opt.NoOverlap → arg_by_long rules (option_word o) ≡ Some (text_rule (option_word o))
unfolding shape command_of_options empty_command argument_of argument action_for option_word
by-long opt.Algo n = refl
by-long opt.Graph n = refl
by-long opt.Certificate n = refl
by-long opt.Buffers n = refl
by-long opt.States n = refl
by-long opt.Distributions n = refl
by-long opt.Limit n = refl
by-long opt.Seed n = refl
by-long opt.Actors n = refl
by-long opt.Output n = refl
by-long opt.Order n = refl
by-long opt.Rounds n = refl
by-long opt.NoOverlap n = absurd (n refl)

flag-by-long : arg_by_long rules flag_word ≡ Some flag_rule
unfolding shape command_of_options empty_command argument_of argument action_for option_word
flag-by-long = refl

by-id : (o : OptionName) → o ≢ opt.NoOverlap → arg_by_id rules (option_word o) ≡ Some (text_rule (option_word o))
unfolding shape command_of_options empty_command argument_of argument action_for option_word
by-id opt.Algo n = refl
by-id opt.Graph n = refl
by-id opt.Certificate n = refl
by-id opt.Buffers n = refl
by-id opt.States n = refl
by-id opt.Distributions n = refl
by-id opt.Limit n = refl
by-id opt.Seed n = refl
by-id opt.Actors n = refl
by-id opt.Output n = refl
by-id opt.Order n = refl
by-id opt.Rounds n = refl
by-id opt.NoOverlap n = absurd (n refl)

all-words : (words : List (List ℕ)) → argument_words command_of_options words ≡ words
unfolding command_of_options empty_command
all-words words = refl

defaults-pass : list_all default_passes rules ≡ true
unfolding shape command_of_options empty_command argument_of argument action_for option_word
defaults-pass = refl

valid : (rows : List Row) → is_valid shape rows false ≡ true
unfolding shape command_of_options empty_command argument_of argument action_for option_word
valid rows = refl

-- ---- words

long-alone : (o : OptionName) → long_of (codes "--" ++ option_word o) ≡ Some (option_word o, None)
unfolding option_word
long-alone opt.Algo = refl
long-alone opt.Graph = refl
long-alone opt.Certificate = refl
long-alone opt.Buffers = refl
long-alone opt.States = refl
long-alone opt.Distributions = refl
long-alone opt.Limit = refl
long-alone opt.Seed = refl
long-alone opt.Actors = refl
long-alone opt.Output = refl
long-alone opt.Order = refl
long-alone opt.Rounds = refl
long-alone opt.NoOverlap = refl

no-end : (o : OptionName) → bytes_eq (codes "--" ++ option_word o) (45 ∷ 45 ∷ []) ≡ false
unfolding option_word
no-end opt.Algo = refl
no-end opt.Graph = refl
no-end opt.Certificate = refl
no-end opt.Buffers = refl
no-end opt.States = refl
no-end opt.Distributions = refl
no-end opt.Limit = refl
no-end opt.Seed = refl
no-end opt.Actors = refl
no-end opt.Output = refl
no-end opt.Order = refl
no-end opt.Rounds = refl
no-end opt.NoOverlap = refl

rest-joined : (n v : List ℕ) → long_of_rest (n ++ 61 ∷ v) ≡ Some (name_and_value (n ++ 61 ∷ v))
rest-joined [] v = refl
rest-joined (x ∷ n) v = refl

joined-no-end : (n v : List ℕ) → bytes_eq (codes "--" ++ (n ++ 61 ∷ v)) (45 ∷ 45 ∷ []) ≡ false
joined-no-end [] v = refl
joined-no-end (x ∷ n) v = refl

has-equals : (n v : List ℕ) → has_byte 61 (n ++ 61 ∷ v) ≡ true
has-equals [] v = refl
has-equals (x ∷ n) v = or_right (nat_eq x 61) _ (has-equals n v)

long-joined : (n v : List ℕ) → is_whole n ≡ true → long_of (codes "--" ++ (n ++ 61 ∷ v)) ≡ Some (n, Some v)
long-joined n v whole = rest-joined n v ∙ rw (has-equals n v, cut-before n v whole, cut-after n v whole) refl

-- ---- rows

-- what is found of a setting
abbrev shown : Setting → Row
shown s = record {
  id = s.name;
  values = cond (names_flag s.name) (codes "true") s.value ∷ [];
  count = None;
  source = Some CommandLine;
  reading = cond (names_flag s.name) (reading_by flag_rule) (reading_by (text_rule s.name));
}

abbrev shown_all : List Setting → List Row
shown_all settings = map shown settings

has-shown : (n : List ℕ) (settings : List Setting) → has_row n (shown_all settings) ≡ is_taken n settings
has-shown n settings = sym (any-map shown (λ (r : Row). bytes_eq r.id n) settings)

-- a row of an id that has none
fresh-row : (id : List ℕ) (change : Row → List Row) (missing rows : List Row) → has_row id rows ≡ false → at_row id change missing rows ≡ rows ++ missing
fresh-row id change missing [] e = refl
fresh-row id change missing (r ∷ rs) e = go (bytes_eq r.id id) e (fresh-row id change missing rs)
  where
    go : (b : Bool) → (b || has_row id rs) ≡ false → (has_row id rs ≡ false → at_row id change missing rs ≡ rs ++ missing)
        → cond b (change r ++ rs) (r ∷ at_row id change missing rs) ≡ r ∷ (rs ++ missing)
    go true f h = absurd (cc)
    go false f h = ap (λ l. r ∷ l) (h f)

text-used : (n v : List ℕ) (done : List Setting) → names_flag n ≡ false → is_taken n done ≡ false → used (text_rule n) (v ∷ []) (shown_all done) ≡ shown_all (done ++ pair n v ∷ [])
text-used n v done text new =
    let none : has_row n (shown_all done) ≡ false = has-shown n done ∙ new in
    ap (with_values n (reading_by (text_rule n)) CommandLine (v ∷ [])) (fresh-row n (λ _. []) [] (shown_all done) none ∙ append-nil (shown_all done))
    ∙ fresh-row n (more_values CommandLine (v ∷ [])) _ (shown_all done) none ∙ sym (map-append shown done (pair n v ∷ []) ∙ rw text refl)

flag-used : (done : List Setting) → is_taken flag_word done ≡ false → used flag_rule [] (shown_all done) ≡ shown_all (done ++ pair flag_word [] ∷ [])
flag-used done new =
    let none : has_row flag_word (shown_all done) ≡ false = has-shown flag_word done ∙ new in
    ap (with_values flag_word (reading_by flag_rule) CommandLine (codes "true" ∷ [])) (fresh-row flag_word (λ _. []) [] (shown_all done) none ∙ append-nil (shown_all done))
    ∙ fresh-row flag_word (more_values CommandLine (codes "true" ∷ [])) _ (shown_all done) none ∙ sym (map-append shown done (pair flag_word [] ∷ []) ∙ rw names_flag-of refl)

text-passes : (n v : List ℕ) (done : List Setting) → is_taken n done ≡ false → use_passes false (text_rule n) (v ∷ []) (shown_all done) ≡ true
text-passes n v done new = rw (has-shown n done, new) refl

flag-passes : (done : List Setting) → is_taken flag_word done ≡ false → use_passes false flag_rule [] (shown_all done) ≡ true
flag-passes done new = rw (has-shown flag_word done, new) refl

-- ---- the walk

abbrev held : List Row → Option (List ℕ × List (List ℕ)) → Held
held rows pending = record { rows = rows; pending = pending; skip = 0 }

abbrev at : List Row → Option (List ℕ × List (List ℕ)) → Waiting → Walk
at rows pending waits = record { held = held rows pending; waiting = waits; position = 1; is_trailing = false; stopped = None }

-- between two settings: the value of the last one may be read and not yet noted
record IsFree (done : List Setting) (w : Walk) : Type 0 where
  rows : List Row
  pending : Option (List ℕ × List (List ℕ))
  is : w ≡ at rows pending idle
  noted : settled_rows rules pending rows ≡ shown_all done
  passes : settle_passes rules false (held rows pending) ≡ true

-- after the name of an option whose value is the next word
record IsDue (done : List Setting) (n : List ℕ) (w : Walk) : Type 0 where
  which : OptionName
  valued : which ≢ opt.NoOverlap
  name : n ≡ option_word which
  is : w ≡ at (shown_all done) (Some (n, [])) (option n)

-- the walk has come as far as the reading
abbrev Follows : List Setting → Option (List ℕ) → Walk → Type 0
Follows done None w = IsFree done w
Follows done (Some n) w = IsDue done n w

abbrev Goes : Progress → Walk → List ℕ → Type 0
Goes q w word = Follows q.settings q.due (walked rules [] w word) × (turn_passes shape [] w word ≡ true)

walk-joined : (rows : List Row) (pending : Option (List ℕ × List (List ℕ))) (word n v : List ℕ) → bytes_eq word (45 ∷ 45 ∷ []) ≡ false → long_of word ≡ Some (n, Some v)
    → arg_by_long rules n ≡ Some (text_rule n) → walked rules [] (at rows pending idle) word ≡ at (used (text_rule n) (v ∷ []) (settled_rows rules pending rows)) None idle
unfolding walked
walk-joined rows pending word n v more long by = rw (more, long, by) refl

turn-joined : (rows : List Row) (pending : Option (List ℕ × List (List ℕ))) (word n v : List ℕ) → bytes_eq word (45 ∷ 45 ∷ []) ≡ false → long_of word ≡ Some (n, Some v)
    → arg_by_long rules n ≡ Some (text_rule n) → settle_passes rules false (held rows pending) ≡ true → use_passes false (text_rule n) (v ∷ []) (settled_rows rules pending rows) ≡ true
    → turn_passes shape [] (at rows pending idle) word ≡ true
turn-joined rows pending word n v more long by settles uses = rw (more, long, by, once, settles, uses) refl

walk-name : (rows : List Row) (pending : Option (List ℕ × List (List ℕ))) (word n : List ℕ) → bytes_eq word (45 ∷ 45 ∷ []) ≡ false → long_of word ≡ Some (n, None)
    → arg_by_long rules n ≡ Some (text_rule n) → walked rules [] (at rows pending idle) word ≡ at (settled_rows rules pending rows) (Some (n, [])) (option n)
unfolding walked
walk-name rows pending word n more long by = rw (more, long, by) refl

turn-name : (rows : List Row) (pending : Option (List ℕ × List (List ℕ))) (word n : List ℕ) → bytes_eq word (45 ∷ 45 ∷ []) ≡ false → long_of word ≡ Some (n, None)
    → arg_by_long rules n ≡ Some (text_rule n) → settle_passes rules false (held rows pending) ≡ true → turn_passes shape [] (at rows pending idle) word ≡ true
turn-name rows pending word n more long by settles = rw (more, long, by, once, settles) refl

walk-flag : (rows : List Row) (pending : Option (List ℕ × List (List ℕ))) (word : List ℕ) → bytes_eq word (45 ∷ 45 ∷ []) ≡ false → long_of word ≡ Some (flag_word, None)
    → walked rules [] (at rows pending idle) word ≡ at (used flag_rule [] (settled_rows rules pending rows)) None idle
unfolding walked
walk-flag rows pending word more long = rw (more, long, flag-by-long) refl

turn-flag : (rows : List Row) (pending : Option (List ℕ × List (List ℕ))) (word : List ℕ) → bytes_eq word (45 ∷ 45 ∷ []) ≡ false → long_of word ≡ Some (flag_word, None)
    → settle_passes rules false (held rows pending) ≡ true → use_passes false flag_rule [] (settled_rows rules pending rows) ≡ true
    → turn_passes shape [] (at rows pending idle) word ≡ true
turn-flag rows pending word more long settles uses = rw (more, long, flag-by-long, once, settles, uses) refl

-- a value is no flag
record IsPlainWord (v : List ℕ) : Type 0 where
  more : bytes_eq v (45 ∷ 45 ∷ []) ≡ false
  long : long_of v ≡ None
  short : short_of v ≡ None

plain-word : (v : List ℕ) → is_value v ≡ true → IsPlainWord v
plain-word [] good = absurd (cc)
plain-word (b ∷ bs) good =
    let other : nat_eq b 45 ≡ false = not-true (nat_eq b 45) good in
    record { more = rw other refl; long = rw other refl; short = rw other refl }

walk-due : (rows : List Row) (n v : List ℕ) → IsPlainWord v → arg_by_id rules n ≡ Some (text_rule n)
    → walked rules [] (at rows (Some (n, [])) (option n)) v ≡ at rows (Some (n, v ∷ [])) idle
unfolding walked
walk-due rows n v plain by = rw (plain.more, plain.long, plain.short, by, same_bytes n) refl

turn-due : (rows : List Row) (n v : List ℕ) → IsPlainWord v → turn_passes shape [] (at rows (Some (n, [])) (option n)) v ≡ true
turn-due rows n v plain = rw (plain.more, plain.long, plain.short) refl

-- ---- the walk follows the reading

free-value : (done : List Setting) (w : Walk) (word : List ℕ) (s : Setting) → IsFree done w → SpellsValue (word ∷ []) s → is_taken s.name done ≡ false → Goes (free (done ++ s ∷ [])) w word
free-value done w word s f h new = elim h.spelled [
  | inl e ↦
      let word_is : word ≡ codes "--" ++ (s.name ++ 61 ∷ s.value) = cc (e) in
      let whole : is_whole s.name ≡ true = rw h.name (words_whole h.which) in
      let more : bytes_eq word (45 ∷ 45 ∷ []) ≡ false = rw word_is (joined-no-end s.name s.value) in
      let long : long_of word ≡ Some (s.name, Some s.value) = rw word_is (long-joined s.name s.value whole) in
      let by : arg_by_long rules s.name ≡ Some (text_rule s.name) = rw h.name (by-long h.which h.valued) in
      let text : names_flag s.name ≡ false = rw h.name (names_flag-other h.which h.valued) in
      let noted : used (text_rule s.name) (s.value ∷ []) (settled_rows rules f.pending f.rows) ≡ shown_all (done ++ s ∷ []) = ap (used (text_rule s.name) (s.value ∷ [])) f.noted ∙ text-used s.name s.value done text new in
      let uses : use_passes false (text_rule s.name) (s.value ∷ []) (settled_rows rules f.pending f.rows) ≡ true = rw f.noted (text-passes s.name s.value done new) in (
        record { rows = _; pending = None; is = ap (λ v. walked rules [] v word) f.is ∙ walk-joined f.rows f.pending word s.name s.value more long by; noted = noted; passes = refl },
        ap (λ v. turn_passes shape [] v word) f.is ∙ turn-joined f.rows f.pending word s.name s.value more long by f.passes uses,
      )
  | inr e ↦ absurd (cc (e))
]

free-flag : (done : List Setting) (w : Walk) (word : List ℕ) (s : Setting) → IsFree done w → SpellsFlag (word ∷ []) s → is_taken s.name done ≡ false → Goes (free (done ++ s ∷ [])) w word
free-flag done w word s f h new =
    let word_is : word ≡ codes "--" ++ flag_word = cc (h.spelled, ap (λ n. codes "--" ++ n) h.name) in
    let more : bytes_eq word (45 ∷ 45 ∷ []) ≡ false = rw word_is (no-end opt.NoOverlap) in
    let long : long_of word ≡ Some (flag_word, None) = rw word_is (long-alone opt.NoOverlap) in
    let new_flag : is_taken flag_word done ≡ false = rw (← h.name) new in
    let last : done ++ pair flag_word [] ∷ [] ≡ done ++ s ∷ [] = ap₂ (λ n v. done ++ pair n v ∷ []) (sym h.name) (sym h.value) in
    let noted : used flag_rule [] (settled_rows rules f.pending f.rows) ≡ shown_all (done ++ s ∷ []) = ap (used flag_rule []) f.noted ∙ flag-used done new_flag ∙ ap shown_all last in
    let uses : use_passes false flag_rule [] (settled_rows rules f.pending f.rows) ≡ true = rw f.noted (flag-passes done new_flag) in (
      record { rows = _; pending = None; is = ap (λ v. walked rules [] v word) f.is ∙ walk-flag f.rows f.pending word more long; noted = noted; passes = refl },
      ap (λ v. turn_passes shape [] v word) f.is ∙ turn-flag f.rows f.pending word more long f.passes uses,
    )

free-name : (done : List Setting) (w : Walk) (word n : List ℕ) → IsFree done w → names_value n ≡ true → word ≡ codes "--" ++ n → Goes (waiting done n) w word
free-name done w word n f named word_is =
    let o = names_value-is n named in
    let spelled : word ≡ codes "--" ++ option_word o.0 = word_is ∙ ap (λ x. codes "--" ++ x) o.2 in
    let more : bytes_eq word (45 ∷ 45 ∷ []) ≡ false = rw spelled (no-end o.0) in
    let long : long_of word ≡ Some (n, None) = ap long_of spelled ∙ long-alone o.0 ∙ ap (λ x. Some (x, None)) (sym o.2) in
    let by : arg_by_long rules n ≡ Some (text_rule n) = rw o.2 (by-long o.0 o.1) in (
      record {
        which = o.0;
        valued = o.1;
        name = o.2;
        is = ap (λ v. walked rules [] v word) f.is ∙ walk-name f.rows f.pending word n more long by ∙ ap (λ rows. at rows (Some (n, [])) (option n)) f.noted;
      },
      ap (λ v. turn_passes shape [] v word) f.is ∙ turn-name f.rows f.pending word n more long by f.passes,
    )

due-value : (done : List Setting) (n : List ℕ) (w : Walk) (word : List ℕ) → IsDue done n w → is_value word ≡ true → is_taken n done ≡ false → Goes (free (done ++ pair n word ∷ [])) w word
due-value done n w word d good new =
    let by : arg_by_id rules n ≡ Some (text_rule n) = rw d.name (by-id d.which d.valued) in
    let text : names_flag n ≡ false = rw d.name (names_flag-other d.which d.valued) in (
      record {
        rows = shown_all done;
        pending = Some (n, word ∷ []);
        is = ap (λ v. walked rules [] v word) d.is ∙ walk-due (shown_all done) n word (plain-word word good) by;
        noted = rw by (text-used n word done text new);
        passes = rw by (text-passes n word done new);
      },
      ap (λ v. turn_passes shape [] v word) d.is ∙ turn-due (shown_all done) n word (plain-word word good),
    )

free-goes : (done : List Setting) (w : Walk) (word : List ℕ) (q : Progress) → IsFree done w → with_word (free done) word ≡ Ok q → Goes q w word
free-goes done w word q f e = elim (with_option-ok done q word e) [
  | inl a ↦ elim a.1 [
    | inl h ↦ rw (← a.3) (free-value done w word a.0 f h a.2)
    | inr h ↦ rw (← a.3) (free-flag done w word a.0 f h a.2)
  ]
  | inr a ↦ rw (← a.3) (free-name done w word a.0 f a.1 a.2)
]

due-goes : (done : List Setting) (n : List ℕ) (w : Walk) (word : List ℕ) (q : Progress) → IsDue done n w → with_word (waiting done n) word ≡ Ok q → Goes q w word
due-goes done n w word q d e =
    let a = with_value-ok (waiting done n) q n word (waiting-ok done n q word e) in
    rw (← a.2) (due-value done n w word d a.0 a.1)

goes : (done : List Setting) (due : Option (List ℕ)) (w : Walk) (word : List ℕ) (q : Progress) → Follows done due w → with_word (record { settings = done; due = due }) word ≡ Ok q → Goes q w word
goes done None w word q f e = free-goes done w word q f e
goes done (Some n) w word q d e = due-goes done n w word q d e

all-follow : (words : List (List ℕ)) (p q : Progress) (w : Walk) → Follows p.settings p.due w → with_words p words ≡ Ok q
    → Follows q.settings q.due (fold (walked rules []) w words) × (walk_passes shape [] w words ≡ true)
unfolding with_words walk_passes
all-follow [] p q w f e =
    let same : p ≡ q = cc (e) in
    (rw (← same) f, refl)
all-follow (word ∷ rest) p q w f e =
    let one = bind-ok (with_word p word) (λ v. with_words v rest) q e in
    let step = goes p.settings p.due w word one.0 f one.1 in
    let later = all-follow rest one.0 q (walked rules [] w word) step.0 one.2 in
    (later.0, rw (step.1) later.1)

-- ---- the end of the walk

-- what the walk comes to
record Ends (words : List (List ℕ)) (settings : List Setting) : Type 0 where
  free_at : IsFree settings (walk rules [] nothing_held words)
  passes : walk_passes shape [] (walk_from nothing_held) words ≡ true

due-finished : (done : List Setting) (due : Option (List ℕ)) (w : Walk) (settings : List Setting) → Follows done due w → done_when (record { settings = done; due = due }) ≡ Ok settings → IsFree settings w
unfolding done_when
due-finished done None w settings f e =
    let same : done ≡ settings = cc (e) in
    rw (← same) f
due-finished done (Some n) w settings f e = absurd (cc)

ends : (words : List (List ℕ)) (settings : List Setting) → settings_of words ≡ Ok settings → Ends words settings
unfolding settings_of
ends words settings e =
    let one = bind-ok (with_words (free []) words) done_when settings e in
    let start : IsFree [] (walk_from nothing_held) = record { rows = []; pending = None; is = refl; noted = refl; passes = refl } in
    let all = all-follow words (free []) one.0 (walk_from nothing_held) start one.1 in
    record { free_at = due-finished one.0.settings one.0.due (walk rules [] nothing_held words) settings all.0 one.2; passes = all.1 }

pub taken : (words : List (List ℕ)) (settings : List Setting) → settings_of words ≡ Ok settings → takes command_of_options words ≡ true
taken words settings e =
    let end = ends words settings e in
    let f = end.free_at in
    let passes : built_takes (record { top = shape; subs = [] }) nothing_held words ≡ true = rw (f.is, end.passes, once, f.passes, defaults-pass, valid (finished rules (held f.rows f.pending))) refl in
    rw (simple, is-built, all-words words) passes

-- ---- what is found

no-default : (b : Bool) (rows : List Row) → cond b rows rows ≡ rows
no-default true rows = refl
no-default false rows = refl

-- the options with a value have no default
text-defaults : (ns : List (List ℕ)) (rows : List Row) (more : List Rule) → fold with_default rows (map text_rule ns ++ more) ≡ fold with_default rows more
text-defaults [] rows more = refl
text-defaults (n ∷ ns) rows more = ap (λ r. fold with_default r (map text_rule ns ++ more)) (no-default (has_row n rows) rows) ∙ text-defaults ns rows more

abbrev default_row : Row
default_row = record { id = flag_word; values = codes "false" ∷ []; count = None; source = Some DefaultValue; reading = reading_by flag_rule }

-- the row that the flag's default adds, where it wasn't used
abbrev added : List Setting → List Row
added settings = cond (is_taken flag_word settings) [] (default_row ∷ [])

with-flag : (settings : List Setting) (b : Bool) → has_row flag_word (shown_all settings) ≡ b
    → cond b (shown_all settings) (with_values flag_word (reading_by flag_rule) DefaultValue (codes "false" ∷ []) (shown_all settings)) ≡ shown_all settings ++ cond b [] (default_row ∷ [])
with-flag settings true e = sym (append-nil (shown_all settings))
with-flag settings false e = fresh-row flag_word (more_values DefaultValue (codes "false" ∷ [])) (default_row ∷ []) (shown_all settings) e

rows-found : (words : List (List ℕ)) (settings : List Setting) → settings_of words ≡ Ok settings → matches_of command_of_options words ≡ shown_all settings ++ added settings
rows-found words settings e =
    let f = (ends words settings e).free_at in
    let noted : finished rules (walk rules [] nothing_held words).held ≡ fold with_default (shown_all settings) rules =
    ap (λ (w : Walk). finished rules w.held) f.is ∙ ap (λ rows. fold with_default rows rules) f.noted in
    let last : fold with_default (shown_all settings) rules ≡ shown_all settings ++ cond (has_row flag_word (shown_all settings)) [] (default_row ∷ []) =
    ap (fold with_default (shown_all settings)) rules-are ∙ text-defaults valued_words (shown_all settings) (flag_rule ∷ []) ∙ with-flag settings _ refl in
    rw (is-built, all-words words) (noted ∙ last ∙ ap (λ b. shown_all settings ++ cond b [] (default_row ∷ [])) (has-shown flag_word settings))

first-here : (n v : List ℕ) (r : Row) (rest : List Row) → bytes_eq r.id n ≡ true → r.values ≡ v ∷ [] → first_of n (r ∷ rest) ≡ Some v
first-here n v r rest here values = rw (here, values) refl

first-later : (n : List ℕ) (r : Row) (rest : List Row) → bytes_eq r.id n ≡ false → first_of n (r ∷ rest) ≡ first_of n rest
first-later n r rest other = rw other refl

text-found : (n : List ℕ) (settings : List Setting) (more : List Row) → names_flag n ≡ false → first_of n more ≡ None → first_of n (shown_all settings ++ more) ≡ value_named n settings
text-found n [] more text none = none
text-found n (s ∷ ss) more text none = go (bytes_eq s.name n) refl (text-found n ss more text none)
  where
    go : (b : Bool) → bytes_eq s.name n ≡ b → first_of n (shown_all ss ++ more) ≡ value_named n ss → first_of n (shown s ∷ (shown_all ss ++ more)) ≡ cond b (Some s.value) (value_named n ss)
    go true here later =
        let named : s.name ≡ n = (bytes_eq-Decides s.name n).0 here in
        let values : (shown s).values ≡ s.value ∷ [] = rw (named, text) refl in
        first-here n s.value (shown s) (shown_all ss ++ more) here values
    go false other later = first-later n (shown s) (shown_all ss ++ more) other ∙ later

-- the option without a value has the empty one
abbrev IsEmptyFlag : Setting → Type 0
IsEmptyFlag s = names_flag s.name ≡ true → s.value ≡ []

empty-flag : (part : List (List ℕ)) (s : Setting) → Spells part s → IsEmptyFlag s
empty-flag part s (inl h) = λ e.
    let text : names_flag s.name ≡ false = rw h.name (names_flag-other h.which h.valued) in
    absurd (cc)
empty-flag part s (inr h) = λ e. h.value

flag-found : (settings : List Setting) (words : List (List ℕ)) (more : List Row) → SplitInto settings words → flag_value (first_of flag_word more) ≡ None
    → flag_value (first_of flag_word (shown_all settings ++ more)) ≡ value_named flag_word settings
unfolding flag_value
flag-found [] words more split none = none
flag-found (s ∷ ss) words more split none = go (bytes_eq s.name flag_word) refl (flag-found ss split.1 more split.4 none)
  where
    go : (b : Bool) → bytes_eq s.name flag_word ≡ b → flag_value (first_of flag_word (shown_all ss ++ more)) ≡ value_named flag_word ss → flag_value (first_of flag_word (shown s ∷ (shown_all ss ++ more))) ≡ cond b (Some s.value) (value_named flag_word ss)
    go true here later =
        let named : s.name ≡ flag_word = (bytes_eq-Decides s.name flag_word).0 here in
        let flag : names_flag s.name ≡ true = rw named names_flag-of in
        let values : (shown s).values ≡ codes "true" ∷ [] = rw flag refl in
        ap flag_value (first-here flag_word (codes "true") (shown s) (shown_all ss ++ more) here values) ∙ ap Some (sym (empty-flag split.0 s split.3 flag))
    go false other later = ap flag_value (first-later flag_word (shown s) (shown_all ss ++ more) other) ∙ later

no-text : (n : List ℕ) (b : Bool) → names_flag n ≡ false → first_of n (cond b [] (default_row ∷ [])) ≡ None
unfolding names_flag
no-text n true text = refl
no-text n false text = rw text refl

no-flag : (b : Bool) → flag_value (first_of flag_word (cond b [] (default_row ∷ []))) ≡ None
unfolding flag_value option_word
no-flag true = refl
no-flag false = refl

-- the value of each option is found
pub found : (f : Found) (words : List (List ℕ)) (settings : List Setting) → settings_of words ≡ Ok settings → rows_of f ≡ matches_of command_of_options words
    → value_found f ≡ values_in settings
unfolding value_found
found f words settings e is = λ i o. each o i
  where
    rows : rows_of f ≡ shown_all settings ++ added settings
    rows = is ∙ rows-found words settings e

    text : (o : OptionName) → o ≢ opt.NoOverlap → first_value f (option_word o) ≡ value_of o settings
    text o valued =
        let no_flag = names_flag-other o valued in
        first_value-rows f (option_word o) ∙ ap (first_of (option_word o)) rows
        ∙ text-found (option_word o) settings (added settings) no_flag (no-text (option_word o) (is_taken flag_word settings) no_flag)

    each : (o : OptionName) → value_found f o ≡ values_in settings o
    each opt.Algo = text opt.Algo (λ k. cc)
    each opt.Graph = text opt.Graph (λ k. cc)
    each opt.Certificate = text opt.Certificate (λ k. cc)
    each opt.Buffers = text opt.Buffers (λ k. cc)
    each opt.States = text opt.States (λ k. cc)
    each opt.Distributions = text opt.Distributions (λ k. cc)
    each opt.Limit = text opt.Limit (λ k. cc)
    each opt.Seed = text opt.Seed (λ k. cc)
    each opt.Actors = text opt.Actors (λ k. cc)
    each opt.Output = text opt.Output (λ k. cc)
    each opt.Order = text opt.Order (λ k. cc)
    each opt.Rounds = text opt.Rounds (λ k. cc)
    each opt.NoOverlap =
        ap flag_value (first_value-rows f flag_word ∙ ap (first_of flag_word) rows)
        ∙ flag-found settings words (added settings) (read-spelled words settings e).split (no-flag (is_taken flag_word settings))
