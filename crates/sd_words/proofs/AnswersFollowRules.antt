-- Each answer comes exactly where its rule says.
use Rattle.std.proofs.Common.{◌≡◌, ◌≢◌, ℕ, Bool, true, false, cond, ◌⊎◌, inl, inr, List, [], ◌∷◌, ◌++◌, Option, Some, None, Result, Ok, Err, length, drop, codes, nat_eq, ltb, refl, sym, ap, ◌∙◌}
use Rattle.std.specs.List.{find, starts_with, position_or_len, before_first, after_first}
use Rattle.std.specs.Str.{bytes_eq}
use Rattle.std.proofs.lemmas.Slice.Eq.{bytes_eq-Decides}
use Rattle.sd_words.specs.declared.names.OptionName.{OptionName}
use Rattle.sd_words.specs.declared.names.OptionName.TheVariants as option
use Rattle.sd_words.specs.declared.names.Algorithm.{Algorithm}
use Rattle.sd_words.specs.declared.names.Algorithm.TheVariants as algorithm
use Rattle.sd_words.specs.declared.request.Request.{Request}
use Rattle.sd_words.specs.declared.request.UsageCause.{UsageCause}
use Rattle.sd_words.specs.declared.request.UsageCause.TheVariants.{Words, Missing, NotFor, BadValue}
use Rattle.sd_words.specs.declared.table.Standing.{Standing}
use Rattle.sd_words.specs.declared.table.Standing.TheVariants.{Required, Allowed, Foreign}
use Rattle.sd_words.specs.OptionWords.{algorithm_word, algorithm_named, algorithms, options}
use Rattle.sd_words.specs.Spelling.{Setting}
use Rattle.sd_words.specs.OptionWords.{names_value, names_flag}
use Rattle.sd_words.specs.Values.{is_value}
use Rattle.sd_words.specs.declared.form.Form.{Form}
use Rattle.sd_words.specs.declared.form.Form.TheVariants as form
use Rattle.sd_words.specs.Forms.{fits, made_of, read}
use Rattle.sd_words.specs.Reading.{◌>>=◌, Progress, is_taken, with_setting, with_value, with_name, with_text, with_option, with_word, with_words, finished, settings_of}
use Rattle.sd_words.specs.Asked.{value_of, values_in, standing, is_good, judged, checked, all_checked, are_one, named_apart, apart_from, source_of, certified, certificate_apart, tested, algorithm_in, known, algorithm_of, readings, request_for, request_from, request_of}
use Rattle.sd_words.specs.Rules.{IsFault, AllFit, IsFirstFault, IsNamedAs, IsNamedTwice, IsWrong, Asks, AreMisspelled, AskNothing}
use Rattle.sd_words.proofs.TestChains.{bind-ok}
use Rattle.sd_words.proofs.ReadingGivesSettings.{read-spelled, spelled-read}

-- the fault of an option is found

good-err : (b : Bool) (o : OptionName) (cause : UsageCause) → cond b (Ok (tt {0})) (Err (BadValue o)) ≡ Err cause → (b ≡ false) × (cause ≡ BadValue o)
good-err true o cause h = absurd (cc)
good-err false o cause h =
    let same : cause ≡ BadValue o = cc in
    (refl, same)

judged-fault : (st : Standing) (v : Option (List ℕ)) (a : Algorithm) (o : OptionName) (settings : List Setting) (cause : UsageCause)
    → standing a o ≡ st → value_of o settings ≡ v → judged st a o v ≡ Err cause → IsFault a settings o cause
unfolding judged
judged-fault (Required form) None a o settings cause s is h =
    let same : cause ≡ Missing o = cc in
    inl (form, s, is, same)
judged-fault (Allowed form) None a o settings cause s is h = absurd (cc)
judged-fault Foreign None a o settings cause s is h = absurd (cc)
judged-fault (Required form) (Some v) a o settings cause s is h =
    let g = good-err (fits form v) o cause h in
    let other : standing a o ≢ Foreign = λ e. cc in
    let bad : is_good (standing a o) v ≡ false = ap (λ st. is_good st v) s ∙ g.0 in
    inr (inr (inl (v, other, is, bad, g.1)))
judged-fault (Allowed form) (Some v) a o settings cause s is h =
    let g = good-err (fits form v) o cause h in
    let other : standing a o ≢ Foreign = λ e. cc in
    let bad : is_good (standing a o) v ≡ false = ap (λ st. is_good st v) s ∙ g.0 in
    inr (inr (inl (v, other, is, bad, g.1)))
judged-fault Foreign (Some v) a o settings cause s is h =
    let same : cause ≡ NotFor o a = cc in
    inr (inl (v, s, is, same))

bad-err : (b : Bool) (o : OptionName) → b ≡ false → cond b (Ok (tt {0})) (Err (BadValue o)) ≡ Err (BadValue o)
bad-err true o h = absurd (cc)
bad-err false o h = refl

judged-bad : (st : Standing) (v : List ℕ) (a : Algorithm) (o : OptionName) → st ≢ Foreign → is_good st v ≡ false → judged st a o (Some v) ≡ Err (BadValue o)
unfolding judged
judged-bad (Required form) v a o n h = bad-err (fits form v) o h
judged-bad (Allowed form) v a o n h = bad-err (fits form v) o h
judged-bad Foreign v a o n h = absurd (n refl)

-- two options with one value

twice-named : (w v : Option (List ℕ)) → are_one w v ≡ true → (x : List ℕ) × (w ≡ Some x) × (v ≡ Some x)
unfolding are_one
twice-named (Some w) (Some v) h = (w, refl, ap (λ (x : List ℕ). Some x) (sym ((bytes_eq-Decides w v).0 h)))
twice-named (Some w) None h = absurd (cc)
twice-named None v h = absurd (cc)

named-twice : (w v : Option (List ℕ)) (x : List ℕ) → w ≡ Some x → v ≡ Some x → are_one w v ≡ true
unfolding are_one
named-twice w v x p q = rw (p, q) ((bytes_eq-Decides x x).1 refl)

apart-err : (o : OptionName) (b : Bool) (cause : UsageCause) → cond b (Err (BadValue o)) (Ok (tt {0})) ≡ Err cause → (b ≡ true) × (cause ≡ BadValue o)
apart-err o true cause h =
    let same : cause ≡ BadValue o = cc in
    (refl, same)
apart-err o false cause h = absurd (cc)

same-apart : (o p : OptionName) (settings : List Setting) → IsNamedAs settings o p → named_apart o p (values_in settings) ≡ Err (BadValue o)
unfolding named_apart
same-apart o p settings twice =
    ap (λ b. cond b (Err (BadValue o)) (Ok (tt {0}))) (named-twice (value_of o settings) (value_of p settings) twice.0 twice.1 twice.2)

apart-same : (o p : OptionName) (settings : List Setting) (cause : UsageCause) → named_apart o p (values_in settings) ≡ Err cause → IsNamedAs settings o p × (cause ≡ BadValue o)
unfolding named_apart
apart-same o p settings cause h =
    let e = apart-err o (are_one (value_of o settings) (value_of p settings)) cause h in
    (twice-named (value_of o settings) (value_of p settings) e.0, e.1)

-- an option that has to differ from another one

apart-same-as : (p : Option OptionName) (o : OptionName) (settings : List Setting) (cause : UsageCause) → apart_from p o (values_in settings) ≡ Err cause
    → (q : OptionName) × (p ≡ Some q) × IsNamedAs settings o q × (cause ≡ BadValue o)
unfolding apart_from
apart-same-as None o settings cause h = absurd (cc)
apart-same-as (Some q) o settings cause h = let same = apart-same o q settings cause h in (q, refl, same.0, same.1)

same-as-apart : (p : Option OptionName) (o q : OptionName) (settings : List Setting) → p ≡ Some q → IsNamedAs settings o q
    → apart_from p o (values_in settings) ≡ Err (BadValue o)
unfolding apart_from
same-as-apart None o q settings is twice = absurd (cc)
same-as-apart (Some p) o q settings is twice =
    let same : p ≡ q = cc in
    same-apart o p settings (rw same twice)

-- each text is a name of an output

output-fits : (f : Form) (q : OptionName) (w : List ℕ) → made_of f ≡ Some q → fits f w ≡ true
unfolding made_of read
output-fits form.Text q w h = absurd (cc)
output-fits (form.Output source) q w h = refl
output-fits (form.Certificate source) q w h = absurd (cc)
output-fits (form.Number least greatest) q w h = absurd (cc)
output-fits form.Buffers q w h = absurd (cc)
output-fits form.Orders q w h = absurd (cc)
output-fits form.Flag q w h = absurd (cc)

good-ok : (b : Bool) (o : OptionName) → b ≡ true → cond b (Ok (tt {0})) (Err (BadValue o)) ≡ Ok (tt {0})
good-ok true o h = refl
good-ok false o h = absurd (cc)

output-judged : (st : Standing) (a : Algorithm) (o q : OptionName) (w : List ℕ) → source_of st ≡ Some q → judged st a o (Some w) ≡ Ok (tt {0})
unfolding judged
output-judged (Required f) a o q w h = good-ok (fits f w) o (output-fits f q w h)
output-judged (Allowed f) a o q w h = good-ok (fits f w) o (output-fits f q w h)
output-judged Foreign a o q w h = absurd (cc)

outcome : {A : Type 0} (r : Result A UsageCause) → ((x : A) × (r ≡ Ok x)) ⊎ ((cause : UsageCause) × (r ≡ Err cause))
outcome (Ok x) = inl (x, refl)
outcome (Err cause) = inr (cause, refl)

checked-fault : (a : Algorithm) (o : OptionName) (settings : List Setting) (cause : UsageCause) → checked a o (values_in settings) ≡ Err cause → IsFault a settings o cause
unfolding checked
checked-fault a o settings cause h = elim (outcome (judged (standing a o) a o (value_of o settings))) [
  | inl e ↦
      let later : apart_from (source_of (standing a o)) o (values_in settings) ≡ Err cause = sym (ap (λ r. r >>= λ _. apart_from (source_of (standing a o)) o (values_in settings)) e.1) ∙ h in
      inr (inr (inr (apart-same-as (source_of (standing a o)) o settings cause later)))
  | inr e ↦
      let same : Err e.0 ≡ Err cause = sym (ap (λ r. r >>= λ _. apart_from (source_of (standing a o)) o (values_in settings)) e.1) ∙ h in
      let is : e.0 ≡ cause = cc (same) in
      judged-fault (standing a o) (value_of o settings) a o settings cause refl refl (e.1 ∙ ap (λ c. Err c) is)
]

fault-checked : (a : Algorithm) (o : OptionName) (settings : List Setting) (cause : UsageCause) → IsFault a settings o cause → checked a o (values_in settings) ≡ Err cause
unfolding checked judged
fault-checked a o settings cause (inl h) = rw (h.1, h.2, h.3) refl
fault-checked a o settings cause (inr (inl h)) = rw (h.1, h.2, h.3) refl
fault-checked a o settings cause (inr (inr (inl h))) =
    rw (h.2, h.4) (ap (λ r. r >>= λ _. apart_from (source_of (standing a o)) o (values_in settings)) (judged-bad (standing a o) h.0 a o h.1 h.3))
fault-checked a o settings cause (inr (inr (inr h))) =
    let ok : judged (standing a o) a o (value_of o settings) ≡ Ok (tt {0}) = ap (judged (standing a o) a o) h.2.1 ∙ output-judged (standing a o) a o h.0 h.2.0 h.1 in
    ap (λ r. r >>= λ _. apart_from (source_of (standing a o)) o (values_in settings)) ok
    ∙ (same-as-apart (source_of (standing a o)) o h.0 settings h.1 h.2 ∙ ap (λ c. Err c) (sym h.3))

-- the options are tested in turn

fit-checked : (a : Algorithm) (o : OptionName) (settings : List Setting) → ((cause : UsageCause) → IsFault a settings o cause → ⊥) → checked a o (values_in settings) ≡ Ok (tt {0})
fit-checked a o settings fit = elim (outcome (checked a o (values_in settings))) [
  | inl e ↦ e.1
  | inr e ↦ absurd (fit e.0 (checked-fault a o settings e.0 e.1))
]

all-fit : (a : Algorithm) (settings : List Setting) (os : List OptionName) → AllFit a settings os → all_checked a (values_in settings) os ≡ Ok (tt {0})
unfolding all_checked
all-fit a settings [] fit = refl
all-fit a settings (o ∷ os) fit = ap (λ r. r >>= λ _. all_checked a (values_in settings) os) (fit-checked a o settings fit.0) ∙ all-fit a settings os fit.1

fit-all : (a : Algorithm) (settings : List Setting) (os : List OptionName) (u : Unit {0}) → all_checked a (values_in settings) os ≡ Ok u → AllFit a settings os
unfolding all_checked
fit-all a settings [] u h = tt
fit-all a settings (o ∷ os) u h =
    let one = bind-ok (checked a o (values_in settings)) (λ _. all_checked a (values_in settings) os) u h in
    let fit : (cause : UsageCause) → IsFault a settings o cause → ⊥ = λ cause f. cc (one.1, fault-checked a o settings cause f) in
    (fit, fit-all a settings os u one.2)

first-fault : (a : Algorithm) (settings : List Setting) (os : List OptionName) (cause : UsageCause) → all_checked a (values_in settings) os ≡ Err cause → IsFirstFault a settings os cause
unfolding all_checked
first-fault a settings [] cause h = absurd (cc)
first-fault a settings (o ∷ os) cause h = elim (outcome (checked a o (values_in settings))) [
  | inl e ↦
      let later : all_checked a (values_in settings) os ≡ Err cause = sym (ap (λ r. r >>= λ _. all_checked a (values_in settings) os) e.1) ∙ h in
      let f = first-fault a settings os cause later in
      let fit : (c : UsageCause) → IsFault a settings o c → ⊥ = λ c g. cc (e.1, fault-checked a o settings c g) in
      (o ∷ f.0, f.1, f.2, ap (λ l. o ∷ l) f.3, (fit, f.4), f.5)
  | inr e ↦
      let same : Err e.0 ≡ Err cause = sym (ap (λ r. r >>= λ _. all_checked a (values_in settings) os) e.1) ∙ h in
      let is : e.0 ≡ cause = cc (same) in
      ([], o, os, refl, tt, rw (← is) (checked-fault a o settings e.0 e.1))
]

fault-first : (a : Algorithm) (settings : List Setting) (before : List OptionName) (o : OptionName) (after : List OptionName) (cause : UsageCause)
    → AllFit a settings before → IsFault a settings o cause → all_checked a (values_in settings) (before ++ o ∷ after) ≡ Err cause
unfolding all_checked
fault-first a settings [] o after cause fit fault = ap (λ r. r >>= λ _. all_checked a (values_in settings) after) (fault-checked a o settings cause fault)
fault-first a settings (b ∷ before) o after cause fit fault =
    ap (λ r. r >>= λ _. all_checked a (values_in settings) (before ++ o ∷ after)) (fit-checked a b settings fit.0) ∙ fault-first a settings before o after cause fit.1 fault

-- the algorithm is found by its word

named-word : (a : Algorithm) → algorithm_named (algorithm_word a) ≡ Some a
unfolding algorithm_named algorithm_word
named-word algorithm.Repetition = refl
named-word algorithm.Throughput = refl
named-word algorithm.Storage = refl
named-word algorithm.Scenario = refl
named-word algorithm.Check = refl
named-word algorithm.Generate = refl
named-word algorithm.Convert = refl
named-word algorithm.Ordered = refl
named-word algorithm.Expand = refl
named-word algorithm.Complete = refl
named-word algorithm.ScenarioStorage = refl

found-first : (b : Bool) (x a : Algorithm) (w : List ℕ) (r : Option Algorithm) → bytes_eq (algorithm_word x) w ≡ b → cond b (Some x) r ≡ Some a → (w ≡ algorithm_word a) ⊎ (r ≡ Some a)
found-first true x a w r e h =
    let same : x ≡ a = cc (h) in
    inl (sym ((bytes_eq-Decides (algorithm_word x) w).0 e) ∙ ap algorithm_word same)
found-first false x a w r e h = inr h

found : (xs : List Algorithm) (w : List ℕ) (a : Algorithm) → find (λ x. bytes_eq (algorithm_word x) w) xs ≡ Some a → w ≡ algorithm_word a
found [] w a h = absurd (cc)
found (x ∷ xs) w a h = elim (found-first (bytes_eq (algorithm_word x) w) x a w (find (λ y. bytes_eq (algorithm_word y) w) xs) refl h) [
  | inl e ↦ e
  | inr e ↦ found xs w a e
]

word-named : (w : List ℕ) (a : Algorithm) → algorithm_named w ≡ Some a → w ≡ algorithm_word a
unfolding algorithm_named
word-named w a h = found algorithms w a h

maybe : {A : Type 0} (o : Option A) → (o ≡ None) ⊎ ((x : A) × (o ≡ Some x))
maybe None = inl refl
maybe (Some x) = inr (x, refl)

unnamed : (w : List ℕ) → ((a : Algorithm) → w ≢ algorithm_word a) → algorithm_named w ≡ None
unnamed w n = elim (maybe (algorithm_named w)) [
  | inl e ↦ e
  | inr e ↦ absurd (n e.0 (word-named w e.0 e.1))
]

algorithm-named : (settings : List Setting) (a : Algorithm) → value_of option.Algo settings ≡ Some (algorithm_word a) → algorithm_of (values_in settings) ≡ Ok a
unfolding algorithm_of
algorithm-named settings a h = ap algorithm_in h ∙ ap known (named-word a)

algorithm-ok : (settings : List Setting) (a : Algorithm) → algorithm_of (values_in settings) ≡ Ok a → value_of option.Algo settings ≡ Some (algorithm_word a)
unfolding algorithm_of
algorithm-ok settings a h = elim (maybe (value_of option.Algo settings)) [
  | inl e ↦ absurd (cc (ap algorithm_in e, h))
  | inr e ↦ elim (maybe (algorithm_named e.0)) [
    | inl f ↦ absurd (cc (ap algorithm_in e.1, ap known f, h))
    | inr f ↦
        let same : f.0 ≡ a = cc (ap algorithm_in e.1, ap known f.1, h) in
        e.1 ∙ ap (λ w. Some w) (word-named e.0 f.0 f.1 ∙ ap algorithm_word same)
  ]
]

algorithm-err : (settings : List Setting) (cause : UsageCause) → algorithm_of (values_in settings) ≡ Err cause
    → ((value_of option.Algo settings ≡ None) × (cause ≡ Missing option.Algo))
    ⊎ ((w : List ℕ) × (value_of option.Algo settings ≡ Some w) × ((a : Algorithm) → w ≢ algorithm_word a) × (cause ≡ BadValue option.Algo))
unfolding algorithm_of
algorithm-err settings cause h = elim (maybe (value_of option.Algo settings)) [
  | inl e ↦
      let same : cause ≡ Missing option.Algo = cc (ap algorithm_in e, h) in
      inl (e, same)
  | inr e ↦ elim (maybe (algorithm_named e.0)) [
    | inl f ↦
        let same : cause ≡ BadValue option.Algo = cc (ap algorithm_in e.1, ap known f, h) in
        let other : (a : Algorithm) → e.0 ≢ algorithm_word a = λ a g. cc (f, ap algorithm_named g, named-word a) in
        inr (e.0, e.1, other, same)
    | inr f ↦ absurd (cc (ap algorithm_in e.1, ap known f.1, h))
  ]
]

-- reading has one cause

abbrev OnlyWords : {A : Type 0} → Result A UsageCause → Type 0
OnlyWords r = (cause : UsageCause) → r ≡ Err cause → cause ≡ Words

only-ok : {A : Type 0} (x : A) → OnlyWords (Ok x)
only-ok x cause h = absurd (cc)

only-err : {A : Type 0} → OnlyWords {A = A} (Err Words)
only-err cause h = cc (h)

only-if : {A : Type 0} (b : Bool) (r s : Result A UsageCause) → OnlyWords r → OnlyWords s → OnlyWords (cond b r s)
only-if true r s p q = p
only-if false r s p q = q

only-then : {A B : Type 0} (r : Result A UsageCause) (f : A → Result B UsageCause) → OnlyWords r → ((x : A) → OnlyWords (f x)) → OnlyWords (r >>= f)
only-then (Ok x) f p q = q x
only-then (Err e) f p q = λ cause h.
    let same : e ≡ cause = cc (h) in
    sym same ∙ p e refl

setting-only : (p : Progress) (n v : List ℕ) → OnlyWords (with_setting p n v)
unfolding with_setting
setting-only p n v = only-if (is_taken n p.settings) (Err Words) _ only-err (only-ok _)

value-only : (p : Progress) (n v : List ℕ) → OnlyWords (with_value p n v)
unfolding with_value
value-only p n v = only-if (is_value v) (with_setting p n v) (Err Words) (setting-only p n v) only-err

name-only : (p : Progress) (n : List ℕ) → OnlyWords (with_name p n)
unfolding with_name
name-only p n = only-if (names_flag n) (with_setting p n []) _ (setting-only p n []) (only-if (names_value n) _ (Err Words) (only-ok _) only-err)

text-only : (p : Progress) (t : List ℕ) → OnlyWords (with_text p t)
unfolding with_text
text-only p t =
    let n = before_first (λ b. nat_eq b 61) t in
    let v = after_first (λ b. nat_eq b 61) t in
    only-if (ltb (position_or_len (λ b. nat_eq b 61) t) (length t)) (cond (names_value n) (with_value p n v) (Err Words)) (with_name p t)
    (only-if (names_value n) (with_value p n v) (Err Words) (value-only p n v) only-err) (name-only p t)

option-only : (p : Progress) (w : List ℕ) → OnlyWords (with_option p w)
unfolding with_option
option-only p w = only-if (starts_with nat_eq w (codes "--")) (with_text p (drop 2 w)) (Err Words) (text-only p (drop 2 w)) only-err

word-only : (settings : List Setting) (due : Option (List ℕ)) (w : List ℕ) → OnlyWords (with_word (record { settings = settings; due = due }) w)
unfolding with_word
word-only settings None w = option-only _ w
word-only settings (Some n) w = value-only _ n w

words-only : (ws : List (List ℕ)) (p : Progress) → OnlyWords (with_words p ws)
unfolding with_words
words-only [] p = only-ok p
words-only (w ∷ ws) p = only-then (with_word p w) (λ q. with_words q ws) (word-only p.settings p.due w) (λ q. words-only ws q)

end-only : (settings : List Setting) (due : Option (List ℕ)) → OnlyWords (finished (record { settings = settings; due = due }))
unfolding finished
end-only settings None = only-ok settings
end-only settings (Some n) = only-err

settings-only : (words : List (List ℕ)) → OnlyWords (settings_of words)
unfolding settings_of
settings-only words = only-then (with_words _ words) finished (words-only words _) (λ q. end-only q.settings q.due)

-- the options, and then the name of the certificate

certificate-err : (a : Algorithm) (settings : List Setting) (cause : UsageCause) → certificate_apart a (values_in settings) ≡ Err cause
    → IsNamedTwice a settings × (cause ≡ BadValue option.Certificate)
unfolding certificate_apart
certificate-err a settings cause h =
    let same = apart-same-as (certified (standing a option.Certificate)) option.Certificate settings cause h in
    ((same.0, same.1, same.2), same.3)

certificate-ok : (a : Algorithm) (settings : List Setting) → (IsNamedTwice a settings → ⊥) → certificate_apart a (values_in settings) ≡ Ok (tt {0})
certificate-ok a settings apart = elim (outcome (certificate_apart a (values_in settings))) [
  | inl e ↦ e.1
  | inr e ↦ absurd (apart (certificate-err a settings e.0 e.1).0)
]

twice-certificate : (a : Algorithm) (settings : List Setting) → IsNamedTwice a settings → certificate_apart a (values_in settings) ≡ Err (BadValue option.Certificate)
unfolding certificate_apart
twice-certificate a settings twice = same-as-apart (certified (standing a option.Certificate)) option.Certificate twice.0 settings twice.1 twice.2

tested-ok : (a : Algorithm) (settings : List Setting) (u : Unit {0}) → tested a (values_in settings) ≡ Ok u → AllFit a settings options × (IsNamedTwice a settings → ⊥)
unfolding tested
tested-ok a settings u h =
    let one = bind-ok (all_checked a (values_in settings) options) (λ _. certificate_apart a (values_in settings)) u h in
    let apart : IsNamedTwice a settings → ⊥ = λ twice. cc (one.1, twice-certificate a settings twice) in
    (fit-all a settings options one.0 one.1, apart)

ok-tested : (a : Algorithm) (settings : List Setting) → AllFit a settings options → (IsNamedTwice a settings → ⊥) → tested a (values_in settings) ≡ Ok (tt {0})
unfolding tested
ok-tested a settings fit apart = ap (λ r. r >>= λ _. certificate_apart a (values_in settings)) (all-fit a settings options fit) ∙ certificate-ok a settings apart

tested-err : (a : Algorithm) (settings : List Setting) (cause : UsageCause) → tested a (values_in settings) ≡ Err cause → IsWrong a settings cause
unfolding tested
tested-err a settings cause h = elim (outcome (all_checked a (values_in settings) options)) [
  | inl e ↦
      let later : certificate_apart a (values_in settings) ≡ Err cause = sym (ap (λ r. r >>= λ _. certificate_apart a (values_in settings)) e.1) ∙ h in
      let twice = certificate-err a settings cause later in
      inr (fit-all a settings options e.0 e.1, twice.0, twice.1)
  | inr e ↦
      let same : Err e.0 ≡ Err cause = sym (ap (λ r. r >>= λ _. certificate_apart a (values_in settings)) e.1) ∙ h in
      let is : all_checked a (values_in settings) options ≡ Err cause = cc (e.1, same) in
      inl (first-fault a settings options cause is)
]

err-tested : (a : Algorithm) (settings : List Setting) (cause : UsageCause) → IsWrong a settings cause → tested a (values_in settings) ≡ Err cause
unfolding tested
err-tested a settings cause (inl f) =
    let fault : all_checked a (values_in settings) options ≡ Err cause = ap (all_checked a (values_in settings)) f.3 ∙ fault-first a settings f.0 f.1 f.2 cause f.4 f.5 in
    ap (λ r. r >>= λ _. certificate_apart a (values_in settings)) fault
err-tested a settings cause (inr h) =
    ap (λ r. r >>= λ _. certificate_apart a (values_in settings)) (all-fit a settings options h.0) ∙ (twice-certificate a settings h.1 ∙ ap (λ c. Err c) (sym h.2))

-- the answers

request-ok : (settings : List Setting) (r : Request) → request_from (values_in settings) ≡ Ok r
    → (a : Algorithm) × (value_of option.Algo settings ≡ Some (algorithm_word a)) × AllFit a settings options × (IsNamedTwice a settings → ⊥) × (r ≡ request_for a (readings a (values_in settings)))
unfolding request_from
request-ok settings r h =
    let one = bind-ok (algorithm_of (values_in settings)) (λ a. tested a (values_in settings) >>= λ _. Ok (request_for a (readings a (values_in settings)))) r h in
    let two = bind-ok (tested one.0 (values_in settings)) (λ _. Ok (request_for one.0 (readings one.0 (values_in settings)))) r one.2 in
    let same : r ≡ request_for one.0 (readings one.0 (values_in settings)) = cc (two.2) in
    let fit = tested-ok one.0 settings two.0 two.1 in
    (one.0, algorithm-ok settings one.0 one.1, fit.0, fit.1, same)

request-asked : (settings : List Setting) (a : Algorithm) → value_of option.Algo settings ≡ Some (algorithm_word a) → AllFit a settings options → (IsNamedTwice a settings → ⊥) → request_from (values_in settings) ≡ Ok (request_for a (readings a (values_in settings)))
unfolding request_from
request-asked settings a h fit apart =
    ap (λ r. r >>= λ b. tested b (values_in settings) >>= λ _. Ok (request_for b (readings b (values_in settings)))) (algorithm-named settings a h)
    ∙ ap (λ r. r >>= λ _. Ok (request_for a (readings a (values_in settings)))) (ok-tested a settings fit apart)

pub asks : (words : List (List ℕ)) (r : Request) → request_of words ≡ Ok r → Asks words r
unfolding request_of
asks words r h =
    let one = bind-ok (settings_of words) (λ given. request_from (values_in given)) r h in
    let two = request-ok one.0 r one.2 in
    (one.0, two.0, read-spelled words one.0 one.1, two.1, two.2, two.3, two.4)

pub asked : (words : List (List ℕ)) (r : Request) → Asks words r → request_of words ≡ Ok r
unfolding request_of
asked words r h =
    ap (λ s. s >>= λ given. request_from (values_in given)) (spelled-read words h.0 h.2) ∙ (request-asked h.0 h.1 h.3 h.4 h.5 ∙ ap (λ q. Ok q) (sym h.6))

abbrev Refused : List Setting → UsageCause → Type 0
Refused settings cause =
    ((value_of option.Algo settings ≡ None) × (cause ≡ Missing option.Algo))
    ⊎ (((w : List ℕ) × (value_of option.Algo settings ≡ Some w) × ((a : Algorithm) → w ≢ algorithm_word a) × (cause ≡ BadValue option.Algo))
    ⊎ ((a : Algorithm) × (value_of option.Algo settings ≡ Some (algorithm_word a)) × IsWrong a settings cause))

request-err : (settings : List Setting) (cause : UsageCause) → request_from (values_in settings) ≡ Err cause → Refused settings cause
unfolding request_from
request-err settings cause h = elim (outcome (algorithm_of (values_in settings))) [
  | inl a ↦
      let later : (tested a.0 (values_in settings) >>= λ _. Ok (request_for a.0 (readings a.0 (values_in settings)))) ≡ Err cause =
      sym (ap (λ r. r >>= λ b. tested b (values_in settings) >>= λ _. Ok (request_for b (readings b (values_in settings)))) a.1) ∙ h in
      elim (outcome (tested a.0 (values_in settings))) [
        | inl e ↦ absurd (cc (ap (λ r. r >>= λ _. Ok (request_for a.0 (readings a.0 (values_in settings)))) e.1, later))
        | inr e ↦
            let same : Err e.0 ≡ Err cause = sym (ap (λ r. r >>= λ _. Ok (request_for a.0 (readings a.0 (values_in settings)))) e.1) ∙ later in
            let is : tested a.0 (values_in settings) ≡ Err cause = cc (e.1, same) in
            inr (inr (a.0, algorithm-ok settings a.0 a.1, tested-err a.0 settings cause is))
      ]
  | inr e ↦
      let same : Err e.0 ≡ Err cause = sym (ap (λ r. r >>= λ b. tested b (values_in settings) >>= λ _. Ok (request_for b (readings b (values_in settings)))) e.1) ∙ h in
      let is : algorithm_of (values_in settings) ≡ Err cause = cc (e.1, same) in
      elim (algorithm-err settings cause is) [ inl f ↦ inl f | inr f ↦ inr (inl f) ]
]

refused-request : (settings : List Setting) (cause : UsageCause) → Refused settings cause → request_from (values_in settings) ≡ Err cause
unfolding request_from algorithm_of
refused-request settings cause (inl h) = ap (λ v. algorithm_in v >>= λ a. tested a (values_in settings) >>= λ _. Ok (request_for a (readings a (values_in settings)))) h.0 ∙ ap (λ c. Err c) (sym h.1)
refused-request settings cause (inr (inl h)) =
    ap (λ v. algorithm_in v >>= λ a. tested a (values_in settings) >>= λ _. Ok (request_for a (readings a (values_in settings)))) h.1
    ∙ (ap (λ o. known o >>= λ a. tested a (values_in settings) >>= λ _. Ok (request_for a (readings a (values_in settings)))) (unnamed h.0 h.2) ∙ ap (λ c. Err c) (sym h.3))
refused-request settings cause (inr (inr h)) =
    let fault : tested h.0 (values_in settings) ≡ Err cause = err-tested h.0 settings cause h.2 in
    ap (λ r. r >>= λ a. tested a (values_in settings) >>= λ _. Ok (request_for a (readings a (values_in settings)))) (algorithm-named settings h.0 h.1)
    ∙ ap (λ r. r >>= λ _. Ok (request_for h.0 (readings h.0 (values_in settings)))) fault

pub asks_nothing : (words : List (List ℕ)) (cause : UsageCause) → request_of words ≡ Err cause → AskNothing words cause
unfolding request_of
asks_nothing words cause h = elim (outcome (settings_of words)) [
  | inl e ↦
      let later : request_from (values_in e.0) ≡ Err cause = sym (ap (λ s. s >>= λ given. request_from (values_in given)) e.1) ∙ h in
      inr (e.0, read-spelled words e.0 e.1, request-err e.0 cause later)
  | inr e ↦
      let same : Err e.0 ≡ Err cause = sym (ap (λ s. s >>= λ given. request_from (values_in given)) e.1) ∙ h in
      let is : e.0 ≡ cause = cc (same) in
      let none : AreMisspelled words = λ settings k. cc (e.1, spelled-read words settings k) in
      inl (none, sym is ∙ settings-only words e.0 e.1)
]

misspelled-read : (words : List (List ℕ)) → AreMisspelled words → settings_of words ≡ Err Words
misspelled-read words none = elim (outcome (settings_of words)) [
  | inl e ↦ absurd (none e.0 (read-spelled words e.0 e.1))
  | inr e ↦ e.1 ∙ ap (λ c. Err c) (settings-only words e.0 e.1)
]

pub nothing_asked : (words : List (List ℕ)) (cause : UsageCause) → AskNothing words cause → request_of words ≡ Err cause
unfolding request_of
nothing_asked words cause (inl h) = ap (λ s. s >>= λ given. request_from (values_in given)) (misspelled-read words h.0) ∙ ap (λ c. Err c) (sym h.1)
nothing_asked words cause (inr h) = ap (λ s. s >>= λ given. request_from (values_in given)) (spelled-read words h.0 h.1) ∙ refused-request h.0 cause h.2

fault-other : (a : Algorithm) (settings : List Setting) (o : OptionName) → IsFault a settings o Words → ⊥
fault-other a settings o (inl h) = cc (h.3)
fault-other a settings o (inr (inl h)) = cc (h.3)
fault-other a settings o (inr (inr (inl h))) = cc (h.4)
fault-other a settings o (inr (inr (inr h))) = cc (h.3)

wrong-other : (a : Algorithm) (settings : List Setting) → IsWrong a settings Words → ⊥
wrong-other a settings (inl f) = fault-other a settings f.1 f.5
wrong-other a settings (inr h) = cc (h.2)

refused-other : (settings : List Setting) → Refused settings Words → ⊥
refused-other settings (inl h) = cc (h.1)
refused-other settings (inr (inl h)) = cc (h.3)
refused-other settings (inr (inr h)) = wrong-other h.0 settings h.2

pub misspelled : (words : List (List ℕ)) → request_of words ≡ Err Words → AreMisspelled words
misspelled words h = elim (asks_nothing words Words h) [
  | inl e ↦ e.0
  | inr e ↦ absurd (refused-other e.0 e.2)
]
