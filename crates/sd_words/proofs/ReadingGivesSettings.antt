-- Reading from the left gives the settings that the words split into.
use Rattle.std.proofs.Common.{◌≡◌, ℕ, true, false, cond, ◌⊎◌, inl, inr, IsTrue, List, [], ◌∷◌, ◌++◌, length, drop, codes, nat_eq, ltb, Some, None, Result, Ok, Err, refl, sym, ap, ◌∙◌, append_assoc}
use Rattle.std.specs.List.{IsDistinct, starts_with, position_or_len, before_first, after_first}
use Rattle.std.specs.Str.{bytes_eq}
use Rattle.std.proofs.lemmas.List.{append-nil}
use Rattle.std.proofs.lemmas.Bool.{cond-true, cond-false}
use Rattle.sd_words.specs.declared.request.UsageCause.{UsageCause}
use Rattle.sd_words.specs.declared.request.UsageCause.TheVariants.{Words}
use Rattle.sd_words.specs.declared.names.OptionName.TheVariants as option
use Rattle.sd_words.specs.OptionWords.{names_value, names_flag}
use Rattle.sd_words.specs.Values.{is_value}
use Rattle.sd_words.specs.Spelling.{Setting, SpellsValue, SpellsFlag, Spells, SplitInto, IsSpelling}
use Rattle.sd_words.specs.Reading.{◌>>=◌, Progress, is_taken, with_setting, with_value, with_name, with_text, with_option, with_word, with_words, finished, settings_of}
use Rattle.sd_words.proofs.TestChains.{bind-ok, fails-ok, holds-ok, either-ok}
use Rattle.sd_words.proofs.CutWords.{is_equals, is_whole, uncut, cut-test, cut-before, cut-after, joined}
use Rattle.sd_words.proofs.NamedOptions.{names_value-is, names_value-of, names_flag-is, names_flag-of, names_flag-other, words_whole, after_dashes, dashes}
use Rattle.sd_words.proofs.NamesStayApart.{names, apart-more, apart-free}

abbrev pub free : List Setting → Progress
free done = record { settings = done; due = None }

abbrev pub waiting : List Setting → List ℕ → Progress
waiting done name = record { settings = done; due = Some name }

abbrev pub pair : List ℕ → List ℕ → Setting
pair n v = record { name = n; value = v }

-- the settings when these words are read after that
abbrev whole : Progress → List (List ℕ) → Result (List Setting) UsageCause
whole p ws = with_words p ws >>= finished

whole-nil : (done : List Setting) → whole (free done) [] ≡ Ok done
unfolding with_words finished
whole-nil done = refl

whole-goes : (p q : Progress) (w : List ℕ) (ws : List (List ℕ)) → with_word p w ≡ Ok q → whole p (w ∷ ws) ≡ whole q ws
unfolding with_words
whole-goes p q w ws e = ap (λ r. (r >>= λ v. with_words v ws) >>= finished) e

whole-went : (p : Progress) (w : List ℕ) (ws : List (List ℕ)) (all : List Setting) → whole p (w ∷ ws) ≡ Ok all → (q : Progress) × (with_word p w ≡ Ok q) × (whole q ws ≡ Ok all)
unfolding with_words
whole-went p w ws all h =
    let one = bind-ok (with_word p w >>= λ v. with_words v ws) finished all h in
    let two = bind-ok (with_word p w) (λ v. with_words v ws) one.0 one.1 in
    (two.0, two.1, ap (λ r. r >>= finished) two.2 ∙ one.2)

-- a setting more

with_setting-ok : (p q : Progress) (n v : List ℕ) → with_setting p n v ≡ Ok q → (is_taken n p.settings ≡ false) × (free (p.settings ++ pair n v ∷ []) ≡ q)
unfolding with_setting
with_setting-ok p q n v h =
    let e = fails-ok (is_taken n p.settings) Words (Ok (free (p.settings ++ pair n v ∷ []))) q h in
    let same : free (p.settings ++ pair n v ∷ []) ≡ q = cc (e.1) in
    (e.0, same)

pub with_setting-of : (p : Progress) (n v : List ℕ) → is_taken n p.settings ≡ false → with_setting p n v ≡ Ok (free (p.settings ++ pair n v ∷ []))
unfolding with_setting
with_setting-of p n v new = cond-false (is_taken n p.settings) (Err Words) (Ok (free (p.settings ++ pair n v ∷ []))) new

-- what a word that isn't a value has given: a setting of one word, or the name of an option whose value is due
abbrev pub HasSetting : List Setting → List ℕ → Progress → Type 0
HasSetting done w q = (s : Setting) × Spells (w ∷ []) s × (is_taken s.name done ≡ false) × (free (done ++ s ∷ []) ≡ q)

abbrev pub HasName : List Setting → List ℕ → Progress → Type 0
HasName done w q = (n : List ℕ) × (names_value n ≡ true) × (w ≡ codes "--" ++ n) × (waiting done n ≡ q)

pub with_value-ok : (p q : Progress) (n v : List ℕ) → with_value p n v ≡ Ok q → IsTrue (is_value v) × (is_taken n p.settings ≡ false) × (free (p.settings ++ pair n v ∷ []) ≡ q)
unfolding with_value
with_value-ok p q n v h =
    let e = holds-ok (is_value v) Words (with_setting p n v) q h in
    let k = with_setting-ok p q n v e.1 in
    (e.0, k.0, k.1)

with_value-of : (p : Progress) (n v : List ℕ) → IsTrue (is_value v) → is_taken n p.settings ≡ false → with_value p n v ≡ Ok (free (p.settings ++ pair n v ∷ []))
unfolding with_value
with_value-of p n v good new = cond-true (is_value v) (with_setting p n v) (Err Words) good ∙ with_setting-of p n v new

with_name-ok : (done : List Setting) (q : Progress) (n w : List ℕ) → w ≡ codes "--" ++ n → with_name (free done) n ≡ Ok q → HasSetting done w q ⊎ HasName done w q
unfolding with_name
with_name-ok done q n w is h =
    elim (either-ok (names_flag n) (with_setting (free done) n []) (cond (names_value n) (Ok (waiting done n)) (Err Words)) q h) [
      | inl e ↦
          let k = with_setting-ok (free done) q n [] e.1 in
          inl (pair n [], inr (record { name = names_flag-is n e.0; value = refl; spelled = ap (λ x. x ∷ []) is }), k.0, k.1)
      | inr e ↦
          let k = holds-ok (names_value n) Words (Ok (waiting done n)) q e.1 in
          let same : waiting done n ≡ q = cc (k.1) in
          inr (n, k.0, is, same)
    ]

with_text-ok : (done : List Setting) (q : Progress) (t w : List ℕ) → w ≡ codes "--" ++ t → with_text (free done) t ≡ Ok q → HasSetting done w q ⊎ HasName done w q
unfolding with_text
with_text-ok done q t w is h =
    let n = before_first is_equals t in
    let v = after_first is_equals t in
    elim (either-ok (ltb (position_or_len is_equals t) (length t)) (cond (names_value n) (with_value (free done) n v) (Err Words)) (with_name (free done) t) q h) [
      | inl e ↦
          let k = holds-ok (names_value n) Words (with_value (free done) n v) q e.1 in
          let a = with_value-ok (free done) q n v k.1 in
          let b = names_value-is n k.0 in
          let spelled : w ∷ [] ≡ (codes "--" ++ (n ++ (codes "=" ++ v))) ∷ [] = ap (λ x. x ∷ []) (is ∙ ap (λ x. codes "--" ++ x) (joined t e.0)) in
          inl (pair n v, inl (record { which = b.0; valued = b.1; name = b.2; value = a.0; spelled = inl spelled }), a.1, a.2)
      | inr e ↦ with_name-ok done q t w is e.1
    ]

pub with_option-ok : (done : List Setting) (q : Progress) (w : List ℕ) → with_word (free done) w ≡ Ok q → HasSetting done w q ⊎ HasName done w q
unfolding with_word with_option
with_option-ok done q w h =
    let e = holds-ok (starts_with nat_eq w (codes "--")) Words (with_text (free done) (drop 2 w)) q h in
    with_text-ok done q (drop 2 w) w (after_dashes w e.0) e.1

pub waiting-ok : (done : List Setting) (n : List ℕ) (q : Progress) (w : List ℕ) → with_word (waiting done n) w ≡ Ok q → with_value (waiting done n) n w ≡ Ok q
unfolding with_word
waiting-ok done n q w h = h

-- what is read is what the words split into

abbrev SoundFree : List (List ℕ) → Type 0
SoundFree ws = (done all : List Setting) → IsDistinct bytes_eq (names done) → whole (free done) ws ≡ Ok all
    → (new : List Setting) × (all ≡ done ++ new) × SplitInto new ws × IsDistinct bytes_eq (names all)

abbrev SoundWaiting : List (List ℕ) → Type 0
SoundWaiting ws = (done : List Setting) (n : List ℕ) (all : List Setting) → IsDistinct bytes_eq (names done) → whole (waiting done n) ws ≡ Ok all
    → (v : List ℕ) × (rest : List (List ℕ)) × (new : List Setting) × (ws ≡ v ∷ rest) × IsTrue (is_value v) × (all ≡ done ++ pair n v ∷ new) × SplitInto new rest
    × IsDistinct bytes_eq (names all)

none-waits : (done : List Setting) (n : List ℕ) (all : List Setting) → whole (waiting done n) [] ≡ Ok all → ⊥
unfolding with_words finished
none-waits done n all h = cc

regroup : (done new : List Setting) (s : Setting) → (done ++ s ∷ []) ++ new ≡ done ++ s ∷ new
regroup done new s = append_assoc done (s ∷ []) new

free-step : (w : List ℕ) (ws : List (List ℕ)) → SoundFree ws → SoundWaiting ws → SoundFree (w ∷ ws)
free-step w ws sound-free sound-waiting done all apart h =
    let step = whole-went (free done) w ws all h in
    elim (with_option-ok done step.0 w step.1) [
      | inl a ↦
          let there : whole (free (done ++ a.0 ∷ [])) ws ≡ Ok all = rw a.3 step.2 in
          let r = sound-free (done ++ a.0 ∷ []) all (apart-more done a.0 a.2 apart) there in
          (a.0 ∷ r.0, r.1 ∙ regroup done r.0 a.0, (w ∷ [], ws, refl, a.1, r.2), r.3)
      | inr a ↦
          let there : whole (waiting done a.0) ws ≡ Ok all = rw a.3 step.2 in
          let r = sound-waiting done a.0 all apart there in
          let b = names_value-is a.0 a.1 in
          let words : w ∷ r.0 ∷ [] ≡ (codes "--" ++ a.0) ∷ r.0 ∷ [] = ap (λ x. x ∷ r.0 ∷ []) a.2 in
          let spells : Spells (w ∷ r.0 ∷ []) (pair a.0 r.0) = inl (record { which = b.0; valued = b.1; name = b.2; value = r.4; spelled = inr words }) in
          (pair a.0 r.0 ∷ r.2, r.5, (w ∷ r.0 ∷ [], r.1, ap (λ x. w ∷ x) r.3, spells, r.6), r.7)
    ]

waiting-step : (w : List ℕ) (ws : List (List ℕ)) → SoundFree ws → SoundWaiting (w ∷ ws)
waiting-step w ws sound-free done n all apart h =
    let step = whole-went (waiting done n) w ws all h in
    let a = with_value-ok (waiting done n) step.0 n w (waiting-ok done n step.0 w step.1) in
    let there : whole (free (done ++ pair n w ∷ [])) ws ≡ Ok all = rw a.2 step.2 in
    let r = sound-free (done ++ pair n w ∷ []) all (apart-more done (pair n w) a.1 apart) there in
    (w, ws, r.0, refl, a.0, r.1 ∙ regroup done r.0 (pair n w), r.2, r.3)

sound : (ws : List (List ℕ)) → SoundFree ws × SoundWaiting ws
sound [] = (
  (λ done all apart h.
      let same : done ≡ all = cc (whole-nil done, h) in
      ([], sym same ∙ sym (append-nil done), refl, rw (← same) apart)),
  (λ done n all apart h. absurd (none-waits done n all h)),
)
sound (w ∷ ws) =
    let ih = sound ws in
    (free-step w ws ih.0 ih.1, waiting-step w ws ih.0)

-- words that split into settings whose names differ are read so

over_dashes : (done : List Setting) (t : List ℕ) → with_word (free done) (codes "--" ++ t) ≡ with_text (free done) t
unfolding with_word with_option
over_dashes done t = cond-true (starts_with nat_eq (codes "--" ++ t) (codes "--")) (with_text (free done) t) (Err Words) (dashes t)

over_joined : (done : List Setting) (n v : List ℕ) → names_value n ≡ true → is_whole n ≡ true → IsTrue (is_value v) → is_taken n done ≡ false
    → with_text (free done) (n ++ 61 ∷ v) ≡ Ok (free (done ++ pair n v ∷ []))
unfolding with_text
over_joined done n v named one good new =
    let t = n ++ 61 ∷ v in
    let choose = λ (a b : List ℕ). cond (names_value a) (with_value (free done) a b) (Err Words) in
    cond-true (ltb (position_or_len is_equals t) (length t)) (choose (before_first is_equals t) (after_first is_equals t)) (with_name (free done) t) (cut-test n v one)
    ∙ (ap (λ a. choose a (after_first is_equals t)) (cut-before n v one)
    ∙ (ap (λ b. choose n b) (cut-after n v one)
    ∙ (cond-true (names_value n) (with_value (free done) n v) (Err Words) named ∙ with_value-of (free done) n v good new)))

over_alone : (done : List Setting) (n : List ℕ) → is_whole n ≡ true → with_text (free done) n ≡ with_name (free done) n
unfolding with_text
over_alone done n one =
    cond-false (ltb (position_or_len is_equals n) (length n))
    (cond (names_value (before_first is_equals n)) (with_value (free done) (before_first is_equals n) (after_first is_equals n)) (Err Words)) (with_name (free done) n) (uncut n one)

over_name : (done : List Setting) (n : List ℕ) → names_value n ≡ true → names_flag n ≡ false → with_name (free done) n ≡ Ok (waiting done n)
unfolding with_name
over_name done n named other =
    cond-false (names_flag n) (with_setting (free done) n []) (cond (names_value n) (Ok (waiting done n)) (Err Words)) other
    ∙ cond-true (names_value n) (Ok (waiting done n)) (Err Words) named

over_flag : (done : List Setting) (n : List ℕ) → names_flag n ≡ true → is_taken n done ≡ false → with_name (free done) n ≡ Ok (free (done ++ pair n [] ∷ []))
unfolding with_name
over_flag done n flag new =
    cond-true (names_flag n) (with_setting (free done) n []) (cond (names_value n) (Ok (waiting done n)) (Err Words)) flag ∙ with_setting-of (free done) n [] new

over_due : (done : List Setting) (n v : List ℕ) → IsTrue (is_value v) → is_taken n done ≡ false → with_word (waiting done n) v ≡ Ok (free (done ++ pair n v ∷ []))
unfolding with_word
over_due done n v good new = with_value-of (waiting done n) n v good new

-- the part that spells a setting adds it
over_value : (done : List Setting) (s : Setting) (part rest : List (List ℕ)) → SpellsValue part s → is_taken s.name done ≡ false
    → whole (free done) (part ++ rest) ≡ whole (free (done ++ s ∷ [])) rest
over_value done s part rest h new =
    let named : names_value s.name ≡ true = rw h.name (names_value-of h.which h.valued) in
    let other : names_flag s.name ≡ false = rw h.name (names_flag-other h.which h.valued) in
    let one : is_whole s.name ≡ true = rw h.name (words_whole h.which) in
    elim h.spelled [
      | inl is ↦
          let step = over_dashes done (s.name ++ 61 ∷ s.value) ∙ over_joined done s.name s.value named one h.value new in
          ap (λ ws. whole (free done) (ws ++ rest)) is ∙ whole-goes (free done) (free (done ++ s ∷ [])) (codes "--" ++ (s.name ++ 61 ∷ s.value)) rest step
      | inr is ↦
          let first = over_dashes done s.name ∙ (over_alone done s.name one ∙ over_name done s.name named other) in
          let second = over_due done s.name s.value h.value new in
          ap (λ ws. whole (free done) (ws ++ rest)) is
          ∙ (whole-goes (free done) (waiting done s.name) (codes "--" ++ s.name) (s.value ∷ rest) first
          ∙ whole-goes (waiting done s.name) (free (done ++ s ∷ [])) s.value rest second)
    ]

over_nothing : (done : List Setting) (s : Setting) (part rest : List (List ℕ)) → SpellsFlag part s → is_taken s.name done ≡ false
    → whole (free done) (part ++ rest) ≡ whole (free (done ++ s ∷ [])) rest
over_nothing done s part rest h new =
    let flag : names_flag s.name ≡ true = rw h.name names_flag-of in
    let one : is_whole s.name ≡ true = rw h.name (words_whole option.NoOverlap) in
    let added : with_name (free done) s.name ≡ Ok (free (done ++ s ∷ [])) = over_flag done s.name flag new ∙ ap (λ v. Ok (free (done ++ pair s.name v ∷ []))) (sym h.value) in
    let step = over_dashes done s.name ∙ (over_alone done s.name one ∙ added) in
    ap (λ ws. whole (free done) (ws ++ rest)) h.spelled ∙ whole-goes (free done) (free (done ++ s ∷ [])) (codes "--" ++ s.name) rest step

complete : (new done : List Setting) (ws : List (List ℕ)) → SplitInto new ws → IsDistinct bytes_eq (names (done ++ new)) → whole (free done) ws ≡ Ok (done ++ new)
complete [] done ws split apart = ap (whole (free done)) split ∙ (whole-nil done ∙ ap (λ x. Ok x) (sym (append-nil done)))
complete (s ∷ ss) done ws split apart =
    let new : is_taken s.name done ≡ false = apart-free done s ss apart in
    let over : whole (free done) (split.0 ++ split.1) ≡ whole (free (done ++ s ∷ [])) split.1 = elim split.3 [
      | inl h ↦ over_value done s split.0 split.1 h new
      | inr h ↦ over_nothing done s split.0 split.1 h new
    ] in
    let later : IsDistinct bytes_eq (names ((done ++ s ∷ []) ++ ss)) = rw (regroup done ss s) apart in
    let rest : whole (free (done ++ s ∷ [])) split.1 ≡ Ok ((done ++ s ∷ []) ++ ss) = complete ss (done ++ s ∷ []) split.1 split.4 later in
    ap (whole (free done)) split.2 ∙ (over ∙ (rest ∙ ap (λ x. Ok x) (regroup done ss s)))

-- reading is exact

pub read-spelled : (words : List (List ℕ)) (settings : List Setting) → settings_of words ≡ Ok settings → IsSpelling words settings
unfolding settings_of IsDistinct
read-spelled words settings h =
    let r = (sound words).0 [] settings tt h in
    record { split = rw r.1 r.2; differ = r.3 }

pub spelled-read : (words : List (List ℕ)) (settings : List Setting) → IsSpelling words settings → settings_of words ≡ Ok settings
unfolding settings_of
spelled-read words settings h = complete settings [] words h.split h.differ
