-- Whole characters in front of some bytes, and where in a comment they lead.
use Rattle.std.proofs.Common.{◌≡◌, ◌≢◌, ℕ, zero, suc, ◌+◌, ◌-◌, ◌<◌, ◌≤◌, Bool, true, false, List, [], ◌∷◌, ◌++◌, length, take, drop, slice_index, Option, Some, None, refl, sym, ap, ◌∙◌, subst, arith, add-zero}
use Rattle.std.specs.Prelude.{IsTrue, if◌then◌else◌, ◌==◌}
use Rattle.std.proofs.Math.Seq.{take-add, take-suc}
use Rattle.std.proofs.lemmas.Bool.Decides.{nat_tests}
use Rattle.std.proofs.lemmas.Bool.{ne_eqb}
use Rattle.std.proofs.lemmas.List.{length-drop, get_or-drop, take_all}
use Rattle.file_text.specs.declared.class.Class.{Class}
use Rattle.file_text.specs.declared.class.Class.TheVariants.{Wide, Control, Hyphen, Greater}
use Rattle.file_text.specs.declared.mode.Comment.{Comment}
use Rattle.file_text.specs.declared.mode.Comment.TheVariants as part
use Rattle.file_text.specs.declared.due.Due.TheVariants.{Nothing}
use Rattle.file_text.specs.declared.characters.Run.{Run}
use Rattle.file_text.specs.declared.characters.Run.TheVariants as run_of
use Rattle.file_text.specs.Grammar.{Each, is_character}
use Rattle.file_text.specs.inside.Utf8.{due_along}
use Rattle.file_text.specs.inside.Machine.{class_of, Around, in_comment, Step, goes, comment_step, table, Spot, follow, walk, IsDue}
use Rattle.file_text.specs.inside.Runs.{takes, IsCharacter, IsRun, is_in_body, after_byte, hyphened, behind, place_behind, IsPartOfBody}
use Rattle.file_text.proofs.ClassesMatchGrammar.{character_class, hyphen_class, greater_class, Known, known}
use Rattle.file_text.proofs.DistinctNamesStay.{each-append}
use Rattle.file_text.proofs.MachineWalks.{walk-append}
use Rattle.file_text.proofs.BytesSpellUtf8.{due_along-append, ascii_along}

-- ---- one character

one-character : (bs : List ℕ) → 0 < length bs → slice_index bs 0 < 128 → IsCharacter bs 1
one-character [] some low = absurd (omega arith)
one-character (b ∷ bs) some low = record { within = omega arith; whole = ascii_along b [] low; wide = λ more. absurd (omega arith) }

-- ---- characters one after another

front-and-more : (bs : List ℕ) (n k : ℕ) → IsDue (take n bs) Nothing → IsDue (take k (drop n bs)) Nothing → IsDue (take (n + k) bs) Nothing
front-and-more bs n k front more =
    ap (due_along (Some Nothing)) (take-add n k bs) ∙ due_along-append (Some Nothing) (take n bs) (take k (drop n bs))
    ∙ ap (λ (d : Option _). due_along d (take k (drop n bs))) front ∙ more

within-more : (bs : List ℕ) (n k : ℕ) → n ≤ length bs → k ≤ length (drop n bs) → n + k ≤ length bs
within-more bs n k front more = omega (arith, length-drop n bs)

at-front : (bs : List ℕ) (n : ℕ) → slice_index (drop n bs) 0 ≡ slice_index bs n
at-front bs n = get_or-drop n bs 0 0 ∙ ap (slice_index bs) (add-zero n)

-- a run that takes one byte of characters from U+0080 up takes all
wide-alike : (r : Run) (b c : ℕ) → takes r b ≡ true → 128 ≤ b → 128 ≤ c → takes r c ≡ true
wide-alike run_of.Text b c took high other = grind (arith, nat_tests)
wide-alike (run_of.Value quote) b c took high other = grind (arith, nat_tests)
wide-alike run_of.Name b c took high other = grind (arith, nat_tests)
wide-alike run_of.White b c took high other = grind (arith, nat_tests)

all-wide : (r : Run) (b : ℕ) (t : List ℕ) → takes r b ≡ true → 128 ≤ b → Each (λ c. 128 ≤ c) t → Each (λ c. IsTrue (takes r c)) t
all-wide r b [] took high wide = tt
all-wide r b (c ∷ t) took high wide = (wide-alike r b c took high wide.0, all-wide r b t took high wide.1)

taken : (r : Run) (bs : List ℕ) (k : ℕ) → takes r (slice_index bs 0) ≡ true → (1 < k → Each (λ b. 128 ≤ b) (take k bs)) → Each (λ b. IsTrue (takes r b)) (take k bs)
taken r bs zero took wide = tt
taken r [] (suc k) took wide = tt
taken r (b ∷ bs) (suc zero) took wide = (took, tt)
taken r (b ∷ bs) (suc (suc k)) took wide = let high = wide (omega arith) in (took, all-wide r b (take (suc k) bs) took high.0 high.1)

pub ascii-here : (bs : List ℕ) (n : ℕ) → n < length bs → slice_index bs n < 128 → IsCharacter (drop n bs) 1
ascii-here bs n some low = one-character (drop n bs) (omega (arith, length-drop n bs)) (omega (arith, low, at-front bs n))

pub run-more : (r : Run) (bs : List ℕ) (n k : ℕ) → IsRun r bs n → takes r (slice_index bs n) ≡ true → IsCharacter (drop n bs) k → IsRun r bs (n + k)
run-more r bs n k front took more = record {
  within = within-more bs n k front.within more.within;
  whole = front-and-more bs n k front.whole more.whole;
  taken = subst (Each (λ b. IsTrue (takes r b))) (sym (take-add n k bs))
      (each-append (λ b. IsTrue (takes r b)) (take n bs) (take k (drop n bs)) front.taken (taken r (drop n bs) k (ap (takes r) (at-front bs n) ∙ took) more.wide));
}

-- ---- the body of a comment

-- what has been read then, by what the byte is
after_test : Comment → Bool → Bool → Bool → Option Comment
after_test part.Body true greater character = Some part.Hyphen
after_test k true greater character = Some part.Hyphens
after_test part.Hyphens false true character = None
after_test k false greater true = Some part.Body
after_test k false greater false = None

tested : (k : Comment) (b : ℕ) → is_in_body k ≡ true → after_byte k b ≡ after_test k (b == 45) (b == 62) (is_character b)
unfolding after_test
tested part.Bang b inside = cc
tested part.Dash b inside = cc
tested part.Body b inside = by (b == 45) (b == 62) (is_character b)
  where
    by : (h g c : Bool) → (if h then Some part.Hyphen else (if c then Some part.Body else None)) ≡ after_test part.Body h g c
    by true g c = refl
    by false g true = refl
    by false g false = refl
tested part.Hyphen b inside = by (b == 45) (b == 62) (is_character b)
  where
    by : (h g c : Bool) → (if h then Some part.Hyphens else (if c then Some part.Body else None)) ≡ after_test part.Hyphen h g c
    by true g c = refl
    by false g true = refl
    by false g false = refl
tested part.Hyphens b inside = by (b == 45) (b == 62) (is_character b)
  where
    by : (h g c : Bool) → (if h then Some part.Hyphens else (if g then None else (if c then Some part.Body else None))) ≡ after_test part.Hyphens h g c
    by true g c = refl
    by false true c = refl
    by false false true = refl
    by false false false = refl

steps : (a : Around) (k l : Comment) (c : Class) → is_in_body k ≡ true → after_test k (hyphen_class c) (greater_class c) (character_class c) ≡ Some l → comment_step a k c ≡ goes a (in_comment l)
unfolding after_test
steps a part.Bang l c inside is = cc
steps a part.Dash l c inside is = cc
steps a part.Body l Hyphen inside is = cc
steps a part.Hyphen l Hyphen inside is = cc
steps a part.Hyphens l Hyphen inside is = cc
steps a part.Hyphens l Greater inside is = cc
steps a k l Control inside is = cc
steps a k l c inside is = cc

goes-by : (a : Around) (k l : Comment) (c : Class) (b : ℕ) → Known c b → is_in_body k ≡ true → after_byte k b ≡ Some l → comment_step a k c ≡ goes a (in_comment l)
goes-by a k l c b byte inside is = steps a k l c inside (rw (byte.hyphen, byte.greater, byte.character) at (sym (tested k b inside) ∙ is))

goes-on : (a : Around) (k l : Comment) (b : ℕ) → is_in_body k ≡ true → after_byte k b ≡ Some l → comment_step a k (class_of b) ≡ goes a (in_comment l)
goes-on a k l b inside is = goes-by a k l (class_of b) b (known b) inside is

stays-inside : (k l : Comment) (h g c : Bool) → is_in_body k ≡ true → after_test k h g c ≡ Some l → is_in_body l ≡ true
unfolding after_test
stays-inside part.Bang l h g c inside is = cc
stays-inside part.Dash l h g c inside is = cc
stays-inside part.Body l true g c inside is = let same : part.Hyphen ≡ l = cc in ap is_in_body (sym same)
stays-inside part.Hyphen l true g c inside is = let same : part.Hyphens ≡ l = cc in ap is_in_body (sym same)
stays-inside part.Hyphens l true g c inside is = let same : part.Hyphens ≡ l = cc in ap is_in_body (sym same)
stays-inside part.Hyphens l false true c inside is = cc
stays-inside k l false g false inside is = cc
stays-inside k l false g true inside is = let same : part.Body ≡ l = cc in ap is_in_body (sym same)

-- a character from U+0080 up is one of the body
pub wide-class : (b : ℕ) → 128 ≤ b → class_of b ≡ Wide
wide-class b high = grind (arith, nat_tests)

wide-step : (a : Around) (k : Comment) → is_in_body k ≡ true → comment_step a k Wide ≡ goes a (in_comment part.Body)
wide-step a part.Bang inside = cc
wide-step a part.Dash inside = cc
wide-step a part.Body inside = refl
wide-step a part.Hyphen inside = refl
wide-step a part.Hyphens inside = refl

stepped : (a : Around) (k l : Comment) (b : ℕ) (t : List ℕ) → comment_step a k (class_of b) ≡ goes a (in_comment l) → walk true (Some (a, in_comment k)) (b ∷ t) ≡ walk true (Some (a, in_comment l)) t
unfolding table
stepped a k l b t is = ap (λ (s : Step). walk true (follow true s) t) is

wide-walk : (a : Around) (k : Comment) (b : ℕ) (t : List ℕ) → is_in_body k ≡ true → 128 ≤ b → Each (λ c. 128 ≤ c) t → walk true (Some (a, in_comment k)) (b ∷ t) ≡ Some (a, in_comment part.Body)
wide-walk a k b [] inside high wide = stepped a k part.Body b [] (ap (comment_step a k) (wide-class b high) ∙ wide-step a k inside)
wide-walk a k b (c ∷ t) inside high wide =
    stepped a k part.Body b (c ∷ t) (ap (comment_step a k) (wide-class b high) ∙ wide-step a k inside) ∙ wide-walk a part.Body c t refl wide.0 wide.1

wide-after : (a : Around) (k l : Comment) (b : ℕ) → is_in_body k ≡ true → 128 ≤ b → after_byte k b ≡ Some l → part.Body ≡ l
wide-after a k l b inside high is =
    let same : goes a (in_comment part.Body) ≡ goes a (in_comment l) = sym (ap (comment_step a k) (wide-class b high) ∙ wide-step a k inside) ∙ goes-on a k l b inside is in
    cc

character-walk : (a : Around) (k l : Comment) (bs : List ℕ) (n : ℕ) → is_in_body k ≡ true → after_byte k (slice_index bs 0) ≡ Some l → 0 < n → n ≤ length bs → (1 < n → Each (λ b. 128 ≤ b) (take n bs))
    → walk true (Some (a, in_comment k)) (take n bs) ≡ Some (a, in_comment l)
character-walk a k l bs zero inside is some within wide = absurd (omega arith)
character-walk a k l [] (suc n) inside is some within wide = absurd (omega arith)
character-walk a k l (b ∷ bs) (suc zero) inside is some within wide = stepped a k l b [] (goes-on a k l b inside is)
character-walk a k l (b ∷ bs) (suc (suc n)) inside is some within wide =
    let high = wide (omega arith) in
    wide-walk a k b (take (suc n) bs) inside high.0 high.1 ∙ ap (λ (p : Comment). Some (a, in_comment p)) (wide-after a k l b inside high.0 is)

pub body-more : (j k l : Comment) (bs : List ℕ) (n m : ℕ) → IsPartOfBody j k bs n → after_byte k (slice_index bs n) ≡ Some l → IsCharacter (drop n bs) m → 0 < m → IsPartOfBody j l bs (n + m)
body-more j k l bs n m front is more some = record {
  within = within-more bs n m front.within more.within;
  whole = front-and-more bs n m front.whole more.whole;
  inside = stays-inside k l (slice_index bs n == 45) (slice_index bs n == 62) (is_character (slice_index bs n)) front.inside (sym (tested k (slice_index bs n) front.inside) ∙ is);
  leads = λ a.
      ap (walk true (Some (a, in_comment j))) (take-add n m bs) ∙ walk-append true (Some (a, in_comment j)) (take n bs) (take m (drop n bs))
      ∙ ap (λ (o : Option Spot). walk true o (take m (drop n bs))) (front.leads a)
      ∙ character-walk a k l (drop n bs) m front.inside (ap (after_byte k) (at-front bs n) ∙ is) some more.within more.wide;
}

-- ---- where in the body of a comment bytes of it lead

behind-append : (k : Comment) (t u : List ℕ) → place_behind k (t ++ u) ≡ place_behind (place_behind k t) u
behind-append k [] u = refl
behind-append k (b ∷ t) u = behind-append (behind k b) t u

-- one byte more
behind-one : (k : Comment) (bs : List ℕ) (n : ℕ) → n < length bs → place_behind k (take (suc n) bs) ≡ behind (place_behind k (take n bs)) (slice_index bs n)
behind-one k bs n some = ap (place_behind k) (take-suc bs n 0 some) ∙ behind-append k (take n bs) (slice_index bs n ∷ [])

no-hyphen : (k : Comment) (b : ℕ) → b ≢ 45 → behind k b ≡ part.Body
no-hyphen k b other = rw (ne_eqb b 45 other) refl

wide-behind : (k : Comment) (b : ℕ) (t : List ℕ) → 128 ≤ b → Each (λ c. 128 ≤ c) t → place_behind k (b ∷ t) ≡ part.Body
wide-behind k b [] high wide = no-hyphen k b (λ is. omega (arith, is))
wide-behind k b (c ∷ t) high wide = wide-behind (behind k b) c t wide.0 wide.1

-- one character more
behind-character : (k : Comment) (bs : List ℕ) (m : ℕ) → 0 < m → m ≤ length bs → (1 < m → Each (λ b. 128 ≤ b) (take m bs)) → place_behind k (take m bs) ≡ behind k (slice_index bs 0)
behind-character k bs zero some within wide = absurd (omega arith)
behind-character k [] (suc m) some within wide = absurd (omega arith)
behind-character k (b ∷ bs) (suc zero) some within wide = refl
behind-character k (b ∷ bs) (suc (suc m)) some within wide =
    let high = wide (omega arith) in
    wide-behind k b (take (suc m) bs) high.0 high.1 ∙ sym (no-hyphen k b (λ is. omega (arith, is, high.0)))

behind-more : (k : Comment) (bs : List ℕ) (n m : ℕ) → IsCharacter (drop n bs) m → 0 < m → place_behind k (take (n + m) bs) ≡ behind (place_behind k (take n bs)) (slice_index bs n)
behind-more k bs n m more some =
    ap (place_behind k) (take-add n m bs) ∙ behind-append k (take n bs) (take m (drop n bs))
    ∙ behind-character (place_behind k (take n bs)) (drop n bs) m some more.within more.wide ∙ ap (behind (place_behind k (take n bs))) (at-front bs n)

pub body-on : (k : Comment) (bs : List ℕ) (n m : ℕ) → IsPartOfBody k (place_behind k (take n bs)) bs n →
    after_byte (place_behind k (take n bs)) (slice_index bs n) ≡ Some (behind (place_behind k (take n bs)) (slice_index bs n)) → IsCharacter (drop n bs) m → 0 < m →
    IsPartOfBody k (place_behind k (take (n + m) bs)) bs (n + m)
body-on k bs n m front is more some =
    body-more k (place_behind k (take n bs)) (place_behind k (take (n + m) bs)) bs n m front (is ∙ ap Some (sym (behind-more k bs n m more some))) more some

-- by the last byte, and by the last two
by-last : (k : Comment) (bs : List ℕ) (j : ℕ) → length bs ≡ suc j → place_behind k bs ≡ behind (place_behind k (take j bs)) (slice_index bs j)
by-last k bs j long = ap (place_behind k) (sym (take_all (suc j) bs (omega (arith, long)))) ∙ behind-one k bs j (omega (arith, long))

by-two : (k : Comment) (bs : List ℕ) (j : ℕ) → length bs ≡ suc (suc j) → place_behind k bs ≡ behind (behind (place_behind k (take j bs)) (slice_index bs j)) (slice_index bs (suc j))
by-two k bs j long = by-last k bs (suc j) long ∙ ap (λ (p : Comment). behind p (slice_index bs (suc j))) (behind-one k bs j (omega (arith, long)))

two-hyphens : (k : Comment) → hyphened (hyphened k) ≡ part.Hyphens
two-hyphens part.Bang = refl
two-hyphens part.Dash = refl
two-hyphens part.Body = refl
two-hyphens part.Hyphen = refl
two-hyphens part.Hyphens = refl

pub no-last : (k : Comment) (bs : List ℕ) → 0 < length bs → slice_index bs (length bs - 1) ≢ 45 → place_behind k bs ≡ part.Body
no-last k bs some other =
    by-last k bs (length bs - 1) (omega arith) ∙ no-hyphen (place_behind k (take (length bs - 1) bs)) (slice_index bs (length bs - 1)) other

pub two-last : (k : Comment) (bs : List ℕ) → 1 < length bs → slice_index bs (length bs - 1) ≡ 45 → slice_index bs (length bs - 2) ≡ 45 → place_behind k bs ≡ part.Hyphens
two-last k bs some last before =
    let same : suc (length bs - 2) ≡ length bs - 1 = omega arith in
    by-two k bs (length bs - 2) (omega arith) ∙ rw (same, last, before) (two-hyphens (place_behind k (take (length bs - 2) bs)))

pub one-last : (k : Comment) (bs : List ℕ) → 1 < length bs → slice_index bs (length bs - 1) ≡ 45 → slice_index bs (length bs - 2) ≢ 45 → place_behind k bs ≡ part.Hyphen
one-last k bs some last other =
    let same : suc (length bs - 2) ≡ length bs - 1 = omega arith in
    by-two k bs (length bs - 2) (omega arith)
    ∙ ap (λ (p : Comment). behind p (slice_index bs (suc (length bs - 2)))) (no-hyphen (place_behind k (take (length bs - 2) bs)) (slice_index bs (length bs - 2)) other)
    ∙ rw (same, last) refl
