-- UTF-8 byte by byte reads exactly the texts that are UTF-8.
use Rattle.std.proofs.Common.{◌≡◌, ℕ, ◌+◌, ◌-◌, ◌*◌, ◌/◌, ◌%◌, ◌<◌, ◌≤◌, ◌⊎◌, inl, inr, refl, ◌∙◌, ap, subst, true, List, [], ◌∷◌, ◌++◌, Option, Some, None, arith}
use Rattle.std.proofs.lemmas.Bool.{and_parts}
use Rattle.std.proofs.lemmas.Bool.Decides.{nat_tests}
use Rattle.std.proofs.Math.Utf8.{scalar, scalar_cases}
use Rattle.std.proofs.lemmas.Str.{encode_ascii, IsUtf8-append, IsUtf8-encode, IsUtf8-nil}
use Rattle.std.specs.Str.{IsUtf8, encode_utf8_all, all_scalars}
use Rattle.std.specs.Char.{encode_utf8}
use Rattle.std.specs.Str.Lossy.{second_byte_min, second_byte_max}
use Rattle.file_text.specs.declared.due.Due.{Due}
use Rattle.file_text.specs.declared.due.Due.TheVariants.{Nothing, Byte}
use Rattle.file_text.specs.inside.Utf8.{first_due, due_after_first, due_behind, due_after, due_along}

pub due_along-none : (bs : List ℕ) → due_along None bs ≡ None
due_along-none [] = refl
due_along-none (b ∷ bs) = refl

pub due_along-append : (d : Option Due) (a b : List ℕ) → due_along d (a ++ b) ≡ due_along (due_along d a) b
due_along-append None a b = refl
due_along-append (Some d) [] b = refl
due_along-append (Some d) (x ∷ a) b = due_along-append (due_after d x) a b

-- first bytes
ascii_due : (b : ℕ) → b < 128 → due_after_first b ≡ Some Nothing
ascii_due b h = grind (arith, nat_tests)

two_due : (b : ℕ) → 0xC2 ≤ b → b < 0xE0 → due_after_first b ≡ Some (first_due b 0)
two_due b low high = grind (arith, nat_tests)

three_due : (b : ℕ) → 0xE0 ≤ b → b < 0xF0 → due_after_first b ≡ Some (first_due b 1)
three_due b low high = grind (arith, nat_tests)

four_due : (b : ℕ) → 0xF0 ≤ b → b < 0xF5 → due_after_first b ≡ Some (first_due b 2)
four_due b low high = grind (arith, nat_tests)

-- what is due is met
pub byte_due : (low high more b : ℕ) → low ≤ b → b ≤ high → due_after (Byte low high more) b ≡ Some (due_behind more)
byte_due low high more b l h = grind (arith, nat_tests)

pub ascii_along : (b : ℕ) (rest : List ℕ) → b < 128 → due_along (Some Nothing) (b ∷ rest) ≡ due_along (Some Nothing) rest
ascii_along b rest h = ap (λ d. due_along d rest) (ascii_due b h)

-- characters of two, three and four bytes
pub two_along : (f s : ℕ) (rest : List ℕ) → 0xC2 ≤ f → f < 0xE0 → 0x80 ≤ s → s ≤ 0xBF
    → due_along (Some Nothing) (f ∷ s ∷ rest) ≡ due_along (Some Nothing) rest
two_along f s rest l h a b =
    let low : second_byte_min f ≡ 0x80 = grind (arith, nat_tests) in
    let high : second_byte_max f ≡ 0xBF = grind (arith, nat_tests) in
    let first : due_along (Some Nothing) (f ∷ s ∷ rest) ≡ due_along (Some (first_due f 0)) (s ∷ rest) = ap (λ d. due_along d (s ∷ rest)) (two_due f l h) in
    let second : due_along (Some (first_due f 0)) (s ∷ rest) ≡ due_along (Some Nothing) rest =
    ap (λ d. due_along d rest) (byte_due (second_byte_min f) (second_byte_max f) 0 s (omega arith) (omega arith)) in
    first ∙ second

pub three_along : (f s t : ℕ) (rest : List ℕ) → 0xE0 ≤ f → f < 0xF0 → second_byte_min f ≤ s → s ≤ second_byte_max f → 0x80 ≤ t → t ≤ 0xBF
    → due_along (Some Nothing) (f ∷ s ∷ t ∷ rest) ≡ due_along (Some Nothing) rest
three_along f s t rest l h a b u v =
    ap (λ d. due_along d (s ∷ t ∷ rest)) (three_due f l h)
    ∙ ap (λ d. due_along d (t ∷ rest)) (byte_due (second_byte_min f) (second_byte_max f) 1 s a b)
    ∙ ap (λ d. due_along d rest) (byte_due 0x80 0xBF 0 t u v)

pub four_along : (f s t u : ℕ) (rest : List ℕ) → 0xF0 ≤ f → f < 0xF5 → second_byte_min f ≤ s → s ≤ second_byte_max f → 0x80 ≤ t → t ≤ 0xBF → 0x80 ≤ u → u ≤ 0xBF
    → due_along (Some Nothing) (f ∷ s ∷ t ∷ u ∷ rest) ≡ due_along (Some Nothing) rest
four_along f s t u rest l h a b c d e g =
    ap (λ x. due_along x (s ∷ t ∷ u ∷ rest)) (four_due f l h)
    ∙ ap (λ x. due_along x (t ∷ u ∷ rest)) (byte_due (second_byte_min f) (second_byte_max f) 2 s a b)
    ∙ ap (λ x. due_along x (u ∷ rest)) (byte_due 0x80 0xBF 1 t c d)
    ∙ ap (λ x. due_along x rest) (byte_due 0x80 0xBF 0 u e g)

-- the bytes of a character, by its size
encode_two : (c : ℕ) → 128 ≤ c → c < 2048 → encode_utf8 c ≡ (192 + c / 64) ∷ (128 + c % 64) ∷ []
unfolding encode_utf8
encode_two c l h = grind (arith, nat_tests)

encode_three : (c : ℕ) → 2048 ≤ c → c < 65536 → encode_utf8 c ≡ (224 + c / 4096) ∷ (128 + (c / 64) % 64) ∷ (128 + c % 64) ∷ []
unfolding encode_utf8
encode_three c l h = grind (arith, nat_tests)

encode_four : (c : ℕ) → 65536 ≤ c → encode_utf8 c ≡ (240 + c / 262144) ∷ (128 + (c / 4096) % 64) ∷ (128 + (c / 64) % 64) ∷ (128 + c % 64) ∷ []
unfolding encode_utf8
encode_four c l = grind (arith, nat_tests)

-- where a character is cut by size
abbrev Size : ℕ → Type 0
Size c = (c < 128) ⊎ (((128 ≤ c) × (c < 2048)) ⊎ (((2048 ≤ c) × (c < 65536)) ⊎ (65536 ≤ c)))

size : (c : ℕ) → Size c
size c = grind (arith, nat_tests)

-- the second byte of a character of three bytes is within the bounds that its first one sets
second_of_three : (c : ℕ) → 2048 ≤ c → c < 65536 → (c < 55296) ⊎ ((57344 ≤ c) × (c < 1114112))
    → (second_byte_min (224 + c / 4096) ≤ 128 + (c / 64) % 64) × (128 + (c / 64) % 64 ≤ second_byte_max (224 + c / 4096))
second_of_three c l h range = (grind (arith, nat_tests), grind (arith, nat_tests))

second_of_four : (c : ℕ) → 65536 ≤ c → c < 1114112
    → (second_byte_min (240 + c / 262144) ≤ 128 + (c / 4096) % 64) × (128 + (c / 4096) % 64 ≤ second_byte_max (240 + c / 262144))
second_of_four c l h = (grind (arith, nat_tests), grind (arith, nat_tests))

abbrev Fits : ℕ → Type 0
Fits c = (c < 55296) ⊎ ((57344 ≤ c) × (c < 1114112))

char_along : (c : ℕ) (rest : List ℕ) → Fits c → due_along (Some Nothing) (encode_utf8 c ++ rest) ≡ due_along (Some Nothing) rest
char_along c rest fits = elim (size c) [
  | inl low ↦ rw (encode_ascii c low) (ascii_along c rest low)
  | inr (inl two) ↦ rw (encode_two c two.0 two.1) (two_along (192 + c / 64) (128 + c % 64) rest (omega arith) (omega arith) (omega arith) (omega arith))
  | inr (inr (inl three)) ↦ rw (encode_three c three.0 three.1)
      (let second = second_of_three c three.0 three.1 fits in
      three_along (224 + c / 4096) (128 + (c / 64) % 64) (128 + c % 64) rest (omega arith) (omega arith) second.0 second.1 (omega arith) (omega arith))
  | inr (inr (inr four)) ↦ rw (encode_four c four)
      (let least : c < 1114112 = grind arith in
      let second = second_of_four c four least in
      four_along (240 + c / 262144) (128 + (c / 4096) % 64) (128 + (c / 64) % 64) (128 + c % 64) rest (omega arith) (omega arith) second.0 second.1 (omega arith) (omega arith) (omega arith) (omega arith))
]

chars_along : (cs : List ℕ) → all_scalars cs ≡ true → due_along (Some Nothing) (encode_utf8_all cs) ≡ Some Nothing
chars_along [] h = refl
chars_along (c ∷ cs) h =
    let parts : (scalar c ≡ true) × (all_scalars cs ≡ true) = and_parts (scalar c) (all_scalars cs) h in
    char_along c (encode_utf8_all cs) (scalar_cases c parts.0) ∙ chars_along cs parts.1

-- a text that is UTF-8 leaves nothing due
pub due_along-IsUtf8 : (bs : List ℕ) → IsUtf8 bs → due_along (Some Nothing) bs ≡ Some Nothing
due_along-IsUtf8 bs (cs, (scalars, spelled)) = rw (← spelled) (chars_along cs scalars)

-- what the first byte says
abbrev Firsts : ℕ → Due → Type 0
Firsts b d = ((b < 0x80) × (d ≡ Nothing)) ⊎ (((0xC2 ≤ b) × (b < 0xE0) × (d ≡ Byte 0x80 0xBF 0))
    ⊎ (((0xE0 ≤ b) × (b < 0xF0) × (d ≡ first_due b 1)) ⊎ ((0xF0 ≤ b) × (b < 0xF5) × (d ≡ first_due b 2))))

firsts : (b : ℕ) (d : Due) → due_after_first b ≡ Some d → Firsts b d
firsts b d e = grind (arith, nat_tests)

-- what a further byte says
bytes_in : (low high more b : ℕ) (d : Due) → due_after (Byte low high more) b ≡ Some d → (low ≤ b) × (b ≤ high) × (d ≡ due_behind more)
bytes_in low high more b d e = grind (arith, nat_tests)

scalar_from : (c : ℕ) → Fits c → scalar c ≡ true
scalar_from c fits = grind (arith, nat_tests)

bytes_two : (a b c d : ℕ) → a ≡ b → c ≡ d → Path (List ℕ) (a ∷ c ∷ []) (b ∷ d ∷ [])
bytes_two a b c d p q = cc

bytes_three : (a b c d e f : ℕ) → a ≡ b → c ≡ d → e ≡ f → Path (List ℕ) (a ∷ c ∷ e ∷ []) (b ∷ d ∷ f ∷ [])
bytes_three a b c d e f p q r = cc

bytes_four : (a b c d e f g h : ℕ) → a ≡ b → c ≡ d → e ≡ f → g ≡ h → Path (List ℕ) (a ∷ c ∷ e ∷ g ∷ []) (b ∷ d ∷ f ∷ h ∷ [])
bytes_four a b c d e f g h p q r t = cc

fits_three : (f s t : ℕ) → 0xE0 ≤ f → f < 0xF0 → second_byte_min f ≤ s → s ≤ second_byte_max f → 0x80 ≤ t → t ≤ 0xBF
    → Fits ((f - 224) * 4096 + (s - 128) * 64 + (t - 128))
fits_three f s t l h a b x y = grind (arith, nat_tests)

above_three : (f s t : ℕ) → 0xE0 ≤ f → f < 0xF0 → second_byte_min f ≤ s → s ≤ second_byte_max f → 0x80 ≤ t → t ≤ 0xBF
    → 2048 ≤ (f - 224) * 4096 + (s - 128) * 64 + (t - 128)
above_three f s t l h a b x y = grind (arith, nat_tests)

bounds_four : (f s t u : ℕ) → 0xF0 ≤ f → f < 0xF5 → second_byte_min f ≤ s → s ≤ second_byte_max f → 0x80 ≤ t → t ≤ 0xBF → 0x80 ≤ u → u ≤ 0xBF
    → (65536 ≤ (f - 240) * 262144 + (s - 128) * 4096 + (t - 128) * 64 + (u - 128)) × ((f - 240) * 262144 + (s - 128) * 4096 + (t - 128) * 64 + (u - 128) < 1114112)
bounds_four f s t u l h a b x y v w = (grind (arith, nat_tests), grind (arith, nat_tests))

-- the bytes of one character are UTF-8
one_char : (c : ℕ) (t : List ℕ) → Fits c → encode_utf8 c ≡ t → IsUtf8 t
one_char c t fits e = subst IsUtf8 e (IsUtf8-encode c (scalar_from c fits))

utf8_two : (f s : ℕ) → 0xC2 ≤ f → f < 0xE0 → 0x80 ≤ s → s ≤ 0xBF → IsUtf8 (f ∷ s ∷ [])
utf8_two f s l h a b =
    let c : ℕ = (f - 192) * 64 + (s - 128) in
    one_char c (f ∷ s ∷ []) (inl (omega arith))
    (encode_two c (omega arith) (omega arith) ∙ bytes_two (192 + c / 64) f (128 + c % 64) s (omega arith) (omega arith))

utf8_three : (f s t : ℕ) → 0xE0 ≤ f → f < 0xF0 → second_byte_min f ≤ s → s ≤ second_byte_max f → 0x80 ≤ t → t ≤ 0xBF → IsUtf8 (f ∷ s ∷ t ∷ [])
utf8_three f s t l h a b x y =
    let c : ℕ = (f - 224) * 4096 + (s - 128) * 64 + (t - 128) in
    let low : 0x80 ≤ s = grind (arith, nat_tests) in
    let high : s ≤ 0xBF = grind (arith, nat_tests) in
    one_char c (f ∷ s ∷ t ∷ []) (fits_three f s t l h a b x y)
    (encode_three c (above_three f s t l h a b x y) (omega arith)
    ∙ bytes_three (224 + c / 4096) f (128 + (c / 64) % 64) s (128 + c % 64) t (omega arith) (omega arith) (omega arith))

utf8_four : (f s t u : ℕ) → 0xF0 ≤ f → f < 0xF5 → second_byte_min f ≤ s → s ≤ second_byte_max f → 0x80 ≤ t → t ≤ 0xBF → 0x80 ≤ u → u ≤ 0xBF → IsUtf8 (f ∷ s ∷ t ∷ u ∷ [])
utf8_four f s t u l h a b x y v w =
    let c : ℕ = (f - 240) * 262144 + (s - 128) * 4096 + (t - 128) * 64 + (u - 128) in
    let low : 0x80 ≤ s = grind (arith, nat_tests) in
    let high : s ≤ 0xBF = grind (arith, nat_tests) in
    let bounds = bounds_four f s t u l h a b x y v w in
    one_char c (f ∷ s ∷ t ∷ u ∷ []) (inr (omega arith, bounds.1))
    (encode_four c bounds.0
    ∙ bytes_four (240 + c / 262144) f (128 + (c / 4096) % 64) s (128 + (c / 64) % 64) t (128 + c % 64) u (omega arith) (omega arith) (omega arith) (omega arith))

-- the bytes that meet what is due, and no more
abbrev Front : Due → List ℕ → Type 0
Front Nothing [] = Unit {0}
Front Nothing (b ∷ bs) = ⊥
Front (Byte low high more) [] = ⊥
Front (Byte low high more) (b ∷ bs) = (low ≤ b) × (b ≤ high) × Front (due_behind more) bs

abbrev Meets : Due → List ℕ → Type 0
Meets d bs = (front rest : List ℕ) × Front d front × IsUtf8 rest × (bs ≡ front ++ rest)

front_one : (b : ℕ) (bs : List ℕ) → b < 0x80 → Meets Nothing bs → IsUtf8 (b ∷ bs)
front_one b bs h ([], rest, _, utf8, spelled) = rw spelled (IsUtf8-append (b ∷ []) rest (one_char b (b ∷ []) (inl (omega arith)) (encode_ascii b h)) utf8)
front_one b bs h (x ∷ xs, rest, none, utf8, spelled) = absurd none

front_two : (b : ℕ) (bs : List ℕ) → 0xC2 ≤ b → b < 0xE0 → Meets (Byte 0x80 0xBF 0) bs → IsUtf8 (b ∷ bs)
front_two b bs l h ([], rest, none, utf8, spelled) = absurd none
front_two b bs l h (s ∷ [], rest, front, utf8, spelled) = rw spelled (IsUtf8-append (b ∷ s ∷ []) rest (utf8_two b s l h front.0 front.1) utf8)
front_two b bs l h (s ∷ t ∷ ts, rest, front, utf8, spelled) = absurd front.2

front_three : (b : ℕ) (bs : List ℕ) → 0xE0 ≤ b → b < 0xF0 → Meets (first_due b 1) bs → IsUtf8 (b ∷ bs)
front_three b bs l h ([], rest, none, utf8, spelled) = absurd none
front_three b bs l h (s ∷ [], rest, front, utf8, spelled) = absurd front.2
front_three b bs l h (s ∷ t ∷ [], rest, front, utf8, spelled) =
    rw spelled (IsUtf8-append (b ∷ s ∷ t ∷ []) rest (utf8_three b s t l h front.0 front.1 front.2.0 front.2.1) utf8)
front_three b bs l h (s ∷ t ∷ u ∷ us, rest, front, utf8, spelled) = absurd front.2.2

front_four : (b : ℕ) (bs : List ℕ) → 0xF0 ≤ b → b < 0xF5 → Meets (first_due b 2) bs → IsUtf8 (b ∷ bs)
front_four b bs l h ([], rest, none, utf8, spelled) = absurd none
front_four b bs l h (s ∷ [], rest, front, utf8, spelled) = absurd front.2
front_four b bs l h (s ∷ t ∷ [], rest, front, utf8, spelled) = absurd front.2.2
front_four b bs l h (s ∷ t ∷ u ∷ [], rest, front, utf8, spelled) =
    rw spelled (IsUtf8-append (b ∷ s ∷ t ∷ u ∷ []) rest (utf8_four b s t u l h front.0 front.1 front.2.0 front.2.1 front.2.2.0 front.2.2.1) utf8)
front_four b bs l h (s ∷ t ∷ u ∷ v ∷ vs, rest, front, utf8, spelled) = absurd front.2.2.2

meets_first : (b : ℕ) (bs : List ℕ) (d : Due) → Firsts b d → Meets d bs → IsUtf8 (b ∷ bs)
meets_first b bs d (inl ascii) m = front_one b bs ascii.0 (subst (λ (x : Due). Meets x bs) ascii.1 m)
meets_first b bs d (inr (inl two)) m = front_two b bs two.0 two.1 (subst (λ (x : Due). Meets x bs) two.2 m)
meets_first b bs d (inr (inr (inl three))) m = front_three b bs three.0 three.1 (subst (λ (x : Due). Meets x bs) three.2 m)
meets_first b bs d (inr (inr (inr four))) m = front_four b bs four.0 four.1 (subst (λ (x : Due). Meets x bs) four.2 m)

from_first : (b : ℕ) (bs : List ℕ) (after : Option Due) → due_after_first b ≡ after
    → ((d : Due) → due_along (Some d) bs ≡ Some Nothing → Meets d bs) → due_along after bs ≡ Some Nothing → Meets Nothing (b ∷ bs)
from_first b bs None e meet h = let gone : due_along None bs ≡ None = due_along-none bs in cc
from_first b bs (Some d) e meet h = ([], b ∷ bs, tt, meets_first b bs d (firsts b d e) (meet d h), refl)

from_byte : (b : ℕ) (bs : List ℕ) (low high more : ℕ) (after : Option Due) → due_after (Byte low high more) b ≡ after
    → ((d : Due) → due_along (Some d) bs ≡ Some Nothing → Meets d bs) → due_along after bs ≡ Some Nothing → Meets (Byte low high more) (b ∷ bs)
from_byte b bs low high more None e meet h = let gone : due_along None bs ≡ None = due_along-none bs in cc
from_byte b bs low high more (Some d) e meet h =
    let (l, u, is) = bytes_in low high more b d e in
    let (front, rest, met, utf8, spelled) = subst (λ (x : Due). Meets x bs) is (meet d h) in
    (b ∷ front, rest, (l, u, met), utf8, ap (λ t. b ∷ t) spelled)

bare : (front rest bs : List ℕ) → Front Nothing front → IsUtf8 rest → bs ≡ front ++ rest → IsUtf8 bs
bare [] rest bs _ utf8 spelled = rw spelled utf8
bare (x ∷ xs) rest bs none utf8 spelled = absurd none

meets : (bs : List ℕ) (d : Due) → due_along (Some d) bs ≡ Some Nothing → Meets d bs
meets [] Nothing e = ([], [], tt, IsUtf8-nil, refl)
meets [] (Byte low high more) e = cc
meets (b ∷ bs) Nothing e = from_first b bs (due_after_first b) refl (λ d. meets bs d) e
meets (b ∷ bs) (Byte low high more) e = from_byte b bs low high more (due_after (Byte low high more) b) refl (λ d. meets bs d) e

-- a text that leaves nothing due is UTF-8
pub IsUtf8-due_along : (bs : List ℕ) → due_along (Some Nothing) bs ≡ Some Nothing → IsUtf8 bs
IsUtf8-due_along bs e = let (front, rest, no_front, utf8, spelled) = meets bs Nothing e in bare front rest bs no_front utf8 spelled
