-- What the classes of bytes say in the words of the grammar.
use Rattle.std.proofs.Common.{◌≡◌, ℕ, ◌<◌, ◌≤◌, ◌⊎◌, refl, Bool, true, false, ◌||◌, ◌==◌, arith}
use Rattle.std.proofs.lemmas.Bool.Decides.{nat_tests}
use Rattle.file_text.specs.declared.class.Class.{Class}
use Rattle.file_text.specs.declared.class.Class.TheVariants.{Wide, White, Control, Letter, Digit, Hyphen, Less, Greater, Slash, Bang, Question, Equals, Quote, Ampersand, Other}
use Rattle.file_text.specs.Grammar.{is_white, is_character, is_plain, is_name_start, is_name_byte}
use Rattle.file_text.specs.inside.Machine.{class_of}

abbrev pub white_class : Class → Bool
white_class White = true
white_class c = false

abbrev pub character_class : Class → Bool
character_class Control = false
character_class c = true

abbrev pub plain_class : Class → Bool
plain_class Control = false
plain_class Less = false
plain_class Ampersand = false
plain_class c = true

abbrev pub start_class : Class → Bool
start_class Letter = true
start_class Wide = true
start_class c = false

abbrev pub name_class : Class → Bool
name_class Letter = true
name_class Wide = true
name_class Digit = true
name_class Hyphen = true
name_class c = false

pub white_of : (b : ℕ) → is_white b ≡ white_class (class_of b)
white_of b = grind (arith, nat_tests)

pub character_of : (b : ℕ) → is_character b ≡ character_class (class_of b)
character_of b = grind (arith, nat_tests)

pub plain_of : (b : ℕ) → is_plain b ≡ plain_class (class_of b)
plain_of b = grind (arith, nat_tests)

pub start_of : (b : ℕ) → is_name_start b ≡ start_class (class_of b)
start_of b = grind (arith, nat_tests)

pub name_of : (b : ℕ) → is_name_byte b ≡ name_class (class_of b)
name_of b = grind (arith, nat_tests)

abbrev pub hyphen_class : Class → Bool
hyphen_class Hyphen = true
hyphen_class c = false

abbrev pub greater_class : Class → Bool
greater_class Greater = true
greater_class c = false

abbrev pub quote_class : Class → Bool
quote_class Quote = true
quote_class c = false

hyphen_of : (b : ℕ) → (b == 45) ≡ hyphen_class (class_of b)
hyphen_of b = grind (arith, nat_tests)

greater_of : (b : ℕ) → (b == 62) ≡ greater_class (class_of b)
greater_of b = grind (arith, nat_tests)

quote_of : (b : ℕ) → ((b == 34) || (b == 39)) ≡ quote_class (class_of b)
quote_of b = grind (arith, nat_tests)

-- the bytes of a class of one byte or two
abbrev pub Says : Class → ℕ → Type 0
Says Hyphen b = b ≡ 45
Says Less b = b ≡ 60
Says Greater b = b ≡ 62
Says Slash b = b ≡ 47
Says Bang b = b ≡ 33
Says Question b = b ≡ 63
Says Equals b = b ≡ 61
Says Quote b = (b ≡ 34) ⊎ (b ≡ 39)
Says Ampersand b = b ≡ 38
Says Wide b = 128 ≤ b
Says White b = b < 128
Says Control b = b < 128
Says Letter b = b < 128
Says Digit b = b < 128
Says Other b = b < 128

pub says : (b : ℕ) → (c : Class) → class_of b ≡ c → Says c b
says b Hyphen e = grind (arith, nat_tests)
says b Less e = grind (arith, nat_tests)
says b Greater e = grind (arith, nat_tests)
says b Slash e = grind (arith, nat_tests)
says b Bang e = grind (arith, nat_tests)
says b Question e = grind (arith, nat_tests)
says b Equals e = grind (arith, nat_tests)
says b Quote e = grind (arith, nat_tests)
says b Ampersand e = grind (arith, nat_tests)
says b Wide e = grind (arith, nat_tests)
says b White e = grind (arith, nat_tests)
says b Control e = grind (arith, nat_tests)
says b Letter e = grind (arith, nat_tests)
says b Digit e = grind (arith, nat_tests)
says b Other e = grind (arith, nat_tests)

-- what is known of a byte of a class
pub record Known (c : Class) (b : ℕ) : Type 0 where
  pub white : is_white b ≡ white_class c
  pub character : is_character b ≡ character_class c
  pub plain : is_plain b ≡ plain_class c
  pub begins : is_name_start b ≡ start_class c
  pub named : is_name_byte b ≡ name_class c
  pub hyphen : (b == 45) ≡ hyphen_class c
  pub greater : (b == 62) ≡ greater_class c
  pub quote : ((b == 34) || (b == 39)) ≡ quote_class c
  pub code : Says c b

pub known : (b : ℕ) → Known (class_of b) b
known b = record {
  white = white_of b;
  character = character_of b;
  plain = plain_of b;
  begins = start_of b;
  named = name_of b;
  hyphen = hyphen_of b;
  greater = greater_of b;
  quote = quote_of b;
  code = says b (class_of b) refl;
}

-- a fact of the class of a byte, from its cases
pub by_start : (P : Class → Type 0) → P Letter → P Wide → (c : Class) → start_class c ≡ true → P c
by_start P l w Letter e = l
by_start P l w Wide e = w
by_start P l w c e = cc

pub by_name : (P : Class → Type 0) → P Letter → P Digit → P Hyphen → P Wide → (c : Class) → name_class c ≡ true → P c
by_name P l d h w Letter e = l
by_name P l d h w Digit e = d
by_name P l d h w Hyphen e = h
by_name P l d h w Wide e = w
by_name P l d h w c e = cc

pub by_white : (P : Class → Type 0) → P White → (c : Class) → white_class c ≡ true → P c
by_white P w White e = w
by_white P w c e = cc
