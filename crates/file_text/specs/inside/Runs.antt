-- Runs of characters that are passed in one step. Nothing public speaks of them.
use Rattle.std.specs.Prelude.{◌≡◌, ◌≢◌, ℕ, ◌<◌, ◌≤◌, Bool, true, false, ◌&&◌, ◌||◌, not, ◌==◌, nat_le, if◌then◌else◌, IsTrue, List, [], ◌∷◌, length, take, slice_index}
use Rattle.std.specs.Prelude.{Option, Some, None}
use Rattle.std.specs.Str.Lossy.{second_byte_min, second_byte_max}
use Rattle.file_text.specs.declared.due.Due.TheVariants.{Nothing}
use Rattle.file_text.specs.declared.mode.Comment.{Comment}
use Rattle.file_text.specs.declared.mode.Comment.TheVariants as comment
use Rattle.file_text.specs.declared.reference.Reference.{Reference}
use Rattle.file_text.specs.declared.reference.Referred.{Referred}
use Rattle.file_text.specs.declared.reference.Referred.TheVariants.{Leaves}
use Rattle.file_text.specs.declared.tree.Attribute.{Attribute}
use Rattle.file_text.specs.declared.characters.Run.{Run}
use Rattle.file_text.specs.declared.characters.Run.TheVariants.{Text, Value, Name, White}
use Rattle.file_text.specs.Grammar.{Each, is_white, is_character, is_plain, is_name_byte}
use Rattle.file_text.specs.inside.Machine.{Around, Holder, in_comment, in_text_reference, in_value_reference, text_reference_step, value_reference_step, follow, walk, IsDue}

-- the bytes of a run: those of characters from U+0080 up are all of it, or none; a quote is below `<`
abbrev pub takes : Run → ℕ → Bool
takes Text b = is_plain b
takes (Value quote) b = nat_le 61 b || (not (b == quote) && is_plain b)
takes Name b = is_name_byte b
takes White b = is_white b

-- the first byte is followed by a second one of its character
abbrev pub HasSecond : List ℕ → Type 0
HasSecond bytes = (2 ≤ length bytes) × (second_byte_min (slice_index bytes 0) ≤ slice_index bytes 1) × (slice_index bytes 1 ≤ second_byte_max (slice_index bytes 0))

-- at a place stands a byte of a character behind its second one
abbrev pub HasFurther : List ℕ → ℕ → Type 0
HasFurther bytes place = (place < length bytes) × (0x80 ≤ slice_index bytes place) × (slice_index bytes place ≤ 0xBF)

-- so many bytes in front are one character, if any
pub record IsCharacter (bytes : List ℕ) (n : ℕ) : Type 0 where
  pub within : n ≤ length bytes
  pub whole : IsDue (take n bytes) Nothing
  pub wide : 1 < n → Each (λ b. 128 ≤ b) (take n bytes)

-- so many bytes in front are whole characters of a run
pub record IsRun (run : Run) (bytes : List ℕ) (n : ℕ) : Type 0 where
  pub within : n ≤ length bytes
  pub whole : IsDue (take n bytes) Nothing
  pub taken : Each (λ b. IsTrue (takes run b)) (take n bytes)

-- a place in the body of a comment
abbrev pub is_in_body : Comment → Bool
is_in_body comment.Bang = false
is_in_body comment.Dash = false
is_in_body k = true

-- what has been read of a comment after a character other than the hyphen
abbrev pub after_character : ℕ → Option Comment
after_character b = if is_character b then Some comment.Body else None

-- what has been read of a comment in its body after a further byte, unless that ends it or may not stand there
abbrev pub after_byte : Comment → ℕ → Option Comment
after_byte comment.Body b = if b == 45 then Some comment.Hyphen else after_character b
after_byte comment.Hyphens b = if b == 45 then Some comment.Hyphens else (if b == 62 then None else after_character b)
after_byte k b = if b == 45 then Some comment.Hyphens else after_character b

-- what has been read of a comment in its body after a hyphen more
abbrev pub hyphened : Comment → Comment
hyphened comment.Body = comment.Hyphen
hyphened k = comment.Hyphens

-- the same after a further byte of the body
abbrev pub behind : Comment → ℕ → Comment
behind k b = if b == 45 then hyphened k else comment.Body

-- the same after further bytes of it
abbrev pub place_behind : Comment → List ℕ → Comment
place_behind k [] = k
place_behind k (b ∷ t) = place_behind (behind k b) t

-- so many bytes in front are whole characters that lead from one place in the body of a comment to another
pub record IsPartOfBody (from to : Comment) (bytes : List ℕ) (n : ℕ) : Type 0 where
  pub within : n ≤ length bytes
  pub whole : IsDue (take n bytes) Nothing
  pub inside : is_in_body to ≡ true
  pub leads : (a : Around) → walk true (Some (a, in_comment from)) (take n bytes) ≡ Some (a, in_comment to)

-- so many bytes in front go on with an entity, in a text and in a value, and this is what they make of it
pub record IsPartOfEntity (from : Reference) (bytes : List ℕ) (n : ℕ) (made : Referred) : Type 0 where
  pub within : n ≤ length bytes
  pub whole : IsDue (take n bytes) Nothing
  pub read : made ≢ Leaves
  pub text : (a : Around) → walk true (Some (a, in_text_reference from)) (take n bytes) ≡ follow true (text_reference_step a made)
  pub value : (a : Around) (h : Holder) (xs : List Attribute) (name : List ℕ) (quote : ℕ) (read : List ℕ) →
      walk true (Some (a, in_value_reference h xs name quote read from)) (take n bytes) ≡ follow true (value_reference_step a h xs name quote read made)
