-- The fault that a reader going from the left recognises first, said by prefixes of texts of the grammar.
use Rattle.std.specs.Prelude.{◌≡◌, ℕ, ◌+◌, ◌-◌, ◌<◌, ◌≤◌, ◌⊎◌, Bool, ◌&&◌, ◌||◌, ◌==◌, nat_le, IsTrue, List, [], ◌∷◌, ◌++◌, length, take, drop, slice_index, codes}
use Rattle.file_text.specs.declared.error.Construct.TheVariants.{Doctype, Cdata, Instruction, Reference, Encoding}
use Rattle.file_text.specs.declared.error.TextError.{TextError}
use Rattle.file_text.specs.declared.error.TextError.TheVariants.{Syntax, Unsupported, TooDeep, NoMemory}
use Rattle.file_text.specs.declared.tree.Attribute.{Attribute}
use Rattle.file_text.specs.Node.{Node}
use Rattle.file_text.specs.Grammar.{Each, Item, IsQuoted, IsHead, AreAttributes, IsNew, AreDistinct, IsUtf8Name, IsLooseText, items_text, items_value, mark}

-- some text of the grammar begins so
abbrev pub IsPrefix : List ℕ → Type 0
IsPrefix t = (rest : List ℕ) × (e : Node) × IsLooseText e (t ++ rest)

-- some text of the grammar begins with the first n bytes; none with one byte more, or there is none and they are no text
pub record LeavesAt (bytes : List ℕ) (n : ℕ) : Type 0 where
  pub within : n ≤ length bytes
  pub viable : IsPrefix (take n bytes)
  pub stops : n < length bytes → IsPrefix (take (n + 1) bytes) → ⊥
  pub ends : n ≡ length bytes → (e : Node) → IsLooseText e bytes → ⊥

-- the word stands at this place
abbrev pub Stands : List ℕ → List ℕ → ℕ → Type 0
Stands word bytes p = take (length word) (drop p bytes) ≡ word

-- the first byte of a character with which a name begins
abbrev pub begins_name : ℕ → Bool
begins_name b = (nat_le 65 b && nat_le b 90) || ((nat_le 97 b && nat_le b 122) || ((b == 95) || ((b == 58) || (nat_le 0xC2 b && nat_le b 0xF4))))

-- the very start: the first byte, or the first one after the byte order mark
abbrev pub IsStart : List ℕ → ℕ → Type 0
IsStart bytes p = (p ≡ 0) ⊎ ((p ≡ 3) × Stands mark bytes 0)

-- a beginning of `<?xml` of at least two bytes stands from p to n, and a byte behind it
pub record LeavesDeclaration (bytes : List ℕ) (p n : ℕ) : Type 0 where
  pub low : p + 2 ≤ n
  pub high : n ≤ p + 5
  pub within : n < length bytes
  pub stands : Stands (take (n - p) (codes "<?xml")) bytes p

-- A fault other than Syntax, known where the bytes leave the grammar at n. A literal stands where markup or an entity
-- may stand exactly if the grammar goes along with its first bytes and no further: in a comment it goes along with all
-- of it, in a tag with none. At the very start it goes along with `<?xml`, and leaves where no white follows.
abbrev pub KnownAt : List ℕ → ℕ → TextError → Type 0
KnownAt bytes n (Syntax place) = ⊥
KnownAt bytes n (Unsupported p Doctype) = (n ≡ p + 2) × Stands (codes "<!DOCTYPE") bytes p
KnownAt bytes n (Unsupported p Cdata) = (n ≡ p + 2) × Stands (codes "<![CDATA[") bytes p
KnownAt bytes n (Unsupported p Reference) = (n ≡ p + 1) × Stands (codes "&#") bytes p
KnownAt bytes n (Unsupported p Instruction) = ((n ≡ p + 1) × Stands (codes "<?") bytes p)
    ⊎ (IsStart bytes p × LeavesDeclaration bytes p n)
KnownAt bytes n (Unsupported p Encoding) = ⊥
-- a name begins where an element may end and none may begin: so deep is it
KnownAt bytes n (TooDeep p) = (n ≡ p + 1) × Stands (codes "<") bytes p × (n < length bytes)
    × IsTrue (begins_name (slice_index bytes n)) × IsPrefix (take n bytes ++ codes "/")
KnownAt bytes n NoMemory = ⊥

-- an encoding other than UTF-8 is declared, its value begins at p, and up to the closing quote the bytes are a prefix
pub record IsEncodingAt (bytes : List ℕ) (p : ℕ) : Type 0 where
  pub start : List ℕ
  pub attributes : List Attribute
  pub middle : List ℕ
  pub quote : ℕ
  pub head : List ℕ
  pub items : List Item
  pub rest : List ℕ
  pub is_start : (start ≡ []) ⊎ (start ≡ mark)
  pub are_attributes : AreAttributes attributes middle
  pub are_distinct : AreDistinct attributes
  pub is_new : IsNew (codes "encoding") attributes
  pub is_head : IsHead (codes "encoding") quote head
  pub are_quoted : Each (IsQuoted quote) items
  pub other : IsUtf8Name (items_value items) → ⊥
  pub spelled : bytes ≡ start ++ (codes "<?xml" ++ (middle ++ (head ++ (items_text items ++ (quote ∷ rest)))))
  pub place : p ≡ length (start ++ (codes "<?xml" ++ (middle ++ head)))
  pub viable : IsPrefix (take (p + length (items_text items) + 1) bytes)

-- The fault recognised first: an encoding, which stands before all else; or else, where the bytes leave the grammar, a
-- fault known there; or else Syntax.
abbrev pub FirstFault : List ℕ → TextError → Type 0
FirstFault bytes (Syntax n) = LeavesAt bytes n × ((p : ℕ) → IsEncodingAt bytes p → ⊥) × ((f : TextError) → KnownAt bytes n f → ⊥)
FirstFault bytes (Unsupported p Encoding) = IsEncodingAt bytes p
FirstFault bytes f = ((p : ℕ) → IsEncodingAt bytes p → ⊥) × ((n : ℕ) × LeavesAt bytes n × KnownAt bytes n f)
