-- The grammar of a graph file's text: which bytes spell which tree.
use Rattle.std.specs.Prelude.{◌≡◌, ◌≢◌, ℕ, ◌≤◌, ◌⊎◌, Bool, ◌&&◌, ◌||◌, not, ◌==◌, nat_le, IsTrue, List, [], ◌∷◌, ◌++◌, take, codes}
use Rattle.std.specs.Str.{IsUtf8, str_to_ascii_lowercase}
use Rattle.sd_base.specs.declared.limits.TheConstants.{DEPTH}
use Rattle.file_text.specs.declared.tree.Attribute.{Attribute}
use Rattle.file_text.specs.Node.{Node, node, Nodes, no_node, node_then, depth}

-- white: space, tab, LF and CR
abbrev pub is_white : ℕ → Bool
is_white b = (b == 32) || ((b == 9) || ((b == 10) || (b == 13)))

-- a byte of a character that may stand in a text: no other control character
abbrev pub is_character : ℕ → Bool
is_character b = nat_le 32 b || is_white b

-- a byte of a character that stands for itself between tags
abbrev pub is_plain : ℕ → Bool
is_plain b = is_character b && (not (b == 60) && not (b == 38))

-- a byte of a character with which a name begins: a letter, `_`, `:` or what isn't ASCII
abbrev pub is_name_start : ℕ → Bool
is_name_start b = (nat_le 65 b && nat_le b 90) || ((nat_le 97 b && nat_le b 122) || ((b == 95) || ((b == 58) || nat_le 128 b)))

-- a byte of a name: one of those, a digit, `.` or `-`
abbrev pub is_name_byte : ℕ → Bool
is_name_byte b = is_name_start b || ((nat_le 48 b && nat_le b 57) || ((b == 46) || (b == 45)))

-- the fact holds of each element
abbrev pub Each : {X : Type 0} → (X → Type 0) → List X → Type 0
Each P [] = Unit {0}
Each P (x ∷ xs) = P x × Each P xs

abbrev pub IsWhite : List ℕ → Type 0
IsWhite t = Each (λ b. IsTrue (is_white b)) t

-- white of at least one character
abbrev pub IsGap : List ℕ → Type 0
IsGap t = IsWhite t × (t ≢ [])

abbrev pub IsName : List ℕ → Type 0
IsName [] = ⊥
IsName (b ∷ bs) = IsTrue (is_name_start b) × Each (λ c. IsTrue (is_name_byte c)) bs

-- the end of a comment begins the text
abbrev pub BeginsWithEnd : List ℕ → Type 0
BeginsWithEnd t = take 3 t ≡ codes "-->"

-- the body of a comment: the first end of a comment from its first byte on is the comment's own
abbrev pub IsBody : List ℕ → Type 0
IsBody [] = Unit {0}
IsBody (b ∷ bs) = IsTrue (is_character b) × (BeginsWithEnd (b ∷ (bs ++ codes "-->")) → ⊥) × IsBody bs

-- the entities
pub data Entity : Type 0 where
  less : Entity
  greater : Entity
  ampersand : Entity
  quotation : Entity
  apostrophe : Entity

-- the character that an entity stands for
abbrev pub entity_value : Entity → ℕ
entity_value less = 60
entity_value greater = 62
entity_value ampersand = 38
entity_value quotation = 34
entity_value apostrophe = 39

abbrev pub entity_text : Entity → List ℕ
entity_text less = codes "&lt;"
entity_text greater = codes "&gt;"
entity_text ampersand = codes "&amp;"
entity_text quotation = codes "&quot;"
entity_text apostrophe = codes "&apos;"

-- what stands between tags, or in a value: a byte, an entity, or a comment with this body
pub data Item : Type 0 where
  byte : ℕ → Item
  entity : Entity → Item
  comment : List ℕ → Item

abbrev pub item_text : Item → List ℕ
item_text (byte b) = b ∷ []
item_text (entity e) = entity_text e
item_text (comment body) = codes "<!--" ++ (body ++ codes "-->")

abbrev pub items_text : List Item → List ℕ
items_text [] = []
items_text (x ∷ xs) = item_text x ++ items_text xs

-- what an item of a value says
abbrev pub item_value : Item → List ℕ
item_value (byte b) = b ∷ []
item_value (entity e) = entity_value e ∷ []
item_value (comment body) = []

abbrev pub items_value : List Item → List ℕ
items_value [] = []
items_value (x ∷ xs) = item_value x ++ items_value xs

-- what may stand outside the root: white and comments
abbrev pub IsOutside : Item → Type 0
IsOutside (byte b) = IsTrue (is_white b)
IsOutside (entity e) = ⊥
IsOutside (comment body) = IsBody body

-- what may stand between the tags of an element: comments, characters but `<` and a bare `&`, entities
abbrev pub IsBetween : Item → Type 0
IsBetween (byte b) = IsTrue (is_plain b)
IsBetween (entity e) = Unit {0}
IsBetween (comment body) = IsBody body

-- what may stand in a value in these quotes
abbrev pub IsQuoted : ℕ → Item → Type 0
IsQuoted quote (byte b) = IsTrue (is_plain b) × (b ≢ quote)
IsQuoted quote (entity e) = Unit {0}
IsQuoted quote (comment body) = ⊥

-- an attribute up to its value: white, its name, `=` with white around it, and a quote
pub record IsHead (name : List ℕ) (quote : ℕ) (t : List ℕ) : Type 0 where
  pub gap : List ℕ
  pub before : List ℕ
  pub after : List ℕ
  pub is_gap : IsGap gap
  pub is_name : IsName name
  pub white_before : IsWhite before
  pub white_after : IsWhite after
  pub is_quote : (quote ≡ 34) ⊎ (quote ≡ 39)
  pub spelled : t ≡ gap ++ (name ++ (before ++ (61 ∷ (after ++ (quote ∷ [])))))

-- an attribute: that, its value with entities read as their characters, and the same quote again
pub record IsAttribute (a : Attribute) (t : List ℕ) : Type 0 where
  pub quote : ℕ
  pub head : List ℕ
  pub items : List Item
  pub is_head : IsHead a.name quote head
  pub are_quoted : Each (IsQuoted quote) items
  pub value : a.value ≡ items_value items
  pub spelled : t ≡ head ++ (items_text items ++ (quote ∷ []))

-- attributes one after another
abbrev pub AreAttributes : List Attribute → List ℕ → Type 0
AreAttributes [] t = t ≡ []
AreAttributes (a ∷ rest) t = (u v : List ℕ) × IsAttribute a u × AreAttributes rest v × (t ≡ u ++ v)

-- no name stands twice
abbrev pub IsNew : List ℕ → List Attribute → Type 0
IsNew name attributes = Each (λ a. a.name ≢ name) attributes

abbrev pub AreDistinct : List Attribute → Type 0
AreDistinct [] = Unit {0}
AreDistinct (a ∷ rest) = IsNew a.name rest × AreDistinct rest

-- a tag up to its end: `<`, a name, attributes, and white
pub record IsTag (name : List ℕ) (attributes : List Attribute) (t : List ℕ) : Type 0 where
  pub middle : List ℕ
  pub gap : List ℕ
  pub is_name : IsName name
  pub are_attributes : AreAttributes attributes middle
  pub are_distinct : AreDistinct attributes
  pub white : IsWhite gap
  pub spelled : t ≡ 60 ∷ (name ++ (middle ++ gap))

-- the rest of an element with content: the tag's end, what the tag holds, and the end tag
pub record IsRest (name : List ℕ) (Content : List ℕ → Type 0) (t : List ℕ) : Type 0 where
  pub inner : List ℕ
  pub gap : List ℕ
  pub content : Content inner
  pub white : IsWhite gap
  pub spelled : t ≡ 62 ∷ (inner ++ (60 ∷ (47 ∷ (name ++ (gap ++ (62 ∷ []))))))

-- the text between tags
abbrev pub IsFiller : List ℕ → Type 0
IsFiller t = (items : List Item) × Each IsBetween items × (t ≡ items_text items)

-- an element, and the content of one: its elements, with fillers before, between and after them
abbrev mutual
  pub IsElement : Node → List ℕ → Type 0
  IsElement (node name attributes children) t = (tag rest : List ℕ) × IsTag name attributes tag
      × (((children ≡ no_node) × (rest ≡ codes "/>")) ⊎ IsRest name (IsContent children) rest) × (t ≡ tag ++ rest)

  pub IsContent : Nodes → List ℕ → Type 0
  IsContent no_node t = IsFiller t
  IsContent (node_then e es) t = (u v w : List ℕ) × IsFiller u × IsElement e v × IsContent es w × (t ≡ u ++ (v ++ w))

-- what stands around the root
abbrev pub IsMisc : List ℕ → Type 0
IsMisc t = (items : List Item) × Each IsOutside items × (t ≡ items_text items)

-- the byte order mark
abbrev pub mark : List ℕ
mark = 0xEF ∷ (0xBB ∷ (0xBF ∷ []))

-- a declaration of these attributes, at least one
pub record IsDeclaration (attributes : List Attribute) (t : List ℕ) : Type 0 where
  pub middle : List ℕ
  pub gap : List ℕ
  pub some : attributes ≢ []
  pub are_attributes : AreAttributes attributes middle
  pub are_distinct : AreDistinct attributes
  pub white : IsWhite gap
  pub spelled : t ≡ codes "<?xml" ++ (middle ++ (gap ++ codes "?>"))

-- what stands before the root: perhaps a mark, perhaps a declaration, with these attributes, and white and comments
pub record IsProlog (declared : List Attribute) (t : List ℕ) : Type 0 where
  pub start : List ℕ
  pub declaration : List ℕ
  pub misc : List ℕ
  pub is_start : (start ≡ []) ⊎ (start ≡ mark)
  pub is_declaration : ((declared ≡ []) × (declaration ≡ [])) ⊎ IsDeclaration declared declaration
  pub is_misc : IsMisc misc
  pub spelled : t ≡ start ++ (declaration ++ misc)

-- the text spells the tree, with these attributes declared
pub record Spells (declared : List Attribute) (e : Node) (t : List ℕ) : Type 0 where
  pub prolog : List ℕ
  pub root : List ℕ
  pub misc : List ℕ
  pub is_prolog : IsProlog declared prolog
  pub is_root : IsElement e root
  pub is_misc : IsMisc misc
  pub spelled : t ≡ prolog ++ (root ++ misc)
  pub shallow : depth e ≤ DEPTH
  pub utf8 : IsUtf8 t

-- the name of an encoding is UTF-8, in any ASCII case
abbrev pub IsUtf8Name : List ℕ → Type 0
IsUtf8Name value = str_to_ascii_lowercase value ≡ codes "utf-8"

-- a declared encoding is UTF-8
abbrev pub EncodingFits : List Attribute → Type 0
EncodingFits declared = Each (λ a. a.name ≡ codes "encoding" → IsUtf8Name a.value) declared

-- the text spells the tree, but for its encoding, which may have any name
abbrev pub IsLooseText : Node → List ℕ → Type 0
IsLooseText e t = (declared : List Attribute) × Spells declared e t

-- the text spells the tree
abbrev pub IsText : Node → List ℕ → Type 0
IsText e t = (declared : List Attribute) × Spells declared e t × EncodingFits declared
