-- What has been read where the machine stands.
use Rattle.std.proofs.Common.{◌≡◌, ◌≢◌, ℕ, ◌+◌, ◌≤◌, ◌⊎◌, Bool, List, [], ◌∷◌, ◌++◌, length, Option, Some, None, IsTrue, codes}
use Rattle.file_text.specs.declared.tree.Attribute.{Attribute}
use Rattle.file_text.specs.declared.mode.Mark.{Mark}
use Rattle.file_text.specs.declared.mode.Mark.TheVariants as mark_read
use Rattle.file_text.specs.declared.mode.Declaring.{Declaring}
use Rattle.file_text.specs.declared.mode.Declaring.TheVariants as declaring
use Rattle.file_text.specs.declared.mode.Comment.{Comment}
use Rattle.file_text.specs.declared.mode.Comment.TheVariants as part
use Rattle.file_text.specs.declared.reference.Reference.{Reference}
use Rattle.file_text.specs.declared.reference.Reference.TheVariants as reference
use Rattle.file_text.specs.Node.{Node, nodes, depth, depths}
use Rattle.file_text.specs.Grammar.{Each, is_character, BeginsWithEnd, IsWhite, IsGap, IsName, Item, items_text, items_value, IsQuoted, IsHead, AreAttributes, IsNew, AreDistinct, IsTag, IsElement, IsContent, IsMisc, mark, IsProlog}
use Rattle.file_text.specs.inside.Machine.{Around, prolog, within, epilog, Opened, Holder, declaration, tag, Shape, at_start, in_mark, at_first, in_declaring, at_between, at_markup, in_comment, in_name, at_gap, in_attribute, at_named, at_equals, in_value, in_value_reference, at_valued, at_slash, at_ending, in_text_reference, in_closing, Spot}
use Rattle.file_text.proofs.OverTags.{Allowed, AllowedIn}
use Rattle.file_text.proofs.OverElements.{HasRoom}

-- a start tag and what follows it so far
abbrev pub IsOpening : Opened → List ℕ → Type 0
IsOpening o t = (u v : List ℕ) × IsTag o.name o.attributes u × IsContent (nodes o.children) v × (t ≡ u ++ (62 ∷ v))

-- what stands before these open elements, and in them so far
abbrev pub IsOpen : Bool → List Opened → List ℕ → Type 0
IsOpen strict [] t = (declared : List Attribute) × IsProlog declared t × Each (Allowed strict) declared
IsOpen strict (o ∷ os) t = (u v : List ℕ) × IsOpen strict os u × IsOpening o v × (t ≡ u ++ v) × (depths (nodes o.children) + length (o ∷ os) ≤ 32)

-- the root has ended
pub record IsClosed (strict : Bool) (e : Node) (t : List ℕ) : Type 0 where
  pub declared : List Attribute
  pub front : List ℕ
  pub root : List ℕ
  pub misc : List ℕ
  pub is_front : IsProlog declared front
  pub allowed : Each (Allowed strict) declared
  pub is_root : IsElement e root
  pub is_misc : IsMisc misc
  pub shallow : depth e ≤ 32
  pub spelled : t ≡ front ++ (root ++ misc)

-- all that stands before a place between tags
abbrev pub Reached : Bool → Around → List ℕ → Type 0
Reached strict prolog t = IsOpen strict [] t
Reached strict (within o os) t = IsOpen strict (o ∷ os) t
Reached strict (epilog e) t = IsClosed strict e t

-- the start of a text
abbrev pub IsStartText : List ℕ → Type 0
IsStartText t = (t ≡ []) ⊎ (t ≡ mark)

abbrev pub mark_text : Mark → List ℕ
mark_text mark_read.First = 0xEF ∷ []
mark_text mark_read.Second = 0xEF ∷ 0xBB ∷ []
mark_text mark_read.Whole = mark

abbrev pub declaring_text : Declaring → List ℕ
declaring_text declaring.Question = codes "<?"
declaring_text declaring.X = codes "<?x"
declaring_text declaring.Xm = codes "<?xm"
declaring_text declaring.Xml = codes "<?xml"

abbrev pub reference_text : Reference → List ℕ
reference_text reference.Ampersand = codes "&"
reference_text reference.L = codes "&l"
reference_text reference.Lt = codes "&lt"
reference_text reference.G = codes "&g"
reference_text reference.Gt = codes "&gt"
reference_text reference.A = codes "&a"
reference_text reference.Am = codes "&am"
reference_text reference.Amp = codes "&amp"
reference_text reference.Ap = codes "&ap"
reference_text reference.Apo = codes "&apo"
reference_text reference.Apos = codes "&apos"
reference_text reference.Q = codes "&q"
reference_text reference.Qu = codes "&qu"
reference_text reference.Quo = codes "&quo"
reference_text reference.Quot = codes "&quot"

-- no end of a comment stands in the body so far
abbrev pub Clean : List ℕ → Type 0
Clean [] = Unit {0}
Clean (b ∷ bs) = IsTrue (is_character b) × (BeginsWithEnd (b ∷ bs) → ⊥) × Clean bs

-- the body so far ends in no hyphen
abbrev pub NoHyphen : List ℕ → Type 0
NoHyphen t = (c : List ℕ) → t ≡ c ++ 45 ∷ [] → ⊥

-- a part of a comment
abbrev pub IsPart : Comment → List ℕ → Type 0
IsPart part.Bang t = t ≡ codes "<!"
IsPart part.Dash t = t ≡ codes "<!-"
IsPart part.Body t = (body : List ℕ) × Clean body × NoHyphen body × (t ≡ codes "<!--" ++ body)
IsPart part.Hyphen t = (body : List ℕ) × Clean (body ++ 45 ∷ []) × NoHyphen body × (t ≡ codes "<!--" ++ (body ++ 45 ∷ []))
IsPart part.Hyphens t = (body : List ℕ) × Clean (body ++ 45 ∷ 45 ∷ []) × (t ≡ codes "<!--" ++ (body ++ 45 ∷ 45 ∷ []))

-- what stands before the attributes
abbrev pub IsHolder : Bool → Around → Holder → List ℕ → Type 0
IsHolder strict a (tag name) t = (u : List ℕ) × Reached strict a u × HasRoom a × IsName name × (t ≡ u ++ 60 ∷ name)
IsHolder strict a declaration t = (a ≡ prolog) × ((u : List ℕ) × IsStartText u × (t ≡ u ++ codes "<?xml"))

-- that, and the attributes
pub record Tagged (strict : Bool) (a : Around) (h : Holder) (xs : List Attribute) (t : List ℕ) : Type 0 where
  pub front : List ℕ
  pub middle : List ℕ
  pub is_front : IsHolder strict a h front
  pub are_attributes : AreAttributes xs middle
  pub are_distinct : AreDistinct xs
  pub allowed : AllowedIn strict h xs
  pub spelled : t ≡ front ++ middle

-- that, and a value up to here
pub record Valued (strict : Bool) (a : Around) (h : Holder) (xs : List Attribute) (name : List ℕ) (quote : ℕ) (value t : List ℕ) : Type 0 where
  pub front : List ℕ
  pub head : List ℕ
  pub items : List Item
  pub tagged : Tagged strict a h xs front
  pub is_head : IsHead name quote head
  pub is_new : IsNew name xs
  pub are_quoted : Each (IsQuoted quote) items
  pub value_is : value ≡ items_value items
  pub spelled : t ≡ front ++ (head ++ items_text items)

-- an end tag up to a place in its name, or behind it
abbrev pub IsClosing : Bool → Around → List ℕ → List ℕ → Type 0
IsClosing strict (within o os) left t = (u p w : List ℕ) × IsOpen strict (o ∷ os) u × (p ++ left ≡ o.name) × IsWhite w × ((w ≡ []) ⊎ (left ≡ [])) × (t ≡ u ++ (60 ∷ (47 ∷ (p ++ w))))
IsClosing strict a left t = ⊥

abbrev pub IsInside : Around → Type 0
IsInside (within o os) = Unit {0}
IsInside a = ⊥

-- all that has been read
abbrev pub Has : Bool → Around → Shape → List ℕ → Type 0
Has strict a at_start t = (a ≡ prolog) × (t ≡ [])
Has strict a (in_mark m) t = (a ≡ prolog) × (t ≡ mark_text m)
Has strict a at_first t = (a ≡ prolog) × ((u : List ℕ) × IsStartText u × (t ≡ u ++ codes "<"))
Has strict a (in_declaring d) t = (a ≡ prolog) × ((u : List ℕ) × IsStartText u × (t ≡ u ++ declaring_text d))
Has strict a at_between t = Reached strict a t
Has strict a at_markup t = (u : List ℕ) × Reached strict a u × (t ≡ u ++ codes "<")
Has strict a (in_comment k) t = (u v : List ℕ) × Reached strict a u × IsPart k v × (t ≡ u ++ v)
Has strict a (in_name name) t = IsHolder strict a (tag name) t
Has strict a (at_gap h xs) t = (u w : List ℕ) × Tagged strict a h xs u × IsGap w × (t ≡ u ++ w)
Has strict a (in_attribute h xs name) t = (u w : List ℕ) × Tagged strict a h xs u × IsGap w × IsName name × (t ≡ u ++ (w ++ name))
Has strict a (at_named h xs name) t = (u w v : List ℕ) × Tagged strict a h xs u × IsGap w × IsName name × IsNew name xs × IsWhite v × (t ≡ u ++ (w ++ (name ++ v)))
Has strict a (at_equals h xs name) t = (u w v y : List ℕ) × Tagged strict a h xs u × IsGap w × IsName name × IsNew name xs × IsWhite v × IsWhite y × (t ≡ u ++ (w ++ (name ++ (v ++ (61 ∷ y)))))
Has strict a (in_value h xs name quote value) t = Valued strict a h xs name quote value t
Has strict a (in_value_reference h xs name quote value r) t = (u : List ℕ) × Valued strict a h xs name quote value u × (t ≡ u ++ reference_text r)
Has strict a (at_valued h xs) t = Tagged strict a h xs t
Has strict a (at_slash name xs) t = (u w : List ℕ) × Tagged strict a (tag name) xs u × IsWhite w × (t ≡ u ++ (w ++ codes "/"))
Has strict a at_ending t = (xs : List Attribute) × ((u w : List ℕ) × Tagged strict a declaration xs u × (xs ≢ []) × IsWhite w × (t ≡ u ++ (w ++ codes "?")))
Has strict a (in_text_reference r) t = (u : List ℕ) × Reached strict a u × IsInside a × (t ≡ u ++ reference_text r)
Has strict a (in_closing left) t = IsClosing strict a left t

-- the same of where the machine comes to
abbrev pub Holds : Bool → Option Spot → List ℕ → Type 0
Holds strict None t = Unit {0}
Holds strict (Some s) t = Has strict s.0 s.1 t
