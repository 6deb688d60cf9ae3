-- The machine over bytes by which the reader goes. Nothing public speaks of it.
use Rattle.std.specs.Prelude.{◌≡◌, ℕ, suc, ◌≤◌, Bool, true, false, ◌&&◌, ◌||◌, not, ◌==◌, nat_lt, nat_le, if◌then◌else◌, List, [], ◌∷◌, ◌++◌, length, codes}
use Rattle.std.specs.Prelude.{Option, Some, None}
use Rattle.std.specs.Str.{bytes_eq, str_to_ascii_lowercase}
use Rattle.sd_base.specs.declared.limits.TheConstants.{DEPTH}
use Rattle.file_text.specs.declared.tree.Attribute.{Attribute}
use Rattle.file_text.specs.declared.class.Class.{Class}
use Rattle.file_text.specs.declared.class.Class.TheVariants.{Wide, White, Control, Letter, Digit, Hyphen, Less, Greater, Slash, Bang, Question, Equals, Quote, Ampersand, Other}
use Rattle.file_text.specs.declared.mode.Mark.{Mark}
use Rattle.file_text.specs.declared.mode.Mark.TheVariants as mark
use Rattle.file_text.specs.declared.mode.Declaring.{Declaring}
use Rattle.file_text.specs.declared.mode.Declaring.TheVariants as declaring
use Rattle.file_text.specs.declared.mode.Comment.{Comment}
use Rattle.file_text.specs.declared.mode.Comment.TheVariants as comment
use Rattle.file_text.specs.declared.reference.Reference.{Reference}
use Rattle.file_text.specs.declared.reference.Reference.TheVariants as reference
use Rattle.file_text.specs.declared.reference.Referred.{Referred}
use Rattle.file_text.specs.declared.reference.Referred.TheVariants.{More, Done, Leaves}
use Rattle.file_text.specs.declared.taken.Taken.{Taken}
use Rattle.file_text.specs.declared.taken.Taken.TheVariants as taken
use Rattle.file_text.specs.declared.due.Due.{Due}
use Rattle.file_text.specs.declared.due.Due.TheVariants.{Nothing, Byte}
use Rattle.file_text.specs.Node.{Node, node, no_node, nodes}
use Rattle.file_text.specs.Grammar.{is_white, Each}
use Rattle.file_text.specs.inside.AttributeNames.{has_name}
use Rattle.file_text.specs.inside.Utf8.{due_after, due_along}

-- the part that a byte plays
abbrev pub class_of : ℕ → Class
class_of b = if nat_le 128 b then Wide
    else (if is_white b then White
    else (if nat_lt b 32 then Control
    else (if (nat_le 65 b && nat_le b 90) || ((nat_le 97 b && nat_le b 122) || ((b == 95) || (b == 58))) then Letter
    else (if (nat_le 48 b && nat_le b 57) || (b == 46) then Digit
    else (if b == 45 then Hyphen
    else (if b == 60 then Less
    else (if b == 62 then Greater
    else (if b == 47 then Slash
    else (if b == 33 then Bang
    else (if b == 63 then Question
    else (if b == 61 then Equals
    else (if (b == 34) || (b == 39) then Quote
    else (if b == 38 then Ampersand
    else Other)))))))))))))

-- an open element: its name, its attributes, and the elements that have ended in it
pub record Opened : Type 0 where
  pub name : List ℕ
  pub attributes : List Attribute
  pub children : List Node

-- the elements around a place: none yet, the innermost open one and those around it, or none any more
pub data Around : Type 0 where
  prolog : Around
  within : Opened → List Opened → Around
  epilog : Node → Around

-- what holds the attributes being read
pub data Holder : Type 0 where
  declaration : Holder
  tag : List ℕ → Holder

-- what has been read last
pub data Shape : Type 0 where
  at_start : Shape
  in_mark : Mark → Shape
  at_first : Shape
  in_declaring : Declaring → Shape
  at_between : Shape
  at_markup : Shape
  in_comment : Comment → Shape
  in_name : List ℕ → Shape
  at_gap : Holder → List Attribute → Shape
  in_attribute : Holder → List Attribute → List ℕ → Shape
  at_named : Holder → List Attribute → List ℕ → Shape
  at_equals : Holder → List Attribute → List ℕ → Shape
  in_value : Holder → List Attribute → List ℕ → ℕ → List ℕ → Shape
  in_value_reference : Holder → List Attribute → List ℕ → ℕ → List ℕ → Reference → Shape
  at_valued : Holder → List Attribute → Shape
  at_slash : List ℕ → List Attribute → Shape
  at_ending : Shape
  in_text_reference : Reference → Shape
  in_closing : List ℕ → Shape

-- what a further byte makes of a text: it goes on; it leaves the grammar; it would open too deep an element; or it goes
-- on, but an encoding other than UTF-8 has been declared
pub data Step : Type 0 where
  goes : Around → Shape → Step
  leaves : Step
  too_deep : Step
  other_encoding : Around → Shape → Step

-- the open elements
abbrev pub open_of : Around → List Opened
open_of prolog = []
open_of (within o os) = o ∷ os
open_of (epilog e) = []

-- the element in one that has just begun
abbrev pub entered : Around → List ℕ → List Attribute → Around
entered a name attributes = within (record { name = name; attributes = attributes; children = [] }) (open_of a)

-- an open element with one more in it
abbrev pub grown : Opened → Node → Opened
grown o e = record o { children = o.children ++ e ∷ [] }

-- an element has ended in these open ones
abbrev pub ended : List Opened → Node → Around
ended [] e = epilog e
ended (o ∷ os) e = within (grown o e) os

abbrev pub node_of : Opened → Node
node_of o = node o.name o.attributes (nodes o.children)

abbrev pub start_step : Around → Class → ℕ → Step
start_step a White b = goes a at_between
start_step a Less b = goes a at_first
start_step a Wide b = if b == 0xEF then goes a (in_mark mark.First) else leaves
start_step a c b = leaves

abbrev pub mark_step : Around → Mark → Class → ℕ → Step
mark_step a mark.First Wide b = if b == 0xBB then goes a (in_mark mark.Second) else leaves
mark_step a mark.Second Wide b = if b == 0xBF then goes a (in_mark mark.Whole) else leaves
mark_step a mark.Whole White b = goes a at_between
mark_step a mark.Whole Less b = goes a at_first
mark_step a m c b = leaves

abbrev pub first_step : Around → Class → ℕ → Step
first_step a Question b = goes a (in_declaring declaring.Question)
first_step a Bang b = goes a (in_comment comment.Bang)
first_step a Letter b = goes a (in_name (b ∷ []))
first_step a Wide b = goes a (in_name (b ∷ []))
first_step a c b = leaves

abbrev pub declaring_step : Around → Declaring → Class → ℕ → Step
declaring_step a declaring.Question Letter b = if b == 120 then goes a (in_declaring declaring.X) else leaves
declaring_step a declaring.X Letter b = if b == 109 then goes a (in_declaring declaring.Xm) else leaves
declaring_step a declaring.Xm Letter b = if b == 108 then goes a (in_declaring declaring.Xml) else leaves
declaring_step a declaring.Xml White b = goes a (at_gap declaration [])
declaring_step a d c b = leaves

-- a character in an element
abbrev pub character_step : Around → Class → Step
character_step a Control = leaves
character_step a Ampersand = goes a (in_text_reference reference.Ampersand)
character_step a c = goes a at_between

abbrev pub between_step : Around → Class → Step
between_step a White = goes a at_between
between_step a Less = goes a at_markup
between_step (within o os) c = character_step (within o os) c
between_step a c = leaves

-- a name begins an element
abbrev pub open_step : Around → ℕ → Step
open_step prolog b = goes prolog (in_name (b ∷ []))
open_step (within o os) b = if nat_lt (suc (length os)) DEPTH then goes (within o os) (in_name (b ∷ [])) else too_deep
open_step (epilog e) b = leaves

-- a slash begins an end tag
abbrev pub close_step : Around → Step
close_step (within o os) = goes (within o os) (in_closing o.name)
close_step a = leaves

abbrev pub markup_step : Around → Class → ℕ → Step
markup_step a Bang b = goes a (in_comment comment.Bang)
markup_step a Slash b = close_step a
markup_step a Letter b = open_step a b
markup_step a Wide b = open_step a b
markup_step a c b = leaves

abbrev pub comment_step : Around → Comment → Class → Step
comment_step a comment.Bang Hyphen = goes a (in_comment comment.Dash)
comment_step a comment.Bang c = leaves
comment_step a comment.Dash Hyphen = goes a (in_comment comment.Body)
comment_step a comment.Dash c = leaves
comment_step a comment.Body Hyphen = goes a (in_comment comment.Hyphen)
comment_step a comment.Hyphen Hyphen = goes a (in_comment comment.Hyphens)
comment_step a comment.Hyphens Hyphen = goes a (in_comment comment.Hyphens)
comment_step a comment.Hyphens Greater = goes a at_between
comment_step a k Control = leaves
comment_step a k c = goes a (in_comment comment.Body)

-- the end of a tag or a declaration behind its attributes
abbrev pub end_step : Around → Holder → List Attribute → Class → Step
end_step a (tag name) attributes Slash = goes a (at_slash name attributes)
end_step a (tag name) attributes Greater = goes (entered a name attributes) at_between
end_step a declaration (x ∷ xs) Question = goes a at_ending
end_step a h attributes c = leaves

abbrev pub name_step : Around → List ℕ → Class → ℕ → Step
name_step a name Letter b = goes a (in_name (name ++ b ∷ []))
name_step a name Digit b = goes a (in_name (name ++ b ∷ []))
name_step a name Hyphen b = goes a (in_name (name ++ b ∷ []))
name_step a name Wide b = goes a (in_name (name ++ b ∷ []))
name_step a name White b = goes a (at_gap (tag name) [])
name_step a name c b = end_step a (tag name) [] c

abbrev pub gap_step : Around → Holder → List Attribute → Class → ℕ → Step
gap_step a h attributes White b = goes a (at_gap h attributes)
gap_step a h attributes Letter b = goes a (in_attribute h attributes (b ∷ []))
gap_step a h attributes Wide b = goes a (in_attribute h attributes (b ∷ []))
gap_step a h attributes c b = end_step a h attributes c

abbrev pub valued_step : Around → Holder → List Attribute → Class → Step
valued_step a h attributes White = goes a (at_gap h attributes)
valued_step a h attributes c = end_step a h attributes c

-- the name of an attribute ends
abbrev pub if_new : List ℕ → List Attribute → Step → Step
if_new name attributes step = if has_name name attributes then leaves else step

abbrev pub attribute_step : Around → Holder → List Attribute → List ℕ → Class → ℕ → Step
attribute_step a h attributes name Letter b = goes a (in_attribute h attributes (name ++ b ∷ []))
attribute_step a h attributes name Digit b = goes a (in_attribute h attributes (name ++ b ∷ []))
attribute_step a h attributes name Hyphen b = goes a (in_attribute h attributes (name ++ b ∷ []))
attribute_step a h attributes name Wide b = goes a (in_attribute h attributes (name ++ b ∷ []))
attribute_step a h attributes name White b = if_new name attributes (goes a (at_named h attributes name))
attribute_step a h attributes name Equals b = if_new name attributes (goes a (at_equals h attributes name))
attribute_step a h attributes name c b = leaves

abbrev pub named_step : Around → Holder → List Attribute → List ℕ → Class → Step
named_step a h attributes name White = goes a (at_named h attributes name)
named_step a h attributes name Equals = goes a (at_equals h attributes name)
named_step a h attributes name c = leaves

abbrev pub equals_step : Around → Holder → List Attribute → List ℕ → Class → ℕ → Step
equals_step a h attributes name White b = goes a (at_equals h attributes name)
equals_step a h attributes name Quote b = goes a (in_value h attributes name b [])
equals_step a h attributes name c b = leaves

-- the attribute of a declaration declares an encoding other than UTF-8
abbrev pub declares_other : List ℕ → List ℕ → Bool
declares_other name value = bytes_eq name (codes "encoding") && not (bytes_eq (str_to_ascii_lowercase value) (codes "utf-8"))

-- a value ends
abbrev pub value_end : Around → Holder → List Attribute → List ℕ → List ℕ → Step
value_end a (tag t) attributes name value = goes a (at_valued (tag t) (attributes ++ record { name = name; value = value } ∷ []))
value_end a declaration attributes name value =
    if declares_other name value
    then other_encoding a (at_valued declaration (attributes ++ record { name = name; value = value } ∷ []))
    else goes a (at_valued declaration (attributes ++ record { name = name; value = value } ∷ []))

abbrev pub value_step : Around → Holder → List Attribute → List ℕ → ℕ → List ℕ → Class → ℕ → Step
value_step a h attributes name quote value Quote b =
    if b == quote then value_end a h attributes name value else goes a (in_value h attributes name quote (value ++ b ∷ []))
value_step a h attributes name quote value Less b = leaves
value_step a h attributes name quote value Control b = leaves
value_step a h attributes name quote value Ampersand b = goes a (in_value_reference h attributes name quote value reference.Ampersand)
value_step a h attributes name quote value c b = goes a (in_value h attributes name quote (value ++ b ∷ []))

-- what a further byte makes of an entity
abbrev pub referred : Reference → ℕ → Referred
referred reference.Ampersand b = if b == 108 then More reference.L
    else (if b == 103 then More reference.G else (if b == 97 then More reference.A else (if b == 113 then More reference.Q else Leaves)))
referred reference.L b = if b == 116 then More reference.Lt else Leaves
referred reference.G b = if b == 116 then More reference.Gt else Leaves
referred reference.A b = if b == 109 then More reference.Am else (if b == 112 then More reference.Ap else Leaves)
referred reference.Am b = if b == 112 then More reference.Amp else Leaves
referred reference.Ap b = if b == 111 then More reference.Apo else Leaves
referred reference.Apo b = if b == 115 then More reference.Apos else Leaves
referred reference.Q b = if b == 117 then More reference.Qu else Leaves
referred reference.Qu b = if b == 111 then More reference.Quo else Leaves
referred reference.Quo b = if b == 116 then More reference.Quot else Leaves
referred reference.Lt b = if b == 59 then Done 60 else Leaves
referred reference.Gt b = if b == 59 then Done 62 else Leaves
referred reference.Amp b = if b == 59 then Done 38 else Leaves
referred reference.Apos b = if b == 59 then Done 39 else Leaves
referred reference.Quot b = if b == 59 then Done 34 else Leaves

abbrev pub value_reference_step : Around → Holder → List Attribute → List ℕ → ℕ → List ℕ → Referred → Step
value_reference_step a h attributes name quote value (More r) = goes a (in_value_reference h attributes name quote value r)
value_reference_step a h attributes name quote value (Done c) = goes a (in_value h attributes name quote (value ++ c ∷ []))
value_reference_step a h attributes name quote value Leaves = leaves

abbrev pub text_reference_step : Around → Referred → Step
text_reference_step a (More r) = goes a (in_text_reference r)
text_reference_step a (Done c) = goes a at_between
text_reference_step a Leaves = leaves

abbrev pub slash_step : Around → List ℕ → List Attribute → Class → Step
slash_step a name attributes Greater = goes (ended (open_of a) (node name attributes no_node)) at_between
slash_step a name attributes c = leaves

abbrev pub ending_step : Around → Class → Step
ending_step a Greater = goes a at_between
ending_step a c = leaves

-- the innermost element ends
abbrev pub leave_step : Around → Step
leave_step (within o os) = goes (ended os (node_of o)) at_between
leave_step a = leaves

-- a byte of the name in an end tag
abbrev pub match_step : Around → ℕ → List ℕ → Class → ℕ → Step
match_step a x rest Letter b = if x == b then goes a (in_closing rest) else leaves
match_step a x rest Digit b = if x == b then goes a (in_closing rest) else leaves
match_step a x rest Hyphen b = if x == b then goes a (in_closing rest) else leaves
match_step a x rest Wide b = if x == b then goes a (in_closing rest) else leaves
match_step a x rest c b = leaves

abbrev pub closing_step : Around → List ℕ → Class → ℕ → Step
closing_step a [] White b = goes a (in_closing [])
closing_step a [] Greater b = leave_step a
closing_step a [] c b = leaves
closing_step a (x ∷ rest) c b = match_step a x rest c b

-- what a further byte makes of a text
unfoldable pub table : Around → Shape → Class → ℕ → Step
table a at_start c b = start_step a c b
table a (in_mark m) c b = mark_step a m c b
table a at_first c b = first_step a c b
table a (in_declaring d) c b = declaring_step a d c b
table a at_between c b = between_step a c
table a at_markup c b = markup_step a c b
table a (in_comment k) c b = comment_step a k c
table a (in_name name) c b = name_step a name c b
table a (at_gap h attributes) c b = gap_step a h attributes c b
table a (in_attribute h attributes name) c b = attribute_step a h attributes name c b
table a (at_named h attributes name) c b = named_step a h attributes name c
table a (at_equals h attributes name) c b = equals_step a h attributes name c b
table a (in_value h attributes name quote value) c b = value_step a h attributes name quote value c b
table a (in_value_reference h attributes name quote value r) c b = value_reference_step a h attributes name quote value (referred r b)
table a (at_valued h attributes) c b = valued_step a h attributes c
table a (at_slash name attributes) c b = slash_step a name attributes c
table a at_ending c b = ending_step a c
table a (in_text_reference r) c b = text_reference_step a (referred r b)
table a (in_closing rest) c b = closing_step a rest c b

-- where the machine stands between two bytes
abbrev pub Spot : Type 0
Spot = Around × Shape

-- where it stands then; a strict machine goes on under no other encoding
abbrev pub follow : Bool → Step → Option Spot
follow strict (goes a x) = Some (a, x)
follow strict leaves = None
follow strict too_deep = None
follow true (other_encoding a x) = None
follow false (other_encoding a x) = Some (a, x)

abbrev pub advance : Bool → Spot → ℕ → Option Spot
advance strict s b = follow strict (table s.0 s.1 (class_of b) b)

abbrev pub walk : Bool → Option Spot → List ℕ → Option Spot
walk strict None bs = None
walk strict (Some s) [] = Some s
walk strict (Some s) (b ∷ bs) = walk strict (advance strict s b) bs

-- the same with what is due of a character
pub record State : Type 0 where
  pub due : Due
  pub spot : Spot

abbrev pub both : Option Due → Option Spot → Option State
both None spot = None
both (Some due) None = None
both (Some due) (Some spot) = Some (record { due = due; spot = spot })

abbrev pub move : Bool → State → ℕ → Option State
move strict s b = both (due_after s.due b) (advance strict s.spot b)

abbrev pub run : Bool → Option State → List ℕ → Option State
run strict None bs = None
run strict (Some s) [] = Some s
run strict (Some s) (b ∷ bs) = run strict (move strict s b) bs

abbrev pub start : State
start = record { due = Nothing; spot = (prolog, at_start) }

abbrev pub spelled_at : Due → Around → Shape → Option Node
spelled_at Nothing (epilog e) at_between = Some e
spelled_at due a x = None

-- the tree of a text that may end here
abbrev pub tree_at : State → Option Node
tree_at s = spelled_at s.due s.spot.0 s.spot.1

-- what the reader answers to a byte, and where it then stands
abbrev pub Takes : Option Due → Step → Taken → State → Type 0
Takes None step answer s = answer ≡ taken.Leaves
Takes (Some due) (goes a x) answer s = (answer ≡ taken.Goes) × (s ≡ record { due = due; spot = (a, x) })
Takes (Some due) leaves answer s = answer ≡ taken.Leaves
Takes (Some due) too_deep answer s = answer ≡ taken.TooDeep
Takes (Some due) (other_encoding a x) answer s = answer ≡ taken.OtherEncoding

-- the bytes leave this due
abbrev pub IsDue : List ℕ → Due → Type 0
IsDue t due = due_along (Some Nothing) t ≡ Some due

-- the names of open elements are whole
abbrev pub AreWhole : List Opened → Type 0
AreWhole os = Each (λ o. IsDue o.name Nothing) os

abbrev pub IsWholeHolder : Holder → Type 0
IsWholeHolder declaration = Unit {0}
IsWholeHolder (tag name) = IsDue name Nothing

-- characters may be cut only between the tags of an element
abbrev pub IsTidyBetween : Due → Around → Type 0
IsTidyBetween due (within o os) = Unit {0}
IsTidyBetween due a = due ≡ Nothing

abbrev pub mark_due : Mark → Due
mark_due mark.First = Byte 0x80 0xBF 1
mark_due mark.Second = Byte 0x80 0xBF 0
mark_due mark.Whole = Nothing

-- in a comment only in its body
abbrev pub IsTidyComment : Due → Comment → Type 0
IsTidyComment due comment.Body = Unit {0}
IsTidyComment due k = due ≡ Nothing

-- what is due at a shape is due at the end of the text that grows in it
abbrev pub IsTidyShape : Due → Around → Shape → Type 0
IsTidyShape due a (in_mark m) = due ≡ mark_due m
IsTidyShape due a at_between = IsTidyBetween due a
IsTidyShape due a (in_comment k) = IsTidyComment due k
IsTidyShape due a (in_name name) = IsDue name due
IsTidyShape due a (at_gap h attributes) = (due ≡ Nothing) × IsWholeHolder h
IsTidyShape due a (in_attribute h attributes name) = IsWholeHolder h × IsDue name due
IsTidyShape due a (at_named h attributes name) = (due ≡ Nothing) × IsWholeHolder h × IsDue name Nothing
IsTidyShape due a (at_equals h attributes name) = (due ≡ Nothing) × IsWholeHolder h × IsDue name Nothing
IsTidyShape due a (in_value h attributes name quote value) = IsWholeHolder h × IsDue name Nothing × IsDue value due
IsTidyShape due a (in_value_reference h attributes name quote value r) = (due ≡ Nothing) × IsWholeHolder h × IsDue name Nothing × IsDue value Nothing
IsTidyShape due a (at_valued h attributes) = (due ≡ Nothing) × IsWholeHolder h
IsTidyShape due a (at_slash name attributes) = (due ≡ Nothing) × IsDue name Nothing
IsTidyShape due a (in_closing left) = due_along (Some due) left ≡ Some Nothing
IsTidyShape due a x = due ≡ Nothing

-- what is due is within the bytes that continue a character
abbrev pub IsProper : Due → Type 0
IsProper Nothing = Unit {0}
IsProper (Byte low high more) = (0x80 ≤ low) × (low ≤ high)

-- characters are cut only in a text that grows
pub record IsTidy (due : Due) (a : Around) (x : Shape) : Type 0 where
  pub proper : IsProper due
  pub whole : AreWhole (open_of a)
  pub shape : IsTidyShape due a x
