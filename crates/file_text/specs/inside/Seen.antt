-- The reader's own values, seen as the machine's.
use Rattle.std.specs.Prelude.{ℕ, Bool, true, false, List, [], ◌∷◌, map, drop}
use Rattle.std.specs.Prelude.{Option, Some, None}
use Rattle.file_text.specs.declared.tree.Element.{Element}
use Rattle.file_text.specs.declared.mode.Mode.{Mode}
use Rattle.file_text.specs.declared.mode.Mode.TheVariants as mode
use Rattle.file_text.specs.declared.scanner.Frame.{Frame}
use Rattle.file_text.specs.declared.scanner.Tag.{Tag}
use Rattle.file_text.specs.declared.scanner.Held.{Held}
use Rattle.file_text.specs.declared.scanner.Held.TheVariants as held
use Rattle.file_text.specs.declared.scanner.Scanner.{Scanner}
use Rattle.file_text.specs.Node.{tree_of}
use Rattle.file_text.specs.inside.Machine.{Around, prolog, within, epilog, Opened, Holder, declaration, tag, Shape, at_start, in_mark, at_first, in_declaring, at_between, at_markup, in_comment, in_name, at_gap, in_attribute, at_named, at_equals, in_value, in_value_reference, at_valued, at_slash, at_ending, in_text_reference, in_closing, State}

-- an open element
abbrev pub opened_of : Frame → Opened
opened_of f = record { name = f.name; attributes = f.attributes; children = map tree_of f.children.items }

-- the open elements, the innermost first, around these
abbrev pub stack_on : List Opened → List Frame → List Opened
stack_on os [] = os
stack_on os (f ∷ fs) = stack_on (opened_of f ∷ os) fs

abbrev pub around_in : List Opened → Option Element → Around
around_in (o ∷ os) root = within o os
around_in [] None = prolog
around_in [] (Some e) = epilog (tree_of e)

abbrev pub around_of : Scanner → Around
around_of s = around_in (stack_on [] s.frames.items) s.root

-- whether the root has ended
abbrev pub is_closed : Around → Bool
is_closed (epilog e) = true
is_closed a = false

abbrev pub held_by : Held → List ℕ → Holder
held_by held.Declaration name = declaration
held_by held.Tag name = tag name

abbrev pub holder_of : Tag → Holder
holder_of t = held_by t.held t.name.items

-- the name of the innermost element
abbrev pub name_in : Around → List ℕ
name_in (within o os) = o.name
name_in a = []

abbrev pub shape_at : Mode → Tag → Around → Shape
shape_at mode.Start t a = at_start
shape_at (mode.Mark m) t a = in_mark m
shape_at mode.First t a = at_first
shape_at (mode.Declaring d) t a = in_declaring d
shape_at mode.Between t a = at_between
shape_at mode.Markup t a = at_markup
shape_at (mode.Comment k) t a = in_comment k
shape_at mode.Naming t a = in_name t.name.items
shape_at mode.Gap t a = at_gap (holder_of t) t.attributes
shape_at mode.Attribute t a = in_attribute (holder_of t) t.attributes t.attribute.items
shape_at mode.Named t a = at_named (holder_of t) t.attributes t.attribute.items
shape_at mode.Equals t a = at_equals (holder_of t) t.attributes t.attribute.items
shape_at mode.Value t a = in_value (holder_of t) t.attributes t.attribute.items t.quote t.value.items
shape_at (mode.ValueReference r) t a = in_value_reference (holder_of t) t.attributes t.attribute.items t.quote t.value.items r
shape_at mode.Valued t a = at_valued (holder_of t) t.attributes
shape_at mode.Slash t a = at_slash t.name.items t.attributes
shape_at mode.Ending t a = at_ending
shape_at (mode.TextReference r) t a = in_text_reference r
shape_at (mode.Closing n) t a = in_closing (drop n (name_in a))

abbrev pub shape_of : Scanner → Shape
shape_of s = shape_at s.mode s.tag (around_of s)

abbrev pub state_of : Scanner → State
state_of s = record { due = s.due; spot = (around_of s, shape_of s) }
