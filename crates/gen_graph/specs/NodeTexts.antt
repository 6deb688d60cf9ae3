-- The text of an element: each tag on a line of its own.
use Rattle.std.specs.Prelude.{ℕ, ◌==◌, if◌then◌else◌, List, [], ◌∷◌, ◌++◌, codes}
use Rattle.file_text.specs.declared.tree.Attribute.{Attribute}
use Rattle.file_text.specs.Node.{Node, node, Nodes, no_node, node_then}

-- a byte in a value: an entity, where it is one of `&`, `<`, `>`, `"` and `'`
unfoldable pub escaped_byte : ℕ → List ℕ
escaped_byte b =
    if b == 38 then codes "&amp;"
    else if b == 60 then codes "&lt;"
    else if b == 62 then codes "&gt;"
    else if b == 34 then codes "&quot;"
    else if b == 39 then codes "&apos;"
    else b ∷ []

abbrev pub escaped : List ℕ → List ℕ
escaped [] = []
escaped (b ∷ bs) = escaped_byte b ++ escaped bs

-- an attribute: a space, its name, `=`, and its value in `'`
unfoldable pub attribute_text : Attribute → List ℕ
attribute_text a = codes " " ++ (a.name ++ (codes "='" ++ (escaped a.value ++ codes "'")))

abbrev pub attributes_text : List Attribute → List ℕ
attributes_text [] = []
attributes_text (a ∷ rest) = attribute_text a ++ attributes_text rest

-- the end of a tag, and what stands in the element with its end tag, if something does
unfoldable pub inside_text : List ℕ → List ℕ → List ℕ
inside_text name [] = codes "/>\n"
inside_text name (b ∷ bs) = codes ">\n" ++ ((b ∷ bs) ++ (codes "</" ++ (name ++ codes ">\n")))

-- an element of this name and attributes, in which this stands
unfoldable pub tagged : List ℕ → List Attribute → List ℕ → List ℕ
tagged name attributes inside = codes "<" ++ (name ++ (attributes_text attributes ++ inside_text name inside))

-- an element with those in it
abbrev mutual
  pub element_text : Node → List ℕ
  element_text (node name attributes children) = tagged name attributes (elements_text children)

  pub elements_text : Nodes → List ℕ
  elements_text no_node = []
  elements_text (node_then e es) = element_text e ++ elements_text es
