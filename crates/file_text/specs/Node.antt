-- Plain trees, as which elements are seen.
use Rattle.std.specs.Prelude.{ℕ, suc, max, List, [], ◌∷◌}
use Rattle.file_text.specs.declared.tree.Attribute.{Attribute}
use Rattle.file_text.specs.declared.tree.Element.{Element}
use Rattle.file_text.specs.declared.tree.Element.TheOpen.{Element-F}
use Rattle.file_text.specs.declared.tree.Element.TheFolds.{fold-Element}

-- an element: its name, its attributes, and the elements in it
mutual
  pub data Node : Type 0 where
    node : List ℕ → List Attribute → Nodes → Node

  pub data Nodes : Type 0 where
    no_node : Nodes
    node_then : Node → Nodes → Nodes

-- its parts
abbrev pub name_of : Node → List ℕ
name_of (node name attributes children) = name

abbrev pub attributes_of : Node → List Attribute
attributes_of (node name attributes children) = attributes

abbrev pub list_of : Nodes → List Node
list_of no_node = []
list_of (node_then e es) = e ∷ list_of es

abbrev pub children_of : Node → List Node
children_of (node name attributes children) = list_of children

-- these elements side by side
abbrev pub nodes : List Node → Nodes
nodes [] = no_node
nodes (e ∷ es) = node_then e (nodes es)

-- how deep elements nest; an element without others has depth 1
abbrev mutual
  pub depth : Node → ℕ
  depth (node name attributes children) = suc (depths children)

  pub depths : Nodes → ℕ
  depths no_node = 0
  depths (node_then e es) = max (depth e) (depths es)

-- one element, with the trees of those in it in their places
abbrev pub layer : Element-F Node → Node
layer e = node e.name e.attributes (nodes e.children.items)

-- the tree of an element
abbrev pub tree_of : Element → Node
tree_of = fold-Element Node layer
