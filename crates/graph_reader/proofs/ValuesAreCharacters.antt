-- The values of attributes that are found in a tree whose values are characters.
use Rattle.std.proofs.Common.{◌≡◌, ℕ, Bool, true, false, List, [], ◌∷◌, Some}
use Rattle.std.specs.Prelude.{if◌then◌else◌, cond}
use Rattle.std.specs.Str.{bytes_eq}
use Rattle.std.proofs.Common.{subst}
use Rattle.file_text.specs.declared.tree.Attribute.{Attribute}
use Rattle.file_text.specs.Node.{Node, node, Nodes, no_node, node_then, name_of, list_of}
use Rattle.file_text.specs.Grammar.{Each}
use Rattle.file_text.specs.Values.{AreCharacters, HasCharacters, HaveCharacters}
use Rattle.graph_reader.specs.TreeSteps.{named, first_value, children, attribute}

list-characters : (es : Nodes) → HaveCharacters es → Each HasCharacters (list_of es)
list-characters no_node all = tt
list-characters (node_then e es) all = (all.0, list-characters es all.1)

named-characters : (word : List ℕ) (es : List Node) → Each HasCharacters es → Each HasCharacters (named word es)
named-characters word [] all = tt
named-characters word (e ∷ es) all = at (bytes_eq (name_of e) word) (named-characters word es all.1)
  where
    at : (b : Bool) → Each HasCharacters (named word es) → Each HasCharacters (cond b (e ∷ named word es) (named word es))
    at true rest = (all.0, rest)
    at false rest = rest

pub children-characters : (word : List ℕ) (e : Node) → HasCharacters e → Each HasCharacters (children word e)
unfolding children
children-characters word (node name attributes nodes) good = named-characters word (list_of nodes) (list-characters nodes good.1)

value-characters : (word : List ℕ) (attributes : List Attribute) (value : List ℕ) → Each (λ (a : Attribute). AreCharacters a.value) attributes → first_value word attributes ≡ Some value → AreCharacters value
value-characters word [] value all found = absurd (cc)
value-characters word (a ∷ rest) value all found = at (bytes_eq a.name word) found (λ later. value-characters word rest value all.1 later)
  where
    at : (b : Bool) → (if b then Some a.value else first_value word rest) ≡ Some value → (first_value word rest ≡ Some value → AreCharacters value) → AreCharacters value
    at true found later = let same : a.value ≡ value = cc in subst AreCharacters same all.0
    at false found later = later found

pub attribute-characters : (word : List ℕ) (e : Node) (value : List ℕ) → HasCharacters e → attribute word e ≡ Some value → AreCharacters value
unfolding attribute
attribute-characters word (node name attributes nodes) value good found = value-characters word attributes value good.0 found
