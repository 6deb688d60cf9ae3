-- Which bytes the values of attributes have.
use Rattle.std.specs.Prelude.{ℕ, IsTrue, List, All}
use Rattle.std.specs.Str.{IsUtf8}
use Rattle.file_text.specs.declared.tree.Attribute.{Attribute}
use Rattle.file_text.specs.Node.{Node, node, Nodes, no_node, node_then}
use Rattle.file_text.specs.Grammar.{Each, is_character}

-- characters that a text may have, in UTF-8
pub record AreCharacters (t : List ℕ) : Type 0 where
  pub characters : All (λ b. IsTrue (is_character b)) t
  pub utf8 : IsUtf8 t

-- the values of an element's attributes are such characters, and so are those in the elements in it
abbrev mutual
  pub HasCharacters : Node → Type 0
  HasCharacters (node name attributes children) = Each (λ (a : Attribute). AreCharacters a.value) attributes × HaveCharacters children

  pub HaveCharacters : Nodes → Type 0
  HaveCharacters no_node = Unit {0}
  HaveCharacters (node_then e es) = HasCharacters e × HaveCharacters es
