-- The attributes of an element where they stand.
use Rattle.std.specs.Prelude.{List, [], ◌∷◌}
use Rattle.file_text.specs.declared.tree.Attribute.{Attribute}
use Rattle.file_text.specs.declared.list.Form.{Form}
use Rattle.file_text.specs.declared.list.Form.TheVariants.{Nowhere, One, Many}

-- in their order
abbrev pub listed : Form → List Attribute
listed Nowhere = []
listed (One attribute) = attribute ∷ []
listed (Many rows) = rows
