-- The names of attributes.
use Rattle.std.specs.Prelude.{◌≡◌, ℕ, Bool, ◌||◌, List}
use Rattle.std.specs.List.{list_any}
use Rattle.std.specs.Str.{bytes_eq}
use Rattle.file_text.specs.declared.tree.Attribute.{Attribute}

-- whether an attribute of the list has the name
abbrev pub has_name : List ℕ → List Attribute → Bool
has_name name attributes = list_any (λ x. bytes_eq x.name name) attributes

-- what is known are the names of the attributes, and no other
abbrev pub AreNamesOf : (List ℕ → Bool) → List Attribute → Type 0
AreNamesOf known attributes = (q : List ℕ) → known q ≡ has_name q attributes

-- the same with one more name
abbrev pub AreNamesWith : (List ℕ → Bool) → List ℕ → List Attribute → Type 0
AreNamesWith known name attributes = (q : List ℕ) → known q ≡ (has_name q attributes || bytes_eq name q)
