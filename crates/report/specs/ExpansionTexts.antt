-- The text of an expansion.
use Rattle.std.specs.Prelude.{ℕ, List, [], ◌∷◌, ◌++◌, codes}
use Rattle.std.specs.Fmt.{decimal}

-- how many actors and channels an expansion has
unfoldable pub expanded_line : ℕ → ℕ → List ℕ
expanded_line actors channels = codes "expanded actors " ++ (decimal actors ++ (codes " channels " ++ (decimal channels ++ 10 ∷ [])))
