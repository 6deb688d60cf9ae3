-- Numbers in lines, and lines of numbers. Each line ends with a line feed, 10.
use Rattle.std.specs.Prelude.{ℕ, Bool, List, [], ◌∷◌, ◌++◌, codes, if◌then◌else◌}
use Rattle.std.specs.List.{flat_map}
use Rattle.std.specs.Fmt.{decimal}

-- a number after a space
unfoldable pub spaced : ℕ → List ℕ
spaced n = codes " " ++ decimal n

-- a line of numbers, of which there is at least one
unfoldable pub numbers_line : List ℕ → List ℕ
numbers_line [] = 10 ∷ []
numbers_line (n ∷ ns) = decimal n ++ (flat_map spaced ns ++ 10 ∷ [])

-- a fraction, and the rest of its line
abbrev pub fraction_then : ℕ × ℕ → List ℕ → List ℕ
fraction_then rate rest = decimal rate.0 ++ (codes "/" ++ (decimal rate.1 ++ rest))

-- the line of a rate
unfoldable pub rate_line : ℕ × ℕ → List ℕ
rate_line rate = codes "rate " ++ fraction_then rate (10 ∷ [])

-- the line of a limit on the storage
unfoldable pub limit_line : ℕ → List ℕ
limit_line limit = codes "limit " ++ (decimal limit ++ 10 ∷ [])

-- a word and how many entries follow
unfoldable pub cycles_line : ℕ → List ℕ
cycles_line n = codes "cycles " ++ (decimal n ++ 10 ∷ [])

unfoldable pub members_line : ℕ → List ℕ
members_line n = codes "members " ++ (decimal n ++ 10 ∷ [])

unfoldable pub points_line : ℕ → List ℕ
points_line n = codes "points " ++ (decimal n ++ 10 ∷ [])

unfoldable pub potentials_line : ℕ → List ℕ
potentials_line n = codes "potentials " ++ (decimal n ++ 10 ∷ [])

-- whether no two firings of one actor overlap
unfoldable pub overlap_line : Bool → List ℕ
overlap_line no_overlap = (if no_overlap then codes "no-overlap yes" else codes "no-overlap no") ++ 10 ∷ []

-- the first line, with the version
unfoldable pub version_line : ℕ → List ℕ
version_line version = codes "sdf3-certificate " ++ (decimal version ++ 10 ∷ [])
