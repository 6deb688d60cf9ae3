-- Sets of channels by the cycles that show them.
use Rattle.std.specs.Prelude.{◌↔◌, ℕ, IsTrue, List}
use Rattle.std.specs.BTreeSet.{contains}
use Rattle.std.specs.declared.cmp.Ordering.{Ordering}
use Rattle.std.specs.Ordering.{nat_cmp, ordering_then}
use Rattle.cert_text.specs.declared.certificates.LinkCycle.{LinkCycle}
use Rattle.cert_text.specs.MemberLines.{cycle_at}
use Rattle.cert_checker.specs.declared.spaces.Spaces.{Spaces}
use Rattle.cert_checker.specs.inside.ShownAt.{HasSpaceLink}

-- pairs are in order of their first numbers, then of their second ones
abbrev pub pair_cmp : ℕ × ℕ → ℕ × ℕ → Ordering
pair_cmp x y = ordering_then (nat_cmp x.0 y.0) (nat_cmp x.1 y.1)

-- the set has channel c with cycle k
abbrev pub HasSpace : Spaces → ℕ → ℕ → Type 0
HasSpace spaces k c = IsTrue (contains pair_cmp spaces.links (k, c))

-- it has just the channels along whose free space a step of the cycle is
abbrev pub AreSpaces : List LinkCycle → Spaces → Type 0
AreSpaces cycles spaces = (k c : ℕ) → HasSpace spaces k c ↔ HasSpaceLink (cycle_at cycles k).steps c
