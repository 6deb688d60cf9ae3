use Rattle.std.proofs.Common.{ℕ, List}
use Rattle.std.specs.Prelude.{All}
use Rattle.covers.specs.Bounds.{Covers, IsWithin}
use Rattle.covers.proofs.bound.Bound.covers_all_of.Given as goal

abbrev pub invariant-loop-cap : goal.invariant-loop-cap
invariant-loop-cap l = (ks : List ℕ) → Covers l.other ks → All (IsWithin ks) l.left → Covers l.self ks
