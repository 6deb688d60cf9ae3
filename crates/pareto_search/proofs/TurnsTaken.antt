-- A turn that goes on, and one that settles a point, leave less before them.
use Rattle.std.proofs.Common.{◌≡◌, ℕ, ◌+◌, ◌-◌, ◌*◌, ◌≤◌, ◌<◌, true, Option, None, Some, List, length, ap, arith}
use Rattle.sd_base.specs.declared.limits.Limits.{Limits}
use Rattle.sd_base.specs.Net.{Net}
use Rattle.covers.specs.declared.lattice.Lattice.{Lattice}
use Rattle.pareto_search.specs.declared.searching.Due.{Due}
use Rattle.pareto_search.specs.declared.searching.Searching.{Searching}
use Rattle.pareto_search.specs.inside.Turns.{IsStanding, IsTurned, one_due}

due-few : (due : Option Due) → one_due due ≤ 1
due-few None = omega arith
due-few (Some d) = omega arith

falls-more : (most old new a b : ℕ) → old < new → new ≤ most → b ≤ 1 → 2 * (most - new) + b < 2 * (most - old) + a
falls-more most old new a b more few one = omega arith

falls-due : (most old new a b : ℕ) → old ≤ new → a ≡ 1 → b ≡ 0 → 2 * (most - new) + b < 2 * (most - old) + a
falls-due most old new a b more one none = omega arith

module _ (net : Net) (limits : Limits) (corner : List (Option ℕ)) (lattice : Lattice) (old new : Searching) (floor : ℕ) (is : IsStanding net limits corner lattice floor new) where
  pub turned-on : length old.known.tellings.items < length new.known.tellings.items → IsTurned net limits corner lattice old new true
  turned-on more = (
    (floor, is),
    falls-more limits.distributions (length old.known.tellings.items) (length new.known.tellings.items) (one_due old.due) (one_due new.due) more is.known.few (due-few new.due),
  )

  pub turned-settled : (due : Due) → old.due ≡ Some due → new.due ≡ None → length old.known.tellings.items ≤ length new.known.tellings.items → IsTurned net limits corner lattice old new true
  turned-settled due was none more = (
    (floor, is),
    falls-due limits.distributions (length old.known.tellings.items) (length new.known.tellings.items) (one_due old.due) (one_due new.due) more (ap one_due was) (ap one_due none),
  )
