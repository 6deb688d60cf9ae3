-- Sums along chains that are joined add up.
use Rattle.std.proofs.Common.{◌≡◌, ℕ, ◌+◌, ◌≤◌, List, [], ◌∷◌, ◌++◌, arith}
use Rattle.std.specs.Prelude.{◌==◌}
use Rattle.critical.specs.declared.cycle.FiringNo.{FiringNo}
use Rattle.critical.specs.declared.cycle.CycleStep.{CycleStep}
use Rattle.sd_base.specs.Net.{Net}
use Rattle.sd_base.proofs.ByteTestsDecide.{if-le}
use Rattle.critical.specs.Cycles.{last_of}
use Rattle.completion.specs.Ways.{firing_time, sum_along, time_in}
use Rattle.completion.specs.inside.Walks.{sum_before}

module _ (f : FiringNo → ℕ) where
  pub along-both : (from : FiringNo) (xs ys : List CycleStep) → sum_along f from (xs ++ ys) ≡ sum_before f from xs + sum_along f (last_of from xs) ys
  along-both from [] ys = omega arith
  along-both from (x ∷ xs) ys = omega (arith, along-both x.to xs ys)

  pub before-both : (from : FiringNo) (xs ys : List CycleStep) → sum_before f from (xs ++ ys) ≡ sum_before f from xs + sum_before f (last_of from xs) ys
  before-both from [] ys = omega arith
  before-both from (x ∷ xs) ys = omega (arith, before-both x.to xs ys)

  pub along-last : (from : FiringNo) (xs : List CycleStep) → sum_along f from xs ≡ sum_before f from xs + f (last_of from xs)
  along-last from [] = omega arith
  along-last from (x ∷ xs) = omega (arith, along-last x.to xs)

pub along-le : (f g : FiringNo → ℕ) → ((x : FiringNo) → f x ≤ g x) → (from : FiringNo) (xs : List CycleStep) → sum_along f from xs ≤ sum_along g from xs
along-le f g le from [] = le from
along-le f g le from (x ∷ xs) = omega (arith, le from, along-le f g le x.to xs)

pub one-part-le : (net : Net) (a : ℕ) (x : FiringNo) → time_in net a x ≤ firing_time net x
one-part-le net a x = if-le (x.actor == a) (firing_time net x)

-- an actor's time on a chain is no more than all of it
pub part-le : (net : Net) (a : ℕ) (from : FiringNo) (xs : List CycleStep) → sum_along (time_in net a) from xs ≤ sum_along (firing_time net) from xs
part-le net a = along-le (time_in net a) (firing_time net) (one-part-le net a)
