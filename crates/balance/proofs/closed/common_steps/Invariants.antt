use Rattle.std.proofs.Common.{◌≡◌, ◌≤◌, ◌-◌, length, take}
use Rattle.balance.proofs.closed.common_steps.Given as goal

abbrev pub invariant-steps : goal.invariant-steps
invariant-steps l = (l.common ≤ length l.a) × (l.common ≤ length l.b) × (take l.common l.a ≡ take l.common l.b)

abbrev pub decreases-steps : goal.decreases-steps
decreases-steps l = length l.a - l.common
