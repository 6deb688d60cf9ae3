use Rattle.std.proofs.Common.{◌≡◌, ℕ, ◌+◌, ◌-◌, ◌≤◌, ◌++◌, length}
use Rattle.critical.specs.inside.Trails.{met_at, lowered_firing, steps_of}
use Rattle.critical.proofs.closing.steps_forward.Given as goal

abbrev pub invariant-loop-i : goal.invariant-loop-i
invariant-loop-i g l = record {
  late : l.from ≤ l.i;
  steps : l.steps ++ steps_of (λ (i : ℕ). lowered_firing (g.F.Firing.net l.net) l.table (met_at l.met (length l.met - 1)).passes l.rounds (met_at l.met i)) (λ (i : ℕ). (met_at l.met (i + 1)).channel) l.from (l.i - l.from)
      ≡ steps_of (λ (i : ℕ). lowered_firing (g.F.Firing.net l.net) l.table (met_at l.met (length l.met - 1)).passes l.rounds (met_at l.met i)) (λ (i : ℕ). (met_at l.met (i + 1)).channel) l.from (length l.met - 1 - l.from);
}
