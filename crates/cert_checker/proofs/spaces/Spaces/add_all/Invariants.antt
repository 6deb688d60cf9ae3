use Rattle.std.proofs.Common.{◌≡◌, ◌↔◌, ◌⊎◌, ℕ}
use Rattle.cert_checker.specs.inside.Spaces.{HasSpace}
use Rattle.cert_checker.proofs.SpaceSets.{HasSpaceBefore}
use Rattle.cert_checker.proofs.spaces.Spaces.add_all.Given as goal

abbrev pub invariant-loop-step : goal.invariant-loop-step
invariant-loop-step l = (k c : ℕ) → HasSpace l.self k c ↔ (HasSpace l.initial.self k c ⊎ ((l.number ≡ k) × HasSpaceBefore l.steps l.step-index c))
