use Rattle.std.proofs.Common.{◌≡◌, ℕ, ◌<◌, length, take}
use Rattle.std.specs.Prelude.{◌==◌, ◌||◌}
use Rattle.std.specs.List.{list_any}
use Rattle.ordered.specs.inside.Marks.{is_marked}
use Rattle.ordered.proofs.orders.mark.Given as goal

abbrev pub invariant-loop-actor : goal.invariant-loop-actor
invariant-loop-actor l =
    (a : ℕ) → a < length l.initial.marks → is_marked l.marks a ≡ (is_marked l.initial.marks a || list_any (λ b. b == a) (take l.actor-index l.order))
