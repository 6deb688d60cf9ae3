use Rattle.std.proofs.Common.{◌≡◌, ◌<◌, drop, length, take}
use Rattle.std.specs.Prelude.{All}
use Rattle.ordered.specs.NamedOrders.{order_fault, order_of}
use Rattle.ordered.specs.inside.Marks.{is_marked}
use Rattle.ordered.proofs.orders.numbered_order.Given as goal

abbrev pub invariant-loop-name : goal.invariant-loop-name
invariant-loop-name l =
    (l.order ≡ order_of l.actors (take l.name-index l.names))
    × (order_fault l.actors (is_marked l.marks) (drop l.name-index l.names) ≡ order_fault l.actors (is_marked l.marks) l.names)
    × All (λ a. a < length l.actors) l.order
