use Rattle.std.proofs.Common.{◌≡◌, ◌<◌, ℕ, [], drop, length, take}
use Rattle.ordered.specs.OrderedNets.{is_named}
use Rattle.ordered.specs.NamedOrders.{entries_fault, lists_of}
use Rattle.ordered.specs.inside.Marks.{is_marked}
use Rattle.ordered.proofs.orders.numbered.Given as goal

abbrev pub invariant-loop-list : goal.invariant-loop-list
invariant-loop-list l =
    (l.orders.lists ≡ lists_of l.actors (take l.list-index l.lists))
    × (entries_fault l.actors l.orders.lists (drop l.list-index l.lists) ≡ entries_fault l.actors [] l.lists)
    × (length l.marks.items ≡ length l.actors)
    × ((a : ℕ) → a < length l.actors → is_marked l.marks.items a ≡ is_named l.orders.lists a)
