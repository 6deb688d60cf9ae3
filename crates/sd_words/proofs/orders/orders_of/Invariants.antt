use Rattle.std.proofs.Common.{◌≡◌, drop, map}
use Rattle.sd_words.specs.OrderLists.{orders_of, with_orders}
use Rattle.sd_words.proofs.orders.orders_of.Given as goal

abbrev pub invariant-loop-part : goal.invariant-loop-part
invariant-loop-part l = with_orders l.orders.items (drop l.part-index (map (λ p. p.now) l.part-items)) ≡ orders_of l.value
