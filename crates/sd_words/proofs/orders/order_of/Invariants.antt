use Rattle.std.proofs.Common.{◌≡◌, drop, map}
use Rattle.sd_words.specs.OrderLists.{order_of, with_names}
use Rattle.sd_words.proofs.orders.order_of.Given as goal

abbrev pub invariant-loop-name : goal.invariant-loop-name
invariant-loop-name l = with_names l.names.items (drop l.name-index (map (λ p. p.now) l.name-items)) ≡ order_of l.part
