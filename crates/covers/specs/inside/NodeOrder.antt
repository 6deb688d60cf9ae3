-- The order in which nodes are looked at: by their least, and then by their vectors.
use Rattle.std.specs.Prelude.{◌≡◌}
use Rattle.std.specs.declared.cmp.Ordering.{Ordering}
use Rattle.std.specs.declared.cmp.Ordering.TheVariants.{Less}
use Rattle.std.specs.Ordering.{nat_cmp, on, then_cmp}
use Rattle.std.specs.Cmp.{IsTotalOrder, nat_cmp_total, on_total, then_total}
use Rattle.std.specs.Cmp.Lexicographic.{slice_cmp, lists_total}
use Rattle.covers.specs.declared.node.Node.{Node}

-- by the lesser vector, and then by the greater
abbrev pub vectors_cmp : Node → Node → Ordering
vectors_cmp = then_cmp (on (λ (n : Node). n.lo.items) (slice_cmp nat_cmp)) (on (λ (n : Node). n.hi.items) (slice_cmp nat_cmp))

-- by the least, and then by the vectors
abbrev pub node_cmp : Node → Node → Ordering
node_cmp = then_cmp (on (λ (n : Node). n.least) nat_cmp) vectors_cmp

-- any two compare
pub node_total : IsTotalOrder node_cmp
node_total = then_total (on_total (λ (n : Node). n.least) nat_cmp_total) (then_total (on_total (λ (n : Node). n.lo.items) (lists_total nat_cmp_total)) (on_total (λ (n : Node). n.hi.items) (lists_total nat_cmp_total)))

-- the first node is before the second
abbrev pub IsBefore : Node → Node → Type 0
IsBefore n m = node_cmp n m ≡ Less
