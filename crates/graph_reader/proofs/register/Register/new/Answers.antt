use Rattle.std.proofs.Common.{refl}
use Rattle.std.specs.List.{IsDistinct}
use Rattle.graph_reader.proofs.register.Register.new.Goals as goal

pub invariant_of-result : goal.invariant_of-result
unfolding IsDistinct
invariant_of-result g c = record { same = rw (c.new.ensures.items, c.new-2.ensures.empty) refl; differ = rw c.new.ensures.items tt }
