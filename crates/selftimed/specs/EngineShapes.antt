-- The shape of an execution.
use Rattle.std.specs.Prelude.{[], length, map, replicate}
use Rattle.sd_base.specs.Net.{Channel, Net}
use Rattle.sd_base.specs.SelfTimed
use Rattle.selftimed.specs.declared.shape.Shape.{Shape}

-- the lists of a shape
abbrev pub form : Shape → SelfTimed.Shape
form s = record { tokens = s.tokens; phases = s.phases; remaining = s.remaining }

-- what stands before the first event: the initial tokens, each actor in its first phase, and no firing that runs
abbrev pub first_shape : Net → SelfTimed.Shape
first_shape net = record {
  tokens = map (λ (c : Channel). c.tokens) net.channels;
  phases = replicate (length net.times) 0;
  remaining = replicate (length net.times) [];
}
