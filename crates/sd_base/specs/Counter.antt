-- What contracts see of a counter of steps.
use Rattle.std.specs.Prelude.{ℕ, Bool}

-- how many steps were counted, and whether the counter is a share, which counts for another one
pub record Tally : Type 0 where
  pub count : ℕ
  pub share : Bool
