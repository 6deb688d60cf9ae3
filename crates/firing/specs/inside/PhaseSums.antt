-- Sums of the first numbers of a list.
use Rattle.std.specs.Prelude.{◌≡◌, ℕ, ◌+◌, ◌≤◌, List, length, slice_index}
use Rattle.sd_base.specs.Net.{total}

-- number k of the sums is that of the first k numbers
pub record AreSums (numbers sums : List ℕ) : Type 0 where
  pub many : length sums ≡ length numbers + 1
  pub each : (k : ℕ) → k ≤ length numbers → slice_index sums k ≡ total numbers k
