-- What a state needs so that the paths through it go on.
use Rattle.std.specs.Prelude.{ℕ, ◌≤◌, ◌<◌, All, length}
use Rattle.sd_base.specs.declared.tables.StateRow.{StateRow}

-- a state runs one of so many scenarios, and some state may come next, each being one of so many
pub record Leads (scenarios states : ℕ) (s : StateRow) : Type 0 where
  pub runs : s.scenario < scenarios
  pub some : 1 ≤ length s.next
  pub known : All (λ r. r < states) s.next
