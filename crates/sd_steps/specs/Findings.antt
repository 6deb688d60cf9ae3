-- The loop of an execution, or which bound it passed.
use Rattle.std.specs.Prelude.{◌≡◌, ℕ, None}
use Rattle.sd_base.specs.declared.limits.Quantity.TheVariants as quantities
use Rattle.sd_base.specs.Limits.{greatest_of}
use Rattle.sd_base.specs.Net.{Net}
use Rattle.firing.specs.declared.table.LoopTable.{LoopTable}
use Rattle.loops.specs.LoopAnswers.{IsFound, IsStatesSpent, IsTooManyStarts}
use Rattle.report.specs.declared.refusal.Refusal.{Refusal}
use Rattle.report.specs.declared.refusal.Refusal.TheVariants.{Above, StatesSpent}
use Rattle.report.specs.QuantityWords.{quantity_text}
use Rattle.sd_steps.specs.Courses.{Step, deciding}

-- an execution passes the number of shapes or of starts
pub data IsRunRefusal (net : Net) (states : ℕ) (refusal : Refusal) : Type 0 where
  states_spent : IsStatesSpent net states → refusal ≡ StatesSpent states None → IsRunRefusal net states refusal
  too_many_starts : IsTooManyStarts net states
      → refusal ≡ Above None (quantity_text quantities.Starts) (greatest_of quantities.Starts) → IsRunRefusal net states refusal

-- the loop of a net, found among so many shapes
abbrev pub finding : Net → ℕ → Step LoopTable
finding net states = deciding (λ table. IsFound net states table) (λ refusal. IsRunRefusal net states refusal)
