-- The need cycle of a way that comes round on no free space goes along none.
use Rattle.std.proofs.Common.{◌≡◌, ℕ, zero, suc, ◌+◌, ◌<◌, List, length, refl, ap, ◌∙◌, sym, arith}
use Rattle.std.specs.Prelude.{slice_index_or}
use Rattle.firing.specs.declared.table.LoopTable.{LoopTable}
use Rattle.sd_base.specs.Net.{Net, channel_at}
use Rattle.critical.specs.declared.cycle.FiringNo.{FiringNo}
use Rattle.critical.specs.declared.cycle.NeedCycle.{NeedCycle}
use Rattle.critical.specs.declared.walk.Met.{Met}
use Rattle.critical.specs.CriticalCycles.{IsCriticalCycleOf}
use Rattle.critical.specs.Spaces.{no_step}
use Rattle.critical.specs.Unspaced.{IsUnspaced}
use Rattle.critical.specs.inside.Trails.{GoesAlong, met_at, steps_of}
use Rattle.critical.specs.inside.Searches.{ComesRound}

pub steps-along : (met : List Met) (from : ℕ) (at : ℕ → FiringNo) (d : ℕ) → from + d < length met → (i : ℕ) → i < length (steps_of at (λ (k : ℕ). (met_at met (k + 1)).channel) from d) →
    (j : ℕ) × (from < j) × (j < length met) × ((slice_index_or (steps_of at (λ (k : ℕ). (met_at met (k + 1)).channel) from d) i no_step).channel ≡ (met_at met j).channel)
steps-along met from at zero within i below = absurd (omega arith)
steps-along met from at (suc d) within zero below = (from + d + 1, omega arith, omega arith, refl)
steps-along met from at (suc d) within (suc i) below = steps-along met from at d (omega arith) i (omega arith)

pub round-unspaced : (net : Net) (table : LoopTable) (met : List Met) (from : ℕ) (cycle : NeedCycle) → ComesRound net table met from → IsCriticalCycleOf net table cycle → GoesAlong met from cycle.steps → IsUnspaced net cycle
round-unspaced net table met from cycle round critical along = record {
  holds = critical.holds;
  none = λ i c below space.
      let at = along i below in
      round.unspaced at.0 at.1 at.2 c (ap (λ (k : ℕ). (channel_at net k).role) (sym at.3) ∙ space);
}
