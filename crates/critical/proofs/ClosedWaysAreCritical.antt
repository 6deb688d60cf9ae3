-- The need cycle of a way back to a firing that came again is critical.
use Rattle.std.proofs.Common.{ℕ, ◌+◌, ◌-◌, ◌*◌, ◌≤◌, ◌<◌, List, length, subst, arith}
use Rattle.std.specs.Prelude.{slice_index}
use Rattle.firing.specs.declared.table.LoopTable.{LoopTable}
use Rattle.critical.specs.declared.walk.Met.{Met}
use Rattle.sd_base.specs.Net.{Net}
use Rattle.critical.specs.CriticalCycles.{IsCriticalCycleOf}
use Rattle.critical.specs.inside.Trails.{IsShortLoop, met_at, ComesAgain, raised_number, lowered_firing, IsLeastRounds, steps_of}
use Rattle.critical.proofs.WaysTurnToCycles.{closed, closed-is, closed-holds, closed-rate, closed-apart, closed-least, time-rises, passes-rise}
use Rattle.critical.proofs.TightCycles.{cycle-tight}

module _ (net : Net) (table : LoopTable) (loop : IsShortLoop net table) (met : List Met) (from rounds : ℕ) (again : ComesAgain net table met from)
    (least : IsLeastRounds net table met from (met_at met (length met - 1)).passes rounds) where
  before : from < length met - 1
  before = omega (arith, again.later)

  pub enough : (i : ℕ) → from ≤ i → i ≤ length met - 1 → rounds * slice_index net.round (met_at met i).firing.actor ≤ raised_number net table (met_at met (length met - 1)).passes (met_at met i)
  enough i late within = least.all i late (omega (arith, again.later))

  pub closed-critical : IsCriticalCycleOf net table (record {
    time = (met_at met (length met - 1)).time - (met_at met from).time;
    rounds = ((met_at met (length met - 1)).passes - (met_at met from).passes) * table.rounds;
    first = lowered_firing net table (met_at met (length met - 1)).passes rounds (met_at met (length met - 1));
    steps = steps_of (λ i. lowered_firing net table (met_at met (length met - 1)).passes rounds (met_at met i)) (λ i. (met_at met (i + 1)).channel) from (length met - 1 - from);
  })
  closed-critical =
      let n : ℕ = length met - 1 in
      let holds = closed-holds net table loop (met_at met) n again.way rounds from before enough again.same in
      let rate = closed-rate net table loop (met_at met) n again.way rounds from before enough again.same in
      subst (IsCriticalCycleOf net table) (closed-is net table loop (met_at met) n again.way rounds from before enough again.same) (record {
        holds = holds;
        rate = rate;
        apart = closed-apart net table loop (met_at met) n again.way rounds from before enough again.same again.apart;
        least = closed-least net table loop (met_at met) n again.way rounds from before enough again.same least.some.0 least.some.1 (omega (arith, least.some.2)) least.some.3;
        tight = cycle-tight net loop.laws loop.inputs table loop.loop (closed net table loop (met_at met) n again.way rounds from before enough again.same) holds rate;
      })

  pub times-in_order : (met_at met from).time ≤ (met_at met (length met - 1)).time
  times-in_order = omega (arith, time-rises net table loop (met_at met) (length met - 1) again.way from (length met - 1) (omega (arith, before)) (omega arith))

  pub passes-in_order : (met_at met from).passes ≤ (met_at met (length met - 1)).passes
  passes-in_order = passes-rise net table loop (met_at met) (length met - 1) again.way from (length met - 1) (omega (arith, before)) (omega arith)
