use Rattle.std.proofs.Common.{length, subst}
use Rattle.sd_base.specs.Net.{Net}
use Rattle.lasso.specs.LoopAnswers.{IsFound}
use Rattle.critical.specs.CriticalCycles.{IsCriticalCycleOf}
use Rattle.critical.specs.Spaces.{AreSpaces}
use Rattle.critical.proofs.ListedSpacesRise.{chain-places}
use Rattle.guide.proofs.LiveNetsAreEvaluated.{live-evaluated}
use Rattle.guide.proofs.rating.evaluate_live.Goals as goal

pub storage_channels-requires : goal.storage_channels-requires
storage_channels-requires g c = chain-places _ c.in_ok-cycle.cycle.first c.in_ok-cycle.cycle.steps c.in_ok-cycle.ensures.holds.chain

pub returns-clause-evaluated : goal.returns-clause-evaluated
returns-clause-evaluated g c = λ net ds same.
    live-evaluated net ds c.args.states c.in_ok-table.table c.in_ok-cycle.cycle c.new.result c.in_ok-enlarge.enlarge
    (subst (λ (n : Net). IsFound n c.args.states c.in_ok-table.table) same c.in_ok-table.ensures.found)
    (subst (λ (n : Net). IsCriticalCycleOf n c.in_ok-table.table c.in_ok-cycle.cycle) same c.in_ok-cycle.ensures)
    c.new.ensures.common
    (subst (λ (n : Net). AreSpaces n c.in_ok-cycle.cycle.steps (length c.in_ok-cycle.cycle.steps) c.in_ok-enlarge.enlarge) same c.in_ok-enlarge.ensures)
    c.need_cycles_hold_with_more_room.ensures.rate
