use Rattle.std.proofs.Common.{◌-◌, ℕ, List, IfOk, subst, sym, arith}
use Rattle.std.proofs.lemmas.Result.{IfOk-weaker, err_from_is_err_and}
use Rattle.sd_base.specs.FileNet.{net_of}
use Rattle.balance.specs.Repetition.{IsRound}
use Rattle.sd_steps.specs.Balancings.{balancing}
use Rattle.sd_command.specs.commands.Points.{points_of}
use Rattle.sd_command.specs.inside.Goings.{Goes}
use Rattle.sd_command.proofs.command_lemmas.CommandsFollowSteps.{step_stops, goes_on}
use Rattle.sd_command.specs.Entrances.{IsSearched}
use Rattle.sd_command.proofs.commands.trade_off.trade_off.Goals as goal

pub returns-in_err-gamma-clause-goes : goal.returns-in_err-gamma-clause-goes
returns-in_err-gamma-clause-goes g c = λ faults.
    let p = err_from_is_err_and c.from_residual.result c.from_residual.ensures.1 in
    rw (p.1, p.2) (step_stops (balancing c.args.graph.now) _ _ (omega arith) _ faults c.in_err-gamma.ensures)

pub points_of_graph-requires-clause-round : goal.points_of_graph-requires-clause-round
points_of_graph-requires-clause-round g c = λ κs outlive. subst (λ (v : List ℕ). IsRound c.args.graph.now v) (sym c.as_slice.ensures) c.in_ok-gamma.ensures

pub returns-clause-goes : goal.returns-clause-goes
returns-clause-goes g c = λ faults.
    goes_on (balancing c.args.graph.now) _ c.in_ok-gamma.gamma _ _ faults faults c.in_ok-gamma.ensures
    (subst (λ (v : List ℕ). Goes (points_of c.args.graph.now (net_of c.args.graph.now v c.args.wanted.now.no_overlap) c.args.wanted.now) c.points_of_graph.result (c.points_of_graph.new.steps.count - c.args.steps.now.count) faults faults)
    c.as_slice.ensures (c.points_of_graph.ensures.goes faults))

pub returns-clause-entered : goal.returns-clause-entered
returns-clause-entered g c =
    IfOk-weaker c.points_of_graph.result _ _ (λ answer is. (c.in_ok-gamma.gamma, c.in_ok-gamma.ensures, is))
    (subst (λ (v : List ℕ). IfOk c.points_of_graph.result (λ answer. IsSearched (net_of c.args.graph.now v c.args.wanted.now.no_overlap) c.args.wanted.now (g.G.Gate.entered c.args.parallel.now.gate.now) (c.points_of_graph.new.steps.count - c.args.steps.now.count)))
    c.as_slice.ensures c.points_of_graph.ensures.entered)
