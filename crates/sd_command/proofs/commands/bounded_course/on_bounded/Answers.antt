use Rattle.std.proofs.Common.{◌-◌, ℕ, List, subst, sym, arith}
use Rattle.std.proofs.lemmas.Result.{err_from_is_err_and}
use Rattle.sd_base.specs.FileNet.{net_of}
use Rattle.storage.specs.BoundedNets.{bound}
use Rattle.sd_steps.specs.Bufferings.{buffering}
use Rattle.sd_steps.specs.Balancings.{balancing}
use Rattle.sd_command.specs.inside.Goings.{Goes}
use Rattle.sd_command.specs.inside.Wants.{IsBounded, no_overlap_of, on_net}
use Rattle.sd_command.proofs.command_lemmas.WordsBoundGraphs.{is-bounded}
use Rattle.sd_command.proofs.command_lemmas.CommandsFollowSteps.{step_stops, goes_on}
use Rattle.sd_command.proofs.commands.bounded_course.on_bounded.Goals as goal

pub returns-in_err-distribution-clause-goes : goal.returns-in_err-distribution-clause-goes
returns-in_err-distribution-clause-goes g c = λ faults.
    let p = err_from_is_err_and c.from_residual.result c.from_residual.ensures.1 in
    rw (p.1, p.2) (step_stops (buffering c.args.graph.now c.args.buffers.now) _ _ (omega arith) _ faults c.in_err-distribution.ensures)

pub returns-in_err-gamma-clause-goes : goal.returns-in_err-gamma-clause-goes
returns-in_err-gamma-clause-goes g c = λ faults.
    let p = err_from_is_err_and c.from_residual-in_err-gamma.result c.from_residual-in_err-gamma.ensures.1 in
    rw (p.1, p.2) (goes_on (buffering c.args.graph.now c.args.buffers.now) _ c.in_ok-distribution.distribution _ _ faults faults c.in_ok-distribution.ensures
    (step_stops (balancing c.args.graph.now) _ _ (omega arith) _ faults c.in_err-gamma.ensures))

pub on_kind-requires-clause-bounded : goal.on_kind-requires-clause-bounded
on_kind-requires-clause-bounded g c =
    let apart = no_overlap_of c.args.wanted.now in
    let d = c.in_ok-distribution.distribution in
    subst (λ (v : List ℕ). IsBounded c.args.graph.now v apart d.capacities) (sym c.as_slice.ensures)
    (is-bounded c.args.graph.now c.in_ok-gamma.gamma apart c.args.buffers.now d c.requires.rules c.requires.timed c.in_ok-gamma.ensures c.requires.small c.in_ok-distribution.ensures)

pub returns-clause-goes : goal.returns-clause-goes
returns-clause-goes g c = λ faults.
    let d = c.in_ok-distribution.distribution in
    goes_on (buffering c.args.graph.now c.args.buffers.now) _ d _ _ faults faults c.in_ok-distribution.ensures
    (goes_on (balancing c.args.graph.now) _ c.in_ok-gamma.gamma _ _ faults faults c.in_ok-gamma.ensures
    (subst (λ (v : List ℕ). Goes (on_net c.args.wanted.now c.args.graph.now v d (bound (net_of c.args.graph.now v (no_overlap_of c.args.wanted.now)) d.capacities)) c.on_kind.result (c.on_kind.new.steps.count - c.args.steps.now.count) faults faults)
    c.as_slice.ensures (c.on_kind.ensures.goes faults)))
