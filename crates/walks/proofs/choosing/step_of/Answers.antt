use Rattle.std.proofs.Common.{List, length, sym, ap, ◌∙◌, arith}
use Rattle.std.specs.Prelude.{slice_index_or}
use Rattle.covers.specs.declared.lattice.Axis.{Axis}
use Rattle.walks.proofs.StepsFitLattice.{step-here, step-past}
use Rattle.walks.proofs.choosing.step_of.Goals as goal

pub returns-then-place-axes-clause-step : goal.returns-then-place-axes-clause-step
returns-then-place-axes-clause-step c =
    ap (λ (axes : List Axis). (slice_index_or axes c.args.channel c.index-axes-place.result).step) c.as_slice-axes.ensures
    ∙ sym (step-here c.args.lattice.now.axes c.args.channel c.index-axes-place.result (omega (arith, ap length c.as_slice-axes.ensures)))

pub returns-else-place-axes-clause-step : goal.returns-else-place-axes-clause-step
returns-else-place-axes-clause-step c = sym (step-past c.args.lattice.now.axes c.args.channel (omega (arith, ap length c.as_slice-axes.ensures)))
