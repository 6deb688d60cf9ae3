use Rattle.std.proofs.Common.{◌∙◌, List, ℕ, sym, subst, rules, false}
use Rattle.sd_base.specs.Schedules.{HasInputs}
use Rattle.sd_base.specs.FileNet.{net_of}
use Rattle.test_scenarios.proofs.shared.matrix.Goals as goal

pub matrix_of-requires-clause-inputs : goal.matrix_of-requires-clause-inputs
matrix_of-requires-clause-inputs g c =
    subst (λ (v : List ℕ). HasInputs (net_of c.args.graph.now v false)) (c.as_slice.ensures ∙ sym c.as_slice-in-Ok.ensures)
    (subst HasInputs c.in_ok-net-in-Ok.ensures (c.is_fed.ensures.0 (search rules)))
