use Rattle.std.proofs.Common.{ℕ, ◌+◌, ◌*◌, ◌≤◌, subst}
use Rattle.sd_base.specs.declared.limits.TheConstants.{NODES}
use Rattle.test_scenario_storage.proofs.TestedCanBeBounded.{can-be-bounded}
use Rattle.test_scenario_storage.proofs.boundable.is_boundable.Goals as goal

pub returns : goal.returns
returns c = λ yes.
    let looped = c.looped_tokens-looped.result in
    can-be-bounded c.args.file.now c.args.total looped c.requires.rules c.requires.names c.looped_tokens-looped.ensures (c.in_ok-run.ensures yes)
    (subst (λ (n : ℕ). n * (c.args.total + looped) ≤ NODES) c.len.ensures c.if-len-tokens-gt-NODES.false)
