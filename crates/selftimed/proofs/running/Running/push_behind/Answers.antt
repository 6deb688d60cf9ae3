use Rattle.std.proofs.Common.{ℕ, List, ◌++◌, replicate, ap, ◌∙◌}
use Rattle.selftimed.proofs.FirstRun.{first-runs}
use Rattle.selftimed.proofs.running.Running.push_behind.Goals as goal

pub add_behind-requires-clause-few : goal.add_behind-requires-clause-few
add_behind-requires-clause-few c = rw c.self.view_is c.requires.few

pub add_behind-requires-clause-runs : goal.add_behind-requires-clause-runs
add_behind-requires-clause-runs c = first-runs c.self.inside.first c.self.inside.later c.self.invariant.kept (rw c.self.view_is c.requires.others)

pub invariant_of-self : goal.invariant_of-self
invariant_of-self c = rw (c.in_err-add_behind.ensures.err.0, c.in_err-add_behind.ensures.err.1) c.self.invariant

pub returns-clause-ok : goal.returns-clause-ok
returns-clause-ok c = c.in_ok-add_behind.ensures.ok ∙ ap (λ (xs : List ℕ). xs ++ replicate c.args.firings c.args.end) c.self.view_is
