use Rattle.std.proofs.Common.{List, ℕ, sym, ap, ◌∙◌, arith}
use Rattle.std.specs.Prelude.{slice_get}
use Rattle.selftimed.proofs.FirstRun.{first-get}
use Rattle.selftimed.proofs.running.Running.first.Goals as goal

pub returns : goal.returns
returns c = sym (first-get c.self.inside.first c.self.inside.later c.self.invariant.kept (omega (arith, c.self.invariant.firings, c.if-self-eq0.false))) ∙ ap (λ (xs : List ℕ). slice_get xs 0) c.self.view_is
