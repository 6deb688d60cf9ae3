use Rattle.std.proofs.Common.{◌≡◌, ◌<◌, Some, sym, ◌∙◌, subst, arith}
use Rattle.covers.specs.declared.search.Level.{Level}
use Rattle.pareto_search.proofs.search.until.Goals as goal

only : (a b : Level) → Some a ≡ Some b → a ≡ b
only a b same = cc

pub returns-then-level-due : goal.returns-then-level-due
returns-then-level-due c = λ l same.
    let level : c.in-Some-Some.level ≡ l = only c.in-Some-Some.level l (sym c.in-Some-Some.is-0 ∙ same) in
    (c.in-Some-Some.due, c.in-Some-Some.is-1, subst (λ (x : Level). c.in-Some-Some.due.total < x.storage) level (omega arith))
