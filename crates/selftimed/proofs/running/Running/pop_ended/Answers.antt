use Rattle.std.proofs.Common.{◌≡◌, ◌<◌, List, [], ◌∷◌, length, sym, ap, arith}
use Rattle.std.specs.Prelude.{sum}
use Rattle.selftimed.specs.declared.queue.Run.{Run}
use Rattle.selftimed.specs.inside.Runs.{ends_of}
use Rattle.selftimed.proofs.FirstRun.{alone-gone, alone-past, first-index, later-none}
use Rattle.selftimed.proofs.running.Running.pop_ended.Goals as goal

pub returns-then-self-moment-clause-next : goal.returns-then-self-moment-clause-next
returns-then-self-moment-clause-next c = rw (← c.self.view_is) (λ some. omega (arith, first-index c.self.inside.first c.self.inside.later c.self.invariant.kept some, c.if-self-moment.true))

pub pop_runs-requires-clause-some : goal.pop_runs-requires-clause-some
pop_runs-requires-clause-some c = rw (← c.self.view_is) (omega (arith, c.self.invariant.firings, c.if-self-firings.true))

pub pop_runs-requires-clause-first : goal.pop_runs-requires-clause-first
pop_runs-requires-clause-first c =
    let some : 0 < length (ends_of (c.self.inside.first ∷ c.self.inside.later)) = omega (arith, c.self.invariant.firings, c.if-self-firings.true) in
    rw (← c.self.view_is, first-index c.self.inside.first c.self.inside.later c.self.invariant.kept some) c.if-self-moment.false

pub invariant_of-self : goal.invariant_of-self
invariant_of-self c =
    let none : c.self.inside.later ≡ [] = later-none c.self.inside.first c.self.inside.later c.self.invariant.kept (omega (arith, c.self.invariant.firings, c.if-self-firings.false)) in
    record {
      kept = record { runs = λ some. absurd (omega arith); none = λ nothing. none };
      firings = ap (λ (rs : List Run). length (ends_of rs)) (sym none);
      total = omega (arith, ap (λ (rs : List Run). sum (ends_of rs)) none);
    }

pub returns-clause-within : goal.returns-clause-within
returns-clause-within c = rw (← c.self.view_is) (omega (arith, c.self.invariant.firings))

pub returns-clause-rest : goal.returns-clause-rest
returns-clause-rest c =
    let none : c.self.inside.later ≡ [] = later-none c.self.inside.first c.self.inside.later c.self.invariant.kept (omega (arith, c.self.invariant.firings, c.if-self-firings.false)) in
    rw (← c.self.view_is) (alone-gone c.self.inside.later c.self.inside.firings (ends_of (c.self.inside.first ∷ c.self.inside.later)) none c.self.invariant.firings)

pub returns-clause-past : goal.returns-clause-past
returns-clause-past c =
    let none : c.self.inside.later ≡ [] = later-none c.self.inside.first c.self.inside.later c.self.invariant.kept (omega (arith, c.self.invariant.firings, c.if-self-firings.false)) in
    rw (← c.self.view_is) (λ k below. alone-past c.self.inside.first c.self.inside.later c.args.moment none c.if-self-moment.false k (omega (arith, below, c.self.invariant.firings)))

pub returns-clause-next : goal.returns-clause-next
returns-clause-next c = rw (← c.self.view_is) (λ more. absurd (omega (arith, more, c.self.invariant.firings)))
