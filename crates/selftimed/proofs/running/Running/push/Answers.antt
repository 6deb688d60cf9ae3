use Rattle.std.proofs.Common.{◌≡◌, [], ◌++◌, length, replicate, sym, ap, ◌∙◌, ◌%◌, ◌^◌, ℕ, List, arith}
use Rattle.selftimed.specs.declared.queue.Run.{Run}
use Rattle.selftimed.specs.inside.Runs.{ends_of}
use Rattle.selftimed.proofs.FirstRun.{alone-push, alone-runs, alone-sum, later-none, length-first}
use Rattle.selftimed.proofs.running.Running.push.Goals as goal

pub invariant_of-self : goal.invariant_of-self
invariant_of-self c =
    let first : Run = record { end = c.args.end; firings = c.args.firings } in
    let none : c.self.inside.later ≡ [] = later-none c.self.inside.first c.self.inside.later c.self.invariant.kept (omega (arith, c.self.invariant.firings, c.if-self-gt0.false)) in
    record {
      kept = record { runs = alone-runs first c.self.inside.later none; none = λ nothing. none };
      firings = omega (arith, length-first first c.self.inside.later, ap (λ (rs : List Run). length (ends_of rs)) none);
      total = ap (λ (n : ℕ). n % 2 ^ 64) (sym (alone-sum first c.self.inside.later none));
    }

pub returns-clause-ok : goal.returns-clause-ok
returns-clause-ok c =
    alone-push c.self.inside.first c.self.inside.later c.args.end c.args.firings c.self.invariant.kept (omega (arith, c.self.invariant.firings, c.if-self-gt0.false))
    ∙ ap (λ (xs : List ℕ). xs ++ replicate c.args.firings c.args.end) c.self.view_is
