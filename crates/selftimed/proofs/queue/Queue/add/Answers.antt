use Rattle.std.proofs.Common.{◌∙◌, ap, sym, arith}
use Rattle.std.proofs.lemmas.Bool.{false≢true}
use Rattle.selftimed.proofs.RunsListEnds.{ends-push, grown-ends, grown-runs, last-few, runs-push}
use Rattle.selftimed.specs.inside.Runs.{ends_of, EndsLastAt}
use Rattle.selftimed.proofs.queue.Queue.add.Goals as goal

pub grow_last-requires-clause-few : goal.grow_last-requires-clause-few
grow_last-requires-clause-few c =
    let last : EndsLastAt c.args.self.now c.args.end = rw c.as_slice.ensures at (c.ends_last_at.ensures.0 c.if-ends_last_at.true) in
    omega (arith, last-few c.args.self.now last.0)

pub returns-then-ends_last_at-clause-ok : goal.returns-then-ends_last_at-clause-ok
returns-then-ends_last_at-clause-ok c =
    rw c.grow_last.ensures (grown-ends c.args.self.now c.args.firings c.args.end (rw c.as_slice.ensures at (c.ends_last_at.ensures.0 c.if-ends_last_at.true)))

pub returns-then-ends_last_at-clause-runs : goal.returns-then-ends_last_at-clause-runs
returns-then-ends_last_at-clause-runs c =
    rw c.grow_last.ensures (grown-runs c.args.self.now c.args.firings c.args.end (rw c.as_slice.ensures at (c.ends_last_at.ensures.0 c.if-ends_last_at.true)) c.requires.runs)

pub returns-clause-ok : goal.returns-clause-ok
returns-clause-ok c = ap ends_of c.in_ok-push.ensures.ok ∙ ends-push c.args.self.now _

pub returns-clause-runs : goal.returns-clause-runs
returns-clause-runs c =
    rw c.in_ok-push.ensures.ok (runs-push c.args.self.now _ c.requires.some (λ last. false≢true (sym c.if-ends_last_at.false ∙ c.ends_last_at.ensures.1 (rw (← c.as_slice.ensures) at last))) c.requires.runs)
