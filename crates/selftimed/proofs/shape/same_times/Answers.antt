use Rattle.std.proofs.Common.{◌≡◌, ◌-◌, drop, refl, replicate, take}
use Rattle.std.proofs.lemmas.Bool.{false≢true}
use Rattle.std.proofs.lemmas.List.{take_rest}
use Rattle.selftimed.proofs.TimesLeft.{left-begin, left-then, left-within}
use Rattle.selftimed.specs.inside.Runs.{run_at}
use Rattle.selftimed.proofs.shape.same_times.Goals as goal

pub returns-then-not-begin_with : goal.returns-then-not-begin_with
returns-then-not-begin_with c = (
  λ not. absurd (false≢true not),
  λ same. c.if-not-begin_with.ensures.1 (rw (take_rest c.args.times.now c.loop-run.place) (left-begin c.args.moment c.args.runs.now c.args.times.now c.loop-run.run-index c.loop-run.place c.loop-run-test.true c.loop-run.invariant.within c.loop-run.invariant.same same)),
)

pub loop-run-preserved : goal.loop-run-preserved
loop-run-preserved c =
    let run = run_at c.args.runs.now c.loop-run.run-index in
    let begin : take run.firings (drop c.loop-run.place c.args.times.now) ≡ replicate run.firings (run.end - c.args.moment) = rw (take_rest c.args.times.now c.loop-run.place) at (c.if-not-begin_with.ensures.0 refl) in
    record {
      within = left-within c.args.moment c.args.runs.now c.args.times.now c.loop-run.run-index c.loop-run.place c.loop-run-test.true c.loop-run.invariant.within c.loop-run.invariant.same begin;
      same = left-then c.args.moment c.args.runs.now c.args.times.now c.loop-run.run-index c.loop-run.place c.loop-run-test.true c.loop-run.invariant.within c.loop-run.invariant.same begin;
    }
