use Rattle.std.proofs.Common.{◌∙◌, ◌-◌, ◌++◌, List, ℕ, replicate, take, ap, sym, append_assoc}
use Rattle.selftimed.proofs.TimesLeft.{left-more, times_left}
use Rattle.selftimed.specs.inside.Runs.{run_at}
use Rattle.selftimed.proofs.shape.push_left.Goals as goal

pub loop-run-preserved : goal.loop-run-preserved
loop-run-preserved c =
    let run = run_at c.args.runs.now c.loop-run.run-index in
    let times : List ℕ = replicate run.firings (run.end - c.args.moment) in
    c.in_ok-push_times.ensures ∙ (ap (λ (xs : List ℕ). xs ++ times) c.loop-run.invariant
    ∙ (append_assoc c.args.row.now.items (times_left c.args.moment (take c.loop-run.run-index c.args.runs.now)) times
    ∙ ap (λ (xs : List ℕ). c.args.row.now.items ++ xs) (sym (left-more c.args.moment c.args.runs.now c.loop-run.run-index c.loop-run-test.true))))
