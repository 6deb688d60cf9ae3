use Rattle.std.proofs.Common.{◌≡◌, ℕ, ◌+◌, ◌%◌, ◌^◌, ◌≤◌, [], ◌∷◌, ◌++◌, length, replicate, take, refl, sym, ap, arith}
use Rattle.std.proofs.lemmas.List.{length-append, length-replicate}
use Rattle.std.proofs.lemmas.List.Elements.{All-append, All-replicate}
use Rattle.selftimed.specs.inside.Runs.{ends_of, run_at}
use Rattle.selftimed.proofs.RunsListEnds.{ends-length, length-more}
use Rattle.selftimed.proofs.FirstRun.{alone-ends, alone-sum, ends-more-first, length-first}
use Rattle.selftimed.proofs.RunningFingerprints.{total-run}
use Rattle.selftimed.proofs.running.ended_by.Goals as goal

pub overflow_add-firings : goal.overflow_add-firings
overflow_add-firings c =
    let first = c.args.first in
    let later = c.args.later.now in
    record {
      fits = omega (arith, length-more later c.loop-k.k c.loop-k-test.true, c.loop-k.invariant.firings, ends-length later (c.loop-k.k + 1), length-first first later, length-first first (take c.loop-k.k later), c.requires.few);
    }

pub loop-k-init : goal.loop-k-init
loop-k-init c =
    let first = c.args.first in
    record {
      past = rw (alone-ends first [] refl) (All-replicate (λ (end : ℕ). end ≤ c.args.moment) first.firings first.end c.requires.first);
      firings = omega (arith, length-first first []);
      total = sym (ap (λ (n : ℕ). n % 2 ^ 64) (alone-sum first [] refl));
    }

pub loop-k-preserved : goal.loop-k-preserved
loop-k-preserved c =
    let first = c.args.first in
    let later = c.args.later.now in
    let run = run_at later c.loop-k.k in
    let more : ends_of (first ∷ take (c.loop-k.k + 1) later) ≡ ends_of (first ∷ take c.loop-k.k later) ++ replicate run.firings run.end = ends-more-first first later c.loop-k.k c.loop-k-test.true in
    let Early : ℕ → Type 0 = λ end. end ≤ c.args.moment in
    record {
      past = rw more (All-append Early (ends_of (first ∷ take c.loop-k.k later)) (replicate run.firings run.end) c.loop-k.invariant.past (All-replicate Early run.firings run.end c.if-run-moment.false));
      firings = omega (arith, c.loop-k.invariant.firings, ap length more, length-append (ends_of (first ∷ take c.loop-k.k later)) (replicate run.firings run.end), length-replicate run.firings run.end);
      total = rw more (total-run (ends_of (first ∷ take c.loop-k.k later)) c.loop-k.total run.end run.firings c.loop-k.invariant.total);
    }

pub returns-clause-past : goal.returns-clause-past
returns-clause-past c =
    let all : c.loop-k.k ≡ length c.args.later.now = omega (arith, c.loop-k-test.false, c.loop-k.auto.k-end) in
    rw (← all) c.loop-k.invariant.past

pub returns-clause-firings : goal.returns-clause-firings
returns-clause-firings c =
    let all : c.loop-k.k ≡ length c.args.later.now = omega (arith, c.loop-k-test.false, c.loop-k.auto.k-end) in
    rw (← all) c.loop-k.invariant.firings

pub returns-clause-total : goal.returns-clause-total
returns-clause-total c =
    let all : c.loop-k.k ≡ length c.args.later.now = omega (arith, c.loop-k-test.false, c.loop-k.auto.k-end) in
    rw (← all) c.loop-k.invariant.total
