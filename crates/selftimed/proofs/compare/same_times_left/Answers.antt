use Rattle.std.proofs.Common.{◌∷◌, refl}
use Rattle.std.proofs.lemmas.Bool.{false≢true}
use Rattle.selftimed.proofs.TimesLeft.{heads-same, left-heads, left-none, none-tail, tail-runs, tails-same}
use Rattle.selftimed.proofs.compare.same_times_left.Goals as goal

pub returns-then-not-is_left : goal.returns-then-not-is_left
returns-then-not-is_left c =
    let here = c.in-Some.here in
    let there = c.in-Some-as_runs.there in
    let left = left-none c.args.now (here.first ∷ here.later.now) c.args.running.now c.in-Some.ensures.1 c.in-Some.ensures.0 c.requires.left in
    let right = left-none c.args.then (there.first ∷ there.later.now) c.args.others.now c.in-Some-as_runs.ensures.1 c.in-Some-as_runs.ensures.0 c.requires.right in (
      λ not. absurd (false≢true not),
      λ same. c.if-not-is_left.ensures.1 (heads-same c.args.now here.first here.later.now c.args.then there.first there.later.now c.in-Some.ensures.1 c.in-Some-as_runs.ensures.1 left right
          (rw (c.in-Some.ensures.0, c.in-Some-as_runs.ensures.0) same)),
    )

pub same_left-requires-clause-runs : goal.same_left-requires-clause-runs
same_left-requires-clause-runs c = tail-runs c.in-Some.here.first c.in-Some.here.later.now c.in-Some.ensures.1

pub same_left-requires-clause-others : goal.same_left-requires-clause-others
same_left-requires-clause-others c = tail-runs c.in-Some-as_runs.there.first c.in-Some-as_runs.there.later.now c.in-Some-as_runs.ensures.1

pub same_left-requires-clause-left : goal.same_left-requires-clause-left
same_left-requires-clause-left c =
    let here = c.in-Some.here in
    none-tail c.args.now here.first here.later.now (left-none c.args.now (here.first ∷ here.later.now) c.args.running.now c.in-Some.ensures.1 c.in-Some.ensures.0 c.requires.left)

pub same_left-requires-clause-right : goal.same_left-requires-clause-right
same_left-requires-clause-right c =
    let there = c.in-Some-as_runs.there in
    none-tail c.args.then there.first there.later.now (left-none c.args.then (there.first ∷ there.later.now) c.args.others.now c.in-Some-as_runs.ensures.1 c.in-Some-as_runs.ensures.0 c.requires.right)

pub returns : goal.returns
returns c =
    let here = c.in-Some.here in
    let there = c.in-Some-as_runs.there in
    let left = left-none c.args.now (here.first ∷ here.later.now) c.args.running.now c.in-Some.ensures.1 c.in-Some.ensures.0 c.requires.left in
    let right = left-none c.args.then (there.first ∷ there.later.now) c.args.others.now c.in-Some-as_runs.ensures.1 c.in-Some-as_runs.ensures.0 c.requires.right in (
      λ yes. rw (← c.in-Some.ensures.0, ← c.in-Some-as_runs.ensures.0) (left-heads c.args.now here.first here.later.now c.args.then there.first there.later.now (c.if-not-is_left.ensures.0 refl) (c.same_left.ensures.0 yes)),
      λ same. c.same_left.ensures.1 (tails-same c.args.now here.first here.later.now c.args.then there.first there.later.now c.in-Some.ensures.1 c.in-Some-as_runs.ensures.1 left right
          (rw (c.in-Some.ensures.0, c.in-Some-as_runs.ensures.0) same)),
    )
