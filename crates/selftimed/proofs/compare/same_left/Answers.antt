use Rattle.std.proofs.Common.{refl, arith}
use Rattle.std.proofs.lemmas.Bool.{false≢true}
use Rattle.selftimed.proofs.TimesLeft.{left-agree, left-long, left-same}
use Rattle.selftimed.proofs.compare.same_left.Goals as goal

pub returns-then-runs-others : goal.returns-then-runs-others
returns-then-runs-others c = (
  λ not. absurd (false≢true not),
  λ same. absurd (c.if-runs-others.true (left-long c.args.now c.args.runs.now c.args.then c.args.others.now c.requires.runs c.requires.others c.requires.left c.requires.right same)),
)

pub returns-then-not-is_left : goal.returns-then-not-is_left
returns-then-not-is_left c = (
  λ not. absurd (false≢true not),
  λ same. c.if-not-is_left.ensures.1 (left-same c.args.now c.args.runs.now c.args.then c.args.others.now c.requires.runs c.requires.others c.requires.left c.requires.right same c.loop-k.k c.loop-k-test.true),
)

pub returns : goal.returns
returns c = (
  λ yes. left-agree c.args.now c.args.runs.now c.args.then c.args.others.now c.loop-k.k (omega (arith, c.loop-k-test.false)) c.if-runs-others.false c.loop-k.invariant,
  λ same. refl,
)
