use Rattle.std.proofs.Common.{◌≡◌, ◌+◌, ◌-◌, ◌/◌, ℕ, subst, arith}
use Rattle.cert_checker.specs.declared.best_rates.Best.{Best}
use Rattle.cert_checker.specs.inside.Bests.{IsSplit}
use Rattle.cert_checker.proofs.BestRates.{split-enough, split-few}
use Rattle.cert_checker.proofs.best_rates.count_within.Goals as goal

-- what stands for one past the last
abbrev past : Best
past = record { storage = 0; rate = (0, 0) }

pub loop-few-preserved-then-steps-middle : goal.loop-few-preserved-then-steps-middle
loop-few-preserved-then-steps-middle c = record {
  apart = omega (arith, c.loop-few-test.true);
  within = c.loop-few.invariant.within;
  split = λ order.
      split-few c.args.steps.now c.args.storage c.loop-few.few c.loop-few.enough (c.loop-few.few + (c.loop-few.enough - c.loop-few.few) / 2) past order (omega (arith, c.loop-few-test.true, c.loop-few.invariant.within))
      c.if-steps-middle.true (c.loop-few.invariant.split order);
}

pub loop-few-preserved : goal.loop-few-preserved
loop-few-preserved c = record {
  apart = omega arith;
  within = omega (arith, c.loop-few-test.true, c.loop-few.invariant.within);
  split = λ order.
      split-enough c.args.steps.now c.args.storage c.loop-few.few c.loop-few.enough (c.loop-few.few + (c.loop-few.enough - c.loop-few.few) / 2) past order (omega (arith, c.loop-few-test.true, c.loop-few.invariant.within))
      c.if-steps-middle.false (c.loop-few.invariant.split order);
}

pub returns-clause-split : goal.returns-clause-split
returns-clause-split c = λ order.
    let e : c.loop-few.enough ≡ c.loop-few.few = omega (arith, c.loop-few-test.false, c.loop-few.invariant.apart) in
    subst (λ (n : ℕ). IsSplit c.args.steps.now c.args.storage c.loop-few.few n) e (c.loop-few.invariant.split order)
