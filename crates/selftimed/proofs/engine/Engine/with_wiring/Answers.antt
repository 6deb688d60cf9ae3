use Rattle.selftimed.proofs.engine.Engine.with_wiring.Goals as goal

pub invariant_of-result : goal.invariant_of-result
invariant_of-result g c = record {
  few = c.requires.most;
  wired = c.requires.wired;
  rated = c.in_ok-rates.ensures;
  ported = record { here = λ away. ∣ c.in_ok-begin_anew.ensures.ported ∣₁ };
  fresh = λ is. c.in_ok-begin_anew.ensures.fresh c.args.most;
  waits = λ is. c.in_ok-begin_anew.ensures.waits;
  starters = λ is. cc;
  goes = λ is. cc;
  stands = λ is. cc;
}
