use Rattle.std.proofs.Common.{◌≡◌, arith, drop, length, rules}
use Rattle.std.proofs.lemmas.List.{take_at}
use Rattle.selftimed.proofs.engine.Engine.restart.Goals as goal

pub invariant_of-self-2 : goal.invariant_of-self-2
invariant_of-self-2 g c =
    let size : length c.reset_rates.new.rates ≡ c.args.self.now.rates.len = omega (arith, c.reset_rates.auto.rates, c.as_mut_slice.ensures.len) in
    let back = take_at c.reset_rates.new.rates (drop (length c.reset_rates.new.rates) c.args.self.now.rates.items) c.args.self.now.rates.len size in
    record {
      few = c.requires.most;
      wired = search rules;
      rated = rw back c.reset_rates.ensures;
      ported = record { here = λ away. ∣ c.in_ok-begin_anew.ensures.ported ∣₁ };
      fresh = λ is. c.in_ok-begin_anew.ensures.fresh c.args.most;
      waits = λ is. c.in_ok-begin_anew.ensures.waits;
      starters = λ is. cc;
      goes = λ is. cc;
      stands = λ is. cc;
    }
