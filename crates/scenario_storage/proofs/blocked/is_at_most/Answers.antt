use Rattle.std.proofs.Common.{◌≡◌, ◌∙◌, length, sym, true≢false, arith, rules}
use Rattle.scenario_storage.proofs.PlacesFitAtMost.{most-by, most-fits, most-long}
use Rattle.scenario_storage.proofs.blocked.is_at_most.Goals as goal

pub returns-then-first-second : goal.returns-then-first-second
returns-then-first-second c = (
  λ no. search rules,
  λ most. absurd (let long : length c.args.first.now ≡ length c.args.second.now = most-long c.args.first.now c.args.second.now most in omega (arith, long)),
)

pub returns-then-not-fits_in : goal.returns-then-not-fits_in
returns-then-not-fits_in c = (
  λ no. search rules,
  λ most.
      let fit = most-fits c.args.first.now c.args.second.now most c.loop-place.place (omega arith) in
      absurd (true≢false (sym (c.fits_in.ensures.1 fit) ∙ c.if-not-fits_in.true)),
)

pub returns : goal.returns
returns c = (
  λ yes. most-by c.args.first.now c.args.second.now (omega arith) (λ j below. c.loop-place.invariant j (omega (arith, below))),
  λ most. search rules,
)
