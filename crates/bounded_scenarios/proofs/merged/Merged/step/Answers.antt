use Rattle.std.proofs.Common.{arith, subst, ℕ, List}
use Rattle.std.specs.Prelude.{◌↔◌, slice_index}
use Rattle.std.specs.Int.{◌∣◌}
use Rattle.sd_base.specs.declared.limits.TheConstants.{RATE}
use Rattle.storage.proofs.ChannelSteps.{some-step, step-is, step-small}
use Rattle.bounded_scenarios.specs.inside.MergedRates.{merged_channel}
use Rattle.bounded_scenarios.proofs.merged.Merged.step.Goals as goal

pub returns-clause-step : goal.returns-clause-step
returns-clause-step c = step-is (merged_channel c.args.self.now) c.divisor_of.result c.divisor_of-2.result c.gcd.result c.gcd.ensures
    (subst (λ (xs : List ℕ). (d : ℕ) → d ∣ c.divisor_of.result ↔ ((p : ℕ) → d ∣ slice_index xs p)) c.as_slice.ensures.value c.divisor_of.ensures)
    (subst (λ (xs : List ℕ). (d : ℕ) → d ∣ c.divisor_of-2.result ↔ ((p : ℕ) → d ∣ slice_index xs p)) c.as_slice-2.ensures.value c.divisor_of-2.ensures)

pub returns-clause-some : goal.returns-clause-some
returns-clause-some c = omega (arith, returns-clause-step c, some-step (merged_channel c.args.self.now) c.requires.moves)

pub returns-clause-small : goal.returns-clause-small
returns-clause-small c = omega (arith, returns-clause-step c, step-small (merged_channel c.args.self.now) RATE c.requires.moves c.requires.made)
