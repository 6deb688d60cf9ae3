use Rattle.std.proofs.Common.{◌≡◌, ◌∙◌, ℕ, ◌≤◌, ◌<◌, List, Option, ⊎_elim, ap, subst, arith, rules}
use Rattle.std.specs.Prelude.{slice_get}
use Rattle.std.proofs.lemmas.Bool.{cases_lt}
use Rattle.sd_base.specs.Net.{channel_at}
use Rattle.test_explore.specs.Fitting.{FitsAt}
use Rattle.test_explore.proofs.EntriesFormDistribution.{fits-distribution}
use Rattle.test_explore.proofs.evaluable.is_distribution.Goals as goal

pub loop-channel-preserved : goal.loop-channel-preserved
loop-channel-preserved g c = λ i below.
    let net = g.F.Firing.net c.args.net.now in
    let ds = c.args.capacities.now.capacities in
    let at = c.loop-channel.channel in
    let here : FitsAt (channel_at net at) (slice_get ds at) =
    subst (FitsAt (channel_at net at)) (c.entry_at-entry.ensures ∙ ap (λ (xs : List (Option ℕ)). slice_get xs at) c.as_slice.ensures) (c.fits_at.ensures (search rules)) in
    ⊎_elim
    (λ (less : i < at). c.loop-channel.invariant i less)
    (λ (past : at ≤ i). let same : at ≡ i = omega arith in subst (λ (k : ℕ). FitsAt (channel_at net k) (slice_get ds k)) same here)
    (cases_lt i at)

pub returns-clause-is : goal.returns-clause-is
returns-clause-is g c = λ holds.
    fits-distribution (g.F.Firing.net c.args.net.now).channels c.args.capacities.now.capacities (search rules)
    (λ i below. c.loop-channel.invariant i (omega (arith, below, c.loop-channel-test.false, c.loop-channel.auto.channel-end, c.channels-channel-end.ensures)))
