use Rattle.std.proofs.Common.{below_more, refl, sym, ◌∙◌, true≢false, arith}
use Rattle.std.specs.Prelude.{slice_get}
use Rattle.sd_base.specs.Net.{channel_at}
use Rattle.cert_checker.specs.inside.Entries.{Fits}
use Rattle.cert_checker.proofs.EntryLists.{fits-distribution, too-long, unfit}
use Rattle.cert_checker.proofs.fits.is_distribution.Goals as goal

pub returns-then-capacities-channels : goal.returns-then-capacities-channels
returns-then-capacities-channels g c = too-long (g.F.Firing.net c.args.net.now).channels c.args.capacities.now (omega (arith, c.if-capacities-channels.true, c.channels.ensures))

pub returns-then-not-fits : goal.returns-then-not-fits
returns-then-not-fits g c =
    unfit (g.F.Firing.net c.args.net.now).channels c.args.capacities.now c.loop-channel.channel (slice_get c.args.capacities.now c.loop-channel.channel) (omega (arith, c.loop-channel-test.true, c.channels-channel-end.ensures)) refl
    (λ fits. true≢false (sym (c.fits.ensures.1 fits) ∙ c.if-not-fits.true))

pub loop-channel-preserved : goal.loop-channel-preserved
loop-channel-preserved g c =
    below_more (λ i. Fits (channel_at (g.F.Firing.net c.args.net.now) i) (slice_get c.args.capacities.now i)) c.loop-channel.channel c.loop-channel.invariant (c.fits.ensures.0 c.if-not-fits.false)

pub returns : goal.returns
returns g c =
    (λ yes. fits-distribution (g.F.Firing.net c.args.net.now).channels c.args.capacities.now (omega (arith, c.if-capacities-channels.false, c.channels.ensures)) (λ i below. c.loop-channel.invariant i (omega (arith, below, c.loop-channel-test.false, c.channels-channel-end.ensures))), λ dist. refl)
