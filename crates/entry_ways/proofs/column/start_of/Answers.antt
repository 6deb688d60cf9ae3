use Rattle.std.proofs.Common.{ℕ, refl, arith}
use Rattle.std.specs.Prelude.{slice_index}
use Rattle.sd_base.specs.Net.{Net}
use Rattle.entry_ways.proofs.LatestEndsGiveLinks.{links-none, links-more, links-all}
use Rattle.entry_ways.proofs.column.start_of.Goals as goal

pub loop-channel-init : goal.loop-channel-init
loop-channel-init g c =
    links-none (g.F.Firing.net c.args.chains.now.wired.now.net.now) (slice_index c.args.chains.now.firsts.now) c.args.chains.now.token c.args.rows.now c.args.actor c.args.firing
    c.inputs_of-channel-items.result.now

pub loop-channel-preserved : goal.loop-channel-preserved
loop-channel-preserved g c =
    let net : Net = g.F.Firing.net c.args.chains.now.wired.now.net.now in
    let number : ℕ → ℕ = slice_index c.args.chains.now.firsts.now in
    let n : ℕ = c.loop-channel.channel-index in
    rw c.later-start.ensures
    (links-more net number c.args.chains.now.token c.args.rows.now c.args.actor c.args.firing c.inputs_of-channel-items.result.now n (slice_index c.inputs_of-channel-items.result.now n)
    c.loop-channel.start c.arrival.result refl c.loop-channel.invariant c.arrival.ensures)

pub returns : goal.returns
returns g c =
    links-all (g.F.Firing.net c.args.chains.now.wired.now.net.now) (slice_index c.args.chains.now.firsts.now) c.args.chains.now.token c.args.rows.now c.args.actor c.args.firing
    c.inputs_of-channel-items.result.now c.loop-channel.channel-index c.loop-channel.start c.inputs_of-channel-items.ensures (omega (arith, c.loop-channel-test.false)) c.loop-channel.invariant
    (λ l below. (omega (arith, c.loop-channel.auto.channel-index-end)))
