use Rattle.std.proofs.Common.{◌≡◌, slice_index, arith}
use Rattle.sd_base.specs.Net.{channel_at, total}
use Rattle.liveness.proofs.CountsAreReached.{IsPaidAt, reached-paid}
use Rattle.liveness.proofs.ending.tokens_at.Goals as goal

pub overflow_sub-result : goal.overflow_sub-result
overflow_sub-result g c =
    let net = g.F.Firing.net c.args.net.now in
    let paid : IsPaidAt net (slice_index c.args.counts.now) c.args.channel = reached-paid net c.know_laws.ensures c.args.counts.now c.requires.reached c.args.channel c.requires.channel in
    let made : c.moved_sum.result ≡ total (channel_at net c.args.channel).made (slice_index c.args.counts.now (channel_at net c.args.channel).source) = rw c.source.ensures at c.moved_sum.ensures.sum in
    let taken : c.moved_sum-2.result ≡ total (channel_at net c.args.channel).taken (slice_index c.args.counts.now (channel_at net c.args.channel).target) = rw c.target.ensures at c.moved_sum-2.ensures.sum in
    omega (arith, paid, made, taken, c.from.ensures, c.tokens.ensures)

pub returns : goal.returns
returns g c =
    let net = g.F.Firing.net c.args.net.now in
    let paid : IsPaidAt net (slice_index c.args.counts.now) c.args.channel = reached-paid net c.know_laws.ensures c.args.counts.now c.requires.reached c.args.channel c.requires.channel in
    let made : c.moved_sum.result ≡ total (channel_at net c.args.channel).made (slice_index c.args.counts.now (channel_at net c.args.channel).source) = rw c.source.ensures at c.moved_sum.ensures.sum in
    let taken : c.moved_sum-2.result ≡ total (channel_at net c.args.channel).taken (slice_index c.args.counts.now (channel_at net c.args.channel).target) = rw c.target.ensures at c.moved_sum-2.ensures.sum in
    omega (arith, paid, made, taken, c.from.ensures, c.tokens.ensures)
