use Rattle.std.proofs.Common.{◌≡◌, suc, None, arith, add-one}
use Rattle.std.specs.Prelude.{slice_index_or}
use Rattle.sd_base.specs.Net.{channel_at}
use Rattle.storage.specs.Distributions.{storage_at}
use Rattle.storage.proofs.EntriesAddStorage.{storage-more, storage-part}
use Rattle.storage.proofs.distribution.Distribution.total_within.Goals as goal

pub returns-then-more-from : goal.returns-then-more-from
returns-then-more-from g c =
    let net = g.F.Firing.net c.args.net.now in
    let ds = c.args.self.now.capacities in
    let i = c.loop-channel.channel in
    let more : c.entry_storage-more.result ≡ storage_at (channel_at net i) (slice_index_or ds i None) = rw c.as_slice.ensures at c.entry_storage-more.ensures in
    let next = storage-more net.channels ds i (omega arith) c.requires in
    let part = storage-part net.channels ds (suc i) in
    omega (arith, more, next, part)

pub loop-channel-preserved : goal.loop-channel-preserved
loop-channel-preserved g c =
    let net = g.F.Firing.net c.args.net.now in
    let ds = c.args.self.now.capacities in
    let i = c.loop-channel.channel in
    let more : c.entry_storage-more.result ≡ storage_at (channel_at net i) (slice_index_or ds i None) = rw c.as_slice.ensures at c.entry_storage-more.ensures in
    let next = storage-more net.channels ds i (omega arith) c.requires in
    (rw add-one (omega (arith, more, next)), omega arith)
