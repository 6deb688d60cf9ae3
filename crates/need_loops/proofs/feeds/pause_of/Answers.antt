use Rattle.std.proofs.Common.{refl}
use Rattle.sd_base.specs.Net.{channel_at}
use Rattle.need_loops.proofs.FeedsGoOn.{paces-of}
use Rattle.need_loops.proofs.feeds.pause_of.Goals as goal

pub returns-then-taken-eq1 : goal.returns-then-taken-eq1
returns-then-taken-eq1 g c =
    let net = g.F.Firing.net c.args.net.now in
    paces-of net c.know_laws.ensures c.requires.single (channel_at net c.args.channel).target c.args.channel c.time.result
    c.requires.channel (cc) refl (cc) (cc) (cc) (cc)
