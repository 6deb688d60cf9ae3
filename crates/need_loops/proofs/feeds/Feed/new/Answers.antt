use Rattle.std.proofs.Common.{refl}
use Rattle.need_loops.proofs.FeedsGoOn.{some-first, first-feed, fed-next}
use Rattle.need_loops.proofs.feeds.Feed.new.Goals as goal

pub advance-requires-clause-some : goal.advance-requires-clause-some
advance-requires-clause-some g c =
    some-first (g.F.Firing.net c.args.net.now) c.know_laws.ensures c.requires.single c.args.channel c.made.result c.requires.channel c.made.ensures

pub returns : goal.returns
returns g c =
    let net = g.F.Firing.net c.args.net.now in
    fed-next net c.args.channel 0 _ c.advance.new.self
    (first-feed net c.know_laws.ensures c.requires.single c.args.channel _ c.requires.channel c.source-source.ensures (cc) c.made.ensures c.taken.ensures refl c.tokens.ensures)
    c.advance.ensures
