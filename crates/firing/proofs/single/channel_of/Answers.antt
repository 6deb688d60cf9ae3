use Rattle.std.proofs.Common.{◌∙◌}
use Rattle.sd_base.specs.Net.{channel_at}
use Rattle.firing.proofs.SingleCopies.{channel-is}
use Rattle.firing.proofs.single.channel_of.Goals as goal

pub returns : goal.returns
returns g c =
    channel-is (channel_at (g.F.Firing.net c.args.net.now) c.args.channel) c.source.result c.target.result c.made.result c.taken.result c.tokens.result c.size.result c.role.result
    c.source.ensures c.target.ensures c.made.ensures c.taken.ensures c.tokens.ensures c.size.ensures c.role.ensures
    (c.know_laws.ensures.made_phases c.args.channel c.requires.channel ∙ c.requires.single (channel_at (g.F.Firing.net c.args.net.now) c.args.channel).source (c.know_laws.ensures.sources c.args.channel c.requires.channel))
    (c.know_laws.ensures.taken_phases c.args.channel c.requires.channel ∙ c.requires.single (channel_at (g.F.Firing.net c.args.net.now) c.args.channel).target (c.know_laws.ensures.targets c.args.channel c.requires.channel))
