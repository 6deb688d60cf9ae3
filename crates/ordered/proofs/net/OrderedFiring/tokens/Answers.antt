use Rattle.std.proofs.Common.{◌∙◌, sym, ap, arith}
use Rattle.sd_base.specs.Net.{Channel}
use Rattle.ordered.proofs.PartsMatchPlainNet.{channel-is, kept-below, place-below}
use Rattle.ordered.proofs.net.OrderedFiring.tokens.Goals as goal

pub index-requires : goal.index-requires
index-requires g c = omega (arith, place-below (g.F.Firing.net c.args.self.now.net.now) (g.met.F.Firing.lawful c.args.self.now.net.now) c.args.self.now.phases.items c.args.self.now.places.items c.args.channel c.requires)

pub tokens-requires : goal.tokens-requires
tokens-requires g c = kept-below (g.F.Firing.net c.args.self.now.net.now) (g.met.F.Firing.lawful c.args.self.now.net.now) c.args.self.now.phases.items c.args.self.now.places.items c.args.channel c.in-Kept.kept c.index.result.now c.args.self.now.over c.requires c.index.ensures c.in-Kept.is

pub returns-in-Kept : goal.returns-in-Kept
returns-in-Kept g c = c.tokens.ensures ∙ sym (ap (λ (x : Channel). x.tokens) (channel-is (g.F.Firing.net c.args.self.now.net.now) (g.met.F.Firing.lawful c.args.self.now.net.now) c.args.self.now.phases.items c.args.self.now.places.items c.args.channel c.in-Kept.kept c.index.result.now c.requires c.index.ensures c.in-Kept.is))
