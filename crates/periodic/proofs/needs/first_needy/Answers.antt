use Rattle.std.proofs.Common.{arith}
use Rattle.sd_base.specs.Net.{channel_at}
use Rattle.periodic.proofs.CodeFindsNeeds.{needy-now, needy-later, turn-whole, turn-takes}
use Rattle.periodic.proofs.needs.first_needy.Goals as goal

pub returns-then-tokens-first-clause-first : goal.returns-then-tokens-first-clause-first
returns-then-tokens-first-clause-first g c = needy-now (channel_at (g.F.Firing.net c.args.net.now) c.args.channel) c.args.turn c.args.place c.taken_sum-first.result c.tokens-tokens.result
    c.taken_sum-first.ensures c.tokens-tokens.ensures c.if-tokens-first.true

pub nonzero_div-result : goal.nonzero_div-result
nonzero_div-result g c = turn-takes (g.F.Firing.net c.args.net.now) c.know_laws.ensures c.args.channel c.args.rounds c.args.turn c.taken_sum.result c.requires.channel c.requires.turn (omega arith) c.taken_sum.ensures

pub returns-clause-first : goal.returns-clause-first
returns-clause-first g c =
    let whole = turn-whole (g.F.Firing.net c.args.net.now) c.know_laws.ensures c.args.channel c.args.rounds c.args.turn c.requires.channel c.requires.turn in
    needy-later (channel_at (g.F.Firing.net c.args.net.now) c.args.channel) c.args.turn c.args.place c.taken_sum-first.result c.tokens-tokens.result c.taken_sum.result whole.0
    c.taken_sum-first.ensures c.tokens-tokens.ensures c.taken_sum.ensures (omega (arith, c.if-tokens-first.false)) (nonzero_div-result g c) whole.1
