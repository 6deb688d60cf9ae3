use Rattle.std.proofs.Common.{◌≡◌, [], arith, rules, subst, sym}
use Rattle.pareto_search.specs.inside.Waits.{AddsSpace}
use Rattle.pareto_search.proofs.ListedSpaces.{AreListed, listed-all, listed-more, listed-none}
use Rattle.pareto_search.proofs.waits.spaces_among.Goals as goal

pub loop-channel-init : goal.loop-channel-init
loop-channel-init g c =
    let net = g.F.Firing.net c.args.net.now in
    let none : c.new-spaces.result ≡ [] = search rules in
    subst (AreListed net c.args.channels.now 0) (sym none) (listed-none net c.args.channels.now)

pub loop-channel-preserved : goal.loop-channel-preserved
loop-channel-preserved g c =
    listed-more (g.F.Firing.net c.args.net.now) c.args.channels.now c.loop-channel.channel-index c.loop-channel.spaces c.loop-channel.invariant c.add_space.new.spaces (omega (arith, c.loop-channel-test.true))
    (subst (AddsSpace c.loop-channel.spaces c.add_space.new.spaces) c.role.ensures c.in_ok-add_space.ensures)

pub returns-clause-each : goal.returns-clause-each
returns-clause-each g c = c.loop-channel.invariant.each

pub returns-clause-all : goal.returns-clause-all
returns-clause-all g c = listed-all (g.F.Firing.net c.args.net.now) c.args.channels.now c.loop-channel.channel-index c.loop-channel.spaces (omega arith) c.loop-channel.invariant
