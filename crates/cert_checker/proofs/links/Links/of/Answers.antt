use Rattle.std.proofs.Common.{◌≡◌, ℕ, length, ap, subst, ◌∙◌, arith}
use Rattle.std.specs.BTreeMap.{get}
use Rattle.cert_checker.specs.inside.Links.{IsLink, key_cmp, key_of}
use Rattle.cert_checker.proofs.LinkMaps.{links-more, links-none}
use Rattle.cert_checker.proofs.links.Links.of.Goals as goal

pub loop-channel-init : goal.loop-channel-init
loop-channel-init g c = links-none (g.F.Firing.net c.args.net.now) c.new-channels.result c.new-channels.ensures.empty

pub loop-channel-preserved : goal.loop-channel-preserved
loop-channel-preserved g c =
    links-more (g.F.Firing.net c.args.net.now) c.loop-channel.channel c.loop-channel.channels c.insert.new.self c.key_of.result (c.key_of.ensures ∙ ap key_of c.role.ensures) c.in_ok-insert.ensures.updates.0 c.loop-channel.invariant

pub returns : goal.returns
returns g c = λ role.
    let net = g.F.Firing.net c.args.net.now in
    let e : c.loop-channel.channel ≡ length net.channels = omega (arith, c.loop-channel-test.false, c.loop-channel.auto.channel-end, c.channels-channel-end.ensures) in
    subst (λ (n : ℕ). IsLink net n role (get key_cmp c.loop-channel.channels (key_of role))) e (c.loop-channel.invariant role)
