use Rattle.std.proofs.Common.{subst, arith}
use Rattle.selftimed.specs.inside.Ports.{ArePortsBelow}
use Rattle.selftimed.proofs.PortRows.{ports-none, ports-push}
use Rattle.selftimed.proofs.ports.Ports.refill.Goals as goal

pub loop-actor-init : goal.loop-actor-init
loop-actor-init g c = ports-none (g.F.Firing.net c.args.wired.now.net.now) _ c.clear.ensures.items c.in_ok-clear.ensures c.in_ok-clear-2.ensures

pub loop-actor-preserved : goal.loop-actor-preserved
loop-actor-preserved g c =
    ports-push (g.F.Firing.net c.args.wired.now.net.now) c.loop-actor.self _ c.loop-actor.actor c.own_channel-own.result c.inputs_of-inputs.result.now c.outputs_of.result.now c.in_ok-push.ensures.items c.own_channel-own.ensures
    c.inputs_of-inputs.ensures c.outputs_of.ensures c.in_ok-push-2.ensures c.in_ok-push-3.ensures c.loop-actor.invariant

pub returns : goal.returns
returns g c = subst (ArePortsBelow (g.F.Firing.net c.args.wired.now.net.now) c.loop-actor.self) (omega (arith, c.loop-actor-test.false, c.loop-actor.auto.actor-end, c.actors-actor-end.ensures)) c.loop-actor.invariant
