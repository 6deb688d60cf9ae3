use Rattle.firing.specs.declared.sums.Port.TheVariants.{Made, Taken}
use Rattle.firing.proofs.GroupsMakeWirings.{grouped-listed, wired}
use Rattle.firing.proofs.wiring.Wiring.new.Goals as goal

pub returns-clause-wired : goal.returns-clause-wired
returns-clause-wired g c = wired (g.F.Firing.net c.args.net.now) _ c.in_ok-channels_by_actor.ensures c.in_ok-channels_by_actor-2.ensures

pub returns-clause-inputs : goal.returns-clause-inputs
returns-clause-inputs g c = grouped-listed (g.F.Firing.net c.args.net.now) Taken c.in_ok-channels_by_actor.field-0 c.in_ok-channels_by_actor.ensures

pub returns-clause-outputs : goal.returns-clause-outputs
returns-clause-outputs g c = grouped-listed (g.F.Firing.net c.args.net.now) Made c.in_ok-channels_by_actor-2.field-0 c.in_ok-channels_by_actor-2.ensures
