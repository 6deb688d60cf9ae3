use Rattle.std.proofs.Common.{◌∙◌}
use Rattle.balance.proofs.EndsAreActors.{are-actors}
use Rattle.cert_checker.proofs.PathsJoinActors.{strongly, apart}
use Rattle.cert_checker.proofs.joins.is_strongly_connected.Goals as goal

pub strongly_connected-requires-clause-ends : goal.strongly_connected-requires-clause-ends
strongly_connected-requires-clause-ends g c = are-actors (g.F.Firing.net c.args.net.now) _ _ c.actors.ensures (c.deref.ensures.value ∙ c.in_ok-ends.ensures) c.know_laws.ensures

pub returns-in-Ok : goal.returns-in-Ok
returns-in-Ok g c = strongly (g.F.Firing.net c.args.net.now) _ _ c.actors.ensures (c.deref.ensures.value ∙ c.in_ok-ends.ensures) c.in-Ok.ensures.connected

pub returns-in-Err-OneWay : goal.returns-in-Err-OneWay
returns-in-Err-OneWay g c = apart (g.F.Firing.net c.args.net.now) _ _ c.actors.ensures (c.deref.ensures.value ∙ c.in_ok-ends.ensures) c.in-Err-OneWay.field-0-0 c.in-Err-OneWay.field-0-1 c.know_laws.ensures.some_actor (rw c.in-Err-OneWay.field-0-is at c.in-Err-OneWay.ensures.refusal)
