use Rattle.std.proofs.Common.{Err}
use Rattle.std.proofs.lemmas.Result.{err_from_is_err_and}
use Rattle.sd_steps.specs.Courses.{through}
use Rattle.sd_steps.specs.Nets.{joining, feeding, completing}
use Rattle.sd_steps.proofs.StepsCompose.{through_on, through_stops}
use Rattle.sd_steps.proofs.nets.test.Goals as goal

pub returns-in_err-join-clause-does : goal.returns-in_err-join-clause-does
returns-in_err-join-clause-does g c =
    let net = g.F.Firing.net c.args.wired.now.net.now in
    let p = err_from_is_err_and c.from_residual-in_err-join.result c.from_residual-in_err-join.ensures.1 in
    rw (p.1, p.2) (through_stops (joining c.args.graph.now net) (λ joined. through (feeding c.args.graph.now net) (λ fed. completing c.args.graph.now net)) _ c.in_err-join.ensures)

pub returns-in_err-feed-clause-does : goal.returns-in_err-feed-clause-does
returns-in_err-feed-clause-does g c =
    let net = g.F.Firing.net c.args.wired.now.net.now in
    let p = err_from_is_err_and c.from_residual-in_err-feed.result c.from_residual-in_err-feed.ensures.1 in
    rw (p.1, p.2) (through_on (joining c.args.graph.now net) (λ joined. through (feeding c.args.graph.now net) (λ fed. completing c.args.graph.now net)) tt (Err c.in_err-feed.field-0.0) c.in_ok-join.ensures
    (through_stops (feeding c.args.graph.now net) (λ fed. completing c.args.graph.now net) _ c.in_err-feed.ensures))

pub returns-clause-does : goal.returns-clause-does
returns-clause-does g c =
    let net = g.F.Firing.net c.args.wired.now.net.now in
    through_on (joining c.args.graph.now net) (λ joined. through (feeding c.args.graph.now net) (λ fed. completing c.args.graph.now net)) tt c.complete.result c.in_ok-join.ensures
    (through_on (feeding c.args.graph.now net) (λ fed. completing c.args.graph.now net) tt c.complete.result c.in_ok-feed.ensures c.complete.ensures)
