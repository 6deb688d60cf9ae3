use Rattle.std.proofs.lemmas.List.Elements.{All-contains}
use Rattle.scenario_storage.specs.inside.Levels.{IsBlocked}
use Rattle.scenario_storage.proofs.rating.rate.Goals as goal

pub rate_held-requires-clause-blocked : goal.rate_held-requires-clause-blocked
rate_held-requires-clause-blocked c = All-contains (IsBlocked c.args.plan.now.file.now c.args.plan.now.limits.total) c.args.blocked.now c.in-Some.one.now c.requires.blocked c.in-Some.ensures.0

pub returns-in-Some : goal.returns-in-Some
returns-in-Some c = c.rate_held.ensures c.args.best
