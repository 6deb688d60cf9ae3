use Rattle.scenario_storage.proofs.rating.evaluate.Goals as goal

pub returns-in-Blocked : goal.returns-in-Blocked
returns-in-Blocked c = c.rate_blocked.ensures c.args.best
