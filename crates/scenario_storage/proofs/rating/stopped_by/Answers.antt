use Rattle.scenario_storage.proofs.rating.stopped_by.Goals as goal

pub unreachable-requires : goal.unreachable-requires
unreachable-requires c = rw c.in-Limit.is at c.requires.3

pub returns-in-Blocked : goal.returns-in-Blocked
returns-in-Blocked c = λ file gammas ds is first. record { is = rw c.in-Blocked.is at is; first = first }
