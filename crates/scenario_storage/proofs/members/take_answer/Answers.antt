use Rattle.std.proofs.Common.{◌+◌, ◌∷◌}
use Rattle.sd_base.proofs.ContainedHavePlaces.{contains-here}
use Rattle.scenario_storage.proofs.FilesAllowSearch.{searchable}
use Rattle.scenario_storage.proofs.TurnsKeepSearch.{search-candidate}
use Rattle.scenario_storage.proofs.members.take_answer.Goals as goal

pub take_in-requires-clause-rated : goal.take_in-requires-clause-rated
take_in-requires-clause-rated c = (c.requires.answer.0, c.requires.answer.1, rw c.in-Ok.is at c.requires.answer.2.answer)

pub take_in-requires-clause-total : goal.take_in-requires-clause-total
take_in-requires-clause-total c = c.requires.answer.2.storage

pub returns-in-Err-clause-refused : goal.returns-in-Err-clause-refused
returns-in-Err-clause-refused c =
    let search = c.requires.search in
    let limits = c.args.plan.now.limits in
    c.refusal.ensures c.args.plan.now.file.now limits
    (search-candidate c.args.plan.now.file.now limits (searchable c.args.plan.now.file.now limits.total c.requires.plan.bounded) (c.args.total + 1) (c.args.answered.capacities.capacities ∷ search.0) c.args.search.now search.1 c.args.answered.capacities.capacities
    (contains-here c.args.answered.capacities.capacities search.0)).reachable
    (rw c.in-Err.is at c.requires.answer.2.answer)
