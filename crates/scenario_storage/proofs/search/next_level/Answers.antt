use Rattle.std.proofs.Common.{refl}
use Rattle.scenario_storage.proofs.FilesAllowSearch.{searchable}
use Rattle.scenario_storage.proofs.TurnsKeepSearch.{next-more, next-turn}
use Rattle.scenario_storage.proofs.search.next_level.Goals as goal

pub returns-clause-level : goal.returns-clause-level
returns-clause-level c = λ all stands.
    let plan = c.args.plan.now in
    next-turn plan.file.now plan.limits (searchable plan.file.now plan.limits.total c.requires.plan.bounded) stands.0 c.args.search.now _ stands.1.0 refl refl refl c.next.ensures.same c.in_ok-found.found
    c.in_ok-found.ensures.level c.in_ok-found.ensures.frontier all stands.1.1

pub returns-clause-off : goal.returns-clause-off
returns-clause-off c =
    let plan = c.args.plan.now in
    next-more plan.file.now plan.limits (searchable plan.file.now plan.limits.total c.requires.plan.bounded) c.requires.stands.1.0 c.args.search.now _ c.requires.stands.1.1.0 refl refl refl c.next.ensures.same c.in_ok-found.found
    c.in_ok-found.ensures.level c.in_ok-found.ensures.frontier
