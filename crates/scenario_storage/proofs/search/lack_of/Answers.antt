use Rattle.scenario_storage.proofs.ScenariosHaveRounds.{never-refused}
use Rattle.scenario_storage.proofs.search.lack_of.Goals as goal

pub unreachable-requires : goal.unreachable-requires
unreachable-requires c = never-refused c.one_answer.ensures c.requires.0 c.requires.2.0 c.args.error c.requires.1 c.requires.2.1 c.requires.3 c.in_default.not-NoMemory
