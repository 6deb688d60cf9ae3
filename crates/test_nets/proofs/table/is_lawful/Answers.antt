use Rattle.std.proofs.Common.{rules}
use Rattle.test_nets.proofs.table.is_lawful.Goals as goal

pub returns-then-actors_keep : goal.returns-then-actors_keep
returns-then-actors_keep c = (λ yes. (search rules, search rules, search rules), λ (is, keeps, timed). search rules)
