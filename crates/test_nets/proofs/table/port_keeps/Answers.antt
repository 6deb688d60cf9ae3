use Rattle.std.proofs.Common.{rules}
use Rattle.test_nets.proofs.RatesMoveTokens.{some-moved}
use Rattle.test_nets.proofs.table.port_keeps.Goals as goal

pub returns-then-all : goal.returns-then-all
returns-then-all c = let moved = some-moved c.args.rates.now in search rules
