use Rattle.std.proofs.Common.{◌≡◌, ◌+◌, drop}
use Rattle.bounded_scenarios.specs.Boundings.{looped_tokens}
use Rattle.bounded_scenarios.proofs.shared_channel.looped_tokens.Given as goal

abbrev pub invariant-loop-row : goal.invariant-loop-row
invariant-loop-row l = l.tokens + looped_tokens l.file.scenarios (drop l.row-index l.file.shared) ≡ looped_tokens l.file.scenarios l.file.shared
