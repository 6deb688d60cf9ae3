use Rattle.std.proofs.Common.{rules}
use Rattle.sd_steps.specs.Bufferings.{unknown, self_loop, below_tokens}
use Rattle.sd_steps.proofs.buffering.buffered.Goals as goal

pub returns-in_ok-escaped-in-Err-Unknown : goal.returns-in_ok-escaped-in-Err-Unknown
returns-in_ok-escaped-in-Err-Unknown c = unknown c.in-Err-Unknown.name (search rules) (search rules)

pub returns-in_ok-escaped-in-Err-SelfLoop : goal.returns-in_ok-escaped-in-Err-SelfLoop
returns-in_ok-escaped-in-Err-SelfLoop c = self_loop c.in-Err-SelfLoop.name (search rules) (search rules)

pub returns-in_ok-escaped-in-Err-BelowTokens : goal.returns-in_ok-escaped-in-Err-BelowTokens
returns-in_ok-escaped-in-Err-BelowTokens c = below_tokens c.in-Err-BelowTokens.name (search rules) (search rules)
