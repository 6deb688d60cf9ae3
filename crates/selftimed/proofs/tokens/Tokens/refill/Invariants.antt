use Rattle.std.proofs.Common.{◌≡◌, map, take}
use Rattle.sd_base.specs.Net.{Channel}
use Rattle.selftimed.proofs.tokens.Tokens.refill.Given as goal

abbrev pub invariant-loop-channel : goal.invariant-loop-channel
invariant-loop-channel g l = l.self ≡ map (λ (c : Channel). c.tokens) (take l.channel (g.F.Firing.net l.net).channels)
