use Rattle.std.proofs.Common.{◌≡◌, map, take}
use Rattle.sd_base.specs.Net.{Channel}
use Rattle.firing.proofs.wiring.ends.Given as goal

abbrev pub invariant-loop-channel : goal.invariant-loop-channel
invariant-loop-channel g l = l.ends.items ≡ map (λ (c : Channel). (c.source, c.target)) (take l.channel (g.F.Firing.net l.net).channels)
