use Rattle.std.proofs.Common.{◌≡◌, ◌+◌, ◌≤◌, ◌*◌, arith}
use Rattle.sd_base.specs.declared.limits.TheConstants.{RATE}
use Rattle.sd_base.specs.Net.{channel_at, total}
use Rattle.sd_base.proofs.SumsRepeatByTurns.{total-bound, total-zero}
use Rattle.firing.specs.Ports.{rates_at}
use Rattle.liveness.proofs.ending.moved_sum.Goals as goal

pub returns-then-port_phases-eq1-clause-sum : goal.returns-then-port_phases-eq1-clause-sum
returns-then-port_phases-eq1-clause-sum g c =
    let none : 0 + c.args.firings ≡ c.args.firings = omega arith in
    let sum : total (rates_at c.args.port (channel_at (g.F.Firing.net c.args.net.now) c.args.channel)) 0 + c.span_sum.result
    ≡ total (rates_at c.args.port (channel_at (g.F.Firing.net c.args.net.now) c.args.channel)) c.args.firings = rw none at c.span_sum.ensures.sum in
    omega (arith, sum, total-zero (rates_at c.args.port (channel_at (g.F.Firing.net c.args.net.now) c.args.channel)))

pub returns-in-Made-clause-small : goal.returns-in-Made-clause-small
returns-in-Made-clause-small g c =
    let bound : total (channel_at (g.F.Firing.net c.args.net.now) c.args.channel).made c.args.firings ≤ c.args.firings * RATE =
    total-bound (channel_at (g.F.Firing.net c.args.net.now) c.args.channel).made RATE c.args.firings (λ p. c.know_laws.ensures.small_made c.args.channel p c.requires) in
    rw (c.made_sum.ensures, c.from.ensures) bound

pub returns-in-Taken-clause-small : goal.returns-in-Taken-clause-small
returns-in-Taken-clause-small g c =
    let bound : total (channel_at (g.F.Firing.net c.args.net.now) c.args.channel).taken c.args.firings ≤ c.args.firings * RATE =
    total-bound (channel_at (g.F.Firing.net c.args.net.now) c.args.channel).taken RATE c.args.firings (λ p. c.know_laws.ensures.small_taken c.args.channel p c.requires) in
    rw (c.taken_sum.ensures, c.from-in-Taken.ensures) bound
