use Rattle.std.proofs.Common.{◌≡◌, ℕ, ◌+◌, ◌-◌, ◌*◌, ◌/◌, ◌<◌, length, arith}
use Rattle.sd_base.specs.Net.{channel_at}
use Rattle.sd_base.specs.Schedules.{IsNeed}
use Rattle.sd_base.proofs.LastNeedsSuffice.{need-is_last}
use Rattle.firing.proofs.PortSums.{wanted-rest}
use Rattle.periodic.proofs.CodeFindsNeeds.{lack-some, turn-made, made-phases, last-is, need-fits}
use Rattle.periodic.proofs.needs.last_need.Goals as goal

pub nonzero_div-turns : goal.nonzero_div-turns
nonzero_div-turns g c =
    let phases : c.phases-phases.result ≡ length (channel_at (g.F.Firing.net c.args.net.now) c.args.channel).made =
    made-phases (g.F.Firing.net c.args.net.now) c.know_laws.ensures c.args.channel c.source.result c.phases-phases.result c.requires.channel c.source.ensures c.phases-phases.ensures in
    turn-made (channel_at (g.F.Firing.net c.args.net.now) c.args.channel) c.phases-phases.result c.made_sum-turn.result phases c.made_sum-turn.ensures (c.know_laws.ensures.some_made c.args.channel c.requires.channel)

pub last_short-rest-requires-clause-enough : goal.last_short-rest-requires-clause-enough
last_short-rest-requires-clause-enough g c =
    let short : c.tokens.result < c.taken_sum.result = lack-some (channel_at (g.F.Firing.net c.args.net.now) c.args.channel) c.args.firing c.taken_sum.result c.tokens.result c.taken_sum.ensures c.tokens.ensures c.requires.needs in
    let rest = wanted-rest (c.taken_sum.result - c.tokens.result) c.made_sum-turn.result (nonzero_div-turns g c) (omega arith) in
    omega (arith, rest.1, c.made_sum-turn.ensures)

pub returns : goal.returns
returns g c =
    let short : c.tokens.result < c.taken_sum.result = lack-some (channel_at (g.F.Firing.net c.args.net.now) c.args.channel) c.args.firing c.taken_sum.result c.tokens.result c.taken_sum.ensures c.tokens.ensures c.requires.needs in
    let phases : c.phases-phases.result ≡ length (channel_at (g.F.Firing.net c.args.net.now) c.args.channel).made =
    made-phases (g.F.Firing.net c.args.net.now) c.know_laws.ensures c.args.channel c.source.result c.phases-phases.result c.requires.channel c.source.ensures c.phases-phases.ensures in
    let some : 0 < c.made_sum-turn.result = turn-made (channel_at (g.F.Firing.net c.args.net.now) c.args.channel) c.phases-phases.result c.made_sum-turn.result phases c.made_sum-turn.ensures (c.know_laws.ensures.some_made c.args.channel c.requires.channel) in
    let n : ℕ = (c.taken_sum.result - c.tokens.result - 1) / c.made_sum-turn.result * c.phases-phases.result + c.last_short-rest.result in
    let need : IsNeed (channel_at (g.F.Firing.net c.args.net.now) c.args.channel) c.args.firing (n + 1) =
    last-is (channel_at (g.F.Firing.net c.args.net.now) c.args.channel) c.args.firing c.taken_sum.result c.tokens.result c.phases-phases.result c.made_sum-turn.result c.last_short-rest.result
    c.taken_sum.ensures c.tokens.ensures short phases c.made_sum-turn.ensures some c.last_short-rest.ensures.short c.last_short-rest.ensures.enough in
    need-is_last (channel_at (g.F.Firing.net c.args.net.now) c.args.channel) c.args.firing n need

pub overflow_add-result : goal.overflow_add-result
overflow_add-result g c =
    let short : c.tokens.result < c.taken_sum.result = lack-some (channel_at (g.F.Firing.net c.args.net.now) c.args.channel) c.args.firing c.taken_sum.result c.tokens.result c.taken_sum.ensures c.tokens.ensures c.requires.needs in
    let phases : c.phases-phases.result ≡ length (channel_at (g.F.Firing.net c.args.net.now) c.args.channel).made =
    made-phases (g.F.Firing.net c.args.net.now) c.know_laws.ensures c.args.channel c.source.result c.phases-phases.result c.requires.channel c.source.ensures c.phases-phases.ensures in
    let some : 0 < c.made_sum-turn.result = turn-made (channel_at (g.F.Firing.net c.args.net.now) c.args.channel) c.phases-phases.result c.made_sum-turn.result phases c.made_sum-turn.ensures (c.know_laws.ensures.some_made c.args.channel c.requires.channel) in
    let n : ℕ = (c.taken_sum.result - c.tokens.result - 1) / c.made_sum-turn.result * c.phases-phases.result + c.last_short-rest.result in
    let need : IsNeed (channel_at (g.F.Firing.net c.args.net.now) c.args.channel) c.args.firing (n + 1) =
    last-is (channel_at (g.F.Firing.net c.args.net.now) c.args.channel) c.args.firing c.taken_sum.result c.tokens.result c.phases-phases.result c.made_sum-turn.result c.last_short-rest.result
    c.taken_sum.ensures c.tokens.ensures short phases c.made_sum-turn.ensures some c.last_short-rest.ensures.short c.last_short-rest.ensures.enough in
    omega (arith, need-fits (g.F.Firing.net c.args.net.now) c.know_laws.ensures c.args.channel c.args.firing (n + 1) c.requires.channel c.requires.few need)

pub overflow_mul-result : goal.overflow_mul-result
overflow_mul-result g c = omega (arith, overflow_add-result g c)
