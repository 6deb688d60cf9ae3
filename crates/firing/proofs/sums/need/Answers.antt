use Rattle.std.proofs.Common.{ℕ, ◌+◌, ◌-◌, ◌*◌, ◌/◌, ◌<◌, arith}
use Rattle.sd_base.specs.Net.{channel_at}
use Rattle.firing.proofs.PortSums.{turn-some, wanted-rest, need-some, need-fits, at_length}
use Rattle.firing.proofs.sums.need.Goals as goal

pub nonzero_div-turns : goal.nonzero_div-turns
nonzero_div-turns g c =
    turn-some (channel_at (g.F.Firing.net c.args.net.now) c.args.channel).made c.port_phases-phases.result c.sum_before-turn.result
    c.port_phases-phases.ensures.phases c.sum_before-turn.ensures.sum (c.know_laws.ensures.some_made c.args.channel c.requires.channel)

pub firings_making-rest-requires-clause-enough : goal.firings_making-rest-requires-clause-enough
firings_making-rest-requires-clause-enough g c =
    let rest = wanted-rest (c.taken_sum-taken.result - c.tokens-tokens.result) c.sum_before-turn.result (nonzero_div-turns g c) (omega (arith, c.if-taken-tokens.false)) in
    at_length (channel_at (g.F.Firing.net c.args.net.now) c.args.channel).made c.port_phases-phases.result c.sum_before-turn.result _
    c.port_phases-phases.ensures.phases c.sum_before-turn.ensures.sum rest.1

pub returns : goal.returns
returns g c =
    let lack : ℕ = c.taken_sum-taken.result - c.tokens-tokens.result in
    let some : 0 < c.sum_before-turn.result = turn-some (channel_at (g.F.Firing.net c.args.net.now) c.args.channel).made c.port_phases-phases.result c.sum_before-turn.result
    c.port_phases-phases.ensures.phases c.sum_before-turn.ensures.sum (c.know_laws.ensures.some_made c.args.channel c.requires.channel) in
    let rest = wanted-rest lack c.sum_before-turn.result some (omega (arith, c.if-taken-tokens.false)) in
    need-some (channel_at (g.F.Firing.net c.args.net.now) c.args.channel) c.args.firing c.taken_sum-taken.result c.tokens-tokens.result c.port_phases-phases.result c.sum_before-turn.result
    ((lack - 1) / c.sum_before-turn.result) c.firings_making-rest.result c.taken_sum-taken.ensures c.tokens-tokens.ensures c.if-taken-tokens.false
    c.port_phases-phases.ensures.phases c.sum_before-turn.ensures.sum rest.2 c.firings_making-rest.ensures.some c.firings_making-rest.ensures.enough c.firings_making-rest.ensures.least

pub overflow_cast-result-3 : goal.overflow_cast-result-3
overflow_cast-result-3 g c =
    omega (
      arith,
      need-fits (g.F.Firing.net c.args.net.now) c.know_laws.ensures c.args.channel c.args.firing
          ((c.taken_sum-taken.result - c.tokens-tokens.result - 1) / c.sum_before-turn.result * c.port_phases-phases.result + c.firings_making-rest.result) c.requires.channel c.requires.few (returns g c),
    )

pub overflow_add-result : goal.overflow_add-result
overflow_add-result g c = omega (arith, overflow_cast-result-3 g c)

pub overflow_mul-result : goal.overflow_mul-result
overflow_mul-result g c = omega (arith, overflow_cast-result-3 g c)

pub overflow_cast-lack : goal.overflow_cast-lack
overflow_cast-lack g c =
    let rest = wanted-rest (c.taken_sum-taken.result - c.tokens-tokens.result) c.sum_before-turn.result (nonzero_div-turns g c) (omega (arith, c.if-taken-tokens.false)) in
    omega (arith, rest.1, c.sum_before-turn.type_inv)
