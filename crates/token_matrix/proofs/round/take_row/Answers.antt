use Rattle.std.proofs.Common.{◌≡◌, ◌++◌, List, Option, ℕ, length, drop, take, ap, arith}
use Rattle.std.proofs.lemmas.List.{take_at}
use Rattle.token_matrix.proofs.ChannelLines.{enough_at, wide_at, more_at, taken_all}
use Rattle.token_matrix.proofs.round.take_row.Goals as goal

pub take-requires-clause-enough : goal.take-requires-clause-enough
take-requires-clause-enough g c =
    enough_at (g.F.Firing.net c.args.net.now) c.args.actor c.args.size c.args.inputs.now c.requires.listed c.args.lines.now c.loop-channel.lines c.loop-channel.channel-index c.loop-channel-test.true
    c.requires.ready c.loop-channel.row.items c.loop-channel.invariant c.taken-tokens.result c.index-lines-channel.result c.taken-tokens.ensures

pub take-requires-clause-wide : goal.take-requires-clause-wide
take-requires-clause-wide g c =
    wide_at (g.F.Firing.net c.args.net.now) c.args.actor c.args.size c.args.inputs.now c.requires.listed c.args.lines.now c.loop-channel.lines c.loop-channel.channel-index c.loop-channel-test.true
    c.requires.ready c.loop-channel.row.items c.loop-channel.invariant (length c.as_mut_slice.result.now) c.index-lines-channel.result (ap (λ (r : List (Option ℕ)). length r) c.as_mut_slice.ensures.value)

pub loop-channel-preserved : goal.loop-channel-preserved
loop-channel-preserved g c =
    let size : length c.take.new.row ≡ c.loop-channel.row.len = omega (arith, c.take.auto.row, c.as_mut_slice.ensures.len) in
    more_at (g.F.Firing.net c.args.net.now) c.args.actor c.args.size c.args.inputs.now c.requires.listed c.args.lines.now c.loop-channel.lines c.loop-channel.channel-index c.loop-channel-test.true
    c.requires.ready c.loop-channel.row.items c.loop-channel.invariant c.taken-tokens.result c.index-lines-channel.result c.take.new.self c.as_mut_slice.result.now c.take.new.row
    (take c.loop-channel.row.len (c.take.new.row ++ drop (length c.take.new.row) c.loop-channel.row.items)) c.taken-tokens.ensures c.as_mut_slice.ensures.value
    (take_at c.take.new.row (drop (length c.take.new.row) c.loop-channel.row.items) c.loop-channel.row.len size) c.in_ok-take.ensures.left c.in_ok-take.ensures.raised

pub returns-clause-taken : goal.returns-clause-taken
returns-clause-taken g c = (taken_all (g.F.Firing.net c.args.net.now) c.args.actor c.args.size c.args.inputs.now c.args.lines.now c.loop-channel.lines c.loop-channel.row.items c.loop-channel.channel-index c.requires.listed
    (omega (arith, c.loop-channel-test.false, c.loop-channel.auto.channel-index-end)) c.loop-channel.invariant).0

pub returns-clause-latest : goal.returns-clause-latest
returns-clause-latest g c = (taken_all (g.F.Firing.net c.args.net.now) c.args.actor c.args.size c.args.inputs.now c.args.lines.now c.loop-channel.lines c.loop-channel.row.items c.loop-channel.channel-index c.requires.listed
    (omega (arith, c.loop-channel-test.false, c.loop-channel.auto.channel-index-end)) c.loop-channel.invariant).1
