use Rattle.std.proofs.Common.{◌++◌, ◌<◌, replicate, arith}
use Rattle.firing.proofs.TokenMoves.{more-set}
use Rattle.liveness.proofs.TokensFeedSeries.{tokens-narrow, tokens-small, series-enough, series-run, series-less, stopped-series}
use Rattle.liveness.proofs.series.fire_series.Goals as goal

pub fed_in_series-firings-requires-clause-small : goal.fed_in_series-firings-requires-clause-small
fed_in_series-firings-requires-clause-small g c =
    tokens-narrow (g.F.Firing.net c.args.wired.now.net.now) c.know_laws.ensures c.args.counts.now c.args.tokens.now c.requires.run.order c.requires.run.run

pub put_series-requires-clause-small : goal.put_series-requires-clause-small
put_series-requires-clause-small g c =
    tokens-small (g.F.Firing.net c.args.wired.now.net.now) c.know_laws.ensures c.args.counts.now c.args.tokens.now c.requires.run.order c.requires.run.run

pub take_series-requires-clause-enough : goal.take_series-requires-clause-enough
take_series-requires-clause-enough g c =
    let some : 0 < c.fed_in_series-firings.result = omega (arith, c.if-firings-eq0.false) in
    series-enough (g.F.Firing.net c.args.wired.now.net.now) c.know_laws.ensures c.args.counts.now c.args.tokens.now c.requires.run.order c.args.actor c.fed_in_series-firings.result c.requires.run.run c.requires.actor
    (omega (arith, c.fed_in_series-firings.ensures.few, c.if-count-round.false, c.round-round.ensures)) c.fed_in_series-firings.ensures.fed c.put_series.new.tokens c.put_series.ensures some

pub returns-clause-run : goal.returns-clause-run
returns-clause-run g c =
    record {
      order = c.requires.run.order ++ replicate c.fed_in_series-firings.result c.args.actor;
      noted = c.in_ok-note_series.ensures c.requires.run.order c.requires.run.noted;
      run = series-run (g.F.Firing.net c.args.wired.now.net.now) c.know_laws.ensures c.args.counts.now c.args.tokens.now c.requires.run.order c.args.actor c.fed_in_series-firings.result c.requires.run.run c.requires.actor
          (omega (arith, c.fed_in_series-firings.ensures.few, c.if-count-round.false, c.round-round.ensures)) c.fed_in_series-firings.ensures.fed c.put_series.new.tokens c.put_series.ensures c.take_series.new.tokens c.take_series.ensures c.put_series.auto.tokens c.take_series.auto.tokens;
    }

pub returns-clause-stopped : goal.returns-clause-stopped
returns-clause-stopped g c =
    let by = more-set c.args.counts.now c.args.actor c.fed_in_series-firings.result (rw c.requires.run.run.actors c.requires.actor) in
    stopped-series (g.F.Firing.net c.args.wired.now.net.now) c.args.counts.now c.args.tokens.now _ c.args.actor c.fed_in_series-firings.result c.requires.run.run.level by
    (λ less. c.fed_in_series-firings.ensures.ends (omega (arith, by.here, less, c.if-count-round.false, c.round-round.ensures)))

pub returns-clause-fired : goal.returns-clause-fired
returns-clause-fired g c =
    let some : 0 < c.fed_in_series-firings.result = omega (arith, c.if-firings-eq0.false) in
    series-less (g.F.Firing.net c.args.wired.now.net.now) c.know_laws.ensures c.args.counts.now c.args.tokens.now c.requires.run.order c.args.actor c.fed_in_series-firings.result c.requires.run.run c.requires.actor
    (omega (arith, c.fed_in_series-firings.ensures.few, c.if-count-round.false, c.round-round.ensures)) c.fed_in_series-firings.ensures.fed some
