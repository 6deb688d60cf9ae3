use Rattle.std.proofs.Common.{◌++◌, replicate, refl, arith}
use Rattle.std.specs.Prelude.{slice_index}
use Rattle.sd_base.specs.Net.{channel_at}
use Rattle.liveness.proofs.TokensFeedSeries.{feeds-one, tokens-small, series-enough, series-run, series-less, stopped-lack}
use Rattle.liveness.proofs.run.fire_if_able.Goals as goal

pub returns-in-Some-clause-fired : goal.returns-in-Some-clause-fired
returns-in-Some-clause-fired g c =
    (refl, stopped-lack (g.F.Firing.net c.args.wired.now.net.now) c.args.counts.now c.args.tokens.now c.args.actor c.in-Some._lacking c.requires.run.run.level c.in-Some.ensures)

pub put_tokens-requires-clause-small : goal.put_tokens-requires-clause-small
put_tokens-requires-clause-small g c =
    tokens-small (g.F.Firing.net c.args.wired.now.net.now) c.know_laws.ensures c.args.counts.now c.args.tokens.now c.requires.run.order c.requires.run.run

pub take_tokens-requires-clause-enough : goal.take_tokens-requires-clause-enough
take_tokens-requires-clause-enough g c =
    let net = g.F.Firing.net c.args.wired.now.net.now in
    series-enough net c.know_laws.ensures c.args.counts.now c.args.tokens.now c.requires.run.order c.args.actor 1 c.requires.run.run c.requires.actor
    (omega (arith, c.if-count-round.false, c.round.ensures))
    (λ i place into. feeds-one (channel_at net i) (slice_index c.args.tokens.now i) (slice_index c.args.counts.now c.args.actor) (c.in_default.ensures i place into))
    c.put_tokens.new.tokens c.put_tokens.ensures (omega arith)

pub returns-clause-run : goal.returns-clause-run
returns-clause-run g c =
    let net = g.F.Firing.net c.args.wired.now.net.now in
    record {
      order = c.requires.run.order ++ replicate 1 c.args.actor;
      noted = c.in_ok-fired.ensures c.requires.run.order c.requires.run.noted;
      run = series-run net c.know_laws.ensures c.args.counts.now c.args.tokens.now c.requires.run.order c.args.actor 1 c.requires.run.run c.requires.actor
          (omega (arith, c.if-count-round.false, c.round.ensures))
          (λ i place into. feeds-one (channel_at net i) (slice_index c.args.tokens.now i) (slice_index c.args.counts.now c.args.actor) (c.in_default.ensures i place into))
          c.put_tokens.new.tokens c.put_tokens.ensures c.take_tokens.new.tokens c.take_tokens.ensures c.put_tokens.auto.tokens c.take_tokens.auto.tokens;
    }

pub returns-clause-fired : goal.returns-clause-fired
returns-clause-fired g c =
    let net = g.F.Firing.net c.args.wired.now.net.now in
    series-less net c.know_laws.ensures c.args.counts.now c.args.tokens.now c.requires.run.order c.args.actor 1 c.requires.run.run c.requires.actor
    (omega (arith, c.if-count-round.false, c.round.ensures))
    (λ i place into. feeds-one (channel_at net i) (slice_index c.args.tokens.now i) (slice_index c.args.counts.now c.args.actor) (c.in_default.ensures i place into))
    (omega arith)
