use Rattle.std.proofs.Common.{◌≡◌, ◌≤◌, ◌<◌, ◌∙◌, sym, ⊎_elim, subst, arith}
use Rattle.std.specs.Prelude.{slice_index}
use Rattle.std.proofs.lemmas.Bool.{cases_lt}
use Rattle.sd_base.specs.Net.{channel_at}
use Rattle.liveness.specs.inside.Series.{EndsSeries}
use Rattle.liveness.proofs.TokensFeedSeries.{feeds-fewer, series-all}
use Rattle.liveness.proofs.series.fed_in_series.Goals as goal

pub loop-channel-preserved : goal.loop-channel-preserved
loop-channel-preserved g c = record {
  few = omega (arith, c.fed_by-fed.ensures.few, c.loop-channel.invariant.few);
  some = omega (arith, c.if-fed-eq0.false);
  fed = λ j h. ⊎_elim
      (λ (before : j < c.loop-channel.channel-index).
      feeds-fewer (channel_at (g.F.Firing.net c.args.net.now) (slice_index c.args.inputs.now j)) (slice_index c.args.tokens.now (slice_index c.args.inputs.now j)) c.args.count c.fed_by-fed.result c.loop-channel.firings
      c.fed_by-fed.ensures.few (c.loop-channel.invariant.fed j before))
      (λ (here : c.loop-channel.channel-index ≤ j).
      let same : j ≡ c.loop-channel.channel-index = omega arith in
      rw same (c.fed_by-fed.ensures.fed c.args.count))
      (cases_lt j c.loop-channel.channel-index);
  ends = λ less. ⊎_elim
      (λ (fewer : c.fed_by-fed.result < c.loop-channel.firings). record {
        channel = slice_index c.args.inputs.now c.loop-channel.channel-index;
        place = c.requires.listed.place c.loop-channel.channel-index c.loop-channel-test.true;
        into = c.requires.listed.there c.loop-channel.channel-index c.loop-channel-test.true;
        apart = λ some from. c.fed_by-fed.ensures.apart some fewer (from ∙ sym (c.requires.listed.there c.loop-channel.channel-index c.loop-channel-test.true));
        short = c.fed_by-fed.ensures.ends fewer c.args.count;
      })
      (λ (all : c.loop-channel.firings ≤ c.fed_by-fed.result).
      let same : c.loop-channel.firings ≡ c.fed_by-fed.result = omega (arith, c.fed_by-fed.ensures.few) in
      subst (EndsSeries (g.F.Firing.net c.args.net.now) c.args.tokens.now c.args.actor c.args.count) same (c.loop-channel.invariant.ends (omega (arith, same, less))))
      (cases_lt c.fed_by-fed.result c.loop-channel.firings);
}

pub returns-clause-fed : goal.returns-clause-fed
returns-clause-fed g c =
    series-all (g.F.Firing.net c.args.net.now) c.args.inputs.now c.args.tokens.now c.args.actor c.args.count c.loop-channel.firings c.loop-channel.channel-index c.requires.listed
    (omega (arith, c.loop-channel-test.false)) c.loop-channel.invariant.fed
