use Rattle.std.proofs.Common.{◌*◌, ◌/◌, ◌%◌, ◌≤◌, ◌<◌, ◌≡◌, sym, ◌∙◌, arith, div-add-mod', mod-lt}
use Rattle.std.proofs.Math.Nat.{mul-le-mul_right}
use Rattle.sd_base.specs.Net.{channel_at}
use Rattle.sd_base.proofs.ElementsKeepPlaces.{single-some}
use Rattle.liveness.proofs.TokensFeedSeries.{ends-short, feeds-own, feeds-share, gives-back}
use Rattle.liveness.proofs.series.fed_by.Goals as goal

pub returns-then-tokens-rate-clause-ends : goal.returns-then-tokens-rate-clause-ends
returns-then-tokens-rate-clause-ends g c less from =
    ends-short (channel_at (g.F.Firing.net c.args.net.now) c.args.channel) c.args.tokens from 0 c.taken-rate.result c.requires.single c.taken-rate.ensures (omega (arith, c.if-tokens-rate.true))

pub returns-then-source-target-clause-fed : goal.returns-then-source-target-clause-fed
returns-then-source-target-clause-fed g c from =
    feeds-own (channel_at (g.F.Firing.net c.args.net.now) c.args.channel) c.args.tokens from c.args.most c.taken-rate.result c.requires.single c.taken-rate.ensures
    (gives-back (g.F.Firing.net c.args.net.now) c.know_laws.ensures c.args.channel c.requires.channel c.taken-rate.result (sym c.source.ensures ∙ (c.if-source-target.true ∙ c.target.ensures)) c.requires.single c.taken-rate.ensures)
    c.if-tokens-rate.false

pub returns-clause-fed : goal.returns-clause-fed
returns-clause-fed g c from =
    let few : c.min.result ≤ c.args.tokens / c.taken-rate.result = rw c.min.ensures (omega arith) in
    let scaled : c.min.result * c.taken-rate.result ≤ c.args.tokens / c.taken-rate.result * c.taken-rate.result = mul-le-mul_right c.taken-rate.result few in
    feeds-share (channel_at (g.F.Firing.net c.args.net.now) c.args.channel) c.args.tokens from c.min.result c.taken-rate.result c.requires.single c.taken-rate.ensures
    (omega (arith, scaled, div-add-mod' c.args.tokens c.taken-rate.result))

pub returns-clause-ends : goal.returns-clause-ends
returns-clause-ends g c less from =
    let all : c.min.result ≡ c.args.tokens / c.taken-rate.result = omega (arith, c.min.ensures, less) in
    let some : 0 < c.taken-rate.result = single-some (channel_at (g.F.Firing.net c.args.net.now) c.args.channel).taken c.taken-rate.result c.requires.single c.taken-rate.ensures (c.know_laws.ensures.some_taken c.args.channel c.requires.channel) in
    let rest : c.args.tokens % c.taken-rate.result < c.taken-rate.result = mod-lt c.args.tokens some in
    ends-short (channel_at (g.F.Firing.net c.args.net.now) c.args.channel) c.args.tokens from c.min.result c.taken-rate.result c.requires.single c.taken-rate.ensures
    (rw all (omega (arith, rest, div-add-mod' c.args.tokens c.taken-rate.result)))
