use Rattle.std.proofs.Common.{◌≡◌, ◌*◌, ℕ, List, ap, ◌∙◌, arith}
use Rattle.std.specs.Prelude.{slice_index}
use Rattle.sd_base.specs.Net.{Channel, Net, channel_at, total}
use Rattle.entry_ways.proofs.way.left_token.Goals as goal

pub returns : goal.returns
returns g c =
    let net : Net = g.F.Firing.net c.args.chains.now.wired.now.net.now in
    let on : Channel = channel_at net c.args.channel in
    let round_is : c.round_of.result ≡ slice_index net.round on.target = c.round_of.ensures.is ∙ ap (λ (a : ℕ). slice_index net.round a) c.target.ensures in
    let all : total on.taken (slice_index net.round on.target) ≡ slice_index net.round on.target * c.taken_rate.result = c.taken_rate.ensures.all (slice_index net.round on.target) in
    let scaled : c.round_of.result * c.taken_rate.result ≡ slice_index net.round on.target * c.taken_rate.result = ap (λ (n : ℕ). n * c.taken_rate.result) round_is in
    let first : slice_index c.as_slice.result.now c.args.channel ≡ slice_index c.args.chains.now.firsts.now c.args.channel =
    ap (λ (l : List ℕ). slice_index l c.args.channel) c.as_slice.ensures in
    omega (arith, all, scaled, first)
