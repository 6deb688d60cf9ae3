use Rattle.std.proofs.Common.{◌≡◌, ℕ, ◌+◌, ◌-◌, ◌*◌, inl, inr, ⊎_elim, ◌∙◌, arith}
use Rattle.std.specs.Prelude.{slice_index}
use Rattle.sd_base.specs.Net.{Channel, Net, channel_at, total}
use Rattle.entry_ways.proofs.ProducerRanges.{among, made-grows, none-put, some-put}
use Rattle.entry_ways.proofs.producers.producers_of.Goals as goal

pub returns-then-end-tokens : goal.returns-then-end-tokens
returns-then-end-tokens g c =
    let net : Net = g.F.Firing.net c.args.chains.now.wired.now.net.now in
    let number : ℕ → ℕ = slice_index c.args.chains.now.firsts.now in
    let p : ℕ = c.args.chains.now.token in
    let on : Channel = channel_at net c.args.channel in
    let from : ℕ = c.args.firing * c.taken_rate-taken.result in
    let end : ℕ = from + c.taken_rate-taken.result in
    let stop : total on.taken (c.args.firing + 1) ≡ end = (let h = c.taken_rate-taken.ensures.all (c.args.firing + 1) in omega (arith, h)) in
    none-put net number p c.args.channel c.args.firing from end (c.taken_rate-taken.ensures.all c.args.firing) stop c.has_token-has_token.result
    (among net number p c.args.channel c.args.firing from end (c.taken_rate-taken.ensures.all c.args.firing) stop c.has_token-has_token.result c.has_token-has_token.ensures)
    (omega (arith, c.if-end-tokens.true, c.tokens-tokens.ensures))

pub returns : goal.returns
returns g c =
    let net : Net = g.F.Firing.net c.args.chains.now.wired.now.net.now in
    let number : ℕ → ℕ = slice_index c.args.chains.now.firsts.now in
    let p : ℕ = c.args.chains.now.token in
    let on : Channel = channel_at net c.args.channel in
    let from : ℕ = c.args.firing * c.taken_rate-taken.result in
    let end : ℕ = from + c.taken_rate-taken.result in
    let stop : total on.taken (c.args.firing + 1) ≡ end = (let h = c.taken_rate-taken.ensures.all (c.args.firing + 1) in omega (arith, h)) in
    let which = c.first_put.ensures.which in
    some-put net number p c.args.channel c.args.firing from end (c.taken_rate-taken.ensures.all c.args.firing) stop c.has_token-has_token.result c.first_put.result (end - 1)
    (made-grows net c.know_laws.ensures c.args.chains.now.traceable.phases c.args.channel c.requires.channel)
    (among net number p c.args.channel c.args.firing from end (c.taken_rate-taken.ensures.all c.args.firing) stop c.has_token-has_token.result c.has_token-has_token.ensures)
    (omega (arith, c.taken_rate-taken.ensures.some)) (omega (arith, c.if-end-tokens.false, c.tokens-tokens.ensures)) c.first_put.ensures.low
    (⊎_elim (λ (e : c.first_put.result ≡ from). inl e) (λ (e : c.first_put.result ≡ c.tokens-tokens.result). inr (e ∙ c.tokens-tokens.ensures)) which)
    c.producer_of.result c.producer_of-2.result c.producer_of.ensures.put (omega (arith, c.taken_rate-taken.ensures.some)) c.producer_of-2.ensures.put
