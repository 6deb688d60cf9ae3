use Rattle.std.proofs.Common.{◌≡◌, ◌<◌, ◌-◌, ℕ, [], length, Option, None, Some, ap, sym, subst, ◌∙◌, arith}
use Rattle.std.specs.Prelude.{slice_index, slice_index_or}
use Rattle.sd_base.specs.Net.{Channel, Net, channel_at}
use Rattle.token_matrix.specs.Stamps.{IsPutBy, left_token}
use Rattle.token_matrix.specs.Ways.{IsChain}
use Rattle.entry_ways.specs.inside.Columns.{start_in}
use Rattle.entry_ways.proofs.MarksAddUp.{none-marked}
use Rattle.entry_ways.proofs.LastSteps.{last-early, last-started, put-way, stays-way, way-on}
use Rattle.entry_ways.proofs.way.mark_way.Goals as goal

pub channel_of-channel-requires : goal.channel_of-channel-requires
channel_of-channel-requires g c =
    way-on (g.F.Firing.net c.args.chains.now.wired.now.net.now) (slice_index c.args.chains.now.firsts.now) c.args.chains.now.token c.args.left c.requires.way.0 c.requires.way.1 c.requires.way.2

pub returns-then-last-tokens : goal.returns-then-last-tokens
returns-then-last-tokens g c =
    let net : Net = g.F.Firing.net c.args.chains.now.wired.now.net.now in
    let number : ℕ → ℕ = slice_index c.args.chains.now.firsts.now in
    let early : left_token net c.channel_of-channel.result (c.args.left - number c.channel_of-channel.result) < (channel_at net c.channel_of-channel.result).tokens =
    omega (arith, c.if-last-tokens.true, c.tokens.ensures, c.left_token-last.ensures) in
    let way = c.requires.way in
    ([], stays-way net number c.args.chains.now.token c.args.left c.channel_of-channel.result c.requires.apart c.channel_of-channel.ensures early way.0 way.1 way.2, none-marked c.args.marks.now)

pub start_at-requires-clause-firing : goal.start_at-requires-clause-firing
start_at-requires-clause-firing g c =
    let net : Net = g.F.Firing.net c.args.chains.now.wired.now.net.now in
    let number : ℕ → ℕ = slice_index c.args.chains.now.firsts.now in
    let p : ℕ = c.args.chains.now.token in
    let i : ℕ = c.channel_of-channel.result in
    let on : Channel = channel_at net i in
    let n : ℕ = c.producer_of-producer.result in
    let puts : IsPutBy on (left_token net i (c.args.left - number i)) n = subst (λ (m : ℕ). IsPutBy on m n) {y = left_token net i (c.args.left - number i)} c.left_token-last.ensures
    c.producer_of-producer.ensures.put in
    let early : n < slice_index net.round on.source = last-early net number p c.args.left i c.requires.apart c.channel_of-channel.ensures c.know_laws.ensures n puts c.args.rows.now
    c.requires.column in
    let whole : length (slice_index_or c.args.rows.now on.source []) ≡ slice_index net.round on.source =
    c.requires.column.whole on.source (c.know_laws.ensures.sources i c.channel_of-channel.ensures.place) in
    subst (λ (a : ℕ). n < length (slice_index_or c.args.rows.now a [])) (sym c.source-actor.ensures) (omega (arith, early, whole))

pub unreachable-requires : goal.unreachable-requires
unreachable-requires g c =
    let net : Net = g.F.Firing.net c.args.chains.now.wired.now.net.now in
    let number : ℕ → ℕ = slice_index c.args.chains.now.firsts.now in
    let p : ℕ = c.args.chains.now.token in
    let i : ℕ = c.channel_of-channel.result in
    let on : Channel = channel_at net i in
    let n : ℕ = c.producer_of-producer.result in
    let way = c.requires.way in
    let puts : IsPutBy on (left_token net i (c.args.left - number i)) n = subst (λ (m : ℕ). IsPutBy on m n) {y = left_token net i (c.args.left - number i)} c.left_token-last.ensures
    c.producer_of-producer.ensures.put in
    let start = last-started net number p c.args.left i c.requires.apart c.channel_of-channel.ensures c.know_laws.ensures n puts c.args.rows.now c.requires.column way.0 way.1 way.2 in
    let there : start_in c.args.rows.now c.source-actor.result n ≡ Some start.0 = ap (λ (a : ℕ). start_in c.args.rows.now a n) c.source-actor.ensures ∙ start.1 in
    let none : ◌≡◌ {A = Option ℕ} None (Some start.0) = sym c.in-None.is ∙ (c.start_at.ensures ∙ there) in
    (cc)

pub returns : goal.returns
returns g c =
    let net : Net = g.F.Firing.net c.args.chains.now.wired.now.net.now in
    let number : ℕ → ℕ = slice_index c.args.chains.now.firsts.now in
    let p : ℕ = c.args.chains.now.token in
    let i : ℕ = c.channel_of-channel.result in
    let on : Channel = channel_at net i in
    let n : ℕ = c.producer_of-producer.result in
    let start : ℕ = c.in-Some.start in
    let marked = c.mark_chain.ensures in
    let puts : IsPutBy on (left_token net i (c.args.left - number i)) n = subst (λ (m : ℕ). IsPutBy on m n) {y = left_token net i (c.args.left - number i)} c.left_token-last.ensures
    c.producer_of-producer.ensures.put in
    let at : start_in c.args.rows.now on.source n ≡ Some start = ap (λ (a : ℕ). start_in c.args.rows.now a n) (sym c.source-actor.ensures) ∙ (sym c.start_at.ensures ∙ c.in-Some.is) in
    let chain : IsChain net number p on.source n start marked.0 = subst (λ (a : ℕ). IsChain net number p a n start marked.0) c.source-actor.ensures marked.1 in
    (marked.0, put-way net number p c.args.left i c.requires.apart c.channel_of-channel.ensures c.know_laws.ensures n puts c.args.rows.now c.requires.column start marked.0 at chain, marked.2)
