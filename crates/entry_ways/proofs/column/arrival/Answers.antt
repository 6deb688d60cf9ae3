use Rattle.std.proofs.Common.{ℕ}
use Rattle.std.specs.Prelude.{slice_index}
use Rattle.sd_base.specs.Net.{Net}
use Rattle.entry_ways.specs.declared.producers.Producers.{Producers}
use Rattle.entry_ways.proofs.LatestEndsGiveLinks.{producers-there, token-links, other-links}
use Rattle.entry_ways.proofs.column.arrival.Goals as goal

pub latest_end-end-requires-clause-there : goal.latest_end-end-requires-clause-there
latest_end-end-requires-clause-there g c =
    let by : Producers = c.producers_of-producers.result in
    producers-there (g.F.Firing.net c.args.chains.now.wired.now.net.now) (slice_index c.args.chains.now.firsts.now) c.args.chains.now.token c.args.rows.now c.args.channel c.args.firing
    by.has_token by.first by.end c.producers_of-producers.ensures c.requires.fed

pub returns-then-producers : goal.returns-then-producers
returns-then-producers g c =
    let net : Net = g.F.Firing.net c.args.chains.now.wired.now.net.now in
    let number : ℕ → ℕ = slice_index c.args.chains.now.firsts.now in
    let p : ℕ = c.args.chains.now.token in
    let by : Producers = c.producers_of-producers.result in
    rw c.later.ensures
    (token-links net number p c.args.rows.now c.args.channel c.args.firing by.has_token by.first by.end c.latest_end-end.result c.producers_of-producers.ensures c.if-producers.true
    c.latest_end-end.ensures)

pub returns-else-producers : goal.returns-else-producers
returns-else-producers g c =
    let by : Producers = c.producers_of-producers.result in
    other-links (g.F.Firing.net c.args.chains.now.wired.now.net.now) (slice_index c.args.chains.now.firsts.now) c.args.chains.now.token c.args.rows.now c.args.channel c.args.firing
    by.has_token by.first by.end c.latest_end-end.result c.producers_of-producers.ensures (λ yes. (cc)) c.latest_end-end.ensures
