use Rattle.std.specs.Prelude.{IsTrue, slice_index}
use Rattle.entry_ways.specs.declared.producers.Producers.{Producers}
use Rattle.entry_ways.proofs.LatestEndsGiveLinks.{producers-there}
use Rattle.entry_ways.proofs.WaySteps.{end-links}
use Rattle.entry_ways.proofs.links.link_on.Goals as goal

pub producer_ending-requires-clause-there : goal.producer_ending-requires-clause-there
producer_ending-requires-clause-there g c =
    let by : Producers = c.producers_of-producers.result in
    producers-there (g.F.Firing.net c.args.chains.now.wired.now.net.now) (slice_index c.args.chains.now.firsts.now) c.args.chains.now.token c.args.rows.now c.args.channel c.args.firing
    by.has_token by.first by.end c.producers_of-producers.ensures c.requires.fed

pub returns : goal.returns
returns g c =
    let by : Producers = c.producers_of-producers.result in
    end-links (g.F.Firing.net c.args.chains.now.wired.now.net.now) (slice_index c.args.chains.now.firsts.now) c.args.chains.now.token c.args.rows.now c.args.channel c.args.firing c.args.start
    by.has_token by.first by.end c.producers_of-producers.ensures (λ held none. (let yes : IsTrue c.is_begun.result = c.is_begun.ensures.1 (held, none) in (cc))) c.producer_ending.result
    c.producer_ending.ensures
