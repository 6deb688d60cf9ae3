use Rattle.std.proofs.Common.{◌≡◌, ◌≤◌, ◌-◌, ◌/◌, ℕ, length, sym, subst, ◌∙◌}
use Rattle.sd_base.specs.Net.{Channel, channel_at}
use Rattle.sd_base.proofs.ElementsKeepPlaces.{single-some}
use Rattle.token_matrix.specs.Stamps.{IsPutBy}
use Rattle.entry_ways.proofs.ProducerRanges.{producer-at}
use Rattle.entry_ways.proofs.producers.producer_of.Goals as goal

pub nonzero_div-result : goal.nonzero_div-result
nonzero_div-result g c =
    let on : Channel = channel_at (g.F.Firing.net c.args.chains.now.wired.now.net.now) c.args.channel in
    let one : length on.made ≡ 1 = c.know_laws.ensures.made_phases c.args.channel c.requires.channel ∙ c.args.chains.now.traceable.phases on.source
    (c.know_laws.ensures.sources c.args.channel c.requires.channel) in
    single-some on.made c.made.result one c.made.ensures (c.know_laws.ensures.some_made c.args.channel c.requires.channel)

pub returns-clause-put : goal.returns-clause-put
returns-clause-put g c =
    let on : Channel = channel_at (g.F.Firing.net c.args.chains.now.wired.now.net.now) c.args.channel in
    let one : length on.made ≡ 1 = c.know_laws.ensures.made_phases c.args.channel c.requires.channel ∙ c.args.chains.now.traceable.phases on.source
    (c.know_laws.ensures.sources c.args.channel c.requires.channel) in
    let some : 1 ≤ c.made.result = single-some on.made c.made.result one c.made.ensures (c.know_laws.ensures.some_made c.args.channel c.requires.channel) in
    subst (λ (n : ℕ). IsPutBy on c.args.token ((c.args.token - n) / c.made.result)) (sym c.tokens.ensures) (producer-at on c.args.token c.made.result one c.made.ensures some c.requires.late)
