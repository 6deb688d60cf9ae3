use Rattle.std.proofs.Common.{◌≡◌, length, ◌∙◌}
use Rattle.sd_base.specs.Net.{Channel, channel_at}
use Rattle.sd_base.proofs.ElementsKeepPlaces.{single-some}
use Rattle.sd_base.proofs.SumsRepeatByTurns.{one-total}
use Rattle.entry_ways.proofs.producers.taken_rate.Goals as goal

pub returns-clause-all : goal.returns-clause-all
returns-clause-all g c =
    let on : Channel = channel_at (g.F.Firing.net c.args.chains.now.wired.now.net.now) c.args.channel in
    let one : length on.taken ≡ 1 = c.know_laws.ensures.taken_phases c.args.channel c.requires ∙ c.args.chains.now.traceable.phases on.target
    (c.know_laws.ensures.targets c.args.channel c.requires) in
    λ n. one-total on.taken n c.taken.result one c.taken.ensures

pub returns-clause-some : goal.returns-clause-some
returns-clause-some g c =
    let on : Channel = channel_at (g.F.Firing.net c.args.chains.now.wired.now.net.now) c.args.channel in
    let one : length on.taken ≡ 1 = c.know_laws.ensures.taken_phases c.args.channel c.requires ∙ c.args.chains.now.traceable.phases on.target
    (c.know_laws.ensures.targets c.args.channel c.requires) in
    single-some on.taken c.taken.result one c.taken.ensures (c.know_laws.ensures.some_taken c.args.channel c.requires)
