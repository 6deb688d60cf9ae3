use Rattle.sd_base.specs.Net.{channel_at}
use Rattle.periodic.proofs.CodeFindsNeeds.{turn-some, in-time-decides, near-in_row}
use Rattle.periodic.proofs.turns.in_time.Goals as goal

pub start-requires-clause-some : goal.start-requires-clause-some
start-requires-clause-some g c =
    rw (c.row-from.ensures, c.source-source.ensures) (turn-some (g.F.Firing.net c.args.net.now) c.know_laws.ensures c.args.rounds c.args.rows.now c.requires.turns
    (channel_at (g.F.Firing.net c.args.net.now) c.args.channel).source (c.know_laws.ensures.sources c.args.channel c.requires.channel) c.requires.from)

pub start-requires-clause-near : goal.start-requires-clause-near
start-requires-clause-near g c =
    near-in_row (g.F.Firing.net c.args.net.now) c.know_laws.ensures c.args.rounds c.args.rows.now c.requires.turns c.args.channel c.args.place c.first_needy.result c.last_need-last.result
    c.source-source.result c.target.result c.row-from.result.now c.row-to.result.now c.requires.channel c.requires.from c.requires.to c.source-source.ensures c.target.ensures c.row-from.ensures c.row-to.ensures c.requires.place c.first_needy.ensures.near c.last_need-last.ensures

pub returns : goal.returns
returns g c =
    in-time-decides (g.F.Firing.net c.args.net.now) c.args.period c.args.rows.now c.args.channel c.args.place c.first_needy.result c.last_need-last.result c.source-source.result c.target.result c.phases.result
    c.start.result c.time-time.result c.start-2.result c.row-from.result.now c.row-to.result.now c.source-source.ensures c.target.ensures c.row-from.ensures c.row-to.ensures c.phases.ensures c.time-time.ensures
    c.start.ensures.start c.start-2.ensures.start c.first_needy.ensures.first c.last_need-last.ensures
