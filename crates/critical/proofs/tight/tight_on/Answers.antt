use Rattle.std.proofs.Common.{◌-◌, refl}
use Rattle.std.proofs.lemmas.Bool.{false≢true}
use Rattle.sd_base.specs.Net.{channel_at}
use Rattle.critical.proofs.TightNeeds.{need-last, slack-none, slack-read, tight-read}
use Rattle.critical.proofs.tight.tight_on.Goals as goal

pub read_need-read-requires-clause-last : goal.read_need-read-requires-clause-last
read_need-read-requires-clause-last g c = need-last (channel_at (g.F.Firing.net c.args.net.now) c.args.channel) c.args.later.number c.need_of-firings.result c.if-firings-eq0.false c.need_of-firings.ensures

pub returns-then-firings-eq0-clause-need : goal.returns-then-firings-eq0-clause-need
returns-then-firings-eq0-clause-need g c =
    slack-none (g.F.Firing.net c.args.net.now) c.requires.table.laws c.args.table.now c.requires.table c.args.later c.requires.second c.args.channel (rw c.if-firings-eq0.true at c.need_of-firings.ensures)

pub returns-then-is_tight-clause-need : goal.returns-then-is_tight-clause-need
returns-then-is_tight-clause-need g c =
    tight-read (g.F.Firing.net c.args.net.now) c.requires.table.laws c.args.table.now c.requires.table c.args.later c.requires.second c.args.channel (c.need_of-firings.result - 1) c.read_need-read.result c.requires.place c.requires.target
    (need-last (channel_at (g.F.Firing.net c.args.net.now) c.args.channel) c.args.later.number c.need_of-firings.result c.if-firings-eq0.false c.need_of-firings.ensures) c.read_need-read.ensures (c.if-is_tight.ensures.0 refl)

pub returns-else-is_tight-clause-need : goal.returns-else-is_tight-clause-need
returns-else-is_tight-clause-need g c =
    slack-read (g.F.Firing.net c.args.net.now) c.requires.table.laws c.args.table.now c.requires.table c.args.later c.requires.second c.args.channel (c.need_of-firings.result - 1) c.read_need-read.result c.requires.place c.requires.target
    (need-last (channel_at (g.F.Firing.net c.args.net.now) c.args.channel) c.args.later.number c.need_of-firings.result c.if-firings-eq0.false c.need_of-firings.ensures) c.read_need-read.ensures (λ just. false≢true (c.if-is_tight.ensures.1 just))
