use Rattle.std.proofs.Common.{◌+◌, ◌*◌}
use Rattle.sd_base.specs.Net.{channel_at}
use Rattle.sd_base.proofs.ElementsKeepPlaces.{single-some}
use Rattle.firing.proofs.PortSums.{need-none}
use Rattle.critical.proofs.TightNeeds.{single-need, single-taken}
use Rattle.critical.proofs.tight.single_need.Goals as goal

pub returns-then-taken-tokens : goal.returns-then-taken-tokens
returns-then-taken-tokens g c =
    let at = channel_at (g.F.Firing.net c.args.net.now) c.args.channel in
    need-none at c.args.firing ((c.args.firing + 1) * c.taken.result) c.tokens-tokens.result (single-taken at.taken c.args.firing c.taken.result c.requires.taken c.taken.ensures)
    c.tokens-tokens.ensures c.if-taken-tokens.true

pub returns : goal.returns
returns g c =
    let at = channel_at (g.F.Firing.net c.args.net.now) c.args.channel in
    single-need at c.args.firing ((c.args.firing + 1) * c.taken.result) c.tokens-tokens.result c.made.result c.div_ceil.result
    (single-taken at.taken c.args.firing c.taken.result c.requires.taken c.taken.ensures) c.tokens-tokens.ensures c.if-taken-tokens.false c.requires.made c.made.ensures
    (single-some at.made c.made.result c.requires.made c.made.ensures (c.know_laws.ensures.some_made c.args.channel c.requires.channel)) c.div_ceil.ensures
