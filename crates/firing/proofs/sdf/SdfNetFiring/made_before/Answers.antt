use Rattle.firing.proofs.SdfTables.{channel-read, none-before, one-before}
use Rattle.firing.proofs.sdf.SdfNetFiring.made_before.Goals as goal

pub returns-then-phases-eq0 : goal.returns-then-phases-eq0
returns-then-phases-eq0 c = none-before _ c.args.phases c.if-phases-eq0.true

pub returns-else-phases-eq0 : goal.returns-else-phases-eq0
returns-else-phases-eq0 c =
    let at = channel-read c.args.self.now.channels.items c.args.channel c.index.result.now c.requires.channel c.index.ensures in
    rw at (one-before c.index.result.now.made c.args.phases c.if-phases-eq0.false (rw at at c.requires.phases))
