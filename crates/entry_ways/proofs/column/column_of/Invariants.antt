use Rattle.std.proofs.Common.{◌*◌, take}
use Rattle.std.specs.Prelude.{slice_index}
use Rattle.sd_base.specs.declared.limits.TheConstants.{TIME}
use Rattle.sd_base.specs.Untimed.{counts_after, none_fired}
use Rattle.entry_ways.specs.inside.Columns.{AreUpTo, IsColumn}
use Rattle.entry_ways.proofs.column.column_of.Given as goal

-- the column of the firings so far
abbrev pub invariant-loop-place : goal.invariant-loop-place
invariant-loop-place g l = IsColumn (g.F.Firing.net l.chains.wired.now.net.now) (slice_index l.chains.firsts.now) l.chains.token
    (counts_after none_fired (take l.place l.order)) l.rows.items × AreUpTo (TIME * l.place) l.rows.items
