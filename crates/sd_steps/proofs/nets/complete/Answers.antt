use Rattle.sd_steps.proofs.NetsStandOverGraphs.{blocked-shown, blocked-lacks}
use Rattle.sd_steps.proofs.nets.complete.Goals as goal

pub lacks_text-requires-clause-lacks : goal.lacks_text-requires-clause-lacks
lacks_text-requires-clause-lacks g c =
    blocked-lacks (g.F.Firing.net c.args.wired.now.net.now) _ _
    (blocked-shown (g.F.Firing.net c.args.wired.now.net.now) _ _ _ _ _ c.in-Blocked.is c.as_slice-in-Blocked.ensures c.as_slice-in-Blocked-2.ensures c.in_ok-finish_round.ensures)
