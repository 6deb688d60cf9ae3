use Rattle.std.proofs.Common.{◌∙◌}
use Rattle.report.proofs.OneMoreElement.{rate_end}
use Rattle.report.proofs.answers.rate_text.Goals as goal

pub returns : goal.returns
returns g c =
    c.bytes_of.ensures ∙ rate_end c.args.graph.now (g.F.Firing.net c.args.net.now) c.args.schedule.now c.args.cycle.now _ _ _ _ c.new-text.ensures.bytes c.in_ok-put_rate.ensures c.in_ok-put_schedule.ensures c.in_ok-put_cycle.ensures
