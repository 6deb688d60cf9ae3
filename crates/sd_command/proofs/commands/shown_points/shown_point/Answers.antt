use Rattle.std.proofs.Common.{subst, sym}
use Rattle.sd_base.specs.Net.{Net}
use Rattle.sd_base.specs.Schedules.{HasInputs}
use Rattle.periodic.specs.LoopSchedules.{IsScheduleOf}
use Rattle.sd_command.proofs.command_lemmas.PointSchedules.{distribution-named, point-held, point-schedule}
use Rattle.sd_command.proofs.commands.shown_points.shown_point.Goals as goal

pub new-requires-clause-can : goal.new-requires-clause-can
new-requires-clause-can g c = point-held (g.F.Firing.net c.args.net.now) c.know_laws.ensures c.requires.explorable c.requires.limits c.requires.total c.args.point.now c.requires.found

pub from_loop-requires-clause-inputs : goal.from_loop-requires-clause-inputs
from_loop-requires-clause-inputs g c = subst HasInputs (sym c.in_ok-bounded.ensures) (c.requires.explorable.inputs _ c.requires.found.reaches.distribution)

pub point_text-requires-clause-channels : goal.point_text-requires-clause-channels
point_text-requires-clause-channels g c =
    distribution-named c.args.graph.now (g.F.Firing.net c.args.net.now) c.know_laws.ensures c.requires.named c.args.point.now.capacities.capacities c.requires.found.reaches.distribution

pub returns : goal.returns
returns g c =
    let net = g.F.Firing.net c.args.net.now in
    let of_loop = subst (λ (n : Net). IsScheduleOf n c.args.point.now.table c.in_ok-schedule.schedule) c.in_ok-bounded.ensures c.in_ok-schedule.ensures in
    record {
      schedule = point-schedule net c.know_laws.ensures c.requires.explorable c.requires.limits c.requires.total c.args.point.now c.requires.found c.in_ok-schedule.schedule of_loop;
      lines = c.in_ok-lines.ensures;
    }
