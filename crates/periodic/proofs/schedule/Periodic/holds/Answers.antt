use Rattle.std.proofs.Common.{arith}
use Rattle.periodic.proofs.TestsDecide.{fed-decides, rise-decides}
use Rattle.periodic.proofs.schedule.Periodic.holds.Goals as goal

pub returns-then-all_rise : goal.returns-then-all_rise
returns-then-all_rise g c = fed-decides (g.F.Firing.net c.args.net.now) c.know_laws.ensures c.args.self.now.period c.args.self.now.rounds c.args.self.now.starts c.as_slice-rows.result.now c.as_slice-rows.ensures
    (c.has_rounds.ensures.0 c.if-not-has_rounds.false) (omega (arith, c.if-self-eq0.false)) (omega (arith, c.if-self-eq0-2.false)) (c.all_rise.ensures.0 c.if-all_rise.true) c.all_fed.result c.all_fed.ensures

pub returns-else-all_rise : goal.returns-else-all_rise
returns-else-all_rise g c = rise-decides (g.F.Firing.net c.args.net.now) c.know_laws.ensures c.args.self.now.period c.args.self.now.rounds c.args.self.now.starts c.as_slice-rows.result.now c.as_slice-rows.ensures
    (c.has_rounds.ensures.0 c.if-not-has_rounds.false) c.all_rise.result c.if-all_rise.false c.all_rise.ensures
