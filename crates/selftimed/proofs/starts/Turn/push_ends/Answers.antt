use Rattle.selftimed.proofs.FiringsStartTogether.{adds-run, end-at}
use Rattle.selftimed.proofs.starts.Turn.push_ends.Goals as goal

pub returns : goal.returns
returns g c =
    adds-run (g.F.Firing.net c.args.self.now.net.now) c.args.self.now.actor c.args.self.now.moment c.args.from c.args.firings c.args.running.now c.push.new.self _ c.in_ok-push.ensures.ok
    (end-at (g.F.Firing.net c.args.self.now.net.now) c.args.self.now.actor c.args.self.now.moment c.args.from c.phases.result c.time.result c.phases.ensures (rw c.phase_at-phase.ensures at c.time.ensures)) c.requires.alike
