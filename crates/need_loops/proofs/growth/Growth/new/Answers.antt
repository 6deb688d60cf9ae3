use Rattle.std.proofs.Common.{subst, sym}
use Rattle.need_loops.specs.inside.Needing.{AreNext}
use Rattle.need_loops.proofs.FirstDue.{none-due}
use Rattle.need_loops.proofs.growth.Growth.new.Goals as goal

pub returns : goal.returns
returns g c until = record {
  due = none-due (g.F.Firing.net c.args.wired.now.net.now) until c.in_ok-starts.starts.items c.in_ok-starts.ensures;
  next = subst (λ rows. AreNext (g.F.Firing.net c.args.wired.now.net.now) rows c.in_ok-firings.firings.items) (sym c.in_ok-starts.ensures) c.in_ok-firings.ensures;
  flags = c.in_ok-flags.ensures;
}
