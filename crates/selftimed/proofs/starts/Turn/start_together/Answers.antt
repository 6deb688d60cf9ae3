use Rattle.std.proofs.Common.{◌≡◌, arith}
use Rattle.selftimed.specs.inside.Starts.{FeedsNoMore}
use Rattle.selftimed.proofs.FiringsStartTogether.{starts-together, starts-nothing}
use Rattle.selftimed.proofs.starts.Turn.start_together.Goals as goal

pub returns-then-begun-room-clause-starts : goal.returns-then-begun-room-clause-starts
returns-then-begun-room-clause-starts g c = (c.fed_together-begun.result.firings, c.if-begun-room.true, rw c.as_slice.ensures at (c.fed_together-begun.ensures.feeds c.args.from))

pub returns-in_ok-push_ends-clause-starts : goal.returns-in_ok-push_ends-clause-starts
returns-in_ok-push_ends-clause-starts g c =
    let few : FeedsNoMore (g.F.Firing.net c.args.self.now.net.now) c.args.tokens.now c.args.self.now.actor c.fed_together-begun.result.firings c.fed_together-begun.result.lacking =
    rw c.as_slice.ensures at (c.fed_together-begun.ensures.lacks (omega (arith, c.if-begun-room.false))) in (
      c.if-begun-room.false,
      starts-together (g.F.Firing.net c.args.self.now.net.now) (g.met.F.Firing.lawful c.args.self.now.net.now) c.args.self.now.actor c.args.self.now.moment c.args.from c.fed_together-begun.result.firings c.fed_together-begun.result.lacking
          c.args.tokens.now c.take_all.new.tokens c.args.running.now c.push_ends.new.running c.requires.single few c.take_all.ensures.takes c.in_ok-push_ends.ensures,
    )

pub returns-else-begun-gt0-clause-starts : goal.returns-else-begun-gt0-clause-starts
returns-else-begun-gt0-clause-starts g c =
    let few : FeedsNoMore (g.F.Firing.net c.args.self.now.net.now) c.args.tokens.now c.args.self.now.actor c.fed_together-begun.result.firings c.fed_together-begun.result.lacking =
    rw c.as_slice.ensures at (c.fed_together-begun.ensures.lacks (omega (arith, c.if-begun-room.false))) in
    let none : c.fed_together-begun.result.firings ≡ 0 = omega (arith, c.if-begun-gt0.false) in (
      c.if-begun-room.false,
      starts-nothing (g.F.Firing.net c.args.self.now.net.now) (g.met.F.Firing.lawful c.args.self.now.net.now) c.args.self.now.actor c.args.self.now.moment c.args.from c.fed_together-begun.result.firings c.fed_together-begun.result.lacking
          c.args.tokens.now c.args.running.now c.requires.single none few,
    )
