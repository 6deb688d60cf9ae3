use Rattle.std.proofs.Common.{◌+◌, refl, ◌∙◌, arith}
use Rattle.selftimed.proofs.FiringsStartTogether.{start-none, start-more, start-over, feeds-one}
use Rattle.selftimed.proofs.starts.Turn.start_in_turn.Goals as goal

pub firings-init : goal.firings-init
firings-init g c = record {
  so_far = start-none (g.F.Firing.net c.args.self.now.net.now) c.args.self.now.actor c.args.self.now.moment c.args.from c.args.room c.args.tokens.now c.args.running.now;
  long = refl;
}

pub returns-then-count-room : goal.returns-then-count-room
returns-then-count-room g c = record {
  long = c.firings.invariant.long;
  starts = start-over (g.F.Firing.net c.args.self.now.net.now) c.args.self.now.actor c.args.self.now.moment c.args.from c.args.room c.args.tokens.now c.firings.tokens c.args.running.now c.firings.running c.firings.count 1
      c.firings.invariant.so_far (omega (arith, c.if-count-room.true))
      (feeds-one (g.F.Firing.net c.args.self.now.net.now) c.firings.tokens c.args.self.now.actor (c.args.from + c.firings.count) (rw c.as_slice.ensures at c.in_default.ensures));
}

pub take_all-requires-clause-enough : goal.take_all-requires-clause-enough
take_all-requires-clause-enough g c = feeds-one (g.F.Firing.net c.args.self.now.net.now) c.firings.tokens c.args.self.now.actor (c.args.from + c.firings.count) (rw c.as_slice.ensures at c.in_default.ensures)

pub firings-preserved : goal.firings-preserved
firings-preserved g c = record {
  so_far = start-more (g.F.Firing.net c.args.self.now.net.now) c.args.self.now.actor c.args.self.now.moment c.args.from c.args.room c.args.tokens.now c.firings.tokens c.take_all.new.tokens c.args.running.now c.firings.running c.push_ends.new.running
      c.firings.count 1 c.firings.invariant.so_far (omega (arith, c.if-count-room.false)) c.take_all.ensures.takes c.in_ok-push_ends.ensures;
  long = c.take_all.ensures.long ∙ c.firings.invariant.long;
}
