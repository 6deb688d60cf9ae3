use Rattle.need_loops.proofs.DueRowsAreSelfTimed.{grow-none, grow-set}
use Rattle.need_loops.proofs.needs.extend.Goals as goal

pub loop-firing-init : goal.loop-firing-init
loop-firing-init g c =
    grow-none (g.F.Firing.net c.args.net.now) c.args.until c.args.actor c.len-before.result c.args.starts.now c.index-starts-actor.result c.args.next.now c.requires.actor c.requires.due c.requires.next c.len-before.ensures

pub next_start-requires-clause-due : goal.next_start-requires-clause-due
next_start-requires-clause-due g c = (c.args.until, c.requires.soon, c.loop-firing.invariant.due)

pub loop-firing-preserved : goal.loop-firing-preserved
loop-firing-preserved g c =
    grow-set (g.F.Firing.net c.args.net.now) c.args.until c.args.actor c.in-Some.start c.loop-firing.firing c.args.starts.now c.loop-firing.starts c.push.new.self c.index-starts-actor-in-Some.result c.loop-firing.next c.advance.new.self
    c.requires.actor c.loop-firing.invariant c.in-Some.ensures c.if-start-until.true c.in_ok-push-in-Some.ensures.ok c.advance.ensures
