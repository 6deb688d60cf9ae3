use Rattle.std.proofs.lemmas.Bool.{false≢true}
use Rattle.event_loops.proofs.FirstRepeatFound.{follows-none}
use Rattle.event_loops.proofs.repeat.meets.Goals as goal

pub follow-requires-clause-runs : goal.follow-requires-clause-runs
follow-requires-clause-runs g c = rw c.requires.net c.requires.runs

pub returns-then-not-branch-clause-met : goal.returns-then-not-branch-clause-met
returns-then-not-branch-clause-met g c =
    let there = rw c.if-not-branch.true at c.in_ok-follow.ensures.there in
    rw c.moment.ensures at (follows-none (g.F.Firing.net c.args.lead.now.net.now) c.args.period c.moment.result c.follow.new.trail.moment (rw c.requires.net at c.in_ok-follow.ensures.follows) (λ e. false≢true (there.1 e)) c.in_ok-follow.ensures.reached)
