use Rattle.std.proofs.Common.{inl, ap, arith}
use Rattle.sd_base.specs.SelfTimed.{events_by}
use Rattle.loops.proofs.RanksRise.{rank-first}
use Rattle.event_loops.proofs.KeptShapesFindPairs.{many-first}
use Rattle.selftimed.specs.declared.engine.Stage.TheVariants.{Fresh}
use Rattle.event_loops.specs.inside.Tracing.{IsTraceBefore}
use Rattle.event_loops.proofs.TracesFollowEvents.{none-allowed, allowed-next}
use Rattle.event_loops.proofs.search.search_allowed.Goals as goal

pub returns-then-not-branch-clause-refused : goal.returns-then-not-branch-clause-refused
returns-then-not-branch-clause-refused g c =
    let goes = rw c.requires.fresh at (rw c.requires.most at (rw c.if-not-branch.true at c.in_ok-go_on.ensures.goes)) in
    many-first (g.F.Firing.net c.args.engine.now.net.now) (g.met.F.Firing.lawful c.args.engine.now.net.now) c.requires.runs.inputs c.args.states goes.0 goes.1 c.requires.some (omega (arith, goes.2))

pub add-requires-clause-inputs : goal.add-requires-clause-inputs
add-requires-clause-inputs g c = rw c.go_on.ensures.net c.requires.runs.inputs

pub add-requires-clause-before : goal.add-requires-clause-before
add-requires-clause-before g c =
    let goes = rw c.requires.fresh at (rw c.if-not-branch.false at c.in_ok-go_on.ensures.goes) in
    let before : IsTraceBefore (g.F.Firing.net c.args.engine.now.net.now) c.go_on.new.engine.moment c.args.trace.now.moments.items c.args.trace.now.starts.items = (Fresh, 0, (c.requires.no_events, c.requires.no_starts), goes.1) in
    rw c.go_on.ensures.net before

pub watch_from-requires : goal.watch_from-requires
watch_from-requires g c =
    let goes = rw c.requires.fresh at (rw c.if-not-branch.false at c.in_ok-go_on.ensures.goes) in
    rw c.go_on.ensures.net (record { running = goes.0; event = inl goes.1 })

pub search_after-requires-clause-runs : goal.search_after-requires-clause-runs
search_after-requires-clause-runs g c = rw c.go_on.ensures.net c.requires.runs

pub search_after-requires-clause-first : goal.search_after-requires-clause-first
search_after-requires-clause-first g c = let goes = rw c.requires.fresh at (rw c.if-not-branch.false at c.in_ok-go_on.ensures.goes) in goes.1

pub search_after-requires-clause-allowed : goal.search_after-requires-clause-allowed
search_after-requires-clause-allowed g c =
    let goes = rw c.requires.fresh at (rw c.if-not-branch.false at c.in_ok-go_on.ensures.goes) in
    rw c.go_on.ensures.net (allowed-next (g.F.Firing.net c.args.engine.now.net.now) c.args.states c.go_on.new.engine.moment c.args.trace.now.moments.items c.add.new.self.moments.items c.args.trace.now.starts.items c.add.new.self.starts.items
    (none-allowed (g.F.Firing.net c.args.engine.now.net.now) c.args.states c.args.trace.now.moments.items c.args.trace.now.starts.items c.requires.no_events)
    (rw c.go_on.ensures.net at c.in_ok-add.ensures.few) (rw c.go_on.ensures.net at c.in_ok-add.ensures.many) (inl goes.1)
    (omega (arith, ap (events_by (g.F.Firing.net c.args.engine.now.net.now)) goes.1, rank-first (g.F.Firing.net c.args.engine.now.net.now), c.requires.some)))

pub returns-clause-traced : goal.returns-clause-traced
returns-clause-traced g c = rw c.go_on.ensures.net at c.search_after.ensures.traced

pub returns-clause-fingerprints : goal.returns-clause-fingerprints
returns-clause-fingerprints g c = rw c.go_on.ensures.net at c.search_after.ensures.fingerprints
