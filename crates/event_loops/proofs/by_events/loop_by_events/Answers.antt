use Rattle.std.proofs.Common.{◌≡◌, ◌+◌, ◌-◌, refl, arith}
use Rattle.event_loops.specs.inside.Searching.{IsPair}
use Rattle.event_loops.specs.inside.Tracing.{IsAllowed}
use Rattle.event_loops.proofs.by_events.loop_by_events.Goals as goal

pub find_pair-requires-clause-runs : goal.find_pair-requires-clause-runs
find_pair-requires-clause-runs g c = rw c.in_ok-lead.ensures.net (record { live = c.requires.live; inputs = c.requires.inputs })

pub repeated_loop-requires-clause-runs : goal.repeated_loop-requires-clause-runs
repeated_loop-requires-clause-runs g c = record { live = c.requires.live; inputs = c.requires.inputs }

pub repeated_loop-requires-clause-ready : goal.repeated_loop-requires-clause-ready
repeated_loop-requires-clause-ready g c = record { fresh = c.in_ok-restart.ensures.stage; most_is = c.in_ok-restart.ensures.most }

pub traced_loop-requires-clause-traced : goal.traced_loop-requires-clause-traced
traced_loop-requires-clause-traced g c =
    let allowed : IsAllowed (g.F.Firing.net c.args.wired.now.net.now) c.args.states c.in_ok-pair.pair.later c.find_pair.new.trace.moments.items c.find_pair.new.trace.starts.items =
    rw c.in_ok-lead.ensures.net at c.in_ok-pair.ensures.traced c.in_ok-pair.pair.later (c.if-ends_at.ensures.0 refl) in
    allowed.trace

pub traced_loop-requires-clause-few : goal.traced_loop-requires-clause-few
traced_loop-requires-clause-few g c =
    let allowed : IsAllowed (g.F.Firing.net c.args.wired.now.net.now) c.args.states c.in_ok-pair.pair.later c.find_pair.new.trace.moments.items c.find_pair.new.trace.starts.items =
    rw c.in_ok-lead.ensures.net at c.in_ok-pair.ensures.traced c.in_ok-pair.pair.later (c.if-ends_at.ensures.0 refl) in
    allowed.few

pub returns-then-ends_at-clause-found : goal.returns-then-ends_at-clause-found
returns-then-ends_at-clause-found g c =
    let allowed : IsAllowed (g.F.Firing.net c.args.wired.now.net.now) c.args.states c.in_ok-pair.pair.later c.find_pair.new.trace.moments.items c.find_pair.new.trace.starts.items =
    rw c.in_ok-lead.ensures.net at c.in_ok-pair.ensures.traced c.in_ok-pair.pair.later (c.if-ends_at.ensures.0 refl) in
    c.in_ok-table.ensures c.args.states allowed.number

pub repeated_loop-requires-clause-period : goal.repeated_loop-requires-clause-period
repeated_loop-requires-clause-period g c =
    let found : IsPair (g.F.Firing.net c.args.wired.now.net.now) c.in_ok-pair.pair = rw c.in_ok-lead.ensures.net at c.in_ok-pair.ensures.found in
    let there : c.in_ok-pair.pair.earlier + (c.in_ok-pair.pair.later - c.in_ok-pair.pair.earlier) ≡ c.in_ok-pair.pair.later = omega (arith, found.order) in
    (c.in_ok-pair.pair.earlier, rw there found)
