use Rattle.std.proofs.Common.{◌≡◌, length, drop, arith}
use Rattle.std.proofs.lemmas.List.{take_at}
use Rattle.event_loops.specs.inside.Collecting.{AddsStarts}
use Rattle.event_loops.proofs.TracesFollowEvents.{before-counts, before-fewer, trace-next}
use Rattle.event_loops.proofs.trace.Trace.add.Goals as goal

pub add_starts-requires-clause-fewer : goal.add_starts-requires-clause-fewer
add_starts-requires-clause-fewer g c =
    rw c.as_mut_slice.ensures.value (before-fewer (g.F.Firing.net c.args.engine.now.net.now) (g.met.F.Firing.lawful c.args.engine.now.net.now) c.requires.inputs c.args.engine.now.moment c.args.self.now.moments.items c.args.self.now.starts.items c.requires.before)

pub add_starts-requires-clause-before : goal.add_starts-requires-clause-before
add_starts-requires-clause-before g c =
    rw c.as_mut_slice.ensures.value (before-counts (g.F.Firing.net c.args.engine.now.net.now) (g.met.F.Firing.lawful c.args.engine.now.net.now) c.requires.inputs c.args.engine.now.moment c.args.self.now.moments.items c.args.self.now.starts.items c.requires.before)

pub returns-in_ok-add_starts-clause-few : goal.returns-in_ok-add_starts-clause-few
returns-in_ok-add_starts-clause-few g c few =
    let adds : AddsStarts (g.F.Firing.net c.args.engine.now.net.now) c.args.engine.now.moment c.args.self.now.starts.items c.add_starts.new.starts = rw c.as_mut_slice.ensures.value at c.in_ok-add_starts.ensures in
    let size : length c.add_starts.new.starts ≡ c.args.self.now.starts.len = omega (arith, c.add_starts.auto.starts, c.as_mut_slice.ensures.len) in
    let back = take_at c.add_starts.new.starts (drop (length c.add_starts.new.starts) c.args.self.now.starts.items) c.args.self.now.starts.len size in
    rw back (trace-next (g.F.Firing.net c.args.engine.now.net.now) (g.met.F.Firing.lawful c.args.engine.now.net.now) c.requires.inputs c.args.engine.now.moment c.args.self.now.moments.items c.push.new.self.items c.args.self.now.starts.items c.add_starts.new.starts
    c.requires.before (rw c.moment.ensures at c.in_ok-push.ensures.items) adds)
