use Rattle.std.proofs.Common.{◌+◌, ◌≤◌, None, List, length, take, add-one, sym, subst, arith}
use Rattle.std.specs.Prelude.{slice_index_or}
use Rattle.sd_base.specs.Net.{channel_at}
use Rattle.covers.specs.declared.lattice.Axis.{Axis}
use Rattle.pareto_search.specs.inside.Vectors.{AreAxesOf, IsAxisOf}
use Rattle.pareto_search.proofs.CornersGiveAxes.{axes-push, corner-length}
use Rattle.pareto_search.proofs.grid.lattice_of.Goals as goal

pub loop-channel-preserved : goal.loop-channel-preserved
loop-channel-preserved g c =
    let net = g.F.Firing.net c.args.net.now in
    let ds = c.args.corner.now.capacities in
    let i = c.loop-channel.channel in
    let long : length ds ≤ length net.channels = corner-length net.channels ds c.requires in
    let is : IsAxisOf (channel_at net i) (slice_index_or ds i None) c.axis_of-axis.result = rw c.as_slice.ensures at c.axis_of-axis.ensures in
    subst (λ (axes : List Axis). AreAxesOf net.channels (take (i + 1) ds) axes) (sym c.in_ok-push.ensures.ok)
    (rw add-one (axes-push net.channels ds c.loop-channel.axes i c.axis_of-axis.result (omega arith) long is c.loop-channel.invariant))

pub overflow_cast-channel : goal.overflow_cast-channel
overflow_cast-channel g c =
    let net = g.F.Firing.net c.args.net.now in
    let long : length c.args.corner.now.capacities ≤ length net.channels = corner-length net.channels c.args.corner.now.capacities c.requires in
    omega arith

pub axis_of-axis-requires : goal.axis_of-axis-requires
axis_of-axis-requires g c =
    let net = g.F.Firing.net c.args.net.now in
    let long : length c.args.corner.now.capacities ≤ length net.channels = corner-length net.channels c.args.corner.now.capacities c.requires in
    omega arith
