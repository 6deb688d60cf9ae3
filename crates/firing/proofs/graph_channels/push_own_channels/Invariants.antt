use Rattle.std.proofs.Common.{◌≡◌, ◌++◌, map, drop}
use Rattle.sd_base.specs.FileNet.{own_channels_from}
use Rattle.firing.proofs.graph_channels.push_own_channels.Given as goal

-- what is pushed and what is left to push make up the whole
abbrev pub invariant-loop-i : goal.invariant-loop-i
invariant-loop-i g l =
    map g.C.NetChannel.plain l.channels.items ++ own_channels_from l.no_overlap l.graph.channels l.i (drop l.i l.graph.actors)
    ≡ map g.C.NetChannel.plain l.initial.channels.items ++ own_channels_from l.no_overlap l.graph.channels 0 l.graph.actors
