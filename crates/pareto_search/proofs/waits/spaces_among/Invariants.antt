use Rattle.pareto_search.proofs.ListedSpaces.{AreListed}
use Rattle.pareto_search.proofs.waits.spaces_among.Given as goal

abbrev pub invariant-loop-channel : goal.invariant-loop-channel
invariant-loop-channel g l = AreListed (g.F.Firing.net l.net) l.channels l.channel-index l.spaces
