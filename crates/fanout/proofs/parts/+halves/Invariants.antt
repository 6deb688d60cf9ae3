use Rattle.std.proofs.Common.{◌+◌, ◌*◌}
use Rattle.fanout.proofs.parts.+halves.Given as goal

abbrev pub decreases-both_parts : goal.decreases-both_parts
decreases-both_parts g l = 4 * l.place.halvings + 3

abbrev pub decreases-both_parts-join_mut+arg2 : goal.decreases-both_parts-join_mut+arg2
decreases-both_parts-join_mut+arg2 g l = 4 * l.place.halvings + 1

abbrev pub decreases-both_parts-join_mut+arg3 : goal.decreases-both_parts-join_mut+arg3
decreases-both_parts-join_mut+arg3 g l = 4 * l.next.halvings + 1

abbrev pub decreases-part : goal.decreases-part
decreases-part g l = 4 * l.place.halvings
