use Rattle.std.proofs.Common.{◌≡◌, not, length}
use Rattle.std.specs.List.{All, find}
use Rattle.graph_reader.specs.declared.actors.Actor.{Actor}
use Rattle.graph_reader.specs.Sections.{is_even, lists_of}
use Rattle.graph_reader.specs.inside.Lists.{AreShort}
use Rattle.graph_reader.proofs.table.uneven_actor.Given as goal

abbrev pub invariant-loop-left : goal.invariant-loop-left
invariant-loop-left l = record {
  same : find (λ (a : Actor). not (is_even l.times a)) l.left ≡ find (λ (a : Actor). not (is_even l.times a)) l.actors;
  short : All (λ a. AreShort (lists_of l.times a)) l.left;
}

abbrev pub decreases-loop-left : goal.decreases-loop-left
decreases-loop-left l = length l.left
