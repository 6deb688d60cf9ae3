use Rattle.std.proofs.Common.{false, take}
use Rattle.sd_base.specs.FileNet.{net_of}
use Rattle.token_matrix.specs.Stamps.{first_of}
use Rattle.entry_ways.specs.WayMarks.{AreWayMarks}
use Rattle.entry_ways.proofs.marking.mark_ways.Given as goal

-- the marks of the entries so far
abbrev pub invariant-loop-entry : goal.invariant-loop-entry
invariant-loop-entry l = AreWayMarks (net_of l.graph l.gamma false) (first_of l.shared l.graph) (take l.entry-index l.entries) l.fn.marks l.marks
