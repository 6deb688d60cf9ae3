use Rattle.std.proofs.Common.{false, List, length, take, sym, subst, ◌∙◌}
use Rattle.std.specs.Prelude.{slice_index_or}
use Rattle.std.proofs.lemmas.List.{take_more}
use Rattle.sd_base.specs.FileNet.{net_of}
use Rattle.token_matrix.specs.Stamps.{first_of}
use Rattle.entry_ways.specs.declared.marking.EntryPlace.{EntryPlace}
use Rattle.entry_ways.specs.WayMarks.{AreWayMarks}
use Rattle.entry_ways.proofs.GraphChains.{apart, enough, few-shared, longest-by, traceable, way-by}
use Rattle.entry_ways.proofs.MarksAddUp.{entry-marked}
use Rattle.entry_ways.proofs.marking.mark_ways.Goals as goal

pub firsts_of-requires : goal.firsts_of-requires
firsts_of-requires c = few-shared c.args.shared.now c.args.graph.now c.args.gamma.now c.requires.rules c.requires.gamma c.requires.within

pub invariant_of-chains : goal.invariant_of-chains
invariant_of-chains c = record {
  traceable = traceable c.args.shared.now c.args.graph.now c.args.gamma.now c.requires.rules c.requires.kind c.in_ok-firsts.firsts c.in_ok-firsts.ensures _ c.in_ok-net.ensures c.requires.timed;
}

pub mark_entry-requires-clause-apart : goal.mark_entry-requires-clause-apart
mark_entry-requires-clause-apart c = apart c.args.shared.now c.args.graph.now c.args.gamma.now c.requires.rules c.requires.kind c.in_ok-firsts.firsts c.in_ok-firsts.ensures _
    c.in_ok-net.ensures c.requires.shares

pub mark_entry-requires-clause-way : goal.mark_entry-requires-clause-way
mark_entry-requires-clause-way c =
    let none : EntryPlace = record { column = 0; row = 0 } in
    way-by c.args.shared.now c.args.graph.now c.args.gamma.now c.requires.rules c.requires.kind c.in_ok-firsts.firsts c.in_ok-firsts.ensures _ c.in_ok-net.ensures
    (slice_index_or c.args.entries.now c.loop-entry.entry-index none) (c.requires.ways c.loop-entry.entry-index none c.loop-entry-test.true)

pub mark_entry-requires-clause-wide : goal.mark_entry-requires-clause-wide
mark_entry-requires-clause-wide c = enough c.args.shared.now c.args.graph.now c.args.gamma.now c.requires.rules c.requires.kind c.in_ok-firsts.firsts c.in_ok-firsts.ensures _ c.in_ok-net.ensures
    (length c.loop-entry.marks) (c.loop-entry.invariant.long ∙ c.requires.long)

pub loop-entry-preserved : goal.loop-entry-preserved
loop-entry-preserved c =
    let none : EntryPlace = record { column = 0; row = 0 } in
    let entry : EntryPlace = slice_index_or c.args.entries.now c.loop-entry.entry-index none in
    let way = c.in_ok-mark_entry-in-Live.ensures in
    subst (λ (l : List EntryPlace). AreWayMarks (net_of c.args.graph.now c.args.gamma.now false) (first_of c.args.shared.now c.args.graph.now) l c.args.marks.now c.mark_entry.new.marks)
    (sym (take_more c.args.entries.now c.loop-entry.entry-index none c.loop-entry-test.true))
    (entry-marked (net_of c.args.graph.now c.args.gamma.now false) (first_of c.args.shared.now c.args.graph.now) (take c.loop-entry.entry-index c.args.entries.now) entry way.0
    c.args.marks.now c.loop-entry.marks c.mark_entry.new.marks c.loop-entry.invariant
    (longest-by c.args.shared.now c.args.graph.now c.args.gamma.now c.requires.rules c.requires.kind c.in_ok-firsts.firsts c.in_ok-firsts.ensures _ c.in_ok-net.ensures entry.column
    entry.row way.0 way.1) way.2)
