use Rattle.std.proofs.Common.{List, subst, sym}
use Rattle.std.specs.List.{All}
use Rattle.graph_reader.specs.declared.actors.Actor.{Actor}
use Rattle.graph_reader.specs.Sections.{lists_of}
use Rattle.graph_reader.specs.inside.Lists.{AreShort}
use Rattle.graph_reader.proofs.table.timed_table.Goals as goal

pub even_phases-requires : goal.even_phases-requires
even_phases-requires c =
    subst (λ (rows : List Actor). All (λ a. AreShort (lists_of c.args.times.now a)) rows) (sym c.as_slice.ensures) c.requires.short

pub table-requires-clause-short : goal.table-requires-clause-short
table-requires-clause-short c =
    subst (λ (rows : List Actor). All (λ a. AreShort (lists_of c.args.times.now a)) rows) (sym c.as_slice-2.ensures) c.requires.short
