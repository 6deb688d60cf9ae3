use Rattle.std.proofs.Common.{List, ◌++◌, take}
use Rattle.covers.specs.declared.lattice.Lattice.{Lattice}
use Rattle.covers.specs.Searches.{IsSearched}
use Rattle.walks.specs.declared.telling.Telling.{Telling}
use Rattle.pareto_search.specs.inside.Firsts.{IsSlower}
use Rattle.pareto_search.proofs.first.add_slower.Given as goal

abbrev pub invariant-loop-telling : goal.invariant-loop-telling
invariant-loop-telling l = record {
  searched : IsSearched l.slower;
  added : (lattice : Lattice) (ts : List Telling) → IsSlower lattice l.due ts l.initial.slower → IsSlower lattice l.due (ts ++ take l.telling-index l.tellings) l.slower;
}
