use Rattle.std.proofs.Common.{◌≡◌}
use Rattle.covers.specs.Searches.{IsSearched}
use Rattle.test_covers.proofs.whole_tests.bury.Given as goal

abbrev pub invariant-loop-vector : goal.invariant-loop-vector
invariant-loop-vector l = record { searched : IsSearched l.search; order : l.search.order ≡ l.initial.search.order }
