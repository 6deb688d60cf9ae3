use Rattle.std.proofs.Common.{◌≡◌}
use Rattle.covers.specs.Searches.{IsSearched}
use Rattle.test_covers.proofs.whole_tests.learn.Given as goal

abbrev pub invariant-loop-row : goal.invariant-loop-row
invariant-loop-row l = record { searched : IsSearched l.search; order : l.search.order ≡ l.initial.search.order }
