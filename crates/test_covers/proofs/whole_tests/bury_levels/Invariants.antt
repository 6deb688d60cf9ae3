use Rattle.std.proofs.Common.{◌≡◌}
use Rattle.covers.specs.declared.search.Order.TheVariants.{Storage}
use Rattle.covers.specs.Searches.{IsSearched}
use Rattle.test_covers.proofs.whole_tests.bury_levels.Given as goal

abbrev pub invariant-levels : goal.invariant-levels
invariant-levels l = record { searched : IsSearched l.search; order : l.search.order ≡ Storage }
