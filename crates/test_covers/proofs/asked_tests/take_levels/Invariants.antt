use Rattle.std.proofs.Common.{◌≡◌}
use Rattle.covers.specs.declared.search.Order.TheVariants.{Storage}
use Rattle.covers.specs.Searches.{IsSearched}
use Rattle.test_covers.proofs.asked_tests.take_levels.Given as goal

abbrev pub invariant-loop-turn : goal.invariant-loop-turn
invariant-loop-turn g l = record { searched : IsSearched l.search; order : l.search.order ≡ Storage }
