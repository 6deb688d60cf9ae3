use Rattle.std.proofs.Common.{◌≡◌}
use Rattle.covers.specs.declared.search.Order.TheVariants.{Lexicographic}
use Rattle.covers.specs.Searches.{IsSearched}
use Rattle.test_covers.proofs.whole_tests.bury_vectors.Given as goal

abbrev pub invariant-vectors : goal.invariant-vectors
invariant-vectors l = record { searched : IsSearched l.search; order : l.search.order ≡ Lexicographic }
