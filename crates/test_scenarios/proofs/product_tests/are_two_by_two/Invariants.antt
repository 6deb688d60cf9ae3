use Rattle.std.proofs.Common.{◌≡◌, ℕ, ◌<◌, [], length, Some}
use Rattle.std.specs.Prelude.{slice_get, slice_index_or}
use Rattle.sd_base.specs.declared.tables.StateRow.{StateRow}
use Rattle.test_scenarios.proofs.product_tests.are_two_by_two.Given as goal

abbrev pub invariant-loop-place : goal.invariant-loop-place
invariant-loop-place l = (q : ℕ) (s : StateRow) → q < l.place → slice_get l.states q ≡ Some s → length (slice_index_or l.matrices s.scenario []) ≡ 2
