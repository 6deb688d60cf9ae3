use Rattle.std.proofs.Common.{◌≡◌, ℕ, ◌<◌, Some}
use Rattle.std.specs.Prelude.{slice_get}
use Rattle.balance.specs.declared.search.Found.{Found}
use Rattle.balance.proofs.way.place_of.Given as goal

abbrev pub invariant-loop-place : goal.invariant-loop-place
invariant-loop-place l = (k : ℕ) (x : Found) → k < l.place → slice_get l.found k ≡ Some x → x.actor ≡ l.actor → ⊥
