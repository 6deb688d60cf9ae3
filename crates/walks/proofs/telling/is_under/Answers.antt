use Rattle.std.proofs.Common.{◌≡◌, ◌≤◌, ◌<◌, ⊎_elim, length, rules, arith}
use Rattle.std.specs.Prelude.{slice_index}
use Rattle.std.proofs.lemmas.Bool.{cases_lt}
use Rattle.std.proofs.lemmas.List.{get_or_past}
use Rattle.walks.proofs.telling.is_under.Goals as goal

pub returns : goal.returns
returns c = (
  λ _ k. ⊎_elim
      (λ (below : k < length c.args.lesser.now). c.loop-place.invariant k (omega (arith, below)))
      (λ (past : length c.args.lesser.now ≤ k). let none : slice_index c.args.lesser.now k ≡ 0 = get_or_past c.args.lesser.now k 0 past in omega (arith, none))
      (cases_lt k (length c.args.lesser.now)),
  λ _. search rules,
)
