-- What is tested of the scenarios of a file one after another holds of all.
use Rattle.std.proofs.Common.{◌≡◌, ◌∙◌, ℕ, ◌+◌, ◌≤◌, ◌<◌, inl, inr, List, Option, Some, length, ap, subst, sym, arith}
use Rattle.std.specs.Prelude.{slice_get}
use Rattle.std.proofs.lemmas.Bool.{cases_lt}
use Rattle.std.proofs.lemmas.Option.{slice_get_within}
use Rattle.sd_base.specs.declared.tables.ScenarioRow.{ScenarioRow}

module _ (P : ScenarioRow → Type 0) (rows : List ScenarioRow) where
  -- it holds of those before place i
  abbrev pub HoldsTo : ℕ → Type 0
  HoldsTo i = (k : ℕ) (row : ScenarioRow) → slice_get rows k ≡ Some row → k < i → P row

  pub holds-more : (i : ℕ) (row : ScenarioRow) → HoldsTo i → slice_get rows i ≡ Some row → P row → HoldsTo (i + 1)
  holds-more i row so_far at here k r is below = elim (cases_lt k i) [
    | inl before ↦ so_far k r is before
    | inr after ↦
        let last : k ≡ i = omega arith in
        let e : ◌≡◌ {A = Option ScenarioRow} (Some row) (Some r) = sym at ∙ ap (slice_get rows) (sym last) ∙ is in
        let same : row ≡ r = cc (e) in
        subst P same here
  ]

  pub holds-all : (i : ℕ) → length rows ≤ i → HoldsTo i → (k : ℕ) (row : ScenarioRow) → slice_get rows k ≡ Some row → P row
  holds-all i whole so_far k row is = let inside = slice_get_within rows k row is in so_far k row is (omega (arith, inside, whole))
