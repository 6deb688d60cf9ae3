-- The repetition vectors of scenarios, one after another.
use Rattle.std.proofs.Common.{◌≡◌, ℕ, ◌+◌, ◌≤◌, ◌<◌, Some, List, [], ◌∷◌, ◌++◌, length, ⊎_elim, refl, subst, arith}
use Rattle.std.specs.Prelude.{Result, Ok, Err, slice_get}
use Rattle.std.proofs.lemmas.Bool.{cases_lt}
use Rattle.std.proofs.lemmas.List.{length-append}
use Rattle.std.proofs.lemmas.Option.{slice_get_within}
use Rattle.sd_base.specs.declared.tables.GraphFile.{GraphFile}
use Rattle.sd_base.specs.declared.tables.ScenarioFile.{ScenarioFile}
use Rattle.sd_base.specs.declared.tables.ScenarioRow.{ScenarioRow}
use Rattle.sd_base.specs.Tables.{KeepsRules}
use Rattle.sd_base.proofs.ElementsKeepPlaces.{get-left}
use Rattle.balance.specs.declared.refusal.BalanceError.{BalanceError}
use Rattle.balance.specs.declared.refusal.BalanceError.TheVariants as causes
use Rattle.balance.specs.Repetition.{HasOneAnswer, IsRefusal, IsRound}
use Rattle.bounded_scenarios.proofs.JoinedListsSplit.{at-right}
use Rattle.scenario_storage.specs.inside.Levels.{AreRounds}

pub record AreRoundsTo (file : ScenarioFile) (n : ℕ) (gammas : List (List ℕ)) : Type 0 where
  pub all : length gammas ≡ n
  pub each : (s : ℕ) (row : ScenarioRow) → s < n → slice_get file.scenarios s ≡ Some row → (gamma : List ℕ) × (slice_get gammas s ≡ Some gamma) × IsRound row.graph gamma

pub rounds-more : (file : ScenarioFile) (n : ℕ) (gammas : List (List ℕ)) (row : ScenarioRow) (gamma : List ℕ) → AreRoundsTo file n gammas →
    slice_get file.scenarios n ≡ Some row → IsRound row.graph gamma → AreRoundsTo file (n + 1) (gammas ++ gamma ∷ [])
rounds-more file n gammas row gamma are at is = record {
  all = omega (arith, are.all, length-append gammas (gamma ∷ []));
  each = λ s other below there.
      ⊎_elim
      (λ (before : s < n). let g = are.each s other before there in (g.0, get-left gammas (gamma ∷ []) s g.0 g.1, g.2))
      (λ (past : n ≤ s).
      let here : length gammas + 0 ≡ s = omega (arith, below, past, are.all) in
      let first : n ≡ s = omega (arith, below, past) in
      let mine : slice_get file.scenarios s ≡ Some row = subst (λ (k : ℕ). slice_get file.scenarios k ≡ Some row) first at in
      let same : row ≡ other = cc in (
        gamma,
        subst (λ (k : ℕ). slice_get (gammas ++ gamma ∷ []) k ≡ Some gamma) here (at-right gammas (gamma ∷ []) 0 gamma refl),
        subst (λ (r : ScenarioRow). IsRound r.graph gamma) same is,
      ))
      (cases_lt s n);
}

pub rounds-all : (file : ScenarioFile) (n : ℕ) (gammas : List (List ℕ)) → length file.scenarios ≤ n → n ≤ length file.scenarios → AreRoundsTo file n gammas → AreRounds file gammas
rounds-all file n gammas past within are = record {
  all = omega (arith, past, within, are.all);
  each = λ s row at. are.each s row (let low = slice_get_within file.scenarios s row at in omega (arith, low, past)) at;
}

-- a graph with a round has no refusal but want of memory
pub never-refused : HasOneAnswer → (g : GraphFile) (gamma : List ℕ) (e : BalanceError) → KeepsRules g → IsRound g gamma → IsRefusal g e → (e ≡ causes.NoMemory → ⊥) → ⊥
never-refused one g gamma e rules round refused other =
    let same : ◌≡◌ {A = Result (List ℕ) BalanceError} (Ok gamma) (Err e) = one g rules (Ok gamma) (Err e) round refused (λ is. cc) (λ is. other (let it : e ≡ causes.NoMemory = cc in it)) in
    cc
