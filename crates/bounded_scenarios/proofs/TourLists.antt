-- Walks of ways through the scenarios of a file: from a token before a state to a token before another, by the states that come next.
use Rattle.std.specs.Prelude.{◌≡◌, ℕ, ◌+◌, false, List, [], ◌∷◌, length, Some, slice_get}
use Rattle.sd_base.specs.declared.tables.ScenarioFile.{ScenarioFile}
use Rattle.sd_base.specs.declared.tables.ScenarioRow.{ScenarioRow}
use Rattle.sd_base.specs.declared.tables.StateRow.{StateRow}
use Rattle.sd_base.specs.Net.{IsRepetitionOf}
use Rattle.sd_base.specs.FileNet.{net_of}
use Rattle.sd_base.specs.Scenarios.{shared_count}
use Rattle.token_matrix.specs.Stamps.{AreStampsOf, first_of}
use Rattle.automaton.specs.WorstRates.{IsSuccessor}
use Rattle.token_matrix.specs.Ways.{IsWay}

-- a round of state q's scenario has a way from token p to token s that takes so long, and P holds of the scenario's number and of
-- the channels on which the way takes tokens
pub record IsLeg (P : ℕ → List ℕ → Type 0) (file : ScenarioFile) (q p s e : ℕ) : Type 0 where
  pub state : StateRow
  pub at : slice_get file.states q ≡ Some state
  pub row : ScenarioRow
  pub runs : slice_get file.scenarios state.scenario ≡ Some row
  pub gamma : List ℕ
  pub gives : IsRepetitionOf row.graph gamma
  pub channels : List ℕ
  pub way : IsWay (net_of row.graph gamma false) (first_of file.shared row.graph) p s e channels
  pub good : P state.scenario channels

-- ways from token p before state q to token s before state r, through these states that come next, take w together
abbrev pub IsTour : (ℕ → List ℕ → Type 0) → ScenarioFile → ℕ → ℕ → List ℕ → ℕ → ℕ → ℕ → Type 0
IsTour P file q p [] r s w = (q ≡ r) × (p ≡ s) × (w ≡ 0)
IsTour P file q p (next ∷ rs) r s w =
    (m : ℕ) × (e : ℕ) × (v : ℕ) × IsSuccessor file.states q next × IsLeg P file q p m e × IsTour P file next m rs r s v × (w ≡ e + v)

-- the states that come next after q lead to r
abbrev pub LeadTo : ScenarioFile → ℕ → List ℕ → ℕ → Type 0
LeadTo file q [] r = q ≡ r
LeadTo file q (next ∷ rs) r = IsSuccessor file.states q next × LeadTo file next rs r

-- the states that run from q on, with these that come next
abbrev pub run_from : ℕ → List ℕ → List ℕ
run_from q [] = []
run_from q (next ∷ rs) = q ∷ run_from next rs

-- the stamps after a round of each scenario exist, for all stamps before it
pub record HaveStamps (file : ScenarioFile) : Type 0 where
  pub row_of : (q : ℕ) (s : StateRow) → slice_get file.states q ≡ Some s → (row : ScenarioRow) × (slice_get file.scenarios s.scenario ≡ Some row)
  pub stamps : (k : ℕ) (row : ScenarioRow) → slice_get file.scenarios k ≡ Some row → (gamma : List ℕ) × IsRepetitionOf row.graph gamma
      × ((x : List ℕ) → length x ≡ shared_count file.shared → (y : List ℕ) × AreStampsOf file.shared row.graph gamma x y)
