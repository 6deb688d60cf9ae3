-- Paths of an automaton, the stamps along them, and the worst rate.
use Rattle.std.specs.Prelude.{◌≡◌, ℕ, ◌+◌, ◌*◌, ◌≤◌, List, [], ◌∷◌, length, replicate, slice_get, Some}
use Rattle.std.specs.Int.{IsGcd}
use Rattle.sd_base.specs.Net.{IsRepetitionOf}
use Rattle.sd_base.specs.declared.tables.ScenarioFile.{ScenarioFile}
use Rattle.sd_base.specs.declared.tables.ScenarioRow.{ScenarioRow}
use Rattle.sd_base.specs.declared.tables.StateRow.{StateRow}
use Rattle.sd_base.specs.Scenarios.{shared_count}
use Rattle.token_matrix.specs.Stamps.{AreStampsOf}
use Rattle.token_matrix.specs.Matrices.{greatest}

-- r is a successor of state q
abbrev pub IsSuccessor : List StateRow → ℕ → ℕ → Type 0
IsSuccessor states q r = (s : StateRow) × (slice_get states q ≡ Some s) × (p : ℕ) × (slice_get s.next p ≡ Some r)

-- after state q these states follow, each a successor of the one before
abbrev pub Follow : List StateRow → ℕ → List ℕ → Type 0
Follow states q [] = Unit {0}
Follow states q (r ∷ rs) = IsSuccessor states q r × Follow states r rs

-- a path: it begins with the initial state, and each state leads on to the one after it
abbrev pub IsStatePath : ScenarioFile → List ℕ → Type 0
IsStatePath file [] = Unit {0}
IsStatePath file (q ∷ qs) = (q ≡ file.initial) × Follow file.states q qs

-- a round of state q's scenario takes the stamps x to y
abbrev pub Carries : ScenarioFile → ℕ → List ℕ → List ℕ → Type 0
Carries file q x y =
    (s : StateRow) × (slice_get file.states q ≡ Some s) × (row : ScenarioRow) × (slice_get file.scenarios s.scenario ≡ Some row)
    × (gamma : List ℕ) × IsRepetitionOf row.graph gamma × AreStampsOf file.shared row.graph gamma x y

-- a round of each of these states in turn does
abbrev pub RunsTo : ScenarioFile → List ℕ → List ℕ → List ℕ → Type 0
RunsTo file x [] y = y ≡ x
RunsTo file x (q ∷ qs) y = (z : List ℕ) × Carries file q x z × RunsTo file z qs y

-- the stamps with which a path begins
abbrev pub zeros : ScenarioFile → List ℕ
zeros file = replicate (shared_count file.shared) 0

-- up to b, no path of n states takes longer than n rounds at the rate l/w, and for each n some path takes as long
pub record WorstBy (file : ScenarioFile) (l w b : ℕ) : Type 0 where
  pub above : (qs y : List ℕ) → IsStatePath file qs → RunsTo file (zeros file) qs y → l * greatest y ≤ w * length qs + b
  pub reached : (n : ℕ) → (qs : List ℕ) × (y : List ℕ) × IsStatePath file qs × (length qs ≡ n) × RunsTo file (zeros file) qs y
      × (w * n ≤ l * greatest y + b)

-- the worst rate of a file is l/w rounds per time unit, in lowest terms
pub record IsWorst (file : ScenarioFile) (l w : ℕ) : Type 0 where
  pub some_round : 1 ≤ l
  pub some_time : 1 ≤ w
  pub lowest : IsGcd l w 1
  pub slack : ℕ
  pub bounds : WorstBy file l w slack
