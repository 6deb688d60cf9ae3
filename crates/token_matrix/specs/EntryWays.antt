-- The ways of the entries of a scenario's matrix.
use Rattle.std.specs.Prelude.{◌≡◌, ℕ, ◌≤◌, ◌<◌, false, List, Option, Some, sum}
use Rattle.sd_base.specs.declared.limits.TheConstants.{ROUND}
use Rattle.sd_base.specs.declared.tables.GraphFile.{GraphFile}
use Rattle.sd_base.specs.declared.tables.Kind.TheVariants.{Sdf}
use Rattle.sd_base.specs.declared.tables.SharedRow.{SharedRow}
use Rattle.sd_base.specs.FileNet.{net_of}
use Rattle.sd_base.specs.Net.{IsRepetitionOf}
use Rattle.sd_base.specs.Scenarios.{Shares, shared_count}
use Rattle.sd_base.specs.Tables.{IsTimed, KeepsWideRules}
use Rattle.token_matrix.specs.Matrices.{IsMatrix, entry_at}
use Rattle.token_matrix.specs.Stamps.{first_of}
use Rattle.token_matrix.specs.Ways.{IsWay}

-- a graph whose rounds carry stamps, with its repetition vector
pub record CarriesStamps (shared : List SharedRow) (g : GraphFile) (gamma : List ℕ) : Type 0 where
  pub rules : KeepsWideRules g
  pub kind : g.kind ≡ Sdf
  pub timed : IsTimed g
  pub gives : IsRepetitionOf g gamma
  pub small : sum gamma ≤ ROUND
  pub shares : Shares shared g

-- an entry in the row of token q and the column of token p has a way of its time
abbrev pub HasItsWay : List SharedRow → GraphFile → List ℕ → List (List (Option ℕ)) → ℕ → ℕ → Type 0
HasItsWay shared g gamma rows p q = (e : ℕ) → entry_at rows q p ≡ Some e → (cs : List ℕ) × IsWay (net_of g gamma false) (first_of shared g) p q e cs

-- and a way has an entry, of no less time
abbrev pub HasNoLongerWay : List SharedRow → GraphFile → List ℕ → List (List (Option ℕ)) → ℕ → ℕ → Type 0
HasNoLongerWay shared g gamma rows p q = (e : ℕ) (cs : List ℕ) → IsWay (net_of g gamma false) (first_of shared g) p q e cs → (d : ℕ) × (entry_at rows q p ≡ Some d) × (e ≤ d)

-- so it is with each entry of a scenario's matrix
abbrev pub EntriesAreLongestWays : Type 0
EntriesAreLongestWays =
    (shared : List SharedRow) (g : GraphFile) (gamma : List ℕ) (rows : List (List (Option ℕ))) (p q : ℕ) → CarriesStamps shared g gamma → IsMatrix shared g gamma rows →
    p < shared_count shared → q < shared_count shared → HasItsWay shared g gamma rows p q × HasNoLongerWay shared g gamma rows p q
