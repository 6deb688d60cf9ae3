-- Closed walks of ways are closed walks of ways of a file of which each way is one.
use Rattle.std.proofs.Common.{◌≡◌, ℕ, List, [], ◌∷◌, Some, subst, ap}
use Rattle.std.specs.Prelude.{false, slice_get}
use Rattle.sd_base.specs.declared.tables.ScenarioFile.{ScenarioFile}
use Rattle.sd_base.specs.declared.tables.ScenarioRow.{ScenarioRow}
use Rattle.sd_base.specs.declared.tables.StateRow.{StateRow}
use Rattle.sd_base.specs.Net.{IsRepetitionOf}
use Rattle.sd_base.specs.FileNet.{net_of}
use Rattle.token_matrix.specs.Stamps.{first_of}
use Rattle.automaton.specs.WorstRates.{IsSuccessor}
use Rattle.token_matrix.specs.Ways.{IsWay}
use Rattle.bounded_scenarios.proofs.TourLists.{IsLeg, IsTour, LeadTo}

-- a way of a scenario of the first file, of whose channels P holds, is one of the second file, by the numbers of its tokens
pub record StandsFor (P : ℕ → List ℕ → Type 0) (file other : ScenarioFile) (to : ℕ → ℕ) (k : ℕ) (row : ScenarioRow) (gamma : List ℕ) : Type 0 where
  pub row' : ScenarioRow
  pub at : slice_get other.scenarios k ≡ Some row'
  pub gives : IsRepetitionOf row'.graph gamma
  pub way : (p s e : ℕ) (cs : List ℕ) → P k cs → IsWay (net_of row.graph gamma false) (first_of file.shared row.graph) p s e cs →
      IsWay (net_of row'.graph gamma false) (first_of other.shared row'.graph) (to p) (to s) e cs

module _ (P : ℕ → List ℕ → Type 0) (file other : ScenarioFile) (to : ℕ → ℕ) (states : file.states ≡ other.states)
    (stands : (k : ℕ) (row : ScenarioRow) (gamma : List ℕ) → slice_get file.scenarios k ≡ Some row → IsRepetitionOf row.graph gamma → StandsFor P file other to k row gamma) where
  pub leg-maps : (q p s e : ℕ) → IsLeg P file q p s e → IsLeg P other q (to p) (to s) e
  leg-maps q p s e leg =
      let one = stands leg.state.scenario leg.row leg.gamma leg.runs leg.gives in
      record {
        state = leg.state;
        at = subst (λ (ss : List StateRow). slice_get ss q ≡ Some leg.state) states leg.at;
        row = one.row';
        runs = one.at;
        gamma = leg.gamma;
        gives = one.gives;
        channels = leg.channels;
        way = one.way p s e leg.channels leg.good leg.way;
        good = leg.good;
      }

  pub tour-maps : (rs : List ℕ) (q p r s w : ℕ) → IsTour P file q p rs r s w → IsTour P other q (to p) rs r (to s) w
  tour-maps [] q p r s w (same, also, none) = (same, ap to also, none)
  tour-maps (next ∷ rs) q p r s w (m, e, v, goes, leg, more, is) =
      (to m, e, v, subst (λ (ss : List StateRow). IsSuccessor ss q next) states goes, leg-maps q p m e leg, tour-maps rs next m r s v more, is)

  pub lead-maps : (rs : List ℕ) (q r : ℕ) → LeadTo file q rs r → LeadTo other q rs r
  lead-maps [] q r same = same
  lead-maps (next ∷ rs) q r (goes, more) = (subst (λ (ss : List StateRow). IsSuccessor ss q next) states goes, lead-maps rs next r more)
