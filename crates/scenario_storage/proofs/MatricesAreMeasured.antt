-- The matrices of the scenarios of a bounded file, one after another.
use Rattle.std.proofs.Common.{◌≡◌, false, ℕ, ◌+◌, ◌*◌, ◌≤◌, ◌<◌, Option, Some, List, [], ◌∷◌, ◌++◌, length, ⊎_elim, sym, subst, arith}
use Rattle.std.specs.Prelude.{Result, Ok, Err, IfErr, IfOk, OnOk, slice_get, slice_index_or, sum}
use Rattle.std.proofs.lemmas.Bool.{cases_lt}
use Rattle.std.proofs.lemmas.List.{get_or_append_left, get_or-append-add, length-append, length-map}
use Rattle.std.proofs.lemmas.Option.{slice_get_within}
use Rattle.sd_base.specs.declared.limits.TheConstants.{EDGES, STAMPS}
use Rattle.sd_base.specs.declared.tables.GraphFile.{GraphFile}
use Rattle.sd_base.specs.declared.tables.ScenarioFile.{ScenarioFile}
use Rattle.sd_base.specs.declared.tables.ScenarioRow.{ScenarioRow}
use Rattle.sd_base.specs.declared.tables.SharedRow.{SharedRow}
use Rattle.sd_base.specs.FileNet.{net_of}
use Rattle.sd_base.specs.Net.{IsRepetitionOf}
use Rattle.sd_base.specs.Scenarios.{LeadsOn, shared_count}
use Rattle.sd_base.specs.Untimed.{IsLive}
use Rattle.sd_base.proofs.ElementsKeepPlaces.{get-there, get-map}
use Rattle.token_matrix.specs.Matrices.{IsMatrix}
use Rattle.token_matrix.specs.MatrixRefusals.{IsMatrixRefusal}
use Rattle.token_matrix.specs.declared.making.MatrixError.{MatrixError}
use Rattle.token_matrix.specs.declared.making.MatrixError.TheVariants.{Limit, Blocked, NoMemory}
use Rattle.automaton.specs.declared.graph.Edge.{Edge}
use Rattle.automaton.specs.TimedGraphs.{AreKept, AreSized, IsRun, edges_from}
use Rattle.automaton.proofs.KeptMatricesSuffice.{kept-edges, kept-more, kept-sized, matrices-sized}
use Rattle.bounded_scenarios.specs.BoundedFiles.{bounded_file, bounded_graph, bounded_scenario}
use Rattle.bounded_scenarios.specs.Boundings.{CanBeMeasured, GivesMatrix}
use Rattle.bounded_scenarios.specs.StorageRates.{RunsOn, bounded_net}
use Rattle.scenario_storage.specs.ScenarioPoints.{HasTooManyEdges}
use Rattle.scenario_storage.specs.inside.Levels.{AreRounds}
use Rattle.scenario_storage.specs.inside.Ratings.{AreAllMatrices, AreKeptMatrices, IsMatrixAnswer, IsMatrixOf, IsScenarioAt}

pub scenario-of : (file : ScenarioFile) (gammas : List (List ℕ)) → AreRounds file gammas → (s : ℕ) → s < length file.scenarios → IsScenarioAt file gammas s
scenario-of file gammas rounds s below =
    let row = get-there file.scenarios s below in
    let r = rounds.each s row.0 row.1 in
    record { row = row.0; at = row.1; gamma = r.0; its = r.1; gives = r.2.least }

-- what `matrix_of` answers
pub matrix-answer : (file : ScenarioFile) (gammas : List (List ℕ)) (ds : List (Option ℕ)) (s : ℕ) (sc : IsScenarioAt file gammas s) →
    sum sc.gamma * shared_count (bounded_file file ds).shared ≤ STAMPS → (r : Result (List (List (Option ℕ))) MatrixError) →
    IfOk r (IsMatrix (bounded_file file ds).shared (bounded_graph file.shared ds sc.row.graph) sc.gamma) → OnOk r
    (IsLive (bounded_net file.shared ds sc.row.graph sc.gamma)) → IfErr r
    (IsMatrixRefusal (bounded_file file ds).shared (bounded_graph file.shared ds sc.row.graph) sc.gamma) → IsMatrixAnswer file gammas ds s r
matrix-answer file gammas ds s sc few (Ok m) matrix live refused = record { scenario = sc; live = live; carries = matrix }
matrix-answer file gammas ds s sc few (Err Limit) matrix live refused = omega (arith, few, refused)
matrix-answer file gammas ds s sc few (Err (Blocked counts lacks)) matrix live refused = record { scenario = sc; lacks = lacks; blocked = refused.1 }
matrix-answer file gammas ds s sc few (Err NoMemory) matrix live refused = tt

-- the matrices of the first scenarios
pub record AreMatricesTo (file : ScenarioFile) (gammas : List (List ℕ)) (ds : List (Option ℕ)) (n : ℕ) (matrices : List (List (List (Option ℕ)))) : Type 0 where
  pub all : length matrices ≡ n
  pub each : (s : ℕ) → s < n → IsMatrixOf file gammas ds s (slice_index_or matrices s [])

pub matrices-more : (file : ScenarioFile) (gammas : List (List ℕ)) (ds : List (Option ℕ)) (n : ℕ) (matrices : List (List (List (Option ℕ)))) (m : List (List (Option ℕ))) →
    AreMatricesTo file gammas ds n matrices → IsMatrixOf file gammas ds n m → AreMatricesTo file gammas ds (n + 1) (matrices ++ m ∷ [])
matrices-more file gammas ds n matrices m are is = record {
  all = omega (arith, are.all, length-append matrices (m ∷ []));
  each = λ s below.
      ⊎_elim
      (λ (before : s < n). subst (IsMatrixOf file gammas ds s) (sym (get_or_append_left matrices (m ∷ []) [] s (omega (arith, before, are.all)))) (are.each s before))
      (λ (past : n ≤ s).
      let here : length matrices + 0 ≡ s = omega (arith, below, past, are.all) in
      let first : n ≡ s = omega (arith, below, past) in
      subst (λ (k : ℕ). IsMatrixOf file gammas ds s (slice_index_or (matrices ++ m ∷ []) k [])) here
      (subst (IsMatrixOf file gammas ds s) (sym (get_or-append-add matrices (m ∷ []) 0 [])) (subst (λ (k : ℕ). IsMatrixOf file gammas ds k m) first is)))
      (cases_lt s n);
}

module _ (file : ScenarioFile) (gammas : List (List ℕ)) (ds : List (Option ℕ)) (n : ℕ) (matrices : List (List (List (Option ℕ)))) (are : AreMatricesTo file gammas ds n matrices) where
  pub runs-before : (t : ℕ) (row : ScenarioRow) → t < n → slice_get file.scenarios t ≡ Some row → RunsOn file ds row
  runs-before t row below at =
      let m = are.each t below in
      let there : slice_get file.scenarios t ≡ Some m.scenario.row = m.scenario.at in
      let same : m.scenario.row ≡ row = cc in
      subst (RunsOn file ds) same (m.scenario.gamma, m.scenario.gives, m.live)

  pub all-matrices : CanBeMeasured file ds → n ≡ length file.scenarios → AreAllMatrices file ds matrices
  all-matrices can past = record { runs = λ s row at. runs-before s row (below s row at) at; are = record { all = omega (arith, many, are.all, past); each = each } }
    where
      many : length (bounded_file file ds).scenarios ≡ length file.scenarios
      many = length-map file.scenarios (bounded_scenario file.shared ds)

      below : (s : ℕ) (row : ScenarioRow) → slice_get file.scenarios s ≡ Some row → s < n
      below s row at = let low = slice_get_within file.scenarios s row at in omega (arith, low, past)

      each : (s : ℕ) (row : ScenarioRow) → slice_get (bounded_file file ds).scenarios s ≡ Some row →
          (gamma : List ℕ) × IsRepetitionOf row.graph gamma × IsMatrix (bounded_file file ds).shared row.graph gamma (slice_index_or matrices s [])
      each s row at =
          let low : s < length file.scenarios = (let b = slice_get_within (bounded_file file ds).scenarios s row at in omega (arith, b, many)) in
          let m = are.each s (omega (arith, low, past)) in
          let there : slice_get (bounded_file file ds).scenarios s ≡ Some (bounded_scenario file.shared ds m.scenario.row) =
          get-map (bounded_scenario file.shared ds) file.scenarios s m.scenario.row m.scenario.at in
          let same : bounded_scenario file.shared ds m.scenario.row ≡ row = cc in
          subst (λ (r : ScenarioRow). (gamma : List ℕ) × IsRepetitionOf r.graph gamma × IsMatrix (bounded_file file ds).shared r.graph gamma (slice_index_or matrices s [])) same
          (m.scenario.gamma, (can.scenarios s m.scenario.row m.scenario.gamma m.scenario.at m.scenario.gives).carries.gives, m.carries)

-- those of them that are kept
pub record AreKeptTo (file : ScenarioFile) (gammas : List (List ℕ)) (ds : List (Option ℕ)) (n : ℕ) (kept : List (List (List (Option ℕ)))) : Type 0 where
  pub matrices : List (List (List (Option ℕ)))
  pub to : AreMatricesTo file gammas ds n matrices
  pub are : AreKept (bounded_file file ds) matrices kept

pub kept-next : (file : ScenarioFile) (gammas : List (List ℕ)) (ds : List (Option ℕ)) (n : ℕ) (kept : List (List (List (Option ℕ)))) (m k : List (List (Option ℕ))) →
    AreKeptTo file gammas ds n kept → IsMatrixOf file gammas ds n m → (IsRun (bounded_file file ds) n → k ≡ m) → AreKeptTo file gammas ds (n + 1) (kept ++ k ∷ [])
kept-next file gammas ds n kept m k are is run = record {
  matrices = are.matrices ++ m ∷ [];
  to = matrices-more file gammas ds n are.matrices m are.to is;
  are = kept-more (bounded_file file ds) are.matrices kept m k are.are (λ its. run (subst (IsRun (bounded_file file ds)) are.to.all its));
}

pub kept-all : (file : ScenarioFile) (gammas : List (List ℕ)) (ds : List (Option ℕ)) (n : ℕ) (kept : List (List (List (Option ℕ)))) → AreKeptTo file gammas ds n kept →
    CanBeMeasured file ds → n ≡ length file.scenarios → AreKeptMatrices file ds kept
kept-all file gammas ds n kept are can past = record { matrices = are.matrices; all = all-matrices file gammas ds n are.matrices are.to can past; are = are.are }

-- what a scenario of the bounded file gives, and what is answered on it, by other names
module _ (shared other : List SharedRow) (g h : GraphFile) (gamma delta : List ℕ) (rows : other ≡ shared) (graphs : h ≡ g) (rounds : delta ≡ gamma) where
  pub moved-to : (P : List SharedRow → GraphFile → List ℕ → Type 0) → P shared g gamma → P other h delta
  moved-to P is = subst (λ (s : List SharedRow). P s h delta) (sym rows) (subst (λ (x : GraphFile). P shared x delta) (sym graphs) (subst (λ (v : List ℕ). P shared g v) (sym rounds) is))

  pub moved-back : (P : List SharedRow → GraphFile → List ℕ → Type 0) → P other h delta → P shared g gamma
  moved-back P is = subst (λ (s : List SharedRow). P s g gamma) rows (subst (λ (x : GraphFile). P other x gamma) graphs (subst (λ (v : List ℕ). P other h v) rounds is))

  pub gives-as : GivesMatrix shared g gamma → GivesMatrix other h delta
  gives-as is =
      subst (λ (s : List SharedRow). GivesMatrix s h delta) (sym rows)
      (subst (λ (x : GraphFile). GivesMatrix shared x delta) (sym graphs) (subst (λ (v : List ℕ). GivesMatrix shared g v) (sym rounds) is))

  pub answers-as : (r : Result (List (List (Option ℕ))) MatrixError) → IfOk r (IsMatrix other h delta) → OnOk r (IsLive (net_of h delta false)) → IfErr r (IsMatrixRefusal other h delta) →
      IfOk r (IsMatrix shared g gamma) × OnOk r (IsLive (net_of g gamma false)) × IfErr r (IsMatrixRefusal shared g gamma)
  answers-as r matrix live refused =
      let P : List SharedRow → GraphFile → List ℕ → Type 0 = λ s x v. IfOk r (IsMatrix s x v) × OnOk r (IsLive (net_of x v false)) × IfErr r (IsMatrixRefusal s x v) in
      subst (λ (s : List SharedRow). P s g gamma) rows
      (subst (λ (x : GraphFile). P other x gamma) graphs (subst (λ (v : List ℕ). P other h v) rounds (matrix, live, refused)))

-- each matrix that is kept has a row for each shared token
pub are-sized : (file : ScenarioFile) (ds : List (Option ℕ)) (kept : List (List (List (Option ℕ)))) → LeadsOn (bounded_file file ds) → AreKeptMatrices file ds kept →
    AreSized (shared_count (bounded_file file ds).shared) kept (bounded_file file ds).states
are-sized file ds kept leads are =
    kept-sized (bounded_file file ds) are.matrices kept (shared_count (bounded_file file ds).shared) are.are (matrices-sized (bounded_file file ds) are.matrices leads are.all.are)

-- the edges by the matrices that are kept are those by all
pub too-many : (file : ScenarioFile) (ds : List (Option ℕ)) (kept : List (List (List (Option ℕ)))) → AreKeptMatrices file ds kept → (bounded : ScenarioFile) →
    bounded ≡ bounded_file file ds → EDGES < length (edges_from (shared_count bounded.shared) 0 kept bounded.states) → HasTooManyEdges file ds
too-many file ds kept are bounded same many =
    let here : EDGES < length (edges_from (shared_count (bounded_file file ds).shared) 0 kept (bounded_file file ds).states) =
    subst (λ (f : ScenarioFile). EDGES < length (edges_from (shared_count f.shared) 0 kept f.states)) same many in
    let by-all = kept-edges (bounded_file file ds) are.matrices kept are.are (shared_count (bounded_file file ds).shared) 0 in
    (are.all.runs, (are.matrices, are.all.are, subst (λ (es : List Edge). EDGES < length es) by-all here))
