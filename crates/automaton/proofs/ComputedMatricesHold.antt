-- The matrices that are computed are those of the file's scenarios.
use Rattle.std.proofs.Common.{ℕ, ◌≤◌, List, Option}
use Rattle.sd_base.specs.declared.tables.ScenarioFile.{ScenarioFile}
use Rattle.sd_base.specs.Scenarios.{LeadsOn, shared_count}
use Rattle.sd_base.proofs.ElementsKeepPlaces.{get-there}
use Rattle.token_matrix.proofs.SomeToken.{some-token}
use Rattle.automaton.specs.TimedGraphs.{AreComputed, AreMatrices}

module _ (file : ScenarioFile) (matrices : List (List (List (Option ℕ)))) (computed : AreComputed file matrices) where
  pub computed-are : AreMatrices file matrices
  computed-are = record {
    all = computed.all;
    each = λ s row at. let one = computed.each s row at in (one.0, one.1.gives, one.2);
  }

  -- the scenario of the initial state shares some token
  pub computed-share : LeadsOn file → 1 ≤ shared_count file.shared
  computed-share leads =
      let state = get-there file.states file.initial leads.initial in
      let row = get-there file.scenarios state.0.scenario (leads.scenarios file.initial state.0 state.1) in
      let one = computed.each state.0.scenario row.0 row.1 in
      some-token file.shared row.0.graph one.0 one.1 _ one.2
