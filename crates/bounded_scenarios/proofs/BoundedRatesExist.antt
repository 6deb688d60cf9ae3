-- A bounded file within the limit of storage has a timed graph and a worst rate, where its scenarios run.
use Rattle.std.proofs.Common.{◌≡◌, ℕ, ◌+◌, ◌*◌, ◌≤◌, ◌<◌, Option, Some, List, length, sum, subst, ◌∙◌, arith, mul-le-mul_left}
use Rattle.std.specs.Prelude.{slice_get}
use Rattle.std.proofs.lemmas.List.{length-map}
use Rattle.std.proofs.Math.Nat.{mul-le-mul_right}
use Rattle.sd_base.specs.declared.limits.TheConstants.{TOKENS}
use Rattle.sd_base.specs.declared.tables.ScenarioFile.{ScenarioFile}
use Rattle.sd_base.specs.declared.tables.ScenarioRow.{ScenarioRow}
use Rattle.sd_base.specs.declared.tables.SharedRow.{SharedRow}
use Rattle.sd_base.specs.Net.{IsRepetitionOf}
use Rattle.sd_base.specs.Scenarios.{ScenarioKeepsRules, shared_count}
use Rattle.sd_base.specs.Tables.{KeepsWideRules}
use Rattle.sd_base.proofs.FileNets.{widened}
use Rattle.sd_base.proofs.ElementsKeepPlaces.{get-there}
use Rattle.sd_base.proofs.RoundsKeepTokens.{one-repetition}
use Rattle.storage.specs.Distributions.{IsDistribution, storage_of}
use Rattle.token_matrix.specs.EntryWays.{CarriesStamps}
use Rattle.token_matrix.proofs.LeftTokens.{count-append}
use Rattle.bounded_scenarios.specs.BoundedFiles.{bounded_file, bounded_graph, bounded_scenario, space_shares}
use Rattle.bounded_scenarios.specs.Boundings.{CanBeBounded, CanBeMeasured, GivesMatrix, RunsUnbounded, looped_tokens}
use Rattle.bounded_scenarios.specs.SharedChannels.{shared_channels}
use Rattle.bounded_scenarios.proofs.BoundedRepetitions.{bounded-repetition}
use Rattle.bounded_scenarios.proofs.BoundedRules.{bounded-inputs, bounded-rules}
use Rattle.bounded_scenarios.proofs.BoundedShares.{bounded-shares}
use Rattle.bounded_scenarios.proofs.StorageCountsTokens.{bounded-count, dist-room}
use Rattle.bounded_scenarios.proofs.FirstTokens.{some-shared}

module _ (file : ScenarioFile) (total : ℕ) (can : CanBeBounded file total) where
  pub kept : (k : ℕ) (row : ScenarioRow) → slice_get file.scenarios k ≡ Some row → ScenarioKeepsRules file.shared row
  kept k row at = can.rules.scenarios k row at

  -- a scenario's graph as it stands carries stamps
  pub plain : (k : ℕ) (row : ScenarioRow) (at : slice_get file.scenarios k ≡ Some row) → CarriesStamps file.shared row.graph (can.runs k row at).gamma
  plain k row at = record {
    rules = widened row.graph (kept k row at).rules;
    kind = (kept k row at).kind;
    timed = (kept k row at).timed;
    gives = (can.runs k row at).round.least;
    small = (can.runs k row at).round.fits;
    shares = (kept k row at).shares;
  }

  pub some-shared-token : 1 ≤ shared_count file.shared
  some-shared-token =
      let first = get-there file.scenarios 0 (let f : 0 < length file.scenarios = omega (arith, can.rules.some_scenario) in f) in
      let run = can.runs 0 first.0 first.1 in
      some-shared file.shared first.0.graph run.gamma (plain 0 first.0 first.1) run.live run.inputs

  module _ (ds : List (Option ℕ)) (is : IsDistribution (shared_channels file) ds) (within : storage_of (shared_channels file) ds ≤ total) where
    -- each capacity is a small number of tokens
    few : (t k : ℕ) (row : SharedRow) → slice_get file.shared t ≡ Some row → slice_get ds t ≡ Some (Some k) → k ≤ TOKENS
    few t k row at has =
        let room = dist-room file.scenarios 0 file.shared ds is t k row at has in
        let states : 1 * (total + looped_tokens file.scenarios file.shared) ≤ length file.states * (total + looped_tokens file.scenarios file.shared) = mul-le-mul_right
        (total + looped_tokens file.scenarios file.shared) can.rules.some_state in
        omega (arith, room.1, within, states, can.nodes)

    pub count-is : shared_count (bounded_file file ds).shared ≡ storage_of (shared_channels file) ds + looped_tokens file.scenarios file.shared
    count-is = count-append file.shared (space_shares file.shared ds) ∙ bounded-count file.scenarios 0 file.shared ds is

    pub count-few : shared_count (bounded_file file ds).shared ≤ total + looped_tokens file.scenarios file.shared
    count-few = omega (arith, count-is, within)

    pub wide : (k : ℕ) (row : ScenarioRow) → slice_get file.scenarios k ≡ Some row → KeepsWideRules (bounded_graph file.shared ds row.graph)
    wide k row at = bounded-rules file.shared ds row.graph (kept k row at).rules (kept k row at).shares few

    pub gives-matrix : (k : ℕ) (row : ScenarioRow) (gamma : List ℕ) → slice_get file.scenarios k ≡ Some row → IsRepetitionOf row.graph gamma →
        GivesMatrix (bounded_file file ds).shared (bounded_graph file.shared ds row.graph) gamma
    gives-matrix k row gamma at gives =
        let run : RunsUnbounded (total + looped_tokens file.scenarios file.shared) row = can.runs k row at in
        let same : run.gamma ≡ gamma = one-repetition row.graph run.gamma gamma run.round.least gives in
        let stamps : sum run.gamma * shared_count (bounded_file file ds).shared ≤ sum run.gamma * (total + looped_tokens file.scenarios file.shared) = mul-le-mul_left (sum run.gamma) count-few in
        subst (λ (v : List ℕ). GivesMatrix (bounded_file file ds).shared (bounded_graph file.shared ds row.graph) v) same (record {
          carries = record {
            rules = wide k row at;
            kind = (kept k row at).kind;
            timed = (kept k row at).timed;
            gives = bounded-repetition file.shared ds row.graph run.gamma (kept k row at).shares run.round.least;
            small = run.round.fits;
            shares = bounded-shares file.shared ds row.graph (kept k row at).shares (can.names k row at);
          };
          inputs = bounded-inputs file.shared ds row.graph run.gamma (kept k row at).rules (kept k row at).kind (wide k row at) run.inputs;
          stamps = omega (arith, stamps, run.stamps);
        })

    same-many : length (bounded_file file ds).scenarios ≡ length file.scenarios
    same-many = length-map file.scenarios (bounded_scenario file.shared ds)

    -- all that is asked for the worst rate of the bounded file
    pub measurable : CanBeMeasured file ds
    measurable = record {
      scenarios = gives-matrix;
      leads_on = record {
        initial = can.rules.leads_on.initial;
        scenarios = λ q s at. (let e : length (bounded_file file ds).scenarios ≡ length file.scenarios = same-many in omega (arith, e, can.rules.leads_on.scenarios q s at));
        next = can.rules.leads_on.next;
        known = can.rules.leads_on.known;
      };
      few_states = can.rules.few_states;
      few_nodes = (
          let nodes : length file.states * shared_count (bounded_file file ds).shared ≤ length file.states * (total + looped_tokens file.scenarios file.shared) = mul-le-mul_left
          (length file.states) count-few in
          omega (arith, nodes, can.nodes));
      some_token = omega (arith, some-shared-token, count-append file.shared (space_shares file.shared ds));
    }
