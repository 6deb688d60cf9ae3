-- The stamps after a round of each scenario of a bounded file exist, where it runs.
use Rattle.std.proofs.Common.{◌≡◌, ℕ, zero, suc, ◌+◌, ◌*◌, ◌≤◌, ◌<◌, false, Option, Some, List, [], ◌∷◌, length, map, sum, subst, sym, ap, ◌∙◌, refl, arith}
use Rattle.std.specs.Prelude.{slice_get}
use Rattle.std.proofs.lemmas.Option.{get_or_from_slice_get}
use Rattle.sd_base.specs.declared.tables.ChannelRow.{ChannelRow}
use Rattle.sd_base.specs.declared.tables.GraphFile.{GraphFile}
use Rattle.sd_base.specs.declared.tables.ScenarioFile.{ScenarioFile}
use Rattle.sd_base.specs.declared.tables.ScenarioRow.{ScenarioRow}
use Rattle.sd_base.specs.declared.tables.SharedRow.{SharedRow}
use Rattle.sd_base.specs.FileNet.{net_of}
use Rattle.sd_base.specs.Lawful.{Lawful}
use Rattle.sd_base.specs.Net.{Channel, IsRepetitionOf, channel_at, total}
use Rattle.sd_base.specs.Scenarios.{shared_count}
use Rattle.sd_base.specs.Schedules.{HasInputs}
use Rattle.sd_base.specs.Untimed.{IsLive}
use Rattle.sd_base.proofs.SumsRepeatByTurns.{total-turn, total-turns}
use Rattle.sd_base.proofs.ElementsKeepPlaces.{get-there}
use Rattle.sd_base.proofs.RoundsKeepTokens.{one-repetition}
use Rattle.storage.specs.Distributions.{IsDistribution, storage_of}
use Rattle.token_matrix.specs.EntryWays.{CarriesStamps}
use Rattle.token_matrix.specs.Stamps.{AreStampsOf, first_of, first_token, no_row}
use Rattle.token_matrix.proofs.GraphMatricesCarry.{covers, inside}
use Rattle.token_matrix.proofs.StampsExist.{stamps}
use Rattle.bounded_scenarios.specs.BoundedFiles.{bounded_file, bounded_graph, bounded_scenario}
use Rattle.bounded_scenarios.specs.Boundings.{CanBeBounded}
use Rattle.bounded_scenarios.specs.SharedChannels.{shared_channels}
use Rattle.bounded_scenarios.specs.StorageRates.{AllRun}
use Rattle.bounded_scenarios.proofs.BoundedRules.{channel-is, channel-there}
use Rattle.bounded_scenarios.proofs.FirstTokens.{laws, one-phase}
use Rattle.bounded_scenarios.proofs.BoundedRatesExist.{gives-matrix, measurable}
use Rattle.bounded_scenarios.proofs.NumbersNameTokens.{Says, name_at, place_at, token_is}
use Rattle.bounded_scenarios.proofs.TourLists.{HaveStamps}

single-moves : (xs : List ℕ) → length xs ≡ 1 → 1 ≤ sum xs → (j : ℕ) → total xs j < total xs (j + 1)
single-moves xs one some j =
    let low : total xs (j * 1) ≡ j * sum xs = ap (λ (n : ℕ). total xs (j * n)) (sym one) ∙ (total-turns xs j ∙ ap (λ (n : ℕ). j * n) (total-turn xs)) in
    let high : total xs ((j + 1) * 1) ≡ (j + 1) * sum xs = ap (λ (n : ℕ). total xs ((j + 1) * n)) (sym one) ∙ (total-turns xs (j + 1) ∙ ap (λ (n : ℕ). (j + 1) * n) (total-turn xs)) in
    let a : j * 1 ≡ j = omega arith in
    let b : (j + 1) * 1 ≡ j + 1 = omega arith in
    let low' : total xs j ≡ j * sum xs = ap (total xs) (sym a) ∙ low in
    let high' : total xs (j + 1) ≡ (j + 1) * sum xs = ap (total xs) (sym b) ∙ high in
    let split : (j + 1) * sum xs ≡ j * sum xs + sum xs = omega arith in
    omega (arith, low', high', split, some)

module _ (shared : List SharedRow) (g : GraphFile) (gamma : List ℕ) (carries : CarriesStamps shared g gamma) where
  -- the channel's name and the token of a number
  said : (i k : ℕ) (c : ChannelRow) → slice_get g.channels i ≡ Some c → k < c.tokens → Says shared c.name (first_of shared g i + k) k
  said i k c at there =
      let share = carries.shares.channels i c at (omega arith) in
      let one = token_is shared share.0 k share.1 carries.shares.rows_differ share.2 (omega (arith, share.4)) in
      let first : first_of shared g i ≡ first_token shared c.name = ap (λ (x : ChannelRow). first_token shared x.name) (get_or_from_slice_get g.channels i c no_row at) in
      let names : Says shared c.name (first_token shared c.name + k) k = subst (λ (n : List ℕ). Says shared n (first_token shared n + k) k) share.3 one in
      subst (λ (n : ℕ). Says shared c.name (n + k) k) (sym first) names

  -- two tokens of one number are one
  pub apart : (i k j l : ℕ) → i < length (net_of g gamma false).channels → k < (channel_at (net_of g gamma false) i).tokens → j < length (net_of g gamma false).channels →
      l < (channel_at (net_of g gamma false) j).tokens →
      first_of shared g i + k ≡ first_of shared g j + l → (i ≡ j) × (k ≡ l)
  apart i k j l below there place here same =
      let c = channel-there g gamma carries.rules carries.kind i below in
      let d = channel-there g gamma carries.rules carries.kind j place in
      let k_there : k < c.0.tokens = subst (λ (x : Channel). k < x.tokens) (channel-is g gamma carries.rules carries.kind i c.0 c.1) there in
      let l_there : l < d.0.tokens = subst (λ (x : Channel). l < x.tokens) (channel-is g gamma carries.rules carries.kind j d.0 d.1) here in
      let one = said i k c.0 c.1 k_there in
      let two = said j l d.0 d.1 l_there in
      let names : c.0.name ≡ d.0.name = sym one.0 ∙ (ap (name_at shared) same ∙ two.0) in
      (carries.shares.names_differ i j c.0 d.0 c.1 d.1 names, sym one.1 ∙ (ap (place_at shared) same ∙ two.1))

  pub stamps-there : HasInputs (net_of g gamma false) → IsLive (net_of g gamma false) → (x : List ℕ) → length x ≡ shared_count shared → (y : List ℕ) × AreStampsOf shared g gamma x y
  stamps-there inputs live x long =
      let lawful = laws shared g gamma carries in
      stamps (net_of g gamma false) lawful (first_of shared g) (shared_count shared) inputs
      (λ i j below. single-moves (channel_at (net_of g gamma false) i).taken
      (lawful.taken_phases i below ∙ one-phase shared g gamma carries (channel_at (net_of g gamma false) i).target (lawful.targets i below)) (lawful.some_taken i below) j)
      (covers g gamma carries.rules carries.kind shared carries.shares) apart (inside g gamma carries.rules carries.kind shared carries.shares) live.0 live.1 x long

-- a row of the bounded file is that of a row of the file
pub row-from : (ss : List ScenarioRow) (f : ScenarioRow → ScenarioRow) (k : ℕ) (row : ScenarioRow) → slice_get (map f ss) k ≡ Some row → (s : ScenarioRow) × (slice_get ss k ≡ Some s) × (row ≡ f s)
row-from [] f k row at = absurd (cc)
row-from (s ∷ ss) f zero row at = let e : f s ≡ row = cc in (s, refl, sym e)
row-from (s ∷ ss) f (suc k) row at = row-from ss f k row at

module _ (file : ScenarioFile) (room : ℕ) (can : CanBeBounded file room) (ds : List (Option ℕ)) (is : IsDistribution (shared_channels file) ds)
    (within : storage_of (shared_channels file) ds ≤ room) where
  -- a repetition vector of the bounded graph is that of the graph
  pub gives-back : (k : ℕ) (row : ScenarioRow) (gamma : List ℕ) → slice_get file.scenarios k ≡ Some row → IsRepetitionOf (bounded_graph file.shared ds row.graph) gamma → IsRepetitionOf row.graph gamma
  gives-back k row gamma at gives =
      let run = can.runs k row at in
      let same : run.gamma ≡ gamma = one-repetition (bounded_graph file.shared ds row.graph) run.gamma gamma
      (gives-matrix file room can ds is within k row run.gamma at run.round.least).carries.gives gives in
      subst (IsRepetitionOf row.graph) same run.round.least

  pub have-stamps : AllRun file ds → HaveStamps (bounded_file file ds)
  have-stamps all = record {
    row_of = λ q s at. get-there (bounded_file file ds).scenarios s.scenario ((measurable file room can ds is within).leads_on.scenarios q s at);
    stamps = λ k row at. (
        let from = row-from file.scenarios (bounded_scenario file.shared ds) k row at in
        let run = all k from.0 from.1 in
        let gives = gives-matrix file room can ds is within k from.0 run.0 from.1 run.1 in (
          run.0,
          subst (λ (r : ScenarioRow). IsRepetitionOf r.graph run.0) (sym from.2) gives.carries.gives,
          subst (λ (r : ScenarioRow). (x : List ℕ) → length x ≡ shared_count (bounded_file file ds).shared → (y : List ℕ) × AreStampsOf (bounded_file file ds).shared r.graph run.0 x y) (sym from.2)
              (stamps-there (bounded_file file ds).shared (bounded_graph file.shared ds from.0.graph) run.0 gives.carries gives.inputs run.2),
        ));
  }

  pub all-lawful : (k : ℕ) (row : ScenarioRow) (gamma : List ℕ) → slice_get (bounded_file file ds).scenarios k ≡ Some row → IsRepetitionOf row.graph gamma → Lawful (net_of row.graph gamma false)
  all-lawful k row gamma at gives =
      let from = row-from file.scenarios (bounded_scenario file.shared ds) k row at in
      let mine : IsRepetitionOf (bounded_graph file.shared ds from.0.graph) gamma = subst (λ (r : ScenarioRow). IsRepetitionOf r.graph gamma) from.2 gives in
      let plain = gives-back k from.0 gamma from.1 mine in
      subst (λ (r : ScenarioRow). Lawful (net_of r.graph gamma false)) (sym from.2)
      (laws (bounded_file file ds).shared (bounded_graph file.shared ds from.0.graph) gamma (gives-matrix file room can ds is within k from.0 gamma from.1 plain).carries)
