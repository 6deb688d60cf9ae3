-- A file that can be bounded has few shared channels.
use Rattle.std.proofs.Common.{◌≡◌, false, ℕ, ◌*◌, ◌≤◌, ◌<◌, Option, Some, List, length, arith, mul-le-mul_right}
use Rattle.std.specs.Prelude.{slice_get}
use Rattle.std.proofs.lemmas.List.{length-append}
use Rattle.std.proofs.lemmas.Option.{slice_get_within}
use Rattle.sd_base.specs.declared.tables.GraphFile.{GraphFile}
use Rattle.sd_base.specs.declared.tables.ScenarioFile.{ScenarioFile}
use Rattle.sd_base.specs.declared.tables.ScenarioRow.{ScenarioRow}
use Rattle.sd_base.specs.FileNet.{own_channels_from}
use Rattle.sd_base.specs.Net.{Channel, file_channels}
use Rattle.sd_base.specs.Scenarios.{Shares, shared_count}
use Rattle.sd_base.proofs.FileNets.{file-length}
use Rattle.sd_base.proofs.ElementsKeepPlaces.{get-there}
use Rattle.bounded_scenarios.specs.Boundings.{CanBeBounded}
use Rattle.bounded_scenarios.proofs.StorageCountsTokens.{dist-long, rows-few}
use Rattle.bounded_scenarios.specs.BoundedFiles.{bounded_graph}
use Rattle.bounded_scenarios.specs.StorageRates.{bounded_net}
use Rattle.scenario_storage.specs.inside.Levels.{IsWithin}
use Rattle.scenario_storage.specs.inside.Shown.{AreSpacesWithin, spaces_from}
use Rattle.scenario_storage.proofs.SpaceNumbers.{has-place, numbered-space, spaces-long}

module _ (file : ScenarioFile) (limit : ℕ) (can : CanBeBounded file limit) where
  pub its-shares : (k : ℕ) (row : ScenarioRow) → slice_get file.scenarios k ≡ Some row → Shares file.shared row.graph
  its-shares k row at = (can.rules.scenarios k row at).shares

  pub shared-few : length file.shared ≤ 1024
  shared-few =
      let first = get-there file.scenarios 0 (omega (arith, can.rules.some_scenario)) in
      let few : length file.shared ≤ shared_count file.shared = rows-few file.shared (λ t row at. ((its-shares 0 first.0 first.1).rows t row at).5) in
      let states : 1 * shared_count file.shared ≤ length file.states * shared_count file.shared = mul-le-mul_right (shared_count file.shared) can.rules.some_state in
      omega (arith, few, states, can.rules.few_nodes)

  pub channels-few : (k : ℕ) (row : ScenarioRow) → slice_get file.scenarios k ≡ Some row → length row.graph.channels ≤ 256
  channels-few k row at = let few = (can.rules.scenarios k row at).rules.few_channels in omega (arith, few)

  pub long-as : (ds : List (Option ℕ)) → IsWithin file limit ds → length ds ≡ length file.shared
  long-as ds fits = dist-long file.scenarios 0 file.shared ds fits.distribution

-- the numbers of free spaces are those of channels of the bounded graph and of its net
module _ (file : ScenarioFile) (ds : List (Option ℕ)) (g : GraphFile) (shares : Shares file.shared g) (long : length ds ≡ length file.shared) where
  pub spaces-in_graph : AreSpacesWithin (length (bounded_graph file.shared ds g).channels) (spaces_from (length g.channels) ds)
  spaces-in_graph c i has =
      let low : c < length file.shared = (let b = has-place (spaces_from (length g.channels) ds) c i has in omega (arith, b, spaces-long (length g.channels) ds, long)) in
      let row = get-there file.shared c low in
      let is = numbered-space file ds g shares c i row.0 row.1 has in
      slice_get_within (bounded_graph file.shared ds g).channels i is.1.0 is.1.1

  pub spaces-in_net : (gamma : List ℕ) → AreSpacesWithin (length (bounded_net file.shared ds g gamma).channels) (spaces_from (length g.channels) ds)
  unfolding spaces-in_graph
  spaces-in_net gamma c i has =
      let low : i < length (bounded_graph file.shared ds g).channels = spaces-in_graph c i has in
      let files = file-length 0 (bounded_graph file.shared ds g).channels in
      let own : List Channel = own_channels_from false (bounded_graph file.shared ds g).channels 0 g.actors in
      let all = length-append (file_channels (bounded_graph file.shared ds g)) (own_channels_from false (bounded_graph file.shared ds g).channels 0 g.actors) in
      omega (arith, low, files, all)
