-- What runs at a distribution runs at what it is rounded down to, and holds each rate there.
use Rattle.std.proofs.Common.{◌≡◌, ℕ, ◌≤◌, Option, Some, List, arith}
use Rattle.std.specs.Prelude.{slice_get}
use Rattle.sd_base.specs.declared.tables.ScenarioFile.{ScenarioFile}
use Rattle.sd_base.specs.declared.tables.ScenarioRow.{ScenarioRow}
use Rattle.sd_base.specs.declared.tables.SharedRow.{SharedRow}
use Rattle.sd_base.specs.Net.{IsRepetitionOf}
use Rattle.sd_base.specs.Untimed.{IsLive}
use Rattle.sd_base.proofs.LawfulIsRegular.{wired}
use Rattle.storage.specs.Distributions.{IsDistribution, storage_of}
use Rattle.storage.specs.Steps.{rounded}
use Rattle.storage.proofs.StepsReachMembers.{storage-le}
use Rattle.storage.proofs.CornerStaysBelow.{rounded-dist, rounded-most}
use Rattle.token_matrix.specs.EntryWays.{CarriesStamps}
use Rattle.bounded_scenarios.specs.BoundedFiles.{bounded_file, bounded_graph}
use Rattle.bounded_scenarios.specs.Boundings.{CanBeBounded}
use Rattle.bounded_scenarios.specs.SharedChannels.{channel_named, shared_channel, shared_channels}
use Rattle.bounded_scenarios.specs.StorageRates.{bounded_net}
use Rattle.bounded_scenarios.proofs.FirstTokens.{laws}
use Rattle.bounded_scenarios.proofs.ChannelsFitShared.{FitsShared, fits}
use Rattle.bounded_scenarios.proofs.LiveRooms.{spare-live}
use Rattle.bounded_scenarios.proofs.BoundedRatesExist.{gives-matrix, kept}
use Rattle.bounded_scenarios.proofs.NamedChannels.{named-is}
use Rattle.bounded_scenarios.proofs.SparedWays.{has-spare, spare, step}

module _ (file : ScenarioFile) (total_room : ℕ) (can : CanBeBounded file total_room) (ds : List (Option ℕ)) (is : IsDistribution (shared_channels file) ds)
    (within : storage_of (shared_channels file) ds ≤ total_room) where
  pub low-dist : IsDistribution (shared_channels file) (rounded (shared_channels file) ds)
  low-dist = rounded-dist (shared_channels file) ds is

  pub low-within : storage_of (shared_channels file) (rounded (shared_channels file) ds) ≤ total_room
  low-within = omega (arith, within, storage-le (shared_channels file) (rounded (shared_channels file) ds) ds (rounded-most (shared_channels file) ds is))

  module _ (k : ℕ) (row : ScenarioRow) (at : slice_get file.scenarios k ≡ Some row) (gamma : List ℕ) (gives : IsRepetitionOf row.graph gamma) where
    pub low-carries : CarriesStamps (bounded_file file (rounded (shared_channels file) ds)).shared (bounded_graph file.shared (rounded (shared_channels file) ds) row.graph) gamma
    low-carries = (gives-matrix file total_room can (rounded (shared_channels file) ds) low-dist low-within k row gamma at gives).carries

    pub high-carries : CarriesStamps (bounded_file file ds).shared (bounded_graph file.shared ds row.graph) gamma
    high-carries = (gives-matrix file total_room can ds is within k row gamma at gives).carries

    pub named : (t : ℕ) (r : SharedRow) → slice_get file.shared t ≡ Some r → (channel_named row.graph.channels r.name).name ≡ r.name
    named t r there = let one = (kept file total_room can k row at).shares.rows t r there in (named-is row.graph.channels r.name one.0 one.1 one.2 one.3).2

    pub fit : (t : ℕ) (r : SharedRow) → slice_get file.shared t ≡ Some r → FitsShared (channel_named row.graph.channels r.name) (shared_channel file.scenarios t r)
    fit t r there = fits file.scenarios k row at file.shared (kept file total_room can k row at) t t r there

    -- a round that can be completed can be completed without the spare room
    pub low-live : IsLive (bounded_net file.shared ds row.graph gamma) → IsLive (bounded_net file.shared (rounded (shared_channels file) ds) row.graph gamma)
    low-live live = spare-live (bounded_net file.shared (rounded (shared_channels file) ds) row.graph gamma) (bounded_net file.shared ds row.graph gamma)
        (step file ds row.graph gamma is (can.names k row at) (kept file total_room can k row at).shares.rows_differ named fit low-carries high-carries)
        (spare file ds row.graph gamma is (can.names k row at) (kept file total_room can k row at).shares.rows_differ named fit low-carries high-carries)
        (has-spare file ds row.graph gamma is (can.names k row at) (kept file total_room can k row at).shares.rows_differ named fit low-carries high-carries)
        (wired (bounded_net file.shared ds row.graph gamma) (laws (bounded_file file ds).shared (bounded_graph file.shared ds row.graph) gamma high-carries)) live
