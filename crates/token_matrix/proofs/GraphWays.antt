-- The entries of a matrix of a scenario's graph and its ways.
use Rattle.std.proofs.Common.{ℕ, ◌≤◌, ◌<◌, false, List, Option, length}
use Rattle.sd_base.specs.declared.tables.GraphFile.{GraphFile}
use Rattle.sd_base.specs.declared.tables.SharedRow.{SharedRow}
use Rattle.sd_base.specs.FileNet.{net_of}
use Rattle.sd_base.specs.Lawful.{Lawful}
use Rattle.sd_base.specs.Scenarios.{shared_count}
use Rattle.sd_base.specs.Schedules.{time_of}
use Rattle.sd_base.proofs.FileNets.{net_of-lawful}
use Rattle.sd_base.proofs.LawfulIsRegular.{timed}
use Rattle.token_matrix.specs.EntryWays.{CarriesStamps, HasItsWay, HasNoLongerWay}
use Rattle.token_matrix.specs.Matrices.{IsMatrix}
use Rattle.token_matrix.proofs.EntryWays.{entry_way, way_entry}
use Rattle.token_matrix.proofs.GraphMatricesCarry.{covers, inside}

module _ (shared : List SharedRow) (g : GraphFile) (gamma : List ℕ) (carries : CarriesStamps shared g gamma) (rows : List (List (Option ℕ))) (is : IsMatrix shared g gamma rows) where
  pub laws : Lawful (net_of g gamma false)
  laws = net_of-lawful g gamma false carries.rules carries.timed carries.gives carries.small

  pub takes-time : (a k : ℕ) → a < length (net_of g gamma false).times → 1 ≤ time_of (net_of g gamma false) a k
  takes-time a k actor = (timed (net_of g gamma false) laws).some a k actor

  pub its-way : (p q : ℕ) → p < shared_count shared → q < shared_count shared → HasItsWay shared g gamma rows p q
  its-way p q below here e at = entry_way shared g gamma rows is laws takes-time (inside g gamma carries.rules carries.kind shared carries.shares) (covers g gamma carries.rules carries.kind shared carries.shares) p q e below here at

  pub no-longer : (p q : ℕ) → p < shared_count shared → q < shared_count shared → HasNoLongerWay shared g gamma rows p q
  no-longer p q below here e cs way = way_entry shared g gamma rows is laws takes-time (inside g gamma carries.rules carries.kind shared carries.shares) (covers g gamma carries.rules carries.kind shared carries.shares) p q e cs below here way
