-- The rate of a critical cycle whose ways take no free space bounds the worst rates of all distributions.
use Rattle.std.proofs.Common.{◌≡◌, ℕ, zero, suc, ◌*◌, ◌≤◌, ◌<◌, ◌⊎◌, Option, Some, List, [], ◌∷◌, length, ⊎_elim, subst, sym, ap, arith, ◌∙◌}
use Rattle.std.specs.Prelude.{false, slice_get}
use Rattle.std.proofs.Math.Nat.{mul-le-mul_right}
use Rattle.std.proofs.lemmas.Bool.{cases_lt}
use Rattle.std.proofs.lemmas.Nat.{same_from_place}
use Rattle.sd_base.specs.declared.tables.ScenarioFile.{ScenarioFile}
use Rattle.sd_base.specs.declared.tables.ScenarioRow.{ScenarioRow}
use Rattle.sd_base.specs.FileNet.{net_of}
use Rattle.sd_base.specs.Net.{IsRepetitionOf}
use Rattle.sd_base.specs.Scenarios.{shared_count}
use Rattle.sd_base.proofs.ElementsKeepPlaces.{get-map}
use Rattle.automaton.specs.CriticalCycles.{weights}
use Rattle.automaton.specs.WorstRates.{IsWorst}
use Rattle.storage.specs.Distributions.{IsDistribution, storage_of}
use Rattle.token_matrix.specs.EntryWays.{CarriesStamps}
use Rattle.token_matrix.specs.Stamps.{first_of}
use Rattle.token_matrix.specs.Ways.{IsWay}
use Rattle.bounded_scenarios.specs.BoundedFiles.{bounded_file, bounded_graph, bounded_scenario}
use Rattle.bounded_scenarios.specs.Boundings.{CanBeBounded}
use Rattle.bounded_scenarios.specs.SharedChannels.{shared_channels}
use Rattle.bounded_scenarios.specs.ShownSpaces.{IsShownLive, SpacelessBounds}
use Rattle.bounded_scenarios.specs.StorageRates.{AllRun, bounded_net}
use Rattle.bounded_scenarios.specs.StorageRates.HasWorstRate.{blocked, runs}
use Rattle.bounded_scenarios.proofs.BoundedStamps.{all-lawful, gives-back, have-stamps, row-from}
use Rattle.bounded_scenarios.proofs.CycleTours.{AreShown, LeadsAt, path-tour, reached-leads}
use Rattle.bounded_scenarios.proofs.LiveMembers.{cross}
use Rattle.bounded_scenarios.proofs.BoundedRatesExist.{gives-matrix, kept}
use Rattle.bounded_scenarios.proofs.SpacelessWays.{way-begins, way-same}
use Rattle.bounded_scenarios.proofs.TourLists.{IsLeg, IsTour, LeadTo}
use Rattle.bounded_scenarios.proofs.ToursBoundRates.{tour-bounds}

module _ (file : ScenarioFile) (total : ℕ) (can : CanBeBounded file total) (m : List (Option ℕ)) (member : IsDistribution (shared_channels file) m)
    (small : storage_of (shared_channels file) m ≤ total)
    (ds : List (Option ℕ)) (is : IsDistribution (shared_channels file) ds) (within : storage_of (shared_channels file) ds ≤ total) where
  abbrev low_file : ScenarioFile
  low_file = bounded_file file m

  abbrev high_file : ScenarioFile
  high_file = bounded_file file ds

  abbrev Spaceless : ℕ → List ℕ → Type 0
  Spaceless = AreShown file m []

  abbrev IsFirst : ℕ → Type 0
  IsFirst p = p < shared_count file.shared

  -- a leg of the member's file as a way of its scenario
  record LegAt (q p s e : ℕ) (leg : IsLeg (AreShown file m []) (bounded_file file m) q p s e) : Type 0 where
    row : ScenarioRow
    at : slice_get file.scenarios leg.state.scenario ≡ Some row
    gives : IsRepetitionOf row.graph leg.gamma
    way : IsWay (bounded_net file.shared m row.graph leg.gamma) (first_of (bounded_file file m).shared (bounded_graph file.shared m row.graph)) p s e leg.channels
    low : CarriesStamps (bounded_file file m).shared (bounded_graph file.shared m row.graph) leg.gamma
    high : CarriesStamps (bounded_file file ds).shared (bounded_graph file.shared ds row.graph) leg.gamma

  leg-at : (q p s e : ℕ) (leg : IsLeg Spaceless low_file q p s e) → LegAt q p s e leg
  leg-at q p s e leg =
      let from = row-from file.scenarios (bounded_scenario file.shared m) leg.state.scenario leg.row leg.runs in
      let plain = gives-back file total can m member small leg.state.scenario from.0 leg.gamma from.1 (subst (λ (r : ScenarioRow). IsRepetitionOf r.graph leg.gamma) from.2 leg.gives) in
      record {
        row = from.0;
        at = from.1;
        gives = plain;
        way = subst (λ (r : ScenarioRow). IsWay (net_of r.graph leg.gamma false) (first_of (bounded_file file m).shared r.graph) p s e leg.channels) from.2 leg.way;
        low = (gives-matrix file total can m member small leg.state.scenario from.0 leg.gamma from.1 plain).carries;
        high = (gives-matrix file total can ds is within leg.state.scenario from.0 leg.gamma from.1 plain).carries;
      }

  leg-same : (q p s e : ℕ) → IsFirst s → IsLeg Spaceless low_file q p s e → IsFirst p × IsLeg Spaceless high_file q p s e
  leg-same q p s e first leg =
      let one = leg-at q p s e leg in
      let way = way-same file m ds one.row.graph leg.gamma (kept file total can leg.state.scenario one.row one.at).shares
      (can.names leg.state.scenario one.row one.at) one.low one.high p s e leg.channels
      (leg.good one.row one.at) first one.way in (
        way.0,
        record {
          state = leg.state;
          at = leg.at;
          row = bounded_scenario file.shared ds one.row;
          runs = get-map (bounded_scenario file.shared ds) file.scenarios leg.state.scenario one.row one.at;
          gamma = leg.gamma;
          gives = one.high.gives;
          channels = leg.channels;
          way = way.1;
          good = leg.good;
        },
      )

  leg-begins : (q p s e : ℕ) → IsLeg Spaceless low_file q p s e → IsFirst p ⊎ (e ≡ 0)
  leg-begins q p s e leg =
      let one = leg-at q p s e leg in
      way-begins file m ds one.row.graph leg.gamma (kept file total can leg.state.scenario one.row one.at).shares (can.names leg.state.scenario one.row one.at) one.low one.high p s e leg.channels
      (leg.good one.row one.at) one.way

  -- a walk that ends on a token of the file stays on such tokens, and is one of the other file
  tour-same : (rs : List ℕ) (q p r s w : ℕ) → IsFirst s → IsTour Spaceless low_file q p rs r s w → IsFirst p × IsTour Spaceless high_file q p rs r s w
  tour-same [] q p r s w first (same, also, none) = (subst IsFirst (sym also) first, (same, also, none))
  tour-same (next ∷ rs) q p r s w first (t, e, v, goes, leg, more, sum) =
      let rest = tour-same rs next t r s v first more in
      let one = leg-same q p t e rest.0 leg in
      (one.0, (t, e, v, goes, one.1, rest.1, sum))

  -- one that takes time begins on such a token
  tour-begins : (rs : List ℕ) (q p r s w : ℕ) → 1 ≤ w → IsTour Spaceless low_file q p rs r s w → IsFirst p
  tour-begins [] q p r s w some (same, also, none) = absurd (omega (arith, some, none))
  tour-begins (next ∷ rs) q p r s w some (t, e, v, goes, leg, more, sum) = ⊎_elim
      (λ (first : IsFirst p). first)
      (λ (none : e ≡ 0). (leg-same q p t e (tour-begins rs next t r s v (omega (arith, some, sum, none)) more) leg).0) (leg-begins q p t e leg)

  lead-same : (rs : List ℕ) (q r : ℕ) → LeadTo low_file q rs r → LeadTo high_file q rs r
  lead-same [] q r same = same
  lead-same (next ∷ rs) q r (goes, more) = (goes, lead-same rs next r more)

  some-weight : (v l w len : ℕ) → 1 ≤ len → 1 ≤ w → v * l ≡ w * len → 1 ≤ v
  some-weight zero l w len long some rate =
      let low : 1 * len ≤ w * len = mul-le-mul_right len some in
      let none : 0 * l ≡ 0 = omega arith in absurd (omega (arith, low, long, rate, none))
  some-weight (suc v) l w len long some rate = omega arith

  spaceless : (l w p q : ℕ) → 1 ≤ w → IsShownLive file m l w [] → AllRun file ds → IsWorst high_file p q → p * w ≤ l * q
  spaceless l w p q some live all worst =
      let front : LeadsAt file m [] live.graph file.initial live.critical.node = reached-leads file m [] live.graph live.timed live.critical.node live.critical.reached in
      let turn = path-tour file m [] live.graph
      (λ row k gamma at gives. (gives-matrix file total can m member small k row gamma at gives).carries.gives) live.cycle live.critical.node live.critical.node
      front.r front.s front.end front.inside live.shows live.critical.closed in
      let place = same_from_place turn.r turn.s front.r front.s live.graph.tokens turn.inside front.inside (sym turn.end ∙ front.end) in
      let tour : IsTour Spaceless low_file front.r front.s turn.states front.r front.s (weights live.graph.edges live.cycle) =
      subst (λ (n : ℕ). IsTour Spaceless low_file front.r front.s turn.states front.r n (weights live.graph.edges live.cycle)) place.1
      (subst (λ (n : ℕ). IsTour Spaceless low_file front.r front.s turn.states n turn.s (weights live.graph.edges live.cycle)) place.0 turn.tour) in
      let heavy : 1 ≤ weights live.graph.edges live.cycle = some-weight (weights live.graph.edges live.cycle) l w (length live.cycle) live.critical.some some live.critical.rate in
      let first = tour-begins turn.states front.r front.s front.r front.s (weights live.graph.edges live.cycle) heavy tour in
      let high = (tour-same turn.states front.r front.s front.r front.s (weights live.graph.edges live.cycle) first tour).1 in
      let bound : p * weights live.graph.edges live.cycle ≤ q * length turn.states = tour-bounds high_file (all-lawful file total can ds is within)
      (have-stamps file total can ds is within all) Spaceless p q worst
      front.states turn.states front.r front.s (weights live.graph.edges live.cycle) (lead-same front.states file.initial front.r front.leads) high in
      cross (weights live.graph.edges live.cycle) l w (length live.cycle) p q live.critical.some live.critical.rate (subst (λ (n : ℕ). p * weights live.graph.edges live.cycle ≤ q * n) turn.long bound)

pub spaceless-bounds : SpacelessBounds
spaceless-bounds file total m l w ds _ _ can member small live is within (blocked s row at stopped) = omega arith
spaceless-bounds file total m l w ds _ _ can member small live is within (runs p q all worst) = ⊎_elim
    (λ (none : w < 1). let zero_here : w ≡ 0 = omega arith in let product : p * w ≡ p * 0 = ap (λ (n : ℕ). p * n) zero_here in omega (arith, product))
    (λ (some : 1 ≤ w). spaceless file total can m member small ds is within l w p q some live all worst) (cases_lt w 1)
