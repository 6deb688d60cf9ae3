-- The rate of a critical cycle whose ways are shown bounds the worst rates of the distributions above.
use Rattle.std.proofs.Common.{◌≡◌, ℕ, ◌*◌, ◌≤◌, Option, Some, List, length, subst, sym, ap, refl, arith, ◌∙◌}
use Rattle.std.specs.Prelude.{slice_get}
use Rattle.std.proofs.Math.Nat.{le_of_mul-le-mul_right, mul-le-mul_right}
use Rattle.std.proofs.lemmas.Nat.{same_from_place}
use Rattle.sd_base.specs.declared.tables.ScenarioFile.{ScenarioFile}
use Rattle.sd_base.specs.declared.tables.ScenarioRow.{ScenarioRow}
use Rattle.sd_base.specs.Net.{IsRepetitionOf}
use Rattle.sd_base.proofs.ElementsKeepPlaces.{get-map}
use Rattle.automaton.specs.CriticalCycles.{weights}
use Rattle.automaton.specs.WorstRates.{IsWorst}
use Rattle.storage.specs.Distributions.{storage_of}
use Rattle.storage.specs.Steps.{rounded}
use Rattle.storage.proofs.StepsReachMembers.{storage-le}
use Rattle.bounded_scenarios.specs.BoundedFiles.{bounded_file, bounded_scenario}
use Rattle.bounded_scenarios.specs.Boundings.{CanBeBounded}
use Rattle.bounded_scenarios.specs.SharedChannels.{shared_channels}
use Rattle.bounded_scenarios.specs.ShownSpaces.{IsAbove, IsShownLive, LiveBounds}
use Rattle.bounded_scenarios.specs.StorageRates.{AllRun}
use Rattle.bounded_scenarios.specs.StorageRates.HasWorstRate.{blocked, runs}
use Rattle.bounded_scenarios.proofs.BlockedMembers.{above-carries, member-carries}
use Rattle.bounded_scenarios.proofs.BoundedStamps.{all-lawful, gives-back, have-stamps, row-from}
use Rattle.bounded_scenarios.proofs.CycleTours.{AreShown, LeadsAt, path-tour, reached-leads}
use Rattle.bounded_scenarios.proofs.BoundedRatesExist.{kept}
use Rattle.bounded_scenarios.proofs.NumbersNameTokens.{renumbered}
use Rattle.bounded_scenarios.proofs.PushedWays.{pushed_named, way-pushed}
use Rattle.bounded_scenarios.proofs.RunningRooms.{fit, high-carries, low-dist, low-within, named}
use Rattle.bounded_scenarios.proofs.SparedWays.{spared_named, way-spared}
use Rattle.bounded_scenarios.proofs.TourLists.{IsTour, LeadTo}
use Rattle.bounded_scenarios.proofs.TourMaps.{StandsFor, lead-maps, tour-maps}
use Rattle.bounded_scenarios.proofs.ToursBoundRates.{tour-bounds}

-- of two equal ratios and one that is no greater than the first
pub cross : (v l w len p q : ℕ) → 1 ≤ len → v * l ≡ w * len → p * v ≤ q * len → p * w ≤ l * q
cross v l w len p q some rate bound = le_of_mul-le-mul_right (
    let scaled : p * v * l ≤ q * len * l = mul-le-mul_right l bound in
    let one : p * (v * l) ≡ p * (w * len) = ap (λ (n : ℕ). p * n) rate in
    let f : p * w * len ≤ l * q * len = omega arith in f) some

module _ (file : ScenarioFile) (total : ℕ) (can : CanBeBounded file total) (m : List (Option ℕ)) (shown : List ℕ) (ds : List (Option ℕ)) (above : IsAbove file total m shown ds) where
  -- what the distribution is rounded down to
  abbrev floored : List (Option ℕ)
  floored = rounded (shared_channels file) ds

  -- the files that are bounded by the member, by what is rounded down, and by the distribution
  abbrev member_file : ScenarioFile
  member_file = bounded_file file m

  abbrev floored_file : ScenarioFile
  floored_file = bounded_file file floored

  abbrev above_file : ScenarioFile
  above_file = bounded_file file ds

  abbrev Shown : ℕ → List ℕ → Type 0
  Shown = AreShown file m shown

  -- the number of a token of the member in the file of what is rounded down, and from there in that of the distribution
  up : ℕ → ℕ
  up = renumbered member_file.shared floored_file.shared (pushed_named member_file.shared floored_file.shared)

  on : ℕ → ℕ
  on = renumbered floored_file.shared above_file.shared
      (spared_named file.scenarios file.shared floored_file.shared above_file.shared)

  small : storage_of (shared_channels file) m ≤ total
  small = omega (arith, storage-le (shared_channels file) m floored above.most, low-within file total can ds above.distribution above.within)

  -- a scenario of the member's file stands for that of what is rounded down
  module _ (k : ℕ) (s : ScenarioRow) (at : slice_get file.scenarios k ≡ Some s) (gamma : List ℕ) (gives : IsRepetitionOf s.graph gamma) where
    one-up : StandsFor Shown member_file floored_file up k (bounded_scenario file.shared m s) gamma
    unfolding up
    one-up = record {
      row' = bounded_scenario file.shared floored s;
      at = get-map (bounded_scenario file.shared floored) file.scenarios k s at;
      gives = (above-carries file total can m shown ds above k s at gamma gives).gives;
      way = λ p q e cs good way. way-pushed file m floored s.graph gamma above.most (member-carries file total can m shown ds above k s at gamma gives)
          (above-carries file total can m shown ds above k s at gamma gives)
          cs shown (named file total can ds above.distribution above.within k s at gamma gives) (good s at) above.agrees p q e way;
    }

    one-on : StandsFor Shown floored_file above_file on k (bounded_scenario file.shared floored s) gamma
    unfolding on
    one-on = record {
      row' = bounded_scenario file.shared ds s;
      at = get-map (bounded_scenario file.shared ds) file.scenarios k s at;
      gives = (high-carries file total can ds above.distribution above.within k s at gamma gives).gives;
      way = λ p q e cs good way. way-spared file ds s.graph gamma above.distribution (can.names k s at) (kept file total can k s at).shares.rows_differ
          (named file total can ds above.distribution above.within k s at gamma gives)
          (fit file total can ds above.distribution above.within k s at gamma gives) (above-carries file total can m shown ds above k s at gamma gives)
          (high-carries file total can ds above.distribution above.within k s at gamma gives) cs p q e way;
    }

  stands-up : (k : ℕ) (row : ScenarioRow) (gamma : List ℕ) → slice_get member_file.scenarios k ≡ Some row → IsRepetitionOf row.graph gamma →
      StandsFor Shown member_file floored_file up k row gamma
  stands-up k row gamma at gives =
      let from = row-from file.scenarios (bounded_scenario file.shared m) k row at in
      let plain = gives-back file total can m above.member small k from.0 gamma from.1 (subst (λ (r : ScenarioRow). IsRepetitionOf r.graph gamma) from.2 gives) in
      subst (λ (r : ScenarioRow). StandsFor Shown member_file floored_file up k r gamma) (sym from.2) (one-up k from.0 from.1 gamma plain)

  stands-on : (k : ℕ) (row : ScenarioRow) (gamma : List ℕ) → slice_get floored_file.scenarios k ≡ Some row → IsRepetitionOf row.graph gamma →
      StandsFor Shown floored_file above_file on k row gamma
  stands-on k row gamma at gives =
      let from = row-from file.scenarios (bounded_scenario file.shared floored) k row at in
      let plain = gives-back file total can floored (low-dist file total can ds above.distribution above.within) (low-within file total can ds above.distribution above.within) k from.0 gamma from.1
      (subst (λ (r : ScenarioRow). IsRepetitionOf r.graph gamma) from.2 gives) in
      subst (λ (r : ScenarioRow). StandsFor Shown floored_file above_file on k r gamma) (sym from.2) (one-on k from.0 from.1 gamma plain)

  -- a closed walk of the member's ways bounds the worst rate of the distribution
  tour-above : (p q : ℕ) → AllRun file ds → IsWorst above_file p q → (front states : List ℕ) (r s v : ℕ) → LeadTo member_file file.initial front r →
      IsTour Shown member_file r s states r s v → p * v ≤ q * length states
  tour-above p q all worst front states r s v leads tour =
      let low : IsTour Shown floored_file r (up s) states r (up s) v =
      tour-maps Shown member_file floored_file up refl stands-up states r s r s v tour in
      let high : IsTour Shown above_file r (on (up s)) states r (on (up s)) v =
      tour-maps Shown floored_file above_file on refl stands-on states r (up s) r (up s) v low in
      let first : LeadTo floored_file file.initial front r = lead-maps Shown member_file floored_file up refl stands-up front file.initial r leads in
      let second : LeadTo above_file file.initial front r = lead-maps Shown floored_file above_file on refl stands-on front file.initial r first in
      tour-bounds above_file (all-lawful file total can ds above.distribution above.within) (have-stamps file total can ds above.distribution above.within all) Shown p q worst front states r
      (on (up s)) v second high

  live-above : (l w p q : ℕ) → IsShownLive file m l w shown → AllRun file ds → IsWorst above_file p q → p * w ≤ l * q
  live-above l w p q live all worst =
      let front : LeadsAt file m shown live.graph file.initial live.critical.node = reached-leads file m shown live.graph live.timed live.critical.node live.critical.reached in
      let turn = path-tour file m shown live.graph
      (λ row k gamma at gives. (member-carries file total can m shown ds above k row at gamma gives).gives)
      live.cycle live.critical.node live.critical.node front.r front.s front.end front.inside live.shows live.critical.closed in
      let place = same_from_place turn.r turn.s front.r front.s live.graph.tokens turn.inside front.inside (sym turn.end ∙ front.end) in
      let tour : IsTour Shown member_file front.r front.s turn.states front.r front.s (weights live.graph.edges live.cycle) =
      subst (λ (n : ℕ). IsTour Shown member_file front.r front.s turn.states front.r n (weights live.graph.edges live.cycle)) place.1
      (subst (λ (n : ℕ). IsTour Shown member_file front.r front.s turn.states n turn.s (weights live.graph.edges live.cycle)) place.0 turn.tour) in
      let bound : p * weights live.graph.edges live.cycle ≤ q * length turn.states = tour-above p q all worst front.states turn.states front.r front.s
      (weights live.graph.edges live.cycle) front.leads tour in
      let long : length turn.states ≡ length live.cycle = turn.long in
      cross (weights live.graph.edges live.cycle) l w (length live.cycle) p q live.critical.some live.critical.rate (subst (λ (n : ℕ). p * weights live.graph.edges live.cycle ≤ q * n) long bound)

pub live-bounds : LiveBounds
live-bounds file total m l w shown ds _ _ can live above (blocked s row at stopped) some = absurd (omega (arith, some))
live-bounds file total m l w shown ds _ _ can live above (runs p q all worst) some = live-above file total can m shown ds above l w p q live all worst
