-- What the evaluation of a distribution comes to.
use Rattle.std.proofs.Common.{◌≡◌, true, false, ℕ, ◌*◌, ◌≤◌, ◌<◌, Option, None, Some, List, length, sym, ◌∙◌, subst, arith}
use Rattle.std.specs.Prelude.{◌↔◌, Contains, IfOk, MatchOption, Result, Ok, Err, slice_index}
use Rattle.sd_base.specs.declared.memory.NoMemory.{NoMemory}
use Rattle.sd_base.specs.declared.numbers.Fraction.{Fraction}
use Rattle.sd_base.specs.declared.tables.ScenarioFile.{ScenarioFile}
use Rattle.sd_base.specs.FileNet.{net_of}
use Rattle.sd_base.specs.Lawful.{Lawful}
use Rattle.sd_base.specs.Net.{Net}
use Rattle.sd_base.specs.Scenarios.{Shares}
use Rattle.sd_base.specs.Untimed.{IsLive}
use Rattle.sd_base.proofs.ClosedCountsBoundRuns.{live-unblocked}
use Rattle.sd_base.proofs.LawfulIsRegular.{wired}
use Rattle.sd_base.proofs.ElementsKeepPlaces.{get-there}
use Rattle.sd_base.proofs.RoundsKeepTokens.{one-repetition}
use Rattle.automaton.specs.declared.graph.TimedGraph.{TimedGraph}
use Rattle.automaton.specs.CriticalCycles.{IsCritical}
use Rattle.automaton.specs.TimedGraphs.{IsTimedGraph}
use Rattle.automaton.specs.WorstRates.{IsWorst}
use Rattle.bounded_scenarios.specs.BoundedFiles.{bounded_file}
use Rattle.bounded_scenarios.specs.Boundings.{CanBeBounded}
use Rattle.bounded_scenarios.specs.StorageRates.{AllRun, HasWorstRate, bounded_net, blocked, runs}
use Rattle.bounded_scenarios.specs.ScenarioGuides.{blocked as held_by, runs as on_way}
use Rattle.bounded_scenarios.specs.ShownSpaces.{BlockedBounds, LiveBounds, ShowsWays, SpacelessBounds}
use Rattle.scenario_storage.specs.declared.rated.Witness.{Witness}
use Rattle.scenario_storage.specs.declared.rated.Rated.{Rated}
use Rattle.scenario_storage.specs.inside.Levels.{IsRated, IsWithin, Shows}
use Rattle.scenario_storage.specs.inside.Ratings.{IsBlockedAt}
use Rattle.scenario_storage.specs.inside.Shown.{AreShownBlocked, AreShownLive, IsGuided, IsHeldUpOn, IsTakenOn, IsWaitedFor, spaces_from}
use Rattle.scenario_storage.proofs.SpaceNumbers.{has-place, numbered-space, space-capped, space-number, spaces-long}

-- the channels for whose space an actor of the blocked scenario waits are shown
module _ (file : ScenarioFile) (gammas : List (List ℕ)) (ds : List (Option ℕ)) (s : ℕ) (counts : List ℕ) (at : IsBlockedAt file gammas ds s counts)
    (shares : Shares file.shared at.is.scenario.row.graph) (long : length ds ≡ length file.shared) (shown : List ℕ)
    (listed : (c : ℕ) → Contains shown c ↔ IsWaitedFor (net_of at.is.scenario.row.graph at.is.scenario.gamma false) (bounded_net file.shared ds at.is.scenario.row.graph at.is.scenario.gamma) (spaces_from (length at.is.scenario.row.graph.channels) ds) (slice_index counts) c) where
  held-on : (c : ℕ) → Contains shown c → IsHeldUpOn file ds at.is.scenario.row.graph at.is.scenario.gamma (slice_index counts) c
  held-on c one =
      let w = (listed c).0 one in
      let capped = space-capped file ds at.is.scenario.row.graph shares c w.0 w.1 in
      let low : c < length file.shared =
      omega (arith, long, has-place (spaces_from (length at.is.scenario.row.graph.channels) ds) c w.0 w.1, spaces-long (length at.is.scenario.row.graph.channels) ds) in
      let shared = get-there file.shared c low in (
        shared.0,
        shared.1,
        record {
          space = w.0;
          is_space = numbered-space file ds at.is.scenario.row.graph shares c w.0 shared.0 shared.1 w.1;
          short = w.2.short;
          fed = w.2.fed;
          full = w.2.full;
        },
        capped,
      )

  pub shown-blocked : Lawful (bounded_net file.shared ds at.is.scenario.row.graph at.is.scenario.gamma) → AreShownBlocked file ds shown
  shown-blocked laws = record {
    shows = record {
      place = s;
      row = at.is.scenario.row;
      at = at.is.scenario.at;
      gamma = at.is.scenario.gamma;
      gives = at.is.scenario.gives;
      counts = slice_index counts;
      blocks = at.is.blocked.blocks;
      shows = λ c row row_at held.
          (listed c).1 (held.space, space-number file ds at.is.scenario.row.graph shares c held.space row row_at held.is_space, record { short = held.short; fed = held.fed; full = held.full });
    };
    first = at.first;
    ends = at.is.blocked.ends;
    held = held-on;
    stops = λ runs.
        let same = one-repetition at.is.scenario.row.graph runs.0 at.is.scenario.gamma runs.1 at.is.scenario.gives in
        live-unblocked (bounded_net file.shared ds at.is.scenario.row.graph at.is.scenario.gamma) (wired (bounded_net file.shared ds at.is.scenario.row.graph at.is.scenario.gamma) laws)
        (subst (λ (v : List ℕ). IsLive (bounded_net file.shared ds at.is.scenario.row.graph v)) same runs.2) (slice_index counts) at.is.blocked.blocks;
  }

-- the same of what the code has by other names
pub shown-as : (file : ScenarioFile) (gammas : List (List ℕ)) (ds : List (Option ℕ)) (s : ℕ) (counts : List ℕ) (at : IsBlockedAt file gammas ds s counts) →
    Shares file.shared at.is.scenario.row.graph → length ds ≡ length file.shared → (net bounded : Net) (spaces : List (Option ℕ)) →
    net ≡ net_of at.is.scenario.row.graph at.is.scenario.gamma false → bounded ≡ bounded_net file.shared ds at.is.scenario.row.graph at.is.scenario.gamma → spaces ≡ spaces_from (length at.is.scenario.row.graph.channels) ds → Lawful bounded →
    (r : Result (List ℕ) NoMemory) → IfOk r (λ (shown : List ℕ). (c : ℕ) → Contains shown c ↔ IsWaitedFor net bounded spaces (slice_index counts) c) → IfOk r (AreShownBlocked file ds)
shown-as file gammas ds s counts at shares long net bounded spaces net_is bounded_is spaces_are laws (Err e) listed = tt
shown-as file gammas ds s counts at shares long net bounded spaces net_is bounded_is spaces_are laws (Ok shown) listed =
    let P : Net → Net → List (Option ℕ) → Type 0 = λ n b xs. (c : ℕ) → Contains shown c ↔ IsWaitedFor n b xs (slice_index counts) c in
    shown-blocked file gammas ds s counts at shares long shown
    (subst (λ (n : Net). P n (bounded_net file.shared ds at.is.scenario.row.graph at.is.scenario.gamma) (spaces_from (length at.is.scenario.row.graph.channels) ds)) net_is
    (subst (λ (b : Net). P net b (spaces_from (length at.is.scenario.row.graph.channels) ds)) bounded_is (subst (P net bounded) spaces_are listed)))
    (subst Lawful bounded_is laws)

-- so they are in the guide
blocked-guided : (file : ScenarioFile) (ds : List (Option ℕ)) (shown : List ℕ) → AreShownBlocked file ds shown → (c : ℕ) → Contains shown c → IsGuided file ds c
blocked-guided file ds shown is c one =
    let h = is.held c one in (
      held_by h.0 is.shows.place is.shows.row h.1 is.shows.at is.first
          (record { gamma = is.shows.gamma; gives = is.shows.gives; counts = is.shows.counts; ends = is.ends; blocks = is.shows.blocks; held = h.2 }),
      h.3,
    )

module _ (file : ScenarioFile) (total : ℕ) (can : CanBeBounded file total) (ds : List (Option ℕ)) (fits : IsWithin file total ds) (best : Fraction) (r : Rated) where
  -- a blocked distribution
  pub blocked-rated : BlockedBounds → AreShownBlocked file ds r.enlarge → r.rate.num ≡ 0 → r.rate.den ≡ 1 → r.witness ≡ None → IsRated file total best ds r
  blocked-rated law is zero one none = record {
    rate =
        subst (λ (n : ℕ). HasWorstRate file ds n r.rate.den) (sym zero)
        (subst (λ (d : ℕ). HasWorstRate file ds 0 d) (sym one) (blocked is.shows.place is.shows.row is.shows.at is.stops));
    guided = blocked-guided file ds r.enlarge is;
    bounds = λ es dist within most agrees p q rate runs. absurd (
        law file total ds r.enlarge es p q can is.shows
        (record { member = fits.distribution; distribution = dist; within = within; most = most; agrees = agrees }) rate runs);
    top = λ empty some. absurd (omega (arith, some, zero));
    blocks = λ says. is;
    witness =
        subst (λ (e : Option Witness). MatchOption e (r.rate.num * best.den ≤ best.num * r.rate.den) (Shows file ds r.rate)) (sym none)
        (subst (λ (n : ℕ). n * best.den ≤ best.num * r.rate.den) (sym zero) (omega arith));
  }

  -- a live one
  pub live-rated : LiveBounds → SpacelessBounds → AllRun file ds → (graph : TimedGraph) → IsTimedGraph (bounded_file file ds) graph → (cycle : List ℕ) →
      IsWorst (bounded_file file ds) r.rate.num r.rate.den → IsCritical graph r.rate.num r.rate.den cycle → AreShownLive file ds graph cycle r.enlarge
      → r.blocks ≡ false → MatchOption r.witness (r.rate.num * best.den ≤ best.num * r.rate.den) (Shows file ds r.rate) → IsRated file total best ds r
  live-rated law over all graph timed cycle worst critical is live witness = record {
    rate = runs r.rate.num r.rate.den all worst;
    guided = guided;
    bounds = λ es dist within most agrees p q rate goes.
        law file total ds r.rate.num r.rate.den r.enlarge es p q can
        (record { runs = all; graph = graph; timed = timed; cycle = cycle; critical = critical; shows = is.shows })
        (record { member = fits.distribution; distribution = dist; within = within; most = most; agrees = agrees }) rate goes;
    top = λ empty some es dist within p q rate goes.
        over file total ds r.rate.num r.rate.den es p q can fits.distribution fits.within
        (record { runs = all; graph = graph; timed = timed; cycle = cycle; critical = critical; shows = subst (ShowsWays file ds graph cycle) empty is.shows })
        dist within rate;
    blocks = λ says. absurd (let no : true ≡ false = sym says ∙ live in cc);
    witness = witness;
  }
    where
      guided : (c : ℕ) → Contains r.enlarge c → IsGuided file ds c
      guided c one =
          let t : IsTakenOn file ds graph cycle c = is.taken c one in (
            on_way t.shared graph t.at all timed (record {
              l = r.rate.num;
              w = r.rate.den;
              worst = worst;
              cycle = cycle;
              critical = critical;
              number = t.number;
              on = t.on;
              edge = t.edge;
              is = t.is;
              row = t.row;
              channels = t.channels;
              way = t.way;
              space = t.space;
              taken = t.taken;
              is_space = t.is_space;
            }),
            (t.room, t.capped),
          )

-- what was kept of the witness
pub kept-shows : (file : ScenarioFile) (ds : List (Option ℕ)) (rate best : Fraction) (e : Witness) (kept : Option Witness) → Shows file ds rate e →
    MatchOption kept (rate.num * best.den ≤ best.num * rate.den) (λ (x : Witness). x ≡ e) → MatchOption kept (rate.num * best.den ≤ best.num * rate.den) (Shows file ds rate)
kept-shows file ds rate best e None shows is = is
kept-shows file ds rate best e (Some x) shows is = subst (Shows file ds rate) (sym is) shows
