-- Walks in the timed graph of a bounded file as walks of ways through its states.
use Rattle.std.proofs.Common.{◌≡◌, ℕ, suc, ◌+◌, ◌*◌, ◌<◌, Option, Some, List, [], ◌∷◌, length, subst, sym, ap, ◌∙◌, refl}
use Rattle.std.specs.Prelude.{slice_get}
use Rattle.std.proofs.lemmas.Nat.{same_from_place}
use Rattle.sd_base.specs.declared.tables.ScenarioFile.{ScenarioFile}
use Rattle.sd_base.specs.declared.tables.ScenarioRow.{ScenarioRow}
use Rattle.sd_base.specs.Net.{IsRepetitionOf}
use Rattle.sd_base.proofs.ElementsKeepPlaces.{get-map}
use Rattle.sd_base.proofs.ContainedHavePlaces.{contains-here, contains-later}
use Rattle.automaton.specs.declared.graph.Edge.{Edge}
use Rattle.automaton.specs.declared.graph.TimedGraph.{TimedGraph}
use Rattle.automaton.specs.CriticalCycles.{IsPath, IsReachedNode, weight_in, weights}
use Rattle.automaton.specs.TimedGraphs.{IsTimedGraph}
use Rattle.automaton.specs.WorstRates.{IsSuccessor}
use Rattle.automaton.proofs.StampsAreWeights.{edge_from}
use Rattle.bounded_scenarios.specs.BoundedFiles.{bounded_file, bounded_graph, bounded_scenario}
use Rattle.bounded_scenarios.specs.ScenarioGuides.{IsEntryOf, IsWayOf}
use Rattle.bounded_scenarios.specs.ShownSpaces.{ShowsTaken, ShowsWays}
use Rattle.bounded_scenarios.proofs.TourLists.{IsLeg, IsTour, LeadTo}

-- the spaces that are taken on channels of a scenario are shown
abbrev pub AreShown : ScenarioFile → List (Option ℕ) → List ℕ → ℕ → List ℕ → Type 0
AreShown file m shown k channels = (row : ScenarioRow) → slice_get file.scenarios k ≡ Some row → ShowsTaken file m row.graph channels shown

module _ (file : ScenarioFile) (m : List (Option ℕ)) (shown : List ℕ) (graph : TimedGraph) where
  -- the end of a walk of ways
  pub record EndsAt (q p v many time : ℕ) : Type 0 where
    pub states : List ℕ
    pub r : ℕ
    pub s : ℕ
    pub end : v ≡ r * graph.tokens + s
    pub inside : s < graph.tokens
    pub long : length states ≡ many
    pub tour : IsTour (AreShown file m shown) (bounded_file file m) q p states r s time

  -- a walk each of whose edges has a way is a walk of ways
  pub path-tour : ((row : ScenarioRow) (k : ℕ) (gamma : List ℕ) → slice_get file.scenarios k ≡ Some row → IsRepetitionOf row.graph gamma →
      IsRepetitionOf (bounded_graph file.shared m row.graph) gamma) →
      (ks : List ℕ) (u v q p : ℕ) → u ≡ q * graph.tokens + p → p < graph.tokens → ShowsWays file m graph ks shown → IsPath graph.edges u ks v → EndsAt q p v (length ks) (weights graph.edges ks)
  path-tour bounded [] u v q p from inside shows same = record { states = []; r = q; s = p; end = sym same ∙ from; inside = inside; long = refl; tour = (refl, refl, refl) }
  path-tour bounded (k ∷ ks) u v q p from inside shows (e, at, starts, path) =
      step (λ next line to below. path-tour bounded ks e.to v next line to below (λ n f has there. shows n f (contains-later k ks n has) there) path) (shows k e (contains-here k ks) at)
    where
      step : ((next line : ℕ) → e.to ≡ next * graph.tokens + line → line < graph.tokens → EndsAt next line v (length ks) (weights graph.edges ks)) →
          (row : ScenarioRow) × (channels : List ℕ) × IsWayOf file m graph.tokens e row channels × ShowsTaken file m row.graph channels shown →
          EndsAt q p v (length (k ∷ ks)) (weights graph.edges (k ∷ ks))
      step further (row, channels, way, taken) =
          let entry : IsEntryOf file graph.tokens e row way.p way.q = way.entry in
          let place = same_from_place entry.state way.p q p graph.tokens entry.column inside (sym entry.from ∙ (sym starts ∙ from)) in
          let rest = further entry.next way.q entry.to entry.line in
          let next : IsSuccessor (bounded_file file m).states q entry.next = subst (λ (n : ℕ). IsSuccessor file.states n entry.next) place.0 (entry.at, entry.runs, entry.place, entry.goes_on) in
          let leg : IsLeg (AreShown file m shown) (bounded_file file m) entry.state way.p way.q e.weight = record {
            state = entry.at;
            at = entry.runs;
            row = bounded_scenario file.shared m row;
            runs = get-map (bounded_scenario file.shared m) file.scenarios entry.at.scenario row entry.scenario;
            gamma = way.gamma;
            gives = bounded row entry.at.scenario way.gamma entry.scenario way.gives;
            channels = channels;
            way = way.way;
            good = λ other there. (
                let same : row ≡ other = (let h : ◌≡◌ {A = Option ScenarioRow} (Some row) (Some other) = sym entry.scenario ∙ there in (cc)) in
                subst (λ (x : ScenarioRow). ShowsTaken file m x.graph channels shown) same taken);
          } in
          let leg' : IsLeg (AreShown file m shown) (bounded_file file m) q p way.q e.weight =
          subst (λ (n : ℕ). IsLeg (AreShown file m shown) (bounded_file file m) q n way.q e.weight) place.1
          (subst (λ (n : ℕ). IsLeg (AreShown file m shown) (bounded_file file m) n way.p way.q e.weight) place.0 leg) in
          let weight : weights graph.edges (k ∷ ks) ≡ e.weight + weights graph.edges ks = ap (λ (o : Option Edge). weight_in o + weights graph.edges ks) at in
          record {
            states = entry.next ∷ rest.states;
            r = rest.r;
            s = rest.s;
            end = rest.end;
            inside = rest.inside;
            long = ap suc rest.long;
            tour = (way.q, e.weight, weights graph.edges ks, next, leg', rest.tour, weight);
          }

  -- the states through which a walk goes
  pub record LeadsAt (q v : ℕ) : Type 0 where
    pub states : List ℕ
    pub r : ℕ
    pub s : ℕ
    pub end : v ≡ r * graph.tokens + s
    pub inside : s < graph.tokens
    pub leads : LeadTo (bounded_file file m) q states r

  pub path-leads : IsTimedGraph (bounded_file file m) graph → (ks : List ℕ) (u v q p : ℕ) → u ≡ q * graph.tokens + p → p < graph.tokens → IsPath graph.edges u ks v → LeadsAt q v
  path-leads timed [] u v q p from inside same = record { states = []; r = q; s = p; end = sym same ∙ from; inside = inside; leads = refl }
  path-leads timed (k ∷ ks) u v q p from inside (e, at, starts, path) =
      let entry = edge_from (bounded_file file m) graph timed k e at in
      let column : entry.i < graph.tokens = subst (λ (n : ℕ). entry.i < n) (sym timed.tokens) entry.column in
      let line : entry.j < graph.tokens = subst (λ (n : ℕ). entry.j < n) (sym timed.tokens) entry.row in
      let out : e.from ≡ entry.q * graph.tokens + entry.i = entry.from ∙ ap (λ (n : ℕ). entry.q * n + entry.i) (sym timed.tokens) in
      let into : e.to ≡ entry.r * graph.tokens + entry.j = entry.to ∙ ap (λ (n : ℕ). entry.r * n + entry.j) (sym timed.tokens) in
      let place = same_from_place entry.q entry.i q p graph.tokens column inside (sym out ∙ (sym starts ∙ from)) in
      let rest = path-leads timed ks e.to v entry.r entry.j into line path in
      let next : IsSuccessor (bounded_file file m).states q entry.r = subst (λ (n : ℕ). IsSuccessor file.states n entry.r) place.0 (entry.s, entry.there, entry.p, entry.next) in
      record { states = entry.r ∷ rest.states; r = rest.r; s = rest.s; end = rest.end; inside = rest.inside; leads = (next, rest.leads) }

  pub reached-leads : IsTimedGraph (bounded_file file m) graph → (v : ℕ) → IsReachedNode graph v → LeadsAt file.initial v
  reached-leads timed v (u, ks, (i, below, start), path) =
      path-leads timed ks u v file.initial i (start ∙ ap (λ (n : ℕ). n * graph.tokens + i) timed.initial) below path
