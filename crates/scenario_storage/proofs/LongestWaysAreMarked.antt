-- Longest ways of the edges of a cycle, and the shared channels whose free space is taken on them.
use Rattle.std.proofs.Common.{◌≡◌, ℕ, ◌+◌, ◌*◌, ◌/◌, ◌%◌, ◌≤◌, ◌<◌, Bool, true, false, Option, Some, List, [], length, inl, inr, ⊎_elim, refl, sym, ap, ◌∙◌, subst, arith}
use Rattle.std.specs.Prelude.{◌↔◌, Contains, slice_get, slice_index_or}
use Rattle.std.proofs.lemmas.Bool.{cases_lt, true≢false}
use Rattle.std.proofs.lemmas.List.{get_or_default, get_or_past, length-map}
use Rattle.std.proofs.lemmas.List.Elements.{Contains-get_or}
use Rattle.std.proofs.lemmas.Nat.{div-mul-add, mod-mul-add}
use Rattle.std.proofs.lemmas.Option.{get_or_from_slice_get, slice_get_within}
use Rattle.sd_base.specs.declared.tables.ScenarioFile.{ScenarioFile}
use Rattle.sd_base.specs.declared.tables.ScenarioRow.{ScenarioRow}
use Rattle.sd_base.specs.declared.tables.SharedRow.{SharedRow}
use Rattle.sd_base.specs.declared.tables.GraphFile.{GraphFile}
use Rattle.sd_base.specs.Net.{IsRepetitionOf}
use Rattle.sd_base.specs.Scenarios.{Shares}
use Rattle.sd_base.proofs.ElementsKeepPlaces.{get-there, get-map}
use Rattle.sd_base.proofs.RoundsKeepTokens.{one-repetition}
use Rattle.sd_base.proofs.ContainedHavePlaces.{contains-get, get-contains}
use Rattle.token_matrix.specs.Matrices.{IsMatrix}
use Rattle.token_matrix.specs.Stamps.{first_of}
use Rattle.token_matrix.specs.Ways.{IsWay}
use Rattle.token_matrix.proofs.GraphWays.{its-way, no-longer}
use Rattle.automaton.specs.declared.graph.Edge.{Edge}
use Rattle.automaton.specs.declared.graph.TimedGraph.{TimedGraph}
use Rattle.automaton.specs.TimedGraphs.{IsTimedGraph}
use Rattle.automaton.proofs.StampsAreWeights.{FromEntry, at_state, edge_from}
use Rattle.entry_ways.specs.declared.marking.EntryPlace.{EntryPlace}
use Rattle.entry_ways.specs.WayMarks.{HasWay, IsLongestWay, IsOnSome}
use Rattle.bounded_scenarios.specs.BoundedFiles.{bounded_file, bounded_graph, bounded_scenario}
use Rattle.bounded_scenarios.specs.Boundings.{CanBeMeasured}
use Rattle.bounded_scenarios.specs.StorageRates.{bounded_net}
use Rattle.bounded_scenarios.specs.ScenarioGuides.{IsSpaceFor, IsWayOf}
use Rattle.scenario_storage.specs.inside.Ratings.{IsScenarioAt}
use Rattle.scenario_storage.specs.inside.Shown.{AreSpaceMarks, HasSpace, IsEntryIn, IsTakenOn, no_state, place_of, scenario_at, spaces_from}
use Rattle.scenario_storage.proofs.SpaceNumbers.{numbered-space, space-capped, space-number}

pub marked-within : (marks : List Bool) (c : ℕ) → slice_index_or marks c false ≡ true → c < length marks
marked-within marks c is =
    ⊎_elim
    (λ (below : c < length marks). below)
    (λ (past : length marks ≤ c). absurd (true≢false (sym is ∙ get_or_past marks c false past)))
    (cases_lt c (length marks))

-- the free spaces that are taken on these channels of a scenario are marked
abbrev pub ShowsMarked : ScenarioFile → List (Option ℕ) → GraphFile → List ℕ → List Bool → Type 0
ShowsMarked file ds g channels marks = (c i : ℕ) (row : SharedRow) → slice_get file.shared c ≡ Some row → Contains channels i → IsSpaceFor file ds g row.name i → slice_index_or marks c false ≡ true

-- an edge has a way whose free spaces are marked
abbrev pub HasMarkedWay : ScenarioFile → List (Option ℕ) → ℕ → Edge → List Bool → Type 0
HasMarkedWay file ds tokens e marks = (row : ScenarioRow) × (channels : List ℕ) × IsWayOf file ds tokens e row channels × ShowsMarked file ds row.graph channels marks

-- the marks for the edges of the first scenarios
pub record AreMarkedTo (file : ScenarioFile) (ds : List (Option ℕ)) (graph : TimedGraph) (cycle : List ℕ) (n : ℕ) (marks : List Bool) : Type 0 where
  pub long : length marks ≡ length file.shared
  pub taken : (c : ℕ) → slice_index_or marks c false ≡ true → IsTakenOn file ds graph cycle c
  pub shows : (k : ℕ) (e : Edge) → Contains cycle k → slice_get graph.edges k ≡ Some e → scenario_at file.states graph.tokens e < n → HasMarkedWay file ds graph.tokens e marks

module _ (file : ScenarioFile) (gammas : List (List ℕ)) (ds : List (Option ℕ)) (can : CanBeMeasured file ds)
    (shares : (k : ℕ) (row : ScenarioRow) → slice_get file.scenarios k ≡ Some row → Shares file.shared row.graph) (graph : TimedGraph) (is : IsTimedGraph (bounded_file file ds) graph) where
  module _ (k : ℕ) (e : Edge) (at : slice_get graph.edges k ≡ Some e) where
    entry-from : FromEntry (bounded_file file ds) graph is e
    entry-from = edge_from (bounded_file file ds) graph is k e at

    -- its state, its column and its row
    module _ (f : FromEntry (bounded_file file ds) graph is e) where
      from-is : e.from ≡ f.q * graph.tokens + f.i
      from-is = subst (λ (n : ℕ). e.from ≡ f.q * n + f.i) (sym is.tokens) f.from

      to-is : e.to ≡ f.r * graph.tokens + f.j
      to-is = subst (λ (n : ℕ). e.to ≡ f.r * n + f.j) (sym is.tokens) f.to

      column-below : f.i < graph.tokens
      column-below = subst (λ (n : ℕ). f.i < n) (sym is.tokens) f.column

      row-below : f.j < graph.tokens
      row-below = subst (λ (n : ℕ). f.j < n) (sym is.tokens) f.row

      state-is : e.from / graph.tokens ≡ f.q
      state-is = ap (λ (n : ℕ). n / graph.tokens) from-is ∙ div-mul-add f.q graph.tokens f.i column-below

      column-is : (place_of graph.tokens e).column ≡ f.i
      column-is = ap (λ (n : ℕ). n % graph.tokens) from-is ∙ mod-mul-add f.q graph.tokens f.i column-below

      row-is : (place_of graph.tokens e).row ≡ f.j
      row-is = ap (λ (n : ℕ). n % graph.tokens) to-is ∙ mod-mul-add f.r graph.tokens f.j row-below

      scenario-is : scenario_at file.states graph.tokens e ≡ f.s.scenario
      scenario-is = ap (λ (q : ℕ). (slice_index_or file.states q no_state).scenario) state-is ∙ ap (λ s. s.scenario) (get_or_from_slice_get file.states f.q f.s no_state f.there)

      module _ (s : ℕ) (sc : IsScenarioAt file gammas s) (same : scenario_at file.states graph.tokens e ≡ s) where
        its-scenario : f.s.scenario ≡ s
        its-scenario = sym scenario-is ∙ same

        its-matrix : IsMatrix (bounded_file file ds).shared (bounded_graph file.shared ds sc.row.graph) sc.gamma (slice_index_or is.matrices f.s.scenario [])
        its-matrix =
            let a = at_state (bounded_file file ds) graph is f.q f.s f.there in
            let there : slice_get (bounded_file file ds).scenarios f.s.scenario ≡ Some (bounded_scenario file.shared ds sc.row) =
            get-map (bounded_scenario file.shared ds) file.scenarios f.s.scenario sc.row (ap (λ (n : ℕ). slice_get file.scenarios n) its-scenario ∙ sc.at) in
            let row_at : slice_get (bounded_file file ds).scenarios f.s.scenario ≡ Some a.row = a.row_at in
            let rows : a.row ≡ bounded_scenario file.shared ds sc.row = cc in
            let matrix : IsMatrix (bounded_file file ds).shared (bounded_graph file.shared ds sc.row.graph) a.gamma (slice_index_or is.matrices f.s.scenario []) =
            subst (λ (r : ScenarioRow). IsMatrix (bounded_file file ds).shared r.graph a.gamma (slice_index_or is.matrices f.s.scenario [])) rows a.matrix in
            let one : a.gamma ≡ sc.gamma = one-repetition (bounded_graph file.shared ds sc.row.graph) a.gamma sc.gamma
            (subst (λ (r : ScenarioRow). IsRepetitionOf r.graph a.gamma) rows a.least) (can.scenarios s sc.row sc.gamma sc.at sc.gives).carries.gives in
            subst (λ (v : List ℕ). IsMatrix (bounded_file file ds).shared (bounded_graph file.shared ds sc.row.graph) v (slice_index_or is.matrices f.s.scenario [])) one matrix

        its-entry : (cs : List ℕ) × IsWay (bounded_net file.shared ds sc.row.graph sc.gamma) (first_of (bounded_file file ds).shared (bounded_graph file.shared ds sc.row.graph)) f.i f.j e.weight cs
        its-entry =
            its-way (bounded_file file ds).shared (bounded_graph file.shared ds sc.row.graph) sc.gamma (can.scenarios s sc.row sc.gamma sc.at sc.gives).carries
            (slice_index_or is.matrices f.s.scenario []) its-matrix f.i f.j f.column f.row e.weight f.entry

        pub has-way : HasWay (bounded_net file.shared ds sc.row.graph sc.gamma) (first_of (bounded_file file ds).shared (bounded_graph file.shared ds sc.row.graph)) (place_of graph.tokens e)
        has-way = (
          e.weight,
          its-entry.0,
          subst (λ (p : ℕ). IsWay (bounded_net file.shared ds sc.row.graph sc.gamma) (first_of (bounded_file file ds).shared (bounded_graph file.shared ds sc.row.graph)) p (place_of graph.tokens e).row e.weight its-entry.0) (sym column-is)
              (subst (λ (q : ℕ). IsWay (bounded_net file.shared ds sc.row.graph sc.gamma) (first_of (bounded_file file ds).shared (bounded_graph file.shared ds sc.row.graph)) f.i q e.weight its-entry.0) (sym row-is) its-entry.1),
        )

        -- a longest way takes the time of the edge
        module _ (cs : List ℕ)
            (longest : IsLongestWay (bounded_net file.shared ds sc.row.graph sc.gamma) (first_of (bounded_file file ds).shared (bounded_graph file.shared ds sc.row.graph)) (place_of graph.tokens e).column (place_of graph.tokens e).row cs) where
          time-way : IsWay (bounded_net file.shared ds sc.row.graph sc.gamma) (first_of (bounded_file file ds).shared (bounded_graph file.shared ds sc.row.graph)) f.i f.j longest.time cs
          time-way =
              subst (λ (p : ℕ). IsWay (bounded_net file.shared ds sc.row.graph sc.gamma) (first_of (bounded_file file ds).shared (bounded_graph file.shared ds sc.row.graph)) p f.j longest.time cs) column-is
              (subst (λ (q : ℕ). IsWay (bounded_net file.shared ds sc.row.graph sc.gamma) (first_of (bounded_file file ds).shared (bounded_graph file.shared ds sc.row.graph)) (place_of graph.tokens e).column q longest.time cs) row-is longest.way)

          time-is : longest.time ≡ e.weight
          unfolding has-way
          time-is =
              let bound = no-longer (bounded_file file ds).shared (bounded_graph file.shared ds sc.row.graph) sc.gamma (can.scenarios s sc.row sc.gamma sc.at sc.gives).carries
              (slice_index_or is.matrices f.s.scenario []) its-matrix f.i f.j f.column f.row longest.time cs time-way in
              let entry : ◌≡◌ {A = Option ℕ} (Some bound.0) (Some e.weight) = sym bound.1 ∙ f.entry in
              let weight : bound.0 ≡ e.weight = cc in
              let mine : e.weight ≤ longest.time = longest.longest e.weight has-way.1 has-way.2 in
              omega (arith, bound.2, weight, mine)

          pub way-of : IsWayOf file ds graph.tokens e sc.row cs
          way-of = record {
            p = f.i;
            q = f.j;
            entry = record {
              state = f.q;
              at = f.s;
              runs = f.there;
              scenario = ap (λ (n : ℕ). slice_get file.scenarios n) its-scenario ∙ sc.at;
              column = column-below;
              from = from-is;
              next = f.r;
              place = f.p;
              goes_on = f.next;
              line = row-below;
              to = to-is;
            };
            gamma = sc.gamma;
            gives = sc.gives;
            way = subst (λ (t : ℕ). IsWay (bounded_net file.shared ds sc.row.graph sc.gamma) (first_of (bounded_file file ds).shared (bounded_graph file.shared ds sc.row.graph)) f.i f.j t cs) time-is time-way;
          }

  -- each edge begins at a state
  pub begins-at : (k : ℕ) (e : Edge) → slice_get graph.edges k ≡ Some e → e.from / graph.tokens < length file.states
  unfolding entry-from
  begins-at k e at =
      let f = entry-from k e at in
      subst (λ (q : ℕ). q < length file.states) (sym (state-is k e at f)) (slice_get_within file.states f.q f.s f.there)

  -- the scenario of an edge is one of the file's
  pub scenario-below : (k : ℕ) (e : Edge) → slice_get graph.edges k ≡ Some e → scenario_at file.states graph.tokens e < length file.scenarios
  unfolding entry-from
  scenario-below k e at =
      let f = entry-from k e at in
      let low : f.s.scenario < length (bounded_file file ds).scenarios = is.leads_on.scenarios f.q f.s f.there in
      let many : length (bounded_file file ds).scenarios ≡ length file.scenarios = length-map file.scenarios (bounded_scenario file.shared ds) in
      subst (λ (n : ℕ). n < length file.scenarios) (sym (scenario-is k e at f)) (omega (arith, low, many))

  module _ (s : ℕ) (sc : IsScenarioAt file gammas s) (cycle : List ℕ) (entries : List EntryPlace) (listed : (x : EntryPlace) → Contains entries x ↔ IsEntryIn file.states graph cycle s x) where
    -- each entry has a way
    pub have-ways : (x : EntryPlace) → Contains entries x →
        HasWay (bounded_net file.shared ds sc.row.graph sc.gamma) (first_of (bounded_file file ds).shared (bounded_graph file.shared ds sc.row.graph)) x
    have-ways x one =
        let it = (listed x).0 one in
        subst (HasWay (bounded_net file.shared ds sc.row.graph sc.gamma) (first_of (bounded_file file ds).shared (bounded_graph file.shared ds sc.row.graph))) it.place
        (has-way it.number it.edge it.is (entry-from it.number it.edge it.is) s sc it.scenario)

  -- one more scenario
  module _ (s : ℕ) (cycle : List ℕ) (entries : List EntryPlace) (listed : (x : EntryPlace) → Contains entries x ↔ IsEntryIn file.states graph cycle s x)
      (old new : List Bool) (more : AreSpaceMarks file gammas ds s entries old new) (was : AreMarkedTo file ds graph cycle s old) where
    kept : (c : ℕ) → slice_index_or old c false ≡ true → slice_index_or new c false ≡ true
    kept c is_old = (more.marked c (marked-within old c is_old)).1 (inl is_old)

    -- the way of an edge of this scenario
    edge-way : (k : ℕ) (e : Edge) → Contains cycle k → slice_get graph.edges k ≡ Some e → scenario_at file.states graph.tokens e ≡ s → HasMarkedWay file ds graph.tokens e new
    edge-way k e on at same =
        let there : Contains entries (place_of graph.tokens e) = (listed (place_of graph.tokens e)).1 (record { number = k; on = on; edge = e; is = at; scenario = same; place = refl }) in
        let place = contains-get entries (place_of graph.tokens e) there in
        let low : place.0 < length more.ways = (let b = slice_get_within entries place.0 (place_of graph.tokens e) place.1 in omega (arith, b, more.each)) in
        let cs : List ℕ = slice_index_or more.ways place.0 [] in (
          more.scenario.row,
          slice_index_or more.ways place.0 [],
          way-of k e at (entry-from k e at) s more.scenario same (slice_index_or more.ways place.0 []) (more.longest place.0 (place_of graph.tokens e) place.1),
          λ c i row row_at one is_space.
              let has : HasSpace (spaces_from (length more.scenario.row.graph.channels) ds) c i =
              space-number file ds more.scenario.row.graph (shares s more.scenario.row more.scenario.at) c i row row_at is_space in
              let below : c < length old = (let b = slice_get_within file.shared c row row_at in omega (arith, b, was.long)) in
              (more.marked c below).1 (inr (i, has, (slice_index_or more.ways place.0 [], Contains-get_or more.ways place.0 [] low, one))),
        )

    -- a channel that is marked now
    taken-new : (c i : ℕ) → c < length old → HasSpace (spaces_from (length more.scenario.row.graph.channels) ds) c i → IsOnSome more.ways i → IsTakenOn file ds graph cycle c
    taken-new c i below has (cs, (k, low, way_is), on) =
        let entry = get-there entries k (omega (arith, low, more.each)) in
        let it = (listed entry.0).0 (get-contains entries k entry.0 entry.1) in
        let shared = get-there file.shared c (omega (arith, below, was.long)) in
        let capped = space-capped file ds more.scenario.row.graph (shares s more.scenario.row more.scenario.at) c i has in
        let is_way : slice_index_or more.ways k [] ≡ cs = get_or_default more.ways k [] cs low ∙ way_is in
        let longest : IsLongestWay (bounded_net file.shared ds more.scenario.row.graph more.scenario.gamma) (first_of (bounded_file file ds).shared (bounded_graph file.shared ds more.scenario.row.graph)) (place_of graph.tokens it.edge).column (place_of graph.tokens it.edge).row cs =
        subst (λ (ys : List ℕ). IsLongestWay (bounded_net file.shared ds more.scenario.row.graph more.scenario.gamma) (first_of (bounded_file file ds).shared (bounded_graph file.shared ds more.scenario.row.graph)) (place_of graph.tokens it.edge).column (place_of graph.tokens it.edge).row ys) is_way
        (subst (λ (x : EntryPlace). IsLongestWay (bounded_net file.shared ds more.scenario.row.graph more.scenario.gamma) (first_of (bounded_file file ds).shared (bounded_graph file.shared ds more.scenario.row.graph)) x.column x.row (slice_index_or more.ways k [])) (sym it.place)
        (more.longest k entry.0 entry.1)) in
        record {
          shared = shared.0;
          at = shared.1;
          room = capped.0;
          capped = capped.1;
          number = it.number;
          on = it.on;
          edge = it.edge;
          is = it.is;
          row = more.scenario.row;
          channels = cs;
          way = way-of it.number it.edge it.is (entry-from it.number it.edge it.is) s more.scenario it.scenario cs longest;
          space = i;
          taken = on;
          is_space = numbered-space file ds more.scenario.row.graph (shares s more.scenario.row more.scenario.at) c i shared.0 shared.1 has;
        }

    pub marked-more : AreMarkedTo file ds graph cycle (s + 1) new
    marked-more = record {
      long = more.long ∙ was.long;
      taken = λ c is_new.
          let below : c < length old = (let b = marked-within new c is_new in omega (arith, b, more.long)) in
          ⊎_elim (λ (h : slice_index_or old c false ≡ true). was.taken c h)
          (λ (h : (i : ℕ) × HasSpace (spaces_from (length more.scenario.row.graph.channels) ds) c i × IsOnSome more.ways i). taken-new c h.0 below h.1 h.2) ((more.marked c below).0 is_new);
      shows = λ k e on at low.
          ⊎_elim
          (λ (before : scenario_at file.states graph.tokens e < s). let w = was.shows k e on at before in (w.0, w.1, w.2, λ c i row row_at one is_space. kept c (w.3 c i row row_at one is_space)))
          (λ (here : s ≤ scenario_at file.states graph.tokens e). edge-way k e on at (omega (arith, low, here)))
          (cases_lt (scenario_at file.states graph.tokens e) s);
    }
