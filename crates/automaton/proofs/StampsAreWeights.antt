-- Stamps along paths of states are weights of walks.
use Rattle.std.proofs.Common.{◌≡◌, ℕ, suc, ◌+◌, ◌*◌, ◌≤◌, ◌<◌, List, [], ◌∷◌, length, Option, Some, refl, sym, ap, subst, ◌∙◌, inl, inr, arith}
use Rattle.std.specs.Prelude.{slice_get, slice_index, slice_index_or}
use Rattle.std.proofs.lemmas.Nat.{same_from_place}
use Rattle.std.proofs.lemmas.List.{length-map}
use Rattle.sd_base.specs.Net.{IsRepetitionOf}
use Rattle.sd_base.specs.declared.tables.ScenarioFile.{ScenarioFile}
use Rattle.sd_base.specs.declared.tables.ScenarioRow.{ScenarioRow}
use Rattle.sd_base.specs.declared.tables.StateRow.{StateRow}
use Rattle.automaton.specs.declared.graph.TimedGraph.{TimedGraph}
use Rattle.automaton.specs.declared.graph.Edge.{Edge}
use Rattle.sd_base.specs.Scenarios.{shared_count}
use Rattle.sd_base.proofs.ElementsKeepPlaces.{get-there}
use Rattle.sd_base.proofs.RoundsKeepTokens.{one-repetition}
use Rattle.token_matrix.specs.Stamps.{AreStampsOf}
use Rattle.token_matrix.specs.Matrices.{IsMatrix, applied, apply_row, entry_at}
use Rattle.automaton.specs.WorstRates.{Follow, Carries, RunsTo}
use Rattle.automaton.specs.TimedGraphs.{IsTimedGraph, edges_from}
use Rattle.automaton.specs.CriticalCycles.{IsPath, weights, weight_in}
use Rattle.automaton.proofs.EdgesComeFromEntries.{Has, has-get, get-has, from-there, from-from}
use Rattle.token_matrix.proofs.EntriesGiveStamps.{row-least, row-gives, Gives, applied-at}

module _ (file : ScenarioFile) (graph : TimedGraph) (is : IsTimedGraph file graph) where
  n : ℕ
  n = shared_count file.shared

  -- the matrix of a state's scenario
  matrix_of : StateRow → List (List (Option ℕ))
  matrix_of s = slice_index_or is.matrices s.scenario []

  -- what is known of a state
  pub record At (q : ℕ) (s : StateRow) : Type 0 where
    pub row : ScenarioRow
    pub row_at : slice_get file.scenarios s.scenario ≡ Some row
    pub gamma : List ℕ
    pub least : IsRepetitionOf row.graph gamma
    pub matrix : IsMatrix file.shared row.graph gamma (slice_index_or is.matrices s.scenario [])

  pub at_state : (q : ℕ) (s : StateRow) → slice_get file.states q ≡ Some s → At q s
  at_state q s there =
      let row = get-there file.scenarios s.scenario (is.leads_on.scenarios q s there) in
      let m = is.are_matrices.each s.scenario row.0 row.1 in
      record { row = row.0; row_at = row.1; gamma = m.0; least = m.1; matrix = m.2 }

  -- a round carries stamps as the matrix does
  carries : (q : ℕ) (s : StateRow) (x z : List ℕ) → slice_get file.states q ≡ Some s → Carries file q x z
      → (length x ≡ shared_count file.shared) × (z ≡ applied (slice_index_or is.matrices s.scenario []) x)
  carries q s x z there (s', there', row, row_at, gamma, least, stamps) =
      let same : s' ≡ s = (let e : ◌≡◌ {A = Option StateRow} (Some s') (Some s) = sym there' ∙ there in (cc)) in
      let m = is.are_matrices.each s'.scenario row row_at in
      let one : gamma ≡ m.0 = one-repetition row.graph gamma m.0 least m.1 in
      let stamps' : AreStampsOf file.shared row.graph m.0 x z = subst (λ (v : List ℕ). AreStampsOf file.shared row.graph v x z) one stamps in
      let to : z ≡ applied (slice_index_or is.matrices s'.scenario []) x = (m.2.carries x z stamps.before).0 stamps' in
      (stamps.before, subst (λ (t : StateRow). z ≡ applied (slice_index_or is.matrices t.scenario []) x) same to)

  -- and each list of stamps is carried on
  carried : (q : ℕ) (s : StateRow) (x : List ℕ) → slice_get file.states q ≡ Some s → length x ≡ shared_count file.shared
      → Carries file q x (applied (slice_index_or is.matrices s.scenario []) x)
  carried q s x there long =
      let a = at_state q s there in
      (s, there, a.row, a.row_at, a.gamma, a.least, (a.matrix.carries x (applied (slice_index_or is.matrices s.scenario []) x) long).1 refl)

  -- an entry is an edge
  edge_there : (q r i j w : ℕ) (s : StateRow) (p : ℕ) → slice_get file.states q ≡ Some s → slice_get s.next p ≡ Some r
      → entry_at (slice_index_or is.matrices s.scenario []) j i ≡ Some w
      → (k : ℕ) × (e : Edge) × (slice_get graph.edges k ≡ Some e) × (e.from ≡ q * n + i) × (e.to ≡ r * n + j) × (e.weight ≡ w)
  unfolding n
  edge_there q r i j w s p there next entry =
      has-get graph.edges (q * shared_count file.shared + i) (r * shared_count file.shared + j) w
      (subst (λ (es : List Edge). Has es (q * shared_count file.shared + i) (r * shared_count file.shared + j) w) (sym is.edges)
      (subst (λ (m : ℕ). Has (edges_from (shared_count file.shared) 0 is.matrices file.states) (m * shared_count file.shared + i) (r * shared_count file.shared + j) w) (let e : 0 + q ≡ q = omega arith in e)
      (from-there (shared_count file.shared) 0 is.matrices file.states q s p r j i w there next entry)))

  pub edge_at : (q r i j w : ℕ) (s : StateRow) (p : ℕ) → slice_get file.states q ≡ Some s → slice_get s.next p ≡ Some r
      → entry_at (slice_index_or is.matrices s.scenario []) j i ≡ Some w
      → (k : ℕ) × (e : Edge) × (slice_get graph.edges k ≡ Some e) × (e.from ≡ q * shared_count file.shared + i) × (e.to ≡ r * shared_count file.shared + j) × (e.weight ≡ w)
  unfolding n
  edge_at q r i j w s p there next entry = edge_there q r i j w s p there next entry

  -- an edge is an entry
  pub record FromEntry (e : Edge) : Type 0 where
    pub q : ℕ
    pub s : StateRow
    pub there : slice_get file.states q ≡ Some s
    pub p : ℕ
    pub r : ℕ
    pub next : slice_get s.next p ≡ Some r
    pub i : ℕ
    pub j : ℕ
    pub column : i < shared_count file.shared
    pub row : j < shared_count file.shared
    pub from : e.from ≡ q * shared_count file.shared + i
    pub to : e.to ≡ r * shared_count file.shared + j
    pub entry : entry_at (slice_index_or is.matrices s.scenario []) j i ≡ Some e.weight

  pub edge_from : (k : ℕ) (e : Edge) → slice_get graph.edges k ≡ Some e → FromEntry e
  edge_from k e at =
      let has : Has (edges_from (shared_count file.shared) 0 is.matrices file.states) e.from e.to e.weight =
      subst (λ (es : List Edge). Has es e.from e.to e.weight) is.edges (get-has graph.edges k e at) in
      let f = from-from (shared_count file.shared) 0 is.matrices file.states e.from e.to e.weight has in
      let a = at_state f.place f.state f.at in
      let g = f.out.rows_of in
      let row : g.j < shared_count file.shared = omega (arith, g.row, a.matrix.size) in
      record {
        q = f.place;
        s = f.state;
        there = f.at;
        p = f.out.p;
        r = f.out.r;
        next = f.out.to;
        i = g.i;
        j = g.j;
        column = (let b : g.i < length (slice_index_or (slice_index_or is.matrices f.state.scenario []) g.j []) = g.within in let c : length (slice_index_or (slice_index_or is.matrices f.state.scenario []) g.j []) ≡ shared_count file.shared = a.matrix.square g.j row in omega arith);
        row = row;
        from = (let b : e.from ≡ (0 + f.place) * shared_count file.shared + g.i = g.start in omega arith);
        to = g.end;
        entry = g.entry;
      }

  pub edge-to : (k : ℕ) (e : Edge) → slice_get graph.edges k ≡ Some e → (r : ℕ) × (j : ℕ) × (r < length file.states) × (j < shared_count file.shared) × (e.to ≡ r * shared_count file.shared + j)
  edge-to k e at = let f = edge_from k e at in (f.r, f.j, is.leads_on.known f.q f.p f.r f.s f.there f.next, f.row, f.to)

  -- a stamp after a path is a stamp before it and the weights of a walk
  pub record Origin (q : ℕ) (x : List ℕ) (long stamp : ℕ) : Type 0 where
    pub i : ℕ
    pub within : i < shared_count file.shared
    pub walk : List ℕ
    pub end : ℕ
    pub path : IsPath graph.edges (q * shared_count file.shared + i) walk end
    pub steps : length walk ≡ long
    pub sum : slice_index x i + weights graph.edges walk ≡ stamp

  -- how the stamp of a token comes about in one round
  record Comes (q r : ℕ) (x z : List ℕ) (j : ℕ) : Type 0 where
    i : ℕ
    within : i < shared_count file.shared
    k : ℕ
    e : Edge
    at : slice_get graph.edges k ≡ Some e
    from : e.from ≡ q * shared_count file.shared + i
    to : e.to ≡ r * shared_count file.shared + j
    sum : slice_index x i + e.weight ≡ slice_index z j

  comes : (q r p : ℕ) (s : StateRow) (x z : List ℕ) (j : ℕ) → slice_get file.states q ≡ Some s → slice_get s.next p ≡ Some r → Carries file q x z → j < shared_count file.shared → Comes q r x z j
  unfolding n
  comes q r p s x z j there next run below =
      let a = at_state q s there in
      let c = carries q s x z there run in
      let rows = slice_index_or is.matrices s.scenario [] in
      let size : length (slice_index_or is.matrices s.scenario []) ≡ shared_count file.shared = a.matrix.size in
      let square : length (slice_index_or (slice_index_or is.matrices s.scenario []) j []) ≡ shared_count file.shared = a.matrix.square j below in
      let is_row : slice_index z j ≡ apply_row (slice_index_or (slice_index_or is.matrices s.scenario []) j []) x =
      ap (λ (y : List ℕ). slice_index y j) c.1 ∙ applied-at (slice_index_or is.matrices s.scenario []) x j (omega arith) in
      let f = a.matrix.full j below in
      let g : Gives (slice_index_or (slice_index_or is.matrices s.scenario []) j []) x =
      elim (row-gives (slice_index_or (slice_index_or is.matrices s.scenario []) j []) x (square ∙ sym c.0)) [ inl g ↦ g | inr (free, none) ↦ absurd (free f.0 f.1 f.2) ] in
      let e = edge_there q r g.i j g.e s p there next g.entry in
      record {
        i = g.i;
        within = (let b : g.i < length x = g.within in omega (arith, c.0));
        k = e.0;
        e = e.1;
        at = e.2;
        from = e.3;
        to = e.4;
        sum = (let b : e.1.weight ≡ g.e = e.5 in let d : slice_index x g.i + g.e ≡ apply_row (slice_index_or (slice_index_or is.matrices s.scenario []) j []) x = g.is in omega arith);
      }

  pub from_stamps : (qs : List ℕ) (q : ℕ) (x y : List ℕ) → q < length file.states → Follow file.states q qs → RunsTo file x (q ∷ qs) y
      → (j : ℕ) → j < shared_count file.shared → Origin q x (suc (length qs)) (slice_index y j)
  from_stamps [] q x y known follow (z, run, same) j below =
      let s = get-there file.states q known in
      let next = get-there s.0.next 0 (is.leads_on.next q s.0 s.1) in
      let c = comes q next.0 0 s.0 x z j s.1 next.1 run below in
      let weight : weights graph.edges (c.k ∷ []) ≡ c.e.weight + 0 = ap (λ (o : Option Edge). weight_in o + 0) c.at in
      record {
        i = c.i;
        within = c.within;
        walk = c.k ∷ [];
        end = c.e.to;
        path = (c.e, c.at, sym c.from, refl);
        steps = refl;
        sum = (let b : slice_index x c.i + c.e.weight ≡ slice_index z j = c.sum in let d : slice_index y j ≡ slice_index z j = ap (λ (t : List ℕ). slice_index t j) same in omega arith);
      }
  from_stamps (r ∷ qs) q x y known ((s, there, p, next), follow) (z, run, rest) j below =
      let o = from_stamps qs r z y (is.leads_on.known q p r s there next) follow rest j below in
      let c = comes q r p s x z o.i there next run o.within in
      let weight : weights graph.edges (c.k ∷ o.walk) ≡ c.e.weight + weights graph.edges o.walk = ap (λ (t : Option Edge). weight_in t + weights graph.edges o.walk) c.at in
      record {
        i = c.i;
        within = c.within;
        walk = c.k ∷ o.walk;
        end = o.end;
        path = (c.e, c.at, sym c.from, subst (λ (u : ℕ). IsPath graph.edges u o.walk o.end) (sym c.to) o.path);
        steps = ap (λ (m : ℕ). suc m) o.steps;
        sum = (let b : slice_index x c.i + c.e.weight ≡ slice_index z o.i = c.sum in let d : slice_index z o.i + weights graph.edges o.walk ≡ slice_index y j = o.sum in omega arith);
      }

  -- a walk is no heavier than the stamps of its path
  pub record Reach (q i : ℕ) (x : List ℕ) (long sum : ℕ) : Type 0 where
    pub states : List ℕ
    pub stamps : List ℕ
    pub follow : Follow file.states q states
    pub steps : length states ≡ long
    pub runs : RunsTo file x (q ∷ states) stamps
    pub token : ℕ
    pub above : slice_index x i + sum ≤ slice_index stamps token

  -- one round along an edge
  record Round (q i : ℕ) (x : List ℕ) (e : Edge) : Type 0 where
    r : ℕ
    p : ℕ
    s : StateRow
    there : slice_get file.states q ≡ Some s
    next : slice_get s.next p ≡ Some r
    z : List ℕ
    run : Carries file q x z
    long : length z ≡ shared_count file.shared
    j : ℕ
    row : j < shared_count file.shared
    to : e.to ≡ r * shared_count file.shared + j
    above : slice_index x i + e.weight ≤ slice_index z j

  first_round : (k q i : ℕ) (x : List ℕ) (e : Edge) → i < shared_count file.shared → length x ≡ shared_count file.shared
      → slice_get graph.edges k ≡ Some e → q * shared_count file.shared + i ≡ e.from → Round q i x e
  first_round k q i x e below long at from =
      let f = edge_from k e at in
      let node = same_from_place q i f.q f.i (shared_count file.shared) below f.column (from ∙ f.from) in
      let there : slice_get file.states q ≡ Some f.s = ap (λ (m : ℕ). slice_get file.states m) node.0 ∙ f.there in
      let a = at_state q f.s there in
      let size : length (slice_index_or is.matrices f.s.scenario []) ≡ shared_count file.shared = a.matrix.size in
      let row : f.j < shared_count file.shared = f.row in
      let column : f.i < shared_count file.shared = f.column in
      let least : slice_index x f.i + e.weight ≤ apply_row (slice_index_or (slice_index_or is.matrices f.s.scenario []) f.j []) x =
      row-least (slice_index_or (slice_index_or is.matrices f.s.scenario []) f.j []) x f.i e.weight f.entry (omega arith) in
      let at_z : slice_index (applied (slice_index_or is.matrices f.s.scenario []) x) f.j ≡ apply_row (slice_index_or (slice_index_or is.matrices f.s.scenario []) f.j []) x =
      applied-at (slice_index_or is.matrices f.s.scenario []) x f.j (omega arith) in
      record {
        r = f.r;
        p = f.p;
        s = f.s;
        there = there;
        next = f.next;
        z = applied (slice_index_or is.matrices f.s.scenario []) x;
        run = carried q f.s x there long;
        long = length-map (slice_index_or is.matrices f.s.scenario []) (λ (r : List (Option ℕ)). apply_row r x) ∙ size;
        j = f.j;
        row = row;
        to = f.to;
        above = subst (λ (m : ℕ). slice_index x m + e.weight ≤ slice_index (applied (slice_index_or is.matrices f.s.scenario []) x) f.j) (sym node.1) (omega arith);
      }

  pub to_stamps : (ks : List ℕ) (k q i v : ℕ) (x : List ℕ) → i < shared_count file.shared → length x ≡ shared_count file.shared
      → IsPath graph.edges (q * shared_count file.shared + i) (k ∷ ks) v → Reach q i x (length ks) (weights graph.edges (k ∷ ks))
  to_stamps [] k q i v x below long (e, at, from, rest) =
      let f = first_round k q i x e below long at from in
      let weight : weights graph.edges (k ∷ []) ≡ e.weight + 0 = ap (λ (t : Option Edge). weight_in t + 0) at in
      record {
        states = [];
        stamps = f.z;
        follow = tt;
        steps = refl;
        runs = (f.z, f.run, refl);
        token = f.j;
        above = (let b : slice_index x i + e.weight ≤ slice_index f.z f.j = f.above in omega arith);
      }
  to_stamps (l ∷ ks) k q i v x below long (e, at, from, rest) =
      let f = first_round k q i x e below long at from in
      let weight : weights graph.edges (k ∷ l ∷ ks) ≡ e.weight + weights graph.edges (l ∷ ks) = ap (λ (t : Option Edge). weight_in t + weights graph.edges (l ∷ ks)) at in
      let d = to_stamps ks l f.r f.j v f.z f.row f.long (subst (λ (u : ℕ). IsPath graph.edges u (l ∷ ks) v) f.to rest) in
      record {
        states = f.r ∷ d.states;
        stamps = d.stamps;
        follow = ((f.s, f.there, f.p, f.next), d.follow);
        steps = ap (λ (m : ℕ). suc m) d.steps;
        runs = (f.z, f.run, d.runs);
        token = d.token;
        above = (let b : slice_index x i + e.weight ≤ slice_index f.z f.j = f.above in let c : slice_index f.z f.j + weights graph.edges (l ∷ ks) ≤ slice_index d.stamps d.token = d.above in omega arith);
      }
