-- Walks over some of the edges of a graph, the steps of nodes to one, and the cycle that is chosen.
use Rattle.std.specs.Prelude.{◌≡◌, ℕ, ◌+◌, ◌*◌, ◌≤◌, ◌<◌, ◌⊎◌, min, List, [], ◌∷◌, length, slice_get, slice_set, slice_index_or, Bool, true, false, Option, Some, None}
use Rattle.automaton.specs.declared.graph.Edge.{Edge}
use Rattle.scenario_rate.specs.declared.levels.Cell.{Cell}
use Rattle.scenario_rate.specs.inside.Levels.{cell_at}
use Rattle.scenario_rate.specs.ChosenCycles.{end_in, nodes_of, IsNoLater}

-- k is a number of the list
abbrev pub IsAmong : List ℕ → ℕ → Type 0
IsAmong ts k = (i : ℕ) × (slice_get ts i ≡ Some k)

-- the numbers of a list are those of edges
abbrev pub AreKnown : List Edge → List ℕ → Type 0
AreKnown es ts = (i k : ℕ) → slice_get ts i ≡ Some k → k < length es

-- a walk over edges of the list
abbrev pub IsWalkAmong : List Edge → List ℕ → ℕ → List ℕ → ℕ → Type 0
IsWalkAmong es ts u [] v = u ≡ v
IsWalkAmong es ts u (k ∷ ks) v = (e : Edge) × (slice_get es k ≡ Some e) × (u ≡ e.from) × IsAmong ts k × IsWalkAmong es ts e.to ks v

-- a closed walk over edges of the list
pub record HasCycle (es : List Edge) (ts : List ℕ) (nodes : ℕ) : Type 0 where
  pub node : ℕ
  pub inside : node < nodes
  pub walk : List ℕ
  pub some : 1 ≤ length walk
  pub closed : IsWalkAmong es ts node walk node

-- the closed walk that is chosen
pub record IsChosenOf (es : List Edge) (ts : List ℕ) (cycle : List ℕ) : Type 0 where
  pub node : ℕ
  pub closed : IsWalkAmong es ts node cycle node
  pub some : 1 ≤ length cycle
  pub least_node : (v : ℕ) (ks : List ℕ) → 1 ≤ length ks → IsWalkAmong es ts v ks v → node ≤ v
  pub fewest : (ks : List ℕ) → 1 ≤ length ks → IsWalkAmong es ts node ks node → length cycle ≤ length ks
  pub least : (ks : List ℕ) → length ks ≡ length cycle → IsWalkAmong es ts node ks node → IsNoLater (nodes_of es cycle) (nodes_of es ks)

abbrev pub steps_at : List (Option ℕ) → ℕ → Option ℕ
steps_at steps v = slice_index_or steps v None

-- a node has at most so many steps
abbrev pub IsWithin : List (Option ℕ) → ℕ → ℕ → Type 0
IsWithin steps v n = (d : ℕ) × (steps_at steps v ≡ Some d) × (d ≤ n)

-- each node's steps are those of a walk to the root
abbrev pub AreWalked : List Edge → List ℕ → ℕ → List (Option ℕ) → Type 0
AreWalked es ts root steps = (v d : ℕ) → steps_at steps v ≡ Some d → (ks : List ℕ) × IsWalkAmong es ts v ks root × (length ks ≡ d)

-- no steps are more than n
abbrev pub AreFew : ℕ → List (Option ℕ) → Type 0
AreFew n steps = (v d : ℕ) → steps_at steps v ≡ Some d → d ≤ n

-- by node the fewest edges of a walk of at most as many as there are nodes
pub record IsDistance (es : List Edge) (ts : List ℕ) (nodes root : ℕ) (steps : List (Option ℕ)) : Type 0 where
  pub long : length steps ≡ nodes
  pub walked : AreWalked es ts root steps
  pub few : AreFew nodes steps
  pub near : (v : ℕ) (ks : List ℕ) → IsWalkAmong es ts v ks root → length ks ≤ nodes → IsWithin steps v (length ks)

-- steps are missing, or more than n
abbrev pub IsFarther : Option ℕ → ℕ → Type 0
IsFarther None n = Unit {0}
IsFarther (Some d) n = n < d

-- steps are there, and at most n
abbrev pub IsWithinOf : Option ℕ → ℕ → Type 0
IsWithinOf None n = ⊥
IsWithinOf (Some d) n = d ≤ n

-- an edge has brought its start nearer, or it had no need to
abbrev pub IsBrought : Edge → List (Option ℕ) → List (Option ℕ) → Bool → Type 0
IsBrought e old new true = (s : ℕ) × (steps_at old e.to ≡ Some s) × (s < length old) × IsFarther (steps_at old e.from) (s + 1) × (new ≡ slice_set old e.from (Some (s + 1)))
IsBrought e old new false = (new ≡ old) × ((s : ℕ) → steps_at old e.to ≡ Some s → s < length old → IsWithin old e.from (s + 1))

-- the fewer of some steps and one more than others
abbrev pub fewer_of : Option ℕ → Option ℕ → Option ℕ
fewer_of r None = r
fewer_of None (Some d) = Some (d + 1)
fewer_of (Some n) (Some d) = Some (min n (d + 1))

-- of two edges the one that ends at the lesser node, the first where both end at one
abbrev pub IsNearer : List Edge → Option ℕ → ℕ → Option ℕ → Type 0
IsNearer es None k result = result ≡ Some k
IsNearer es (Some old) k result =
    ((end_in (slice_get es k) < end_in (slice_get es old)) × (result ≡ Some k))
    ⊎ ((end_in (slice_get es old) ≤ end_in (slice_get es k)) × (result ≡ Some old))

-- no edge of the first n of a list leads to a node with steps
abbrev pub NoneBack : List Edge → List ℕ → List (Option ℕ) → ℕ → Type 0
NoneBack es ts steps n = (i k d : ℕ) (e : Edge) → i < n → slice_get ts i ≡ Some k → slice_get es k ≡ Some e → steps_at steps e.to ≡ Some d → ⊥

-- r is one more than the fewest steps to which an edge of the first n of a list leads
pub record IsFewest (es : List Edge) (ts : List ℕ) (steps : List (Option ℕ)) (n r : ℕ) : Type 0 where
  pub least : (i k d : ℕ) (e : Edge) → i < n → slice_get ts i ≡ Some k → slice_get es k ≡ Some e → steps_at steps e.to ≡ Some d → r ≤ d + 1
  pub place : ℕ
  pub number : ℕ
  pub steps_there : ℕ
  pub edge : Edge
  pub at : slice_get ts place ≡ Some number
  pub is : slice_get es number ≡ Some edge
  pub to : steps_at steps edge.to ≡ Some steps_there
  pub count : r ≡ steps_there + 1

-- k is an edge to a node that is so many steps away, with the least end of the first n edges of a list
pub record IsNextEdge (es : List Edge) (ts : List ℕ) (steps : List (Option ℕ)) (left n number : ℕ) : Type 0 where
  pub among : IsAmong ts number
  pub edge : Edge
  pub is : slice_get es number ≡ Some edge
  pub to : steps_at steps edge.to ≡ Some left
  pub least : (i k : ℕ) (e : Edge) → i < n → slice_get ts i ≡ Some k → slice_get es k ≡ Some e → steps_at steps e.to ≡ Some left → edge.to ≤ e.to

-- no edge of the first n of a list leads to a node that is so many steps away
abbrev pub NoneNext : List Edge → List ℕ → List (Option ℕ) → ℕ → ℕ → Type 0
NoneNext es ts steps left n = (i k : ℕ) (e : Edge) → i < n → slice_get ts i ≡ Some k → slice_get es k ≡ Some e → steps_at steps e.to ≡ Some left → ⊥

-- walks of so many edges lead from a node to the root, and none of fewer that has some
pub record IsOnWay (es : List Edge) (ts : List ℕ) (steps : List (Option ℕ)) (nodes root node left : ℕ) : Type 0 where
  pub distance : IsDistance es ts nodes root steps
  pub small : left ≤ nodes + 1
  pub here : (ks : List ℕ) × IsWalkAmong es ts node ks root × (length ks ≡ left)
  pub fewest : (ks : List ℕ) → 1 ≤ length ks → IsWalkAmong es ts node ks root → left ≤ length ks

-- a walk of so many edges from a node to the root, whose nodes come first in order among those of all such walks
pub record IsLeastWay (es : List Edge) (ts : List ℕ) (root node left : ℕ) (ks : List ℕ) : Type 0 where
  pub walk : IsWalkAmong es ts node ks root
  pub long : length ks ≡ left
  pub least : (others : List ℕ) → length others ≡ left → IsWalkAmong es ts node others root → IsNoLater (nodes_of es ks) (nodes_of es others)

-- two cells are as far apart as an edge brings them
abbrev pub IsEven : ℕ → ℕ → Edge → Option Cell → Option Cell → Type 0
IsEven l w e None d = ⊥
IsEven l w e (Some c) None = ⊥
IsEven l w e (Some c) (Some d) = c.score + e.weight * l ≡ d.score + w

-- edge k is tight by the scores of a row
abbrev pub IsTightIn : List Edge → List (Option Cell) → ℕ → ℕ → ℕ → Type 0
IsTightIn es row l w k = (e : Edge) × (slice_get es k ≡ Some e) × IsEven l w e (cell_at row e.from) (cell_at row e.to)

-- the numbers below n of tight edges
pub record AreTight (es : List Edge) (row : List (Option Cell)) (l w n : ℕ) (ts : List ℕ) : Type 0 where
  pub each : (k : ℕ) → IsAmong ts k → IsTightIn es row l w k
  pub all : (k : ℕ) → k < n → IsTightIn es row l w k → IsAmong ts k
