-- The text of a worst rate: a critical cycle of a timed graph, and potentials of its nodes.
use Rattle.std.specs.Prelude.{◌≡◌, ◌==◌, ℕ, ℤ, ◌+◌, ◌-◌, ◌*◌, ◌/◌, ◌%◌, ◌<◌, ◌≤◌, nat_lt, if◌then◌else◌, List, [], ◌∷◌, ◌++◌, length, slice_index, slice_index_or, Option, Some, None, All, codes}
use Rattle.std.specs.List.{flat_map}
use Rattle.std.specs.Fmt.{decimal, signed_decimal}
use Rattle.sd_base.specs.declared.tables.SharedRow.{SharedRow}
use Rattle.sd_base.specs.declared.tables.StateRow.{StateRow}
use Rattle.automaton.specs.declared.graph.Edge.{Edge}
use Rattle.automaton.specs.declared.graph.TimedGraph.{TimedGraph}
use Rattle.automaton.specs.CriticalCycles.{weights}
use Rattle.scenario_rate.specs.declared.answer.Worst.{Worst}
use Rattle.escapes.specs.EscapedNames.{escaped_name}
use Rattle.report.specs.FractionTexts.{fraction_text}

-- what stands for a state, and for an edge, past the last one
abbrev pub no_state : StateRow
no_state = record { name = []; scenario = 0; next = [] }

abbrev pub no_edge : Edge
no_edge = record { from = 0; to = 0; weight = 0 }

-- the printed name of a state, by its number
unfoldable pub state_name : List StateRow → ℕ → List ℕ
state_name states q = escaped_name (slice_index_or states q no_state).name

-- a shared channel, as lines show it: a channel whose name begins with the character 1 is the free space of the channel with
-- the rest of the name
unfoldable pub shared_name : List ℕ → List ℕ
shared_name [] = []
shared_name (b ∷ rest) = if b == 1 then escaped_name rest ++ codes "/space" else escaped_name (b ∷ rest)

-- a token of a channel, by its number there
unfoldable pub token_on : List ℕ → ℕ → List ℕ
token_on channel n = shared_name channel ++ (codes " " ++ decimal n)

-- a shared token, by its number through the rows: its channel, and its number there
abbrev pub token_text : List SharedRow → ℕ → List ℕ
token_text [] n = []
token_text (row ∷ rows) n = if nat_lt n row.tokens then token_on row.name n else token_text rows (n - row.tokens)

-- a node of a timed graph with so many shared tokens: its state, and its token
unfoldable pub node_text : List StateRow → List SharedRow → ℕ → ℕ → List ℕ
node_text states shared tokens v = state_name states (v / tokens) ++ (codes " " ++ token_text shared (v % tokens))

-- an edge, by its number
abbrev pub edge_at : TimedGraph → ℕ → Edge
edge_at graph k = slice_index_or graph.edges k no_edge

-- the time and the rounds of a cycle, and the node from which its first edge leads
unfoldable pub worst_header : List StateRow → List SharedRow → TimedGraph → ℕ → ℕ → Edge → List ℕ
worst_header states shared graph time rounds first = codes "cycle " ++ (decimal time ++ (codes " " ++ (decimal rounds ++ (codes " " ++ (node_text states shared graph.tokens first.from ++ 10 ∷ [])))))

-- the node that an edge enters, and its weight
unfoldable pub edge_line : List StateRow → List SharedRow → TimedGraph → Edge → List ℕ
edge_line states shared graph e = node_text states shared graph.tokens e.to ++ (codes " " ++ (decimal e.weight ++ 10 ∷ []))

abbrev pub edge_on : List StateRow → List SharedRow → TimedGraph → ℕ → List ℕ
edge_on states shared graph k = edge_line states shared graph (edge_at graph k)

-- a cycle, and a line for each of its edges
unfoldable pub worst_cycle_lines : List StateRow → List SharedRow → TimedGraph → List ℕ → List ℕ
worst_cycle_lines states shared graph cycle =
    worst_header states shared graph (weights graph.edges cycle) (length cycle) (edge_at graph (slice_index cycle 0)) ++ flat_map (edge_on states shared graph) cycle

-- how many nodes have a potential
abbrev pub potential_count : List (Option ℤ) → ℕ
potential_count [] = 0
potential_count (None ∷ rest) = potential_count rest
potential_count (Some x ∷ rest) = potential_count rest + 1

unfoldable pub potentials_header : ℕ → List ℕ
potentials_header n = codes "potentials " ++ (decimal n ++ 10 ∷ [])

-- a node with its potential
unfoldable pub potential_line : List StateRow → List SharedRow → ℕ → ℕ → ℤ → List ℕ
potential_line states shared tokens v x = node_text states shared tokens v ++ (codes " " ++ (signed_decimal x ++ 10 ∷ []))

-- a line for each node from v on that has a potential
abbrev pub potential_lines : List StateRow → List SharedRow → ℕ → ℕ → List (Option ℤ) → List ℕ
potential_lines states shared tokens v [] = []
potential_lines states shared tokens v (None ∷ rest) = potential_lines states shared tokens (v + 1) rest
potential_lines states shared tokens v (Some x ∷ rest) = potential_line states shared tokens v x ++ potential_lines states shared tokens (v + 1) rest

-- the rate, which is in lowest terms
unfoldable pub worst_rate_line : ℕ → ℕ → List ℕ
worst_rate_line num den = codes "rate " ++ (fraction_text num den ++ 10 ∷ [])

-- what shows a worst rate: the cycle, and the potentials of the nodes that have one
unfoldable pub shown_lines : List StateRow → List SharedRow → TimedGraph → Worst → List ℕ
shown_lines states shared graph worst =
    worst_cycle_lines states shared graph worst.cycle ++ (potentials_header (potential_count worst.potentials) ++ potential_lines states shared graph.tokens 0 worst.potentials)

-- the text of a worst rate: the rate, and what shows it
unfoldable pub worst_lines : List StateRow → List SharedRow → TimedGraph → Worst → List ℕ
worst_lines states shared graph worst = worst_rate_line worst.rate.num worst.rate.den ++ shown_lines states shared graph worst

-- the ends of an edge are nodes of a graph of so many
pub record JoinsNodes (nodes : ℕ) (e : Edge) : Type 0 where
  pub from : e.from < nodes
  pub to : e.to < nodes

-- the nodes of a graph are these states by its shared tokens, and what is shown of the graph lies in it
pub record IsWorstIn (rows : List StateRow) (graph : TimedGraph) (worst : Worst) : Type 0 where
  pub states : graph.states ≡ length rows
  pub edges : All (JoinsNodes (graph.states * graph.tokens)) graph.edges
  pub some : 1 ≤ length worst.cycle
  pub cycle : All (λ k. k < length graph.edges) worst.cycle
  pub potentials : length worst.potentials ≡ graph.states * graph.tokens
