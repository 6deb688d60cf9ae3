-- The graph that is made from a number: a chain, whose numbers come from a linear congruence.
use Rattle.std.specs.Prelude.{ℕ, zero, suc, ◌+◌, ◌*◌, ◌/◌, ◌%◌, ◌≤◌, ◌==◌, if◌then◌else◌, List, [], ◌∷◌, ◌++◌, codes}
use Rattle.std.specs.Fmt.{decimal}
use Rattle.sd_base.specs.declared.tables.Kind.TheVariants.{Sdf}
use Rattle.sd_base.specs.declared.tables.GraphFile.{GraphFile}
use Rattle.sd_base.specs.declared.tables.ActorRow.{ActorRow}
use Rattle.sd_base.specs.declared.tables.ChannelRow.{ChannelRow}
use Rattle.gen_graph.specs.declared.made.Drawn.{Drawn}

-- the states are numbers below 2 ^ 31
abbrev pub modulus : ℕ
modulus = 2147483648

-- the factor of a linear congruence, and what it adds: those of ANSI C's example
abbrev pub multiplier : ℕ
multiplier = 1103515245

abbrev pub increment : ℕ
increment = 12345

-- how many values the lower bits of a state have
abbrev pub lower : ℕ
lower = 65536

-- the state after a state
unfoldable pub next : ℕ → ℕ
next x = (multiplier * x + increment) % modulus

-- the number below n that a state gives, by its upper bits
unfoldable pub number_below : ℕ → ℕ → ℕ
number_below n x = (x / lower) % n

-- what is drawn for an actor after a state: a weight from 1 to 3 by the next state, a time from 1 to 9 by the one after it
unfoldable pub drawn_after : ℕ → Drawn
drawn_after x = record { weight = 1 + number_below 3 (next x); time = 1 + number_below 9 (next (next x)) }

pub record IsDrawn (d : Drawn) : Type 0 where
  pub some_weight : 1 ≤ d.weight
  pub weight : d.weight ≤ 3
  pub some_time : 1 ≤ d.time
  pub time : d.time ≤ 9

-- what is drawn for n actors
abbrev pub drawn_for : ℕ → ℕ → List Drawn
drawn_for x zero = []
drawn_for x (suc n) = drawn_after x ∷ drawn_for (next (next x)) n

-- actor i: one phase, and its time
unfoldable pub made_actor : ℕ → Drawn → ActorRow
made_actor i d = record { name = codes "a" ++ decimal i; phases = 1; times = d.time ∷ [] }

abbrev pub made_actors : ℕ → List Drawn → List ActorRow
made_actors i [] = []
made_actors i (d ∷ ds) = made_actor i d ∷ made_actors (i + 1) ds

-- the least common multiple of two weights: those from 1 to 3 are the same or have no common divisor but 1
unfoldable pub common_multiple : ℕ → ℕ → ℕ
common_multiple v w = if v == w then v else v * w

-- channel i: from actor i to the next one, with rates that balance the weights of the two, without tokens
unfoldable pub made_channel : ℕ → ℕ → ℕ → ChannelRow
made_channel i v w = record {
  name = codes "c" ++ decimal i;
  source = i;
  target = i + 1;
  made = common_multiple v w / v ∷ [];
  taken = common_multiple v w / w ∷ [];
  tokens = 0;
  size = 1;
}

-- a channel from each actor to the next; the first actor here is actor i and has weight v
abbrev pub made_channels : ℕ → ℕ → List Drawn → List ChannelRow
made_channels i v [] = []
made_channels i v (d ∷ ds) = made_channel i v d.weight ∷ made_channels (i + 1) d.weight ds

abbrev pub chain_of : List Drawn → List ChannelRow
chain_of [] = []
chain_of (d ∷ ds) = made_channels 0 d.weight ds

-- the graph of a number and so many actors
unfoldable pub made_graph : ℕ → ℕ → GraphFile
made_graph seed actors = record {
  kind = Sdf;
  actors = made_actors 0 (drawn_for (seed % modulus) actors);
  channels = chain_of (drawn_for (seed % modulus) actors);
}
