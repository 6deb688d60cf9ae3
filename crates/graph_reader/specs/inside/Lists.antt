-- What is known of actors and channels that are read when their rows are made.
use Rattle.std.specs.Prelude.{ℕ, ◌≤◌, ◌<◌, List, length, map, All}
use Rattle.sd_base.specs.declared.limits.TheConstants.{PHASES}
use Rattle.graph_reader.specs.declared.actors.Port.{Port}
use Rattle.graph_reader.specs.declared.actors.Actor.{Actor}
use Rattle.graph_reader.specs.declared.channels.Channel.{Channel}

-- lists of at most as many numbers as an actor may have phases
abbrev pub AreShort : List (List ℕ) → Type 0
AreShort lists = All (λ xs. length xs ≤ PHASES) lists

-- the rates of an actor's ports are such lists
abbrev pub HasShortPorts : Actor → Type 0
HasShortPorts a = AreShort (map (λ (p : Port). p.rates) a.ports)

-- the ends of a channel are among so many actors
pub record JoinActors (actors : ℕ) (c : Channel) : Type 0 where
  pub source : c.source.actor < actors
  pub target : c.target.actor < actors
