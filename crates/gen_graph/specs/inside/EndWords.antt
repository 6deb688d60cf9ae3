-- The words of a channel for what is at one of its ends.
use Rattle.std.specs.Prelude.{ℕ, List, codes}
use Rattle.gen_graph.specs.declared.direction.Direction.{Direction}
use Rattle.gen_graph.specs.declared.direction.Direction.TheVariants.{Out, In}

-- the actor
abbrev pub actor_word : Direction → List ℕ
actor_word Out = codes "srcActor"
actor_word In = codes "dstActor"

-- the port
abbrev pub port_word : Direction → List ℕ
port_word Out = codes "srcPort"
port_word In = codes "dstPort"
