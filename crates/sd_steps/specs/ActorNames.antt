-- Printed names.
use Rattle.std.specs.Prelude.{ℕ, List, [], slice_index_or}
use Rattle.sd_base.specs.declared.tables.GraphFile.{GraphFile}
use Rattle.escapes.specs.EscapedNames.{escaped_name}

-- the printed name of an actor
abbrev pub actor_shown : GraphFile → ℕ → List ℕ
actor_shown graph a = escaped_name (slice_index_or graph.actors a (record { name = []; phases = 0; times = [] })).name
