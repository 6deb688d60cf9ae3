-- What an event queue says of the actors.
use Rattle.std.specs.Prelude.{List}
use Rattle.sd_base.specs.Net.{Net}
use Rattle.selftimed.specs.declared.actors.ActorState.{ActorState}
use Rattle.selftimed.specs.declared.event_queue.EventQueue.{EventQueue}
use Rattle.selftimed.specs.inside.EventQueues.{IsEventQueue}

-- an event queue is that of the actors
abbrev pub Plans : Net → List ActorState → EventQueue → Type 0
Plans net actors event_queue = IsEventQueue net actors event_queue.ends event_queue.touched.items
