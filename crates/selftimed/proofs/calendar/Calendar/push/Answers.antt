use Rattle.std.specs.BinaryHeap.{heap_items}
use Rattle.selftimed.specs.inside.EventQueues.{entry}
use Rattle.selftimed.proofs.CalendarsTellSoonest.{added}
use Rattle.selftimed.proofs.calendar.Calendar.push.Goals as goal

pub returns-in_ok-push : goal.returns-in_ok-push
returns-in_ok-push c = rw (← c.self.view_is) (added c.self.inside.few.items (heap_items c.self.inside.many) c.push.new.self.items (entry c.args.end c.args.actor) (c.self.invariant.0 c.if-self.true) c.in_ok-push.ensures.items)
