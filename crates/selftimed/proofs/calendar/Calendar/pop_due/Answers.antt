use Rattle.std.specs.BinaryHeap.{heap_items}
use Rattle.selftimed.proofs.CalendarsTellSoonest.{taken}
use Rattle.selftimed.proofs.calendar.Calendar.pop_due.Goals as goal

pub returns : goal.returns
returns c = rw (← c.self.view_is) (taken c.args.moment c.in_ok-place.place c.self.inside.few.items (heap_items c.self.inside.many) c.swap_remove-actor.new.self.items c.swap_remove-actor.result (c.self.invariant.0 c.if-not-self.false)
    (rw c.as_slice.ensures.value at c.in_ok-place.ensures.0) c.swap_remove-actor.ensures.value (rw c.as_slice.ensures.value at c.in_ok-place.ensures.1) c.swap_remove-actor.ensures.items)
