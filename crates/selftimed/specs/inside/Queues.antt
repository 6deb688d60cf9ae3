-- What is left of a queue.
use Rattle.std.specs.Prelude.{◌≤◌, List, length, drop}
use Rattle.selftimed.specs.declared.queue.Run.{Run}
use Rattle.selftimed.specs.declared.queue.Queue.TheInside.{Inside}

-- the runs that aren't past
abbrev pub still_to_come : Inside → List Run
still_to_come q = drop q.head q.runs.items

-- the queue begins within its list
abbrev pub IsQueue : Inside → Type 0
IsQueue q = q.head ≤ length q.runs.items
