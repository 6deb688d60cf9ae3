-- The command `ordered`.
use Rattle.std.specs.Prelude.{◌↔◌, ℕ, List}
use Rattle.sd_base.specs.Net.{Net}
use Rattle.sd_base.specs.Schedules.{Admissible, Schedule}
use Rattle.storage.specs.NamedBuffers.{Buffer}
use Rattle.ordered.specs.OrderedNets.{ordered as ordered_net}
use Rattle.ordered.specs.Orders.{KeepsOrders}
use Rattle.sd_io.specs.Outside.{Files}
use Rattle.sd_command.specs.declared.commands.wanted.WantedRate.{WantedRate}
use Rattle.sd_command.specs.commands.BoundedCourses.{OnNet, on_file}
use Rattle.sd_steps.specs.Courses.{Ending, After}
use Rattle.sd_steps.specs.Orderings.{NamedOrders, ordering}
use Rattle.sd_command.specs.commands.Throughputs.{rate_on}

-- a net with orders admits the schedules that the net admits and that keep the orders: so what holds on it keeps them
abbrev pub AdmitsInOrder : Net → List (List ℕ) → Type 0
AdmitsInOrder net orders = (s : Schedule) → Admissible (ordered_net net orders) s ↔ (Admissible net s × KeepsOrders net orders s)

-- what is done with a net whose actors keep orders
abbrev pub in_order : Net → List (List ℕ) → (Net → Ending → ℕ → Type 0) → Ending → ℕ → Type 0
in_order net orders next ending n = AdmitsInOrder net orders × next (ordered_net net orders) ending n

-- the rate of a bounded net whose named actors keep orders
abbrev pub ordered_rate_on : NamedOrders → WantedRate → OnNet
ordered_rate_on lists wanted graph gamma distribution net =
    After (ordering graph gamma lists) λ orders.
    in_order net orders.lists (rate_on wanted graph gamma distribution)

abbrev pub ordered : List ℕ → NamedOrders → List Buffer → WantedRate → Files → Ending → ℕ → Type 0
ordered name lists buffers wanted = on_file name buffers wanted.no_overlap (ordered_rate_on lists wanted)
