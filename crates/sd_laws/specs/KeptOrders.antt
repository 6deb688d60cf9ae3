-- No schedule that keeps the orders has a greater rate than `ordered` shows.
use Rattle.std.specs.Prelude.{◌≡◌, ℕ, Bool, true, List, Some, IsSome, Ok}
use Rattle.sd_base.specs.declared.tables.GraphFile.{GraphFile}
use Rattle.sd_base.specs.FileNet.{net_of}
use Rattle.sd_words.specs.declared.request.Request.TheVariants.{Ordered}
use Rattle.sd_words.specs.Asked.{request_of}
use Rattle.storage.specs.BoundedNets.{bound}
use Rattle.storage.specs.NamedBuffers.{Buffer, capacities_of}
use Rattle.graph_reader.specs.Laws.{Gives}
use Rattle.balance.specs.Repetition.{IsRound}
use Rattle.ordered.specs.NamedOrders.{lists_of}
use Rattle.ordered.specs.OrderedNets.{ordered}
use Rattle.ordered.specs.OrderedRates.{HasRateInOrder}
use Rattle.ordered.specs.Orders.{AreOrders}
use Rattle.periodic.specs.declared.schedule.Periodic.{Periodic}
use Rattle.critical.specs.declared.cycle.NeedCycle.{NeedCycle}
use Rattle.report.specs.AnswerTexts.{rate_lines}
use Rattle.sd_io.specs.Outside.{Files, file_under}
use Rattle.sd_steps.specs.declared.answer.Answer.{Answer}
use Rattle.sd_steps.specs.Courses.{Answered}
use Rattle.sd_steps.specs.Orderings.{NamedOrders}
use Rattle.sd_command.specs.commands.Rates.{IsRateShown}
use Rattle.sd_command.specs.Requests.{course_of}

-- the rate that is shown by the net of a graph file, bounded by buffers, whose actors keep the orders, is the greatest of all
-- schedules of the bounded net that keep them
pub record ShowsRateInOrder (files : Files) (name : List ℕ) (lists : NamedOrders) (buffers : List Buffer) (no_overlap : Bool) (states : ℕ) (answer : Answer) : Type 0 where
  pub bytes : List ℕ
  pub graph : GraphFile
  pub gamma : List ℕ
  pub there : file_under files name ≡ Some bytes
  pub given : Gives bytes true graph
  pub round : IsRound graph gamma
  pub schedule : Periodic
  pub cycle : NeedCycle
  pub orders : AreOrders (bound (net_of graph gamma no_overlap) (capacities_of graph.channels buffers)) (lists_of graph.actors lists)
  pub shown : IsRateShown (ordered (bound (net_of graph gamma no_overlap) (capacities_of graph.channels buffers)) (lists_of graph.actors lists)) states schedule cycle
  pub greatest : HasRateInOrder (bound (net_of graph gamma no_overlap) (capacities_of graph.channels buffers)) (lists_of graph.actors lists) shown.num shown.den
  pub text : answer.text ≡ rate_lines graph (ordered (bound (net_of graph gamma no_overlap) (capacities_of graph.channels buffers)) (lists_of graph.actors lists)) schedule cycle

-- so is that of each answer of `ordered`
abbrev pub OrdersAreKept : Type 0
OrdersAreKept =
    (words : List (List ℕ)) (files : Files) (name : List ℕ) (lists : NamedOrders) (buffers : List Buffer) (no_overlap : Bool) (states : ℕ) (answer : Answer) (n : ℕ) → IsSome files
    → request_of words ≡ Ok (Ordered name lists buffers no_overlap states) → course_of words files (Answered answer) n → ShowsRateInOrder files name lists buffers no_overlap states answer
