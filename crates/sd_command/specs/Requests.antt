-- The command of each request, and the course of words.
use Rattle.std.specs.Prelude.{ℕ, List, None}
use Rattle.sd_words.specs.declared.request.Request.{Request}
use Rattle.sd_words.specs.declared.request.Request.TheVariants as requests
use Rattle.sd_io.specs.Outside.{Files}
use Rattle.sd_steps.specs.Courses.{Ending, After}
use Rattle.sd_command.specs.commands.Repetitions.{repetition}
use Rattle.sd_command.specs.commands.Throughputs.{throughput}
use Rattle.sd_command.specs.commands.InOrders.{ordered}
use Rattle.sd_command.specs.commands.LeastTimes.{complete}
use Rattle.sd_command.specs.commands.Expansions.{expand}
use Rattle.sd_command.specs.commands.TradeOffs.{storage}
use Rattle.sd_command.specs.commands.WorstRates.{scenario}
use Rattle.sd_command.specs.commands.ScenarioPoints.{scenario_storage}
use Rattle.sd_command.specs.commands.Generations.{generate}
use Rattle.sd_command.specs.commands.Checks.{check}
use Rattle.sd_command.specs.commands.Conversions.{convert}
use Rattle.sd_steps.specs.Askings.{asking}

-- the command of each request
abbrev pub command_of : Request → Files → Ending → ℕ → Type 0
command_of (requests.Repetition graph) = repetition graph
command_of (requests.Throughput graph buffers no_overlap states certificate) = throughput graph buffers (record { no_overlap = no_overlap; states = states; certificate = certificate })
command_of (requests.Storage graph limits no_overlap certificate) = storage graph (record { limits = limits; no_overlap = no_overlap; certificate = certificate })
command_of (requests.Scenario graph certificate) = scenario graph certificate
command_of (requests.ScenarioStorage graph limit distributions) = scenario_storage graph (record { total = limit; distributions = distributions })
command_of (requests.Check graph certificate) = check graph certificate
command_of (requests.Generate seed limit actors) = λ files. generate seed limit actors
command_of (requests.Convert certificate output) = convert certificate output
command_of (requests.Expand graph output buffers no_overlap) = expand graph output buffers no_overlap
command_of (requests.Ordered graph order buffers no_overlap states) = ordered graph order buffers (record { no_overlap = no_overlap; states = states; certificate = None })
command_of (requests.Complete graph rounds buffers no_overlap states) = complete graph buffers (record { no_overlap = no_overlap; states = states; rounds = rounds })

-- how the command of the words may end over the files of a shelf, and after how many executions
abbrev pub course_of : List (List ℕ) → Files → Ending → ℕ → Type 0
course_of words files = After (asking words) λ request. command_of request files
