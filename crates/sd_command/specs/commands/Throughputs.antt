-- The command `throughput`.
use Rattle.std.specs.Prelude.{ℕ, List}
use Rattle.storage.specs.NamedBuffers.{Buffer}
use Rattle.sd_io.specs.Outside.{Files}
use Rattle.sd_command.specs.declared.commands.wanted.WantedRate.{WantedRate}
use Rattle.sd_command.specs.commands.BoundedCourses.{OnNet, on_file}
use Rattle.sd_steps.specs.Courses.{Ending}
use Rattle.sd_steps.specs.Nets.{on_live}
use Rattle.sd_command.specs.commands.Rates.{execution}

-- the rate of a bounded net
abbrev pub rate_on : WantedRate → OnNet
rate_on wanted graph gamma distribution net = on_live graph net (execution graph net distribution.capacities wanted)

abbrev pub throughput : List ℕ → List Buffer → WantedRate → Files → Ending → ℕ → Type 0
throughput name buffers wanted = on_file name buffers wanted.no_overlap (rate_on wanted)
