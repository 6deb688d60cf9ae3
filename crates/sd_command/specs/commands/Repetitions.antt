-- The command `repetition`.
use Rattle.std.specs.Prelude.{ℕ, false, List, None}
use Rattle.report.specs.AnswerTexts.{repetition_lines}
use Rattle.sd_io.specs.Outside.{Files}
use Rattle.sd_steps.specs.Courses.{Ending, After, ends_by, printing}
use Rattle.sd_steps.specs.Readings.{opening_graph}
use Rattle.sd_steps.specs.Balancings.{balancing}

abbrev pub repetition : List ℕ → Files → Ending → ℕ → Type 0
repetition name files =
    After (opening_graph files name false) λ graph.
    After (balancing graph) λ gamma.
    ends_by (printing (repetition_lines graph gamma) None)
