use Rattle.std.proofs.Common.{◌≡◌, ◌++◌, drop}
use Rattle.std.specs.String.{string_bytes}
use Rattle.report.specs.LinkTexts.{actor_lines}
use Rattle.report.specs.AnswerTexts.{number_line, repetition_lines}
use Rattle.report.proofs.answers.repetition_text.Given as goal

-- what is written and the lines that are left are the whole text
abbrev pub invariant-loop-i : goal.invariant-loop-i
invariant-loop-i l =
    string_bytes l.text ++ actor_lines number_line (drop l.i l.fn.graph.actors) (drop l.i l.gamma) ≡ repetition_lines l.fn.graph l.gamma
