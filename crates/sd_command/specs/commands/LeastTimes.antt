-- The command `complete`.
use Rattle.std.specs.Prelude.{◌≡◌, ℕ, ◌≤◌, List, None, map}
use Rattle.sd_base.specs.declared.tables.GraphFile.{GraphFile}
use Rattle.sd_base.specs.Net.{Net}
use Rattle.storage.specs.NamedBuffers.{Buffer}
use Rattle.completion.specs.declared.counts.Part.{Part}
use Rattle.completion.specs.declared.least_time.Completion.{Completion}
use Rattle.completion.specs.Completions.{HasLoopWithin, IsCompletionOf}
use Rattle.report.specs.CompletionTexts.{complete_lines}
use Rattle.sd_io.specs.Outside.{Files}
use Rattle.sd_steps.specs.declared.answer.Answer.{Answer}
use Rattle.sd_command.specs.declared.commands.wanted.WantedRounds.{WantedRounds}
use Rattle.sd_command.specs.commands.BoundedCourses.{OnNet, on_file}
use Rattle.sd_steps.specs.Courses.{Analysis, Ending}
use Rattle.sd_steps.specs.Nets.{on_live}
use Rattle.sd_steps.specs.Findings.{IsRunRefusal}

-- the firings of an actor on a way of needs, and their time, as its line has them
abbrev pub pair_of : Part → ℕ × ℕ
pair_of part = (part.firings, part.time)

-- the least time for the rounds is printed, with what a way of needs of that time is made of
pub record IsTimeAnswer (graph : GraphFile) (net : Net) (wanted : WantedRounds) (answer : Answer) : Type 0 where
  pub completion : Completion
  pub is : IsCompletionOf net wanted.rounds completion
  pub found : HasLoopWithin net wanted.states
  pub text : answer.text ≡ complete_lines graph wanted.rounds completion.time completion.firings (map pair_of completion.parts)
  pub put : answer.put ≡ None

-- one execution
abbrev pub completion : GraphFile → Net → WantedRounds → Analysis
completion graph net wanted = record {
  answered = λ answer n. (n ≡ 1) × IsTimeAnswer graph net wanted answer;
  refused = λ refusal n. (n ≡ 1) × IsRunRefusal net wanted.states refusal;
  ended = λ refusal n. ⊥;
  counted = λ n. n ≤ 1;
}

-- the least time for some rounds of a bounded net
abbrev pub time_on : WantedRounds → OnNet
time_on wanted graph gamma distribution net = on_live graph net (completion graph net wanted)

abbrev pub complete : List ℕ → List Buffer → WantedRounds → Files → Ending → ℕ → Type 0
complete name buffers wanted = on_file name buffers wanted.no_overlap (time_on wanted)
