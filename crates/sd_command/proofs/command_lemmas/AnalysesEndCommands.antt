-- From what the last part of a command does to how the command goes.
use Rattle.std.proofs.Common.{◌≡◌, ℕ, ◌-◌, List, Option, Result, Ok, Err, refl, arith}
use Rattle.sd_base.specs.declared.tables.GraphFile.{GraphFile}
use Rattle.sd_base.specs.declared.limits.Limits.{Limits}
use Rattle.sd_base.specs.Net.{Net}
use Rattle.lasso.specs.LoopAnswers.{IsFound}
use Rattle.explore.specs.Explorations.{CountsFew}
use Rattle.sd_steps.specs.declared.answer.Answer.{Answer}
use Rattle.sd_steps.specs.declared.answer.Put.{Put}
use Rattle.sd_steps.specs.declared.stop.Stop.{Stop}
use Rattle.sd_steps.specs.declared.stop.Stop.TheVariants as stop
use Rattle.sd_command.specs.declared.commands.wanted.WantedRate.{WantedRate}
use Rattle.sd_command.specs.declared.commands.wanted.WantedRounds.{WantedRounds}
use Rattle.completion.specs.declared.least_time.Completion.{Completion}
use Rattle.completion.specs.Completions.{HasLoopWithin, IsCompletionOf}
use Rattle.sd_command.specs.commands.LeastTimes.{IsTimeAnswer, completion}
use Rattle.sd_steps.specs.Courses.{deciding, Answered, Refused, Ended, Lacking, ends_by, printing}
use Rattle.sd_command.specs.commands.Rates.{IsRateAnswer, IsRateTooLong, execution}
use Rattle.sd_steps.specs.Findings.{IsRunRefusal}
use Rattle.automaton.specs.declared.graph.TimedGraph.{TimedGraph}
use Rattle.sd_command.specs.commands.WorstRates.{IsWorstAnswer, IsWorstTooLong, telling_worst}
use Rattle.sd_base.specs.declared.tables.ScenarioFile.{ScenarioFile}
use Rattle.scenario_storage.specs.declared.point.ScenarioLimits.{ScenarioLimits}
use Rattle.sd_command.specs.commands.ScenarioPoints.{IsSearchAnswer, IsSearchEnd, searching}
use Rattle.sd_steps.specs.Steps.{Does}
use Rattle.sd_command.specs.inside.Goings.{Goes}

module _ (graph : GraphFile) (net : Net) (ds : List (Option ℕ)) (wanted : WantedRate) (n : ℕ) (one : n ≡ 1) (faults : ℕ) where
  -- an execution stops
  pub run_stops : (why : Stop) → Does (deciding (IsFound net wanted.states) (IsRunRefusal net wanted.states)) (Err why) → Goes (ends_by (execution graph net ds wanted)) (Err why) n faults faults
  run_stops (stop.Refused refusal) is = record { ending = Refused refusal; is = refl; came = (one, is); counted = refl }
  run_stops stop.OutOfMemory is = record { ending = Lacking; is = refl; came = omega arith; counted = refl }

  -- it answers with what shows the rate, or its certificate is too long
  pub run_answers : (result : Result Answer Stop) → Does (deciding (IsRateAnswer graph net ds wanted) (IsRateTooLong net ds wanted)) result → Goes (ends_by (execution graph net ds wanted)) result n faults faults
  run_answers (Ok answer) is = record { ending = Answered answer; is = refl; came = (one, is); counted = refl }
  run_answers (Err (stop.Refused refusal)) is = record { ending = Ended refusal; is = refl; came = (one, is); counted = refl }
  run_answers (Err stop.OutOfMemory) is = record { ending = Lacking; is = refl; came = omega arith; counted = refl }

module _ (graph : GraphFile) (net : Net) (wanted : WantedRounds) (n : ℕ) (one : n ≡ 1) (faults : ℕ) where
  -- an execution for rounds stops, answers with their least time, or lacks memory
  pub time_stops : (why : Stop) → Does (deciding (λ (c : Completion). IsCompletionOf net wanted.rounds c × HasLoopWithin net wanted.states) (IsRunRefusal net wanted.states)) (Err why)
      → Goes (ends_by (completion graph net wanted)) (Err why) n faults faults
  time_stops (stop.Refused refusal) is = record { ending = Refused refusal; is = refl; came = (one, is); counted = refl }
  time_stops stop.OutOfMemory is = record { ending = Lacking; is = refl; came = omega arith; counted = refl }

  pub time_answers : (answer : Answer) → IsTimeAnswer graph net wanted answer → Goes (ends_by (completion graph net wanted)) (Ok answer) n faults faults
  time_answers answer is = record { ending = Answered answer; is = refl; came = (one, is); counted = refl }

  pub time_lacks : Goes (ends_by (completion graph net wanted)) (Err stop.OutOfMemory) n faults faults
  time_lacks = record { ending = Lacking; is = refl; came = omega arith; counted = refl }

-- counts from some number on are counts from 0 on
pub few_from : (net : Net) (limits : Limits) (before after : ℕ) → CountsFew net limits before after → CountsFew net limits 0 (after - before)
few_from net limits before after (dss, found, most, few) = (dss, found, omega (arith, most), few)

-- a text answers
pub print_answers : (text : List ℕ) (put : Option Put) (answer : Answer) (faults : ℕ) → answer.text ≡ text → answer.put ≡ put → Goes (ends_by (printing text put)) (Ok answer) 0 faults faults
print_answers text put answer faults is puts = record { ending = Answered answer; is = refl; came = (refl, is, puts); counted = refl }

-- the answer of a file of scenarios, by its timed graph: it is told, or its certificate is too long
pub worst_told : (file : ScenarioFile) (certificate : Option (List ℕ)) (graph : TimedGraph) (result : Result Answer Stop) (faults : ℕ)
    → Does (deciding (λ answer. IsWorstAnswer file graph certificate answer 0) (λ refusal. IsWorstTooLong file graph certificate refusal 0)) result → Goes (ends_by (telling_worst file certificate graph)) result 0 faults faults
worst_told file certificate graph (Ok answer) faults is = record { ending = Answered answer; is = refl; came = is; counted = refl }
worst_told file certificate graph (Err (stop.Refused refusal)) faults is = record { ending = Ended refusal; is = refl; came = is; counted = refl }
worst_told file certificate graph (Err stop.OutOfMemory) faults is = record { ending = Lacking; is = refl; came = refl; counted = refl }

-- the search for the points of a file stops, or they are told
module _ (file : ScenarioFile) (limits : ScenarioLimits) (faults : ℕ) where
  abbrev StopsSearch : Stop → Type 0
  StopsSearch (stop.Refused refusal) = IsSearchEnd file limits refusal
  StopsSearch stop.OutOfMemory = Unit {0}

  pub search_stops : (why : Stop) → StopsSearch why → Goes (ends_by (searching file limits)) (Err why) 0 faults faults
  search_stops (stop.Refused refusal) is = record { ending = Ended refusal; is = refl; came = (refl, is); counted = refl }
  search_stops stop.OutOfMemory is = record { ending = Lacking; is = refl; came = refl; counted = refl }

  pub search_answers : (answer : Answer) → IsSearchAnswer file limits answer 0 → Goes (ends_by (searching file limits)) (Ok answer) 0 faults faults
  search_answers answer is = record { ending = Answered answer; is = refl; came = is; counted = refl }
