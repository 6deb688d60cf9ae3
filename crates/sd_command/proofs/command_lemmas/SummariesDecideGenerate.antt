-- The command `generate` goes by the search for points: it stops, lacks memory, or answers with their summary.
use Rattle.std.proofs.Common.{◌≡◌, ◌≢◌, ◌≤◌, ℕ, true, List, length, None, Ok, Err, refl, sym, subst}
use Rattle.sd_base.specs.declared.tables.Kind.TheVariants.{Sdf}
use Rattle.sd_base.specs.declared.tables.GraphFile.{GraphFile}
use Rattle.sd_base.specs.declared.limits.Limits.{Limits}
use Rattle.sd_base.specs.Net.{Net}
use Rattle.graph_reader.specs.declared.error.ReadError.{ReadError}
use Rattle.graph_reader.specs.declared.error.ReadError.TheVariants as reading
use Rattle.graph_reader.specs.FirstFaults.{IsFirstFault}
use Rattle.graph_reader.specs.Laws.{Gives, HasOneTable, ReadHasNoFault}
use Rattle.gen_graph.specs.MadeGraphs.{made_graph}
use Rattle.pareto_front.specs.declared.point.Point.{Point}
use Rattle.explore.specs.Explorations.{CountsFew, CountsLive}
use Rattle.pareto_search.specs.TradeOffs.{IsTradeOff}
use Rattle.report.specs.SummaryTexts.{summary_lines}
use Rattle.sd_steps.specs.declared.answer.Answer.{Answer}
use Rattle.sd_steps.specs.declared.stop.Stop.{Stop}
use Rattle.sd_steps.specs.declared.stop.Stop.TheVariants as stop
use Rattle.sd_steps.specs.Courses.{deciding, Answered, Ended, Lacking, ends_by}
use Rattle.sd_command.specs.commands.Points.{IsPointsEnd}
use Rattle.sd_command.specs.commands.Generations.{summary}
use Rattle.sd_steps.specs.Steps.{Does}
use Rattle.sd_command.specs.inside.Goings.{Goes}

module _ (seed : ℕ) (graph : GraphFile) (gamma : List ℕ) (net : Net) (limits : Limits) (n faults : ℕ) where
  -- the search for the points stops
  pub summary_stops : {A : Type 0} (passes : A → Type 0) → CountsFew net limits 0 n → (why : Stop) → Does (deciding passes (IsPointsEnd graph net limits)) (Err why)
      → Goes (ends_by (summary seed graph gamma net limits)) (Err why) n faults faults
  summary_stops passes few (stop.Refused refusal) is = record { ending = Ended refusal; is = refl; came = (few, is); counted = refl }
  summary_stops passes few stop.OutOfMemory is = record { ending = Lacking; is = refl; came = few; counted = refl }

  -- memory lacks
  pub summary_lacks : CountsFew net limits 0 n → Goes (ends_by (summary seed graph gamma net limits)) (Err stop.OutOfMemory) n faults faults
  summary_lacks few = record { ending = Lacking; is = refl; came = few; counted = refl }

  -- it answers with the summary of its points
  pub summary_answers : (answer : Answer) (points : List Point) → IsTradeOff net limits points → answer.text ≡ summary_lines seed graph gamma points → answer.put ≡ None
      → CountsLive net limits n → length points ≤ n → Goes (ends_by (summary seed graph gamma net limits)) (Ok answer) n faults faults
  summary_answers answer points are shown none live many = record {
    ending = Answered answer;
    is = refl;
    came = record { text = record { points = points; trade_off = are; shown = shown }; put = none; counted = live; many = many };
    counted = refl;
  }

-- ---- the graph that is made

module _ (bytes shown : List ℕ) (same : shown ≡ bytes) (made : GraphFile) (gives : Gives bytes true made) where
  still : Gives shown true made
  still = subst (λ (b : List ℕ). Gives b true made) (sym same) gives

  -- it is read of what was written
  pub read_again : HasOneTable → (graph : GraphFile) → Gives shown true graph → graph ≡ made
  read_again one graph read = one shown true graph made read still

  -- or memory lacks
  pub only_memory : ReadHasNoFault → (error : ReadError) → IsFirstFault shown true error → error ≡ reading.NoMemory
  only_memory none error fault = of error (λ some. none shown true made error some still fault)
    where
      of : (e : ReadError) → (e ≢ reading.NoMemory → ⊥) → e ≡ reading.NoMemory
      of reading.NoMemory no_other = refl
      of (reading.Text fault) no_other = absurd (no_other (λ e. cc))
      of reading.WrongKind no_other = absurd (no_other (λ e. cc))
      of (reading.Missing what whose) no_other = absurd (no_other (λ e. cc))
      of (reading.Unknown what name) no_other = absurd (no_other (λ e. cc))
      of (reading.Twice what name) no_other = absurd (no_other (λ e. cc))
      of (reading.BadWord what whose) no_other = absurd (no_other (λ e. cc))
      of (reading.BadNumber what whose) no_other = absurd (no_other (λ e. cc))
      of (reading.PhaseCount actor) no_other = absurd (no_other (λ e. cc))
      of (reading.Limit what) no_other = absurd (no_other (λ e. cc))
      of (reading.SharedDiffer channel) no_other = absurd (no_other (λ e. cc))
      of (reading.DeadEnd state) no_other = absurd (no_other (λ e. cc))

pub made_kind : (seed actors : ℕ) → (made_graph seed actors).kind ≡ Sdf
unfolding made_graph
made_kind seed actors = refl
