-- How a search for the points of a net goes.
use Rattle.std.proofs.Common.{◌≡◌, ℕ, ◌≤◌, List, length, Option, Some, Err, Ok, refl, sym, subst, inl, inr}
use Rattle.sd_base.specs.declared.tables.GraphFile.{GraphFile}
use Rattle.sd_base.specs.declared.limits.Limits.{Limits}
use Rattle.sd_base.specs.Net.{Net}
use Rattle.periodic.specs.declared.schedule.Periodic.{Periodic}
use Rattle.pareto_front.specs.declared.point.Point.{Point}
use Rattle.explore.specs.declared.exploration.Member.{Member}
use Rattle.explore.specs.Explorations.{CountsFew, CountsLive, IsExploration}
use Rattle.pareto_search.specs.TradeOffs.{IsTradeOff}
use Rattle.report.specs.declared.refusal.Refusal.{Refusal}
use Rattle.report.specs.StorageTexts.{points_lines}
use Rattle.sd_steps.specs.declared.answer.Answer.{Answer}
use Rattle.sd_steps.specs.declared.answer.Put.{Put}
use Rattle.sd_steps.specs.declared.stop.Stop.{Stop}
use Rattle.sd_steps.specs.declared.stop.Stop.TheVariants as stop
use Rattle.sd_steps.specs.Certifyings.{Certifies, IsTooLong}
use Rattle.sd_steps.specs.Courses.{deciding, Answered, Ended, Lacking, ends_by}
use Rattle.sd_steps.specs.Steps.{Does}
use Rattle.sd_command.specs.declared.commands.wanted.WantedPoints.{WantedPoints}
use Rattle.sd_command.specs.commands.Points.{ArePointsShown, ArePointsTooLong, IsOfPoints, IsPointsEnd, points_search}
use Rattle.sd_command.specs.inside.Goings.{Goes}

-- the points of an exploration are a trade-off
pub explored-trade_off : (net : Net) (limits : Limits) (members : List Member) (points : List Point) → IsExploration net limits members points → IsTradeOff net limits points
explored-trade_off net limits members points is = record { front = is.front; reached = is.reached }

module _ (graph : GraphFile) (net : Net) (wanted : WantedPoints) (n faults : ℕ) where
  -- it stops
  pub search-stops : {A : Type 0} (passes : A → Type 0) → CountsFew net wanted.limits 0 n → (why : Stop) → Does (deciding passes (IsPointsEnd graph net wanted.limits)) (Err why)
      → Goes (ends_by (points_search graph net wanted)) (Err why) n faults faults
  search-stops passes few (stop.Refused refusal) is = record { ending = Ended refusal; is = refl; came = inl (few, is); counted = refl }
  search-stops passes few stop.OutOfMemory is = record { ending = Lacking; is = refl; came = few; counted = refl }

  -- memory lacks
  pub search-lacks : CountsFew net wanted.limits 0 n → Goes (ends_by (points_search graph net wanted)) (Err stop.OutOfMemory) n faults faults
  search-lacks few = record { ending = Lacking; is = refl; came = few; counted = refl }

  module _ (points : List Point) (schedules : List Periodic) (shown : ArePointsShown net wanted.limits points schedules) (live : CountsLive net wanted.limits n) where
    -- it answers
    pub points-answer : length points ≤ n → (answer : Answer) → answer.text ≡ points_lines graph points schedules → Certifies wanted.certificate (IsOfPoints net wanted points schedules n) answer.put
        → Goes (ends_by (points_search graph net wanted)) (Ok answer) n faults faults
    points-answer many answer text put = record {
      ending = Answered answer;
      is = refl;
      came = record { points = points; schedules = schedules; shown = shown; text = text; put = put; counted = live; many = many };
      counted = refl;
    }

    module _ (name : List ℕ) (asked : wanted.certificate ≡ Some name) (cycles : ℕ) (count : cycles ≡ n) where
      -- the certificate is asked for
      pub certificate-put : (put : Put) → Certifies (Some name) (IsOfPoints net wanted points schedules cycles) (Some put) → Certifies wanted.certificate (IsOfPoints net wanted points schedules n) (Some put)
      certificate-put put is =
          subst (λ (o : Option (List ℕ)). Certifies o (IsOfPoints net wanted points schedules n) (Some put)) (sym asked)
          (subst (λ (k : ℕ). Certifies (Some name) (IsOfPoints net wanted points schedules k) (Some put)) count is)

      certificate-long : (refusal : Refusal) → IsTooLong (Some name) (IsOfPoints net wanted points schedules cycles) refusal → ArePointsTooLong net wanted refusal n
      certificate-long refusal is = record {
        points = points;
        schedules = schedules;
        shown = shown;
        long =
            subst (λ (o : Option (List ℕ)). IsTooLong o (IsOfPoints net wanted points schedules n) refusal) (sym asked)
            (subst (λ (k : ℕ). IsTooLong (Some name) (IsOfPoints net wanted points schedules k) refusal) count is);
        counted = live;
      }

      -- it stops the answer
      pub certificate-stops : (passes : Put → Type 0) → CountsFew net wanted.limits 0 n → (why : Stop) → Does (deciding passes (IsTooLong (Some name) (IsOfPoints net wanted points schedules cycles))) (Err why)
          → Goes (ends_by (points_search graph net wanted)) (Err why) n faults faults
      certificate-stops passes few (stop.Refused refusal) is = record { ending = Ended refusal; is = refl; came = inr (certificate-long refusal is); counted = refl }
      certificate-stops passes few stop.OutOfMemory is = search-lacks few
