-- All lines of a periodic schedule are right exactly where it holds.
use Rattle.std.proofs.Common.{◌≡◌, ℕ, zero, suc, ◌+◌, ◌*◌, ◌/◌, ◌%◌, ◌≤◌, ◌<◌, ◌↔◌, List, [], length, ⊎_elim, subst, refl, arith, mod-lt, div-add-mod', mul-le-mul_right}
use Rattle.std.specs.Prelude.{Bool, slice_index, slice_index_or, IsTrue}
use Rattle.std.proofs.lemmas.Bool.{cases_lt}
use Rattle.sd_base.specs.Net.{Net, channel_at, total}
use Rattle.sd_base.specs.Schedules.{time_of, Needs, LastNeed, count_of, start_of, end_of, Admissible}
use Rattle.sd_base.specs.Lawful.{Lawful}
use Rattle.sd_base.proofs.SumsRepeatByTurns.{needs-later, fewer-needed, one-last-need}
use Rattle.sd_base.proofs.LawfulIsRegular.{wired, balanced}
use Rattle.sd_base.proofs.RoundsKeepTokens.{Whole, whole-rounds, time-shift, last-shift}
use Rattle.periodic.specs.Periods.{start_at, IsCut, Holds}
use Rattle.periodic.specs.inside.FiniteTests.{IsFed}
use Rattle.periodic.proofs.StartsComeAgain.{start-later}
use Rattle.periodic.proofs.NeedsEndInTime.{end_at, some-last}
use Rattle.periodic.proofs.CodeFindsNeeds.{turn-some}
use Rattle.periodic.proofs.TestsDecide.{tests-hold, holds-rises}
use Rattle.periodic.specs.ScheduleLines.{HasTurn, IsMet, LinesDecide}

module _ (net : Net) (laws : Lawful net) (period rounds : ℕ) (starts : List (List ℕ)) (turns : 1 ≤ rounds) where
  module _ (i : ℕ) (place : i < length net.channels) (from : HasTurn net rounds starts (channel_at net i).source) (to : HasTurn net rounds starts (channel_at net i).target) where
    whole : Whole net (λ a. rounds * slice_index net.round a)
    whole = whole-rounds net rounds (wired net laws) (balanced net laws)

    -- a turn on, the last need is a turn on, and both are a period later
    turn-on : (j m n : ℕ) → LastNeed (channel_at net i) j m → LastNeed (channel_at net i) (j + count_of starts (channel_at net i).target) n
        → end_at net period starts (channel_at net i).source m ≤ start_at period starts (channel_at net i).target j
        → end_at net period starts (channel_at net i).source n ≤ start_at period starts (channel_at net i).target (j + count_of starts (channel_at net i).target)
    turn-on j m n last next le =
        let shifted : LastNeed (channel_at net i) (j + rounds * slice_index net.round (channel_at net i).target) (m + rounds * slice_index net.round (channel_at net i).source) = last-shift net (λ a. rounds * slice_index net.round a) whole i place j m last in
        let here : LastNeed (channel_at net i) (j + count_of starts (channel_at net i).target) (m + count_of starts (channel_at net i).source) = rw (to, from) shifted in
        let one : m + count_of starts (channel_at net i).source ≤ n = one-last-need (channel_at net i) (j + count_of starts (channel_at net i).target) (m + count_of starts (channel_at net i).source) n here next in
        let two : n ≤ m + count_of starts (channel_at net i).source = one-last-need (channel_at net i) (j + count_of starts (channel_at net i).target) n (m + count_of starts (channel_at net i).source) next here in
        let at : n ≡ m + 1 * count_of starts (channel_at net i).source = omega arith in
        let there : j + count_of starts (channel_at net i).target ≡ j + 1 * count_of starts (channel_at net i).target = omega arith in
        let left : start_at period starts (channel_at net i).source (m + 1 * count_of starts (channel_at net i).source) ≡ start_at period starts (channel_at net i).source m + 1 * period =
        start-later period (slice_index_or starts (channel_at net i).source []) m 1 (turn-some net laws rounds starts turns (channel_at net i).source (laws.sources i place) from) in
        let right : start_at period starts (channel_at net i).target (j + 1 * count_of starts (channel_at net i).target) ≡ start_at period starts (channel_at net i).target j + 1 * period =
        start-later period (slice_index_or starts (channel_at net i).target []) j 1 (turn-some net laws rounds starts turns (channel_at net i).target (laws.targets i place) to) in
        let times : time_of net (channel_at net i).source (m + rounds * slice_index net.round (channel_at net i).source) ≡ time_of net (channel_at net i).source m =
        time-shift net (λ a. rounds * slice_index net.round a) whole (channel_at net i).source m (laws.sources i place) in
        let far : m + 1 * count_of starts (channel_at net i).source ≡ m + rounds * slice_index net.round (channel_at net i).source = omega (arith, from) in
        let time : time_of net (channel_at net i).source (m + 1 * count_of starts (channel_at net i).source) ≡ time_of net (channel_at net i).source m = rw far times in
        rw (at, there) (omega arith)

    by-turns : IsFed net period starts i → (k q n : ℕ) → k < count_of starts (channel_at net i).target → LastNeed (channel_at net i) (k + q * count_of starts (channel_at net i).target) n
        → end_at net period starts (channel_at net i).source n ≤ start_at period starts (channel_at net i).target (k + q * count_of starts (channel_at net i).target)
    by-turns fed k zero n below last = (fed.each k below).ends zero n (record {
      needs = fewer-needed (channel_at net i) (k + zero * count_of starts (channel_at net i).target) 0 n (omega arith) last.needed;
      first = λ p less. absurd (omega arith);
    }) last
    by-turns fed k (suc q) n below last = ⊎_elim
        (λ (early : Needs (channel_at net i) (k + q * count_of starts (channel_at net i).target) 0).
        let e : k + suc q * count_of starts (channel_at net i).target ≡ (k + q * count_of starts (channel_at net i).target) + count_of starts (channel_at net i).target = omega arith in
        let m = some-last net (wired net laws) i (k + q * count_of starts (channel_at net i).target) 0 place early in
        rw e (turn-on (k + q * count_of starts (channel_at net i).target) m.0 n m.2 (rw e at last) (by-turns fed k q m.0 below m.2)))
        (λ (enough : total (channel_at net i).taken (k + q * count_of starts (channel_at net i).target + 1) ≤ (channel_at net i).tokens + total (channel_at net i).made 0).
        (fed.each k below).ends (suc q) n (record {
          needs = fewer-needed (channel_at net i) (k + suc q * count_of starts (channel_at net i).target) 0 n (omega arith) last.needed;
          first = λ p less lack.
              let le : p * count_of starts (channel_at net i).target ≤ q * count_of starts (channel_at net i).target = mul-le-mul_right (count_of starts (channel_at net i).target) (omega arith) in
              let later : Needs (channel_at net i) (k + q * count_of starts (channel_at net i).target) 0 = needs-later (channel_at net i) (k + p * count_of starts (channel_at net i).target) (k + q * count_of starts (channel_at net i).target) 0 (omega arith) lack in
              omega arith;
        }) last)
        (cases_lt ((channel_at net i).tokens + total (channel_at net i).made 0) (total (channel_at net i).taken (k + q * count_of starts (channel_at net i).target + 1)))

    fed_met : IsFed net period starts i → IsMet net period starts i
    fed_met fed j n last =
        let turn : ℕ = count_of starts (channel_at net i).target in
        let split : j % turn + j / turn * turn ≡ j = omega (arith, div-add-mod' j turn) in
        subst (λ (x : ℕ). end_at net period starts (channel_at net i).source n ≤ start_at period starts (channel_at net i).target x) split
        (by-turns fed (j % turn) (j / turn) n (mod-lt j (turn-some net laws rounds starts turns (channel_at net i).target (laws.targets i place) to)) (rw split last))

  met_fed : (i : ℕ) → IsMet net period starts i → IsFed net period starts i
  met_fed i met = record { each = λ k below. record { ends = λ q n first last. met (k + q * count_of starts (channel_at net i).target) n last } }

  -- where the schedule holds, each need is met
  holds_met : Holds net period rounds starts → (i : ℕ) → i < length net.channels → IsMet net period starts i
  holds_met holds i place j n last =
      let source : ℕ = (channel_at net i).source in
      let target : ℕ = (channel_at net i).target in
      let t : ℕ = start_at period starts target j + 1 in
      let cut = holds.cuts t in
      let is : IsCut net period starts t cut.0 = cut.1 in
      let good : Admissible net cut.0 = cut.2 in
      let there : j < count_of cut.0 target = (is.counts target j (laws.targets i place)).1 (omega arith) in
      let fed = good.fed i j n place there last.needed in
      let started : n < count_of cut.0 source = fed.0 in
      let ended : end_of net cut.0 source n ≤ start_of cut.0 target j = fed.1 in
      let left : start_of cut.0 source n ≡ start_at period starts source n = is.moments source n (laws.sources i place) started in
      let right : start_of cut.0 target j ≡ start_at period starts target j = is.moments target j (laws.targets i place) there in
      omega arith

-- the finite test of one channel is exact where the lists of its two ends are those of turns
pub tests_decide : (net : Net) (period rounds : ℕ) (starts : List (List ℕ)) (i : ℕ) → Lawful net → 1 ≤ rounds → i < length net.channels
    → HasTurn net rounds starts (channel_at net i).source → HasTurn net rounds starts (channel_at net i).target → IsFed net period starts i ↔ IsMet net period starts i
tests_decide net period rounds starts i laws turns place from to = (λ fed. fed_met net laws period rounds starts turns i place from to fed, λ met. met_fed net laws period rounds starts turns i met)

pub lines_decide : LinesDecide
lines_decide net period rounds starts laws passes turns long = (
  (λ lines. tests-hold net laws period rounds starts passes turns (record { actors = long; whole = λ a actor. (lines a actor).turn }) (λ a actor. (lines a actor).rises)
      (λ i place. met_fed net laws period rounds starts turns i ((lines (channel_at net i).target (laws.targets i place)).met i place refl ((lines (channel_at net i).source (laws.sources i place)).turn)))),
  (λ holds a actor. record {
    turn = holds.listed.whole a actor;
    rises = holds-rises net laws period rounds starts holds a actor;
    met = λ i place into from. holds_met net laws period rounds starts turns holds i place;
  }),
)

-- what the test of one channel decides
pub met-decides : (net : Net) (laws : Lawful net) (period rounds : ℕ) (starts : List (List ℕ)) (i : ℕ) (fed : Bool) → 1 ≤ rounds → i < length net.channels
    → HasTurn net rounds starts (channel_at net i).source → HasTurn net rounds starts (channel_at net i).target → IsTrue fed ↔ IsFed net period starts i
    → IsTrue fed ↔ (HasTurn net rounds starts (channel_at net i).source → IsMet net period starts i)
met-decides net laws period rounds starts i fed turns place from to tests =
    let both = tests_decide net period rounds starts i laws turns place from to in
    (λ yes turn. both.0 (tests.0 yes), λ met. tests.1 (both.1 (met from)))
