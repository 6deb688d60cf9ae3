-- A periodic schedule holds exactly where the finite tests do.
use Rattle.std.proofs.Common.{◌≡◌, ℕ, zero, suc, ◌+◌, ◌-◌, ◌*◌, ◌/◌, ◌%◌, ◌≤◌, ◌<◌, ◌↔◌, Bool, true, false, List, [], length, map, true≢false, ⊎_elim, subst, sym, refl, ap, ◌∙◌, arith, ltb-true, ltb-false, mul-le-mul}
use Rattle.std.specs.Prelude.{slice_index_or, nat_lt, if◌then◌else◌, IsTrue}
use Rattle.std.specs.List.{range_with_len}
use Rattle.std.proofs.lemmas.Bool.{cases_lt}
use Rattle.std.proofs.lemmas.List.FromFn.{length-map-range_with_len, get_or-map-range_with_len}
use Rattle.sd_base.specs.Net.{Net, channel_at}
use Rattle.sd_base.specs.Schedules.{time_of, LastNeed, Schedule, count_of, start_of, end_of, Admissible}
use Rattle.sd_base.specs.Lawful.{Lawful}
use Rattle.sd_base.proofs.LawfulIsRegular.{wired, balanced, one_by_one}
use Rattle.sd_base.proofs.FiringsKeepOrder.{no_actor}
use Rattle.periodic.specs.Periods.{start_at, IsCut, HasRounds, Holds}
use Rattle.periodic.specs.ScheduleLines.{Rises}
use Rattle.periodic.specs.inside.FiniteTests.{IsFed}
use Rattle.periodic.proofs.StartsComeAgain.{start-later, all-rise, listed-rise, starts-in_order, some-turn, whole-starts}
use Rattle.periodic.proofs.NeedsEndInTime.{AllFed, all-fed}

-- ---- the first number at which a rising function has reached t

unfoldable pub reached : (ℕ → ℕ) → ℕ → ℕ → ℕ → ℕ
reached f t zero k = k
reached f t (suc fuel) k = if nat_lt (f k) t then reached f t fuel (suc k) else k

record Reaches (f : ℕ → ℕ) (t n : ℕ) : Type 0 where
  before : (j : ℕ) → j < n → f j < t
  from : t ≤ f n

reaches-step : (f : ℕ → ℕ) (t k n : ℕ) → ((j : ℕ) → j < k → f j < t) → (((j : ℕ) → j < suc k → f j < t) → Reaches f t n) →
    (b : Bool) → nat_lt (f k) t ≡ b → Reaches f t (if b then n else k)
reaches-step f t k n before next true test = next (λ j less. ⊎_elim
    (λ (early : j < k). before j early)
    (λ (last : k ≤ j). let same : j ≡ k = omega arith in rw same (ltb-true _ _ test))
    (cases_lt j k))
reaches-step f t k n before next false test = record { before = before; from = ltb-false _ _ test }

reaches : (f : ℕ → ℕ) (t fuel k : ℕ) → ((j : ℕ) → j < k → f j < t) → t ≤ f (fuel + k) → Reaches f t (reached f t fuel k)
unfolding reached
reaches f t zero k before far = let e : 0 + k ≡ k = omega arith in record { before = before; from = rw e at far }
reaches f t (suc fuel) k before far =
    let e : suc fuel + k ≡ fuel + suc k = omega arith in
    reaches-step f t k (reached f t fuel (suc k)) before (λ more. reaches f t fuel (suc k) more (rw e at far)) (nat_lt (f k) t) refl

-- ---- the cut at a moment

-- how many firings of a start before t
cut_count : ℕ → List (List ℕ) → ℕ → ℕ → ℕ
cut_count period starts t a = reached (start_at period starts a) t (t * count_of starts a) 0

cut_row : ℕ → List (List ℕ) → ℕ → ℕ → List ℕ
cut_row period starts t a = map (start_at period starts a) (range_with_len 0 (cut_count period starts t a))

cut_at : Net → ℕ → List (List ℕ) → ℕ → Schedule
cut_at net period starts t = map (cut_row period starts t) (range_with_len 0 (length net.times))

module _ (net : Net) (period : ℕ) (starts : List (List ℕ)) (passes : 1 ≤ period) (some : (a : ℕ) → a < length net.times → 0 < count_of starts a)
    (rise : (a k : ℕ) → a < length net.times → start_at period starts a k ≤ start_at period starts a (k + 1)) (t : ℕ) where
  cut-actors : length (cut_at net period starts t) ≡ length net.times
  unfolding cut_at
  cut-actors = length-map-range_with_len (cut_row period starts t) 0 (length net.times)

  cut-row : (a : ℕ) → a < length net.times → slice_index_or (cut_at net period starts t) a [] ≡ cut_row period starts t a
  unfolding cut_at
  cut-row a actor = get_or-map-range_with_len (cut_row period starts t) 0 (length net.times) a a [] actor (omega arith)

  cut-count : (a : ℕ) → a < length net.times → count_of (cut_at net period starts t) a ≡ cut_count period starts t a
  unfolding cut_row
  cut-count a actor = ap length (cut-row a actor) ∙ length-map-range_with_len (start_at period starts a) 0 (cut_count period starts t a)

  cut-start : (a k : ℕ) → a < length net.times → k < cut_count period starts t a → start_of (cut_at net period starts t) a k ≡ start_at period starts a k
  unfolding cut_row
  cut-start a k actor below = rw (cut-row a actor) (get_or-map-range_with_len (start_at period starts a) 0 (cut_count period starts t a) k k 0 below (omega arith))

  cut-reaches : (a : ℕ) → a < length net.times → Reaches (start_at period starts a) t (cut_count period starts t a)
  unfolding cut_count
  cut-reaches a actor =
      let far : start_at period starts a (0 + t * count_of starts a) ≡ start_at period starts a 0 + t * period = start-later period (slice_index_or starts a []) 0 t (some a actor) in
      let long : t * 1 ≤ t * period = Rattle.std.proofs.Common.mul-le-mul_left t passes in
      let e : t * count_of starts a + 0 ≡ 0 + t * count_of starts a = omega arith in
      reaches (start_at period starts a) t (t * count_of starts a) 0 (λ j less. absurd (omega arith)) (rw e (omega arith))

  cut-later : (a k : ℕ) → a < length net.times → start_at period starts a k < t → k < cut_count period starts t a
  cut-later a k actor soon = ⊎_elim
      (λ (less : k < cut_count period starts t a). less)
      (λ (past : cut_count period starts t a ≤ k). absurd (
      let le : start_at period starts a (cut_count period starts t a) ≤ start_at period starts a k = starts-in_order period (slice_index_or starts a []) (some a actor) (λ n. rise a n actor) (cut_count period starts t a) k past in
      let from : t ≤ start_at period starts a (cut_count period starts t a) = (cut-reaches a actor).from in
      omega arith))
      (cases_lt k (cut_count period starts t a))

  cut-is : IsCut net period starts t (cut_at net period starts t)
  cut-is = record {
    actors = cut-actors;
    counts = λ a k actor. rw (cut-count a actor) (λ there. (cut-reaches a actor).before k there, λ soon. cut-later a k actor soon);
    moments = λ a k actor there. cut-start a k actor (rw (cut-count a actor) at there);
  }

-- where each needed firing ends in time, each cut is admissible
cut-admissible : (net : Net) (period : ℕ) (starts : List (List ℕ)) (t : ℕ) (s : Schedule) → Lawful net →
    ((a k : ℕ) → a < length net.times → start_at period starts a k ≤ start_at period starts a (k + 1)) → AllFed net period starts →
    IsCut net period starts t s → Admissible net s
cut-admissible net period starts t s laws rise fed is = record {
  actors = is.actors;
  rising = λ a k there.
      let actor : a < length net.times = rw (is.actors) at (no_actor s a (k + 1) there) in
      let here : start_of s a k ≡ start_at period starts a k = is.moments a k actor (omega arith) in
      let next : start_of s a (k + 1) ≡ start_at period starts a (k + 1) = is.moments a (k + 1) actor there in
      omega (arith, rise a k actor);
  fed = λ i j m place there need.
      let source : ℕ = (channel_at net i).source in
      let target : ℕ = (channel_at net i).target in
      let from : source < length net.times = laws.sources i place in
      let to : target < length net.times = laws.targets i place in
      let soon : start_at period starts target j < t = (is.counts target j to).0 there in
      let ended : start_at period starts source m + time_of net source m ≤ start_at period starts target j = fed i j m place need in
      let started : m < count_of s source = (is.counts source m from).1 (omega arith) in
      let left : start_of s source m ≡ start_at period starts source m = is.moments source m from started in
      let right : start_of s target j ≡ start_at period starts target j = is.moments target j to there in
      (started, omega arith);
}

module _ (net : Net) (laws : Lawful net) (period rounds : ℕ) (starts : List (List ℕ)) where
  pub fed-hold : 1 ≤ period → 1 ≤ rounds → HasRounds net rounds starts → ((a k : ℕ) → a < length net.times → start_at period starts a k ≤ start_at period starts a (k + 1)) →
      AllFed net period starts → Holds net period rounds starts
  fed-hold passes turns listed rise fed =
      let some : (a : ℕ) → a < length net.times → 0 < count_of starts a = some-turn net (wired net laws) (balanced net laws) rounds starts turns listed in
      record {
        passes = passes;
        turns = turns;
        listed = listed;
        cuts = λ t.
            let is : IsCut net period starts t (cut_at net period starts t) = cut-is net period starts passes some rise t in
            (cut_at net period starts t, is, cut-admissible net period starts t (cut_at net period starts t) laws rise fed is);
      }

  pub tests-hold : 1 ≤ period → 1 ≤ rounds → HasRounds net rounds starts → ((a : ℕ) → a < length net.times → Rises period (slice_index_or starts a [])) →
      ((i : ℕ) → i < length net.channels → IsFed net period starts i) → Holds net period rounds starts
  tests-hold passes turns listed rises tests =
      let some : (a : ℕ) → a < length net.times → 0 < count_of starts a = some-turn net (wired net laws) (balanced net laws) rounds starts turns listed in
      let rise : (a k : ℕ) → a < length net.times → start_at period starts a k ≤ start_at period starts a (k + 1) = λ a k actor. all-rise period (slice_index_or starts a []) (some a actor) (rises a actor) k in
      let fed : AllFed net period starts = all-fed net (one_by_one net laws) (wired net laws) period starts (whole-starts net (wired net laws) (balanced net laws) rounds starts turns listed) some rise tests in
      fed-hold passes turns listed rise fed

  module _ (holds : Holds net period rounds starts) where
    holds-rise : (a k : ℕ) → a < length net.times → start_at period starts a k ≤ start_at period starts a (k + 1)
    holds-rise a k actor =
        let t : ℕ = start_at period starts a k + start_at period starts a (k + 1) + 1 in
        let cut = holds.cuts t in
        let is : IsCut net period starts t cut.0 = cut.1 in
        let good : Admissible net cut.0 = cut.2 in
        let here : k < count_of cut.0 a = (is.counts a k actor).1 (omega arith) in
        let next : k + 1 < count_of cut.0 a = (is.counts a (k + 1) actor).1 (omega arith) in
        let one : start_of cut.0 a k ≡ start_at period starts a k = is.moments a k actor here in
        let two : start_of cut.0 a (k + 1) ≡ start_at period starts a (k + 1) = is.moments a (k + 1) actor next in
        omega (arith, good.rising a k next)

    pub holds-rises : (a : ℕ) → a < length net.times → Rises period (slice_index_or starts a [])
    holds-rises a actor = listed-rise period (slice_index_or starts a []) (some-turn net (wired net laws) (balanced net laws) rounds starts holds.turns holds.listed a actor) (λ k. holds-rise a k actor)

    holds-ends : (i : ℕ) → i < length net.channels → (k q n : ℕ) → LastNeed (channel_at net i) (k + q * count_of starts (channel_at net i).target) n →
        start_at period starts (channel_at net i).source n + time_of net (channel_at net i).source n
        ≤ start_at period starts (channel_at net i).target (k + q * count_of starts (channel_at net i).target)
    holds-ends i place k q n last =
        let source : ℕ = (channel_at net i).source in
        let target : ℕ = (channel_at net i).target in
        let from : source < length net.times = laws.sources i place in
        let to : target < length net.times = laws.targets i place in
        let j : ℕ = k + q * count_of starts target in
        let t : ℕ = start_at period starts target j + 1 in
        let cut = holds.cuts t in
        let is : IsCut net period starts t cut.0 = cut.1 in
        let good : Admissible net cut.0 = cut.2 in
        let there : j < count_of cut.0 target = (is.counts target j to).1 (omega arith) in
        let fed = good.fed i j n place there last.needed in
        let started : n < count_of cut.0 source = fed.0 in
        let ended : end_of net cut.0 source n ≤ start_of cut.0 target j = fed.1 in
        let left : start_of cut.0 source n ≡ start_at period starts source n = is.moments source n from started in
        let right : start_of cut.0 target j ≡ start_at period starts target j = is.moments target j to there in
        omega arith

    pub holds-fed : (i : ℕ) → i < length net.channels → IsFed net period starts i
    holds-fed i place = record { each = λ k below. record { ends = λ q n first last. holds-ends i place k q n last } }

-- ---- what the two halves of the test decide, where the numbers are right

module _ (net : Net) (laws : Lawful net) (period rounds : ℕ) (starts rows : List (List ℕ)) (same : rows ≡ starts) (listed : HasRounds net rounds rows) where
  pub fed-decides : 1 ≤ period → 1 ≤ rounds → ((a : ℕ) → a < length net.times → Rises period (slice_index_or rows a [])) → (fed : Bool) →
      IsTrue fed ↔ ((i : ℕ) → i < length net.channels → IsFed net period rows i) → IsTrue fed ↔ Holds net period rounds starts
  fed-decides passes turns rises fed tests =
      (λ yes. rw (← same) (tests-hold net laws period rounds rows passes turns listed rises (tests.0 yes)), λ holds. tests.1 (holds-fed net laws period rounds rows (rw same holds)))

  pub rise-decides : (rise : Bool) → rise ≡ false → IsTrue rise ↔ ((a : ℕ) → a < length net.times → Rises period (slice_index_or rows a [])) → IsTrue rise ↔ Holds net period rounds starts
  rise-decides rise fails tests =
      (λ yes. absurd (true≢false (sym yes ∙ fails)), λ holds. tests.1 (holds-rises net laws period rounds rows (rw same holds)))
