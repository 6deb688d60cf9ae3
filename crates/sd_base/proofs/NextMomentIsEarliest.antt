-- One moment of the earliest schedule: adding all firings that can start makes the earliest schedule of the next moment.
use Rattle.std.proofs.Common.{◌≡◌, ℕ, ◌+◌, ◌≤◌, ◌<◌, length, ⊎_elim, subst, ◌∙◌, arith}
use Rattle.std.proofs.lemmas.Bool.{cases_lt}
use Rattle.sd_base.specs.Net.{Net, channel_at, total}
use Rattle.sd_base.specs.Schedules.{time_of, Needs, Lacks, Schedule, count_of, start_of, end_of, Admissible, Earliest}
use Rattle.sd_base.proofs.SumsRepeatByTurns.{total-le, needs-later}
use Rattle.sd_base.proofs.LawfulIsRegular.{Timed}
use Rattle.sd_base.proofs.FiringsKeepOrder.{is_actor}

-- the first e firings of a have ended by t, and no later one has
pub record Ended (net : Net) (t : ℕ) (s : Schedule) (a e : ℕ) : Type 0 where
  pub within : e ≤ count_of s a
  pub done : (k : ℕ) → k < e → end_of net s a k ≤ t
  pub going : (k : ℕ) → e ≤ k → k < count_of s a → t < end_of net s a k

-- on each channel there are tokens enough for the firings n, when e have ended
pub record Able (net : Net) (e n : ℕ → ℕ) : Type 0 where
  pub enough : (i : ℕ) → i < length net.channels →
      total (channel_at net i).taken (n (channel_at net i).target) ≤ (channel_at net i).tokens + total (channel_at net i).made (e (channel_at net i).source)

-- each actor lacks tokens for a firing after the firings n, when e have ended
abbrev pub Full : Net → (ℕ → ℕ) → (ℕ → ℕ) → Type 0
Full net e n = (a : ℕ) → a < length net.times → Lacks net e a (n a)

-- u is s with all firings added that can start at t, when e have ended
pub record Extended (net : Net) (t : ℕ) (e : ℕ → ℕ) (s u : Schedule) : Type 0 where
  pub actors : length u ≡ length s
  pub longer : (a : ℕ) → count_of s a ≤ count_of u a
  pub kept : (a k : ℕ) → k < count_of s a → start_of u a k ≡ start_of s a k
  pub added : (a k : ℕ) → count_of s a ≤ k → k < count_of u a → start_of u a k ≡ t
  pub able : Able net e (count_of u)
  pub full : Full net e (count_of u)

module _ (net : Net) (t : ℕ) (e : ℕ → ℕ) (s u : Schedule) (early : Earliest net t s) (ended : (a : ℕ) → Ended net t s a (e a)) (ext : Extended net t e s u) where
  -- each start of u is at most t
  by_now : (a k : ℕ) → k < count_of u a → start_of u a k ≤ t
  by_now a k below = ⊎_elim
      (λ (old : k < count_of s a). rw (ext.kept a k old) (omega (arith, early.before a k old)))
      (λ (new : count_of s a ≤ k). omega (arith, ext.added a k new below))
      (cases_lt k (count_of s a))

  step-rising : (a k : ℕ) → k + 1 < count_of u a → start_of u a k ≤ start_of u a (k + 1)
  step-rising a k below = ⊎_elim
      (λ (old : k + 1 < count_of s a). rw (ext.kept a (k + 1) old) (rw (ext.kept a k (omega arith)) (early.admissible.rising a k old)))
      (λ (new : count_of s a ≤ k + 1). rw (ext.added a (k + 1) new below) (by_now a k (omega arith)))
      (cases_lt (k + 1) (count_of s a))

  step-fed : (i j m : ℕ) → i < length net.channels → j < count_of u (channel_at net i).target → Needs (channel_at net i) j m →
      (m < count_of u (channel_at net i).source) × (end_of net u (channel_at net i).source m ≤ start_of u (channel_at net i).target j)
  step-fed i j m place below need = ⊎_elim
      (λ (old : j < count_of s (channel_at net i).target).
      let fed = early.admissible.fed i j m place old need in
      let there : m < count_of s (channel_at net i).source = fed.0 in
      let in_time : end_of net s (channel_at net i).source m ≤ start_of s (channel_at net i).target j = fed.1 in (
        omega (arith, ext.longer (channel_at net i).source),
        rw (ext.kept (channel_at net i).target j old) (rw (ext.kept (channel_at net i).source m there) in_time),
      ))
      (λ (new : count_of s (channel_at net i).target ≤ j).
      let source : ℕ = (channel_at net i).source in
      let soon : m < e (channel_at net i).source = ⊎_elim (λ (h : m < e (channel_at net i).source). h) (λ (late : e (channel_at net i).source ≤ m). absurd (
      let made : total (channel_at net i).made (e (channel_at net i).source) ≤ total (channel_at net i).made m = total-le (channel_at net i).made late in
      let taken : total (channel_at net i).taken (j + 1) ≤ total (channel_at net i).taken (count_of u (channel_at net i).target) = total-le (channel_at net i).taken (omega arith) in
      let enough : total (channel_at net i).taken (count_of u (channel_at net i).target) ≤ (channel_at net i).tokens + total (channel_at net i).made (e (channel_at net i).source) = ext.able.enough i place in
      omega arith)) (cases_lt m (e (channel_at net i).source)) in
      let within : e (channel_at net i).source ≤ count_of s (channel_at net i).source = (ended (channel_at net i).source).within in
      let done : end_of net s (channel_at net i).source m ≤ t = (ended (channel_at net i).source).done m soon in
      let there : m < count_of s (channel_at net i).source = omega arith in (
        omega (arith, ext.longer (channel_at net i).source),
        rw (ext.added (channel_at net i).target j new below) (rw (ext.kept (channel_at net i).source m there) done),
      ))
      (cases_lt j (count_of s (channel_at net i).target))

  pub step-admissible : Admissible net u
  step-admissible = record { actors = ext.actors ∙ early.admissible.actors; rising = step-rising; fed = step-fed }

  -- a firing that another schedule starts at t is in u
  step-has : Timed net → (other : Schedule) → Admissible net other → (a k : ℕ) → k < count_of other a → start_of other a k ≤ t → k < count_of u a
  step-has long other good a k below by = ⊎_elim (λ (h : k < count_of u a). h) (λ (past : count_of u a ≤ k). absurd (
      let lack : Lacks net e a (count_of u a) = ext.full a (is_actor net other a k good below) in
      let i : ℕ = lack.0 in
      let source : ℕ = (channel_at net lack.0).source in
      let need : Needs (channel_at net lack.0) k (e (channel_at net lack.0).source) = needs-later (channel_at net lack.0) (count_of u a) k (e (channel_at net lack.0).source) past lack.3 in
      let at_target : k < count_of other (channel_at net lack.0).target = rw lack.2 below in
      let fed = good.fed lack.0 k (e (channel_at net lack.0).source) lack.1 at_target need in
      let there : e source < count_of other source = fed.0 in
      let fed_time : end_of net other source (e source) ≤ start_of other (channel_at net lack.0).target k = fed.1 in
      let in_time : end_of net other source (e source) ≤ start_of other a k = subst (λ (b : ℕ). end_of net other source (e source) ≤ start_of other b k) lack.2 fed_time in
      let takes : 1 ≤ time_of net source (e source) = long.some source (e source) (is_actor net other source (e source) good there) in
      let mine = early.least other good source (e source) there (omega arith) in
      let going : t < end_of net s source (e source) = (ended source).going (e source) (omega arith) mine.0 in
      let sooner : start_of s source (e source) ≤ start_of other source (e source) = mine.1 in
      omega arith)) (cases_lt k (count_of u a))

  pub earliest_step : Timed net → Earliest net (t + 1) u
  earliest_step long = record {
    admissible = step-admissible;
    before = λ a k below. let now : start_of u a k ≤ t = by_now a k below in omega arith;
    least = λ other good a k below by. ⊎_elim
        (λ (old : start_of other a k < t).
        let mine = early.least other good a k below old in
        let there : k < count_of s a = mine.0 in
        (omega (arith, ext.longer a), rw (ext.kept a k there) mine.1))
        (λ (now : t ≤ start_of other a k).
        let there : k < count_of u a = step-has long other good a k below (omega arith) in
        (there, omega (arith, by_now a k there)))
        (cases_lt (start_of other a k) t);
  }
