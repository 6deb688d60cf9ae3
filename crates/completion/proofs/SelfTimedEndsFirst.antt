-- Self-timed execution completes rounds first, and ways of needs can't be longer than that.
use Rattle.std.proofs.Common.{◌≡◌, ℕ, suc, ◌+◌, ◌-◌, ◌*◌, ◌≤◌, ◌<◌, List, [], ◌∷◌, subst, sym, refl, arith}
use Rattle.std.specs.Prelude.{slice_index}
use Rattle.critical.specs.declared.cycle.FiringNo.{FiringNo}
use Rattle.critical.specs.declared.cycle.CycleStep.{CycleStep}
use Rattle.completion.specs.declared.timetable.Start.{Start}
use Rattle.completion.specs.declared.timetable.Timetable.{Timetable}
use Rattle.sd_base.specs.Net.{Net, channel_at}
use Rattle.sd_base.specs.Schedules.{Schedule, Admissible, count_of, end_of, start_of}
use Rattle.sd_base.specs.SelfTimed.{earliest}
use Rattle.sd_base.proofs.LawfulIsRegular.{regular}
use Rattle.sd_base.proofs.FiringsKeepOrder.{ends-le}
use Rattle.critical.specs.Cycles.{IsStep, IsChain, last_of}
use Rattle.completion.specs.Ways.{StartsAt, AreInRounds, InRounds, firing_time, sum_along}
use Rattle.completion.specs.Completions.{CompletesBy, CompletionTimesAreOne, IsCompletionTime, WaysAreNoLonger}
use Rattle.completion.specs.inside.Timetables.{EndsLast, IsLastOf, IsTimetable, end_at, moment_of}
use Rattle.completion.proofs.FiringsStartOnce.{early, start-is, start-there}
use Rattle.completion.proofs.TimetablesTellStarts.{moment-starts}
use Rattle.completion.proofs.TightNeedsExist.{starts}

-- ---- the least time

module _ (net : Net) (times : Timetable) (is : IsTimetable net times) (n : ℕ) (last : Start) (ends : EndsLast net times n last) (some : 1 ≤ n) where
  -- the last firing of an actor in the rounds
  abbrev last_one : ℕ → Start
  last_one a = record { actor = a; number = n * slice_index net.round a - 1; moment = moment_of times a (n * slice_index net.round a - 1) }

  one-last : (a k : ℕ) → InRounds net n a k → IsLastOf net times n (last_one a)
  one-last a k within = record { start = record { actor = within.0; moment = refl }; number = omega (arith, within.1) }

  completes : CompletesBy net n (end_at net last) (earliest net (suc (end_at net last)))
  completes a k within =
      let j : ℕ = n * slice_index net.round a - 1 in
      let at : StartsAt net a j (moment_of times a j) = moment-starts net times is a j within.0 in
      let soon : end_at net (last_one a) ≤ end_at net last = ends.latest (last_one a) (one-last a k within) in
      let there : j < count_of (earliest net (suc (end_at net last))) a = start-there net is.laws is.inputs a j (moment_of times a j) (suc (end_at net last)) at (omega arith) in
      let here : start_of (earliest net (suc (end_at net last))) a j ≡ moment_of times a j = start-is net is.laws is.inputs a j (moment_of times a j) (suc (end_at net last)) at there in
      let le : k ≤ j = omega (arith, within.1) in
      let rise : end_of net (earliest net (suc (end_at net last))) a k ≤ end_of net (earliest net (suc (end_at net last))) a j =
      ends-le net (earliest net (suc (end_at net last))) (regular net is.laws).own (early net is.laws is.inputs (suc (end_at net last))).admissible a k j le there in
      (omega arith, omega arith)

  least : (s : Schedule) (t : ℕ) → Admissible net s → CompletesBy net n t s → end_at net last ≤ t
  least s t good done =
      let a : ℕ = last.actor in
      let k : ℕ = last.number in
      let within : InRounds net n last.actor last.number = (ends.last.start.actor, omega (arith, ends.last.number)) in
      let mine = done last.actor last.number within in
      let soon = (early net is.laws is.inputs (suc (start_of s last.actor last.number))).least s good last.actor last.number mine.0 (omega arith) in
      let here : start_of (earliest net (suc (start_of s last.actor last.number))) last.actor last.number ≡ last.moment =
      start-is net is.laws is.inputs last.actor last.number last.moment (suc (start_of s last.actor last.number)) (starts net times is last ends.last.start) soon.0 in
      omega (arith, soon.1, mine.1)

  pub completed : IsCompletionTime net n (end_at net last)
  completed = record {
    schedule = earliest net (suc (end_at net last));
    admissible = (early net is.laws is.inputs (suc (end_at net last))).admissible;
    completes = completes;
    least = least;
  }

-- ---- the laws

pub one-time : CompletionTimesAreOne
one-time net n m l one other =
    let le : m ≤ l = one.least other.schedule l other.admissible other.completes in
    let ge : l ≤ m = other.least one.schedule m one.admissible one.completes in
    omega arith

module _ (net : Net) (s : Schedule) (good : Admissible net s) where
  -- a chain whose last firing is in a schedule takes no longer than to the end of that firing
  chain-ends : (from : FiringNo) (steps : List CycleStep) → IsChain net from steps → (last_of from steps).number < count_of s (last_of from steps).actor →
      (from.number < count_of s from.actor) × (start_of s from.actor from.number + sum_along (firing_time net) from steps ≤ end_of net s (last_of from steps).actor (last_of from steps).number)
  chain-ends from [] chain there = (there, omega arith)
  chain-ends from (step ∷ steps) chain there =
      let rest = chain-ends step.to steps chain.1 there in
      let one : IsStep net from step = chain.0 in
      let at_target : step.to.number < count_of s (channel_at net step.channel).target = subst (λ (b : ℕ). step.to.number < count_of s b) (sym one.target) rest.0 in
      let fed = good.fed step.channel step.to.number from.number one.place at_target one.last.needed in
      let mine : from.number < count_of s from.actor = subst (λ (b : ℕ). from.number < count_of s b) one.source fed.0 in
      let at_source : end_of net s from.actor from.number ≤ start_of s (channel_at net step.channel).target step.to.number = subst (λ (b : ℕ). end_of net s b from.number ≤ start_of s (channel_at net step.channel).target step.to.number) one.source fed.1 in
      let before : end_of net s from.actor from.number ≤ start_of s step.to.actor step.to.number = subst (λ (b : ℕ). end_of net s from.actor from.number ≤ start_of s b step.to.number) one.target at_source in
      (mine, omega (arith, rest.1))

last-in : (net : Net) (n : ℕ) (from : FiringNo) (steps : List CycleStep) → AreInRounds net n from steps → InRounds net n (last_of from steps).actor (last_of from steps).number
last-in net n from [] within = within
last-in net n from (step ∷ steps) within = last-in net n step.to steps within.1

pub no-longer : WaysAreNoLonger
no-longer net n m from steps time way =
    let done = time.completes (last_of from steps).actor (last_of from steps).number (last-in net n from steps way.within) in
    let ends = chain-ends net time.schedule time.admissible from steps way.chain done.0 in
    omega (arith, ends.1, done.1)
