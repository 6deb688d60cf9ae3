-- Self-timed execution comes round a loop pass by pass, and its second pass is as the loop's table has it.
use Rattle.std.proofs.Common.{◌≡◌, ℕ, zero, suc, ◌+◌, ◌-◌, ◌*◌, ◌≤◌, ◌<◌, length, ⊎_elim, subst, sym, arith}
use Rattle.std.proofs.lemmas.Bool.{cases_lt}
use Rattle.std.specs.Prelude.{slice_index}
use Rattle.firing.specs.declared.table.LoopTable.{LoopTable}
use Rattle.critical.specs.declared.cycle.FiringNo.{FiringNo}
use Rattle.sd_base.specs.Net.{Net}
use Rattle.sd_base.specs.Schedules.{time_of, Schedule, count_of, start_of, end_of, Earliest, HasInputs}
use Rattle.sd_base.specs.SelfTimed.{earliest}
use Rattle.sd_base.specs.Lawful.{Lawful}
use Rattle.sd_base.specs.Rates.{IsLoopTable}
use Rattle.sd_base.specs.Futures.{Repeats}
use Rattle.sd_base.proofs.LawfulIsRegular.{regular}
use Rattle.sd_base.proofs.EndsDecideCounts.{ended_at, ended-at-is}
use Rattle.sd_base.proofs.RoundsKeepTokens.{Whole}
use Rattle.sd_base.proofs.EqualShapesRepeat.{Alike, futures, since-then, since-whole, same-alike}
use Rattle.sd_base.proofs.LoopPasses as passes
use Rattle.critical.specs.CriticalCycles.{pass_of}
use Rattle.critical.specs.inside.Trails.{IsSecond, second_of, listed_at}

-- the earliest schedule up to and with the end of pass q
abbrev pub up_to : Net → LoopTable → ℕ → Schedule
up_to net table q = earliest net (table.entry + q * table.period + 1)

module _ (net : Net) (laws : Lawful net) (inputs : HasInputs net) (table : LoopTable) (loop : IsLoopTable net table.entry table.period table.rounds table.before table.starts) where
  pub early : (t : ℕ) → Earliest net t (earliest net t)
  early = passes.early net laws inputs table.entry table.period table.rounds table.before table.starts loop

  again : Repeats net table.entry (table.entry + table.period) (λ a. pass_of net table.rounds a)
  again = passes.again net laws inputs table.entry table.period table.rounds table.before table.starts loop

  pub whole-passes : (n : ℕ) → Whole net (λ a. n * pass_of net table.rounds a)
  whole-passes = passes.whole-passes net laws inputs table.entry table.period table.rounds table.before table.starts loop

  pub some-pass : (a : ℕ) → a < length net.times → 1 ≤ pass_of net table.rounds a
  some-pass = passes.some-pass net laws inputs table.entry table.period table.rounds table.before table.starts loop

  pub time-passes : (n a k : ℕ) → a < length net.times → time_of net a (k + n * pass_of net table.rounds a) ≡ time_of net a k
  time-passes = passes.time-passes net laws inputs table.entry table.period table.rounds table.before table.starts loop

  pub counts-at : (q a : ℕ) → count_of (up_to net table q) a ≡ count_of (earliest net (table.entry + 1)) a + q * pass_of net table.rounds a
  counts-at = passes.counts-at net laws inputs table.entry table.period table.rounds table.before table.starts loop

  pub starts-after : (q t a k : ℕ) → count_of (up_to net table q) a ≤ k → k < count_of (earliest net t) a → table.entry + q * table.period < start_of (earliest net t) a k
  starts-after = passes.starts-after net laws inputs table.entry table.period table.rounds table.before table.starts loop

  pub pass-on : (p q a k : ℕ) → k < count_of (up_to net table q) a → table.entry < end_of net (up_to net table q) a k →
      start_of (up_to net table (p + q)) a (k + p * pass_of net table.rounds a) ≡ start_of (up_to net table q) a k + p * table.period
  pass-on = passes.pass-on net laws inputs table.entry table.period table.rounds table.before table.starts loop

  pub agree-at : (p q a k : ℕ) → k < count_of (up_to net table p) a → k < count_of (up_to net table q) a → start_of (up_to net table p) a k ≡ start_of (up_to net table q) a k
  agree-at = passes.agree-at net laws inputs table.entry table.period table.rounds table.before table.starts loop

  pub enough-passes : (a k : ℕ) → a < length net.times → k < count_of (up_to net table (k + 1)) a
  enough-passes = passes.enough-passes net laws inputs table.entry table.period table.rounds table.before table.starts loop

  pub grows : (a n : ℕ) → a < length net.times → n ≤ n * pass_of net table.rounds a
  grows = passes.grows net laws inputs table.entry table.period table.rounds table.before table.starts loop

  -- ---- what has ended

  loop-passes : table.entry < table.entry + table.period
  loop-passes = omega (arith, loop.loop.passes)

  since : ℕ → ℕ
  since = since-then net (regular net laws) inputs table.entry (table.entry + table.period) loop-passes loop.loop.same

  alike-at : (d : ℕ) → Alike net (regular net laws) inputs since (ended_at net table.entry) (d + table.entry) (d + (table.entry + table.period))
  unfolding since
  alike-at d = futures net (regular net laws) inputs since (ended_at net table.entry) table.entry (table.entry + table.period)
      (since-whole net (regular net laws) inputs table.entry (table.entry + table.period) loop-passes loop.loop.same)
      (same-alike net (regular net laws) inputs table.entry (table.entry + table.period) loop-passes loop.loop.same) d

  since-pass : (a : ℕ) → since a ≡ pass_of net table.rounds a
  since-pass a =
      let here : table.entry + 0 + 1 ≡ suc (0 + table.entry) = omega arith in
      let there : table.entry + table.period + 0 + 1 ≡ suc (0 + (table.entry + table.period)) = omega arith in
      let counts : count_of (earliest net (suc (0 + (table.entry + table.period)))) a ≡ count_of (earliest net (suc (0 + table.entry))) a + pass_of net table.rounds a = rw here at (rw there at (again.counts 0 a)) in
      omega (arith, (alike-at 0).counts a)

  ended-passes : (q a : ℕ) → ended_at net (q * table.period + table.entry) a ≡ ended_at net table.entry a + q * pass_of net table.rounds a
  ended-passes zero a =
      let e : 0 * table.period + table.entry ≡ table.entry = omega arith in
      rw e (omega arith)
  ended-passes (suc q) a =
      let e : suc q * table.period + table.entry ≡ q * table.period + (table.entry + table.period) = omega arith in
      let step : ended_at net (q * table.period + (table.entry + table.period)) a ≡ ended_at net (q * table.period + table.entry) a + since a = (alike-at (q * table.period)).ended a in
      rw e (omega (arith, ended-passes q a, since-pass a))

  -- a firing that runs on past the end of pass q has a number of at least q passes
  pub runs-past : (q p a k : ℕ) → k < count_of (up_to net table p) a → table.entry + q * table.period < end_of net (up_to net table p) a k → ended_at net table.entry a + q * pass_of net table.rounds a ≤ k
  runs-past q p a k there late = ⊎_elim
      (λ (h : k < ended_at net table.entry a + q * pass_of net table.rounds a). absurd (
      let early_one : k < ended_at net (q * table.period + table.entry) a = omega (arith, ended-passes q a) in
      let is = ended-at-is net (regular net laws) inputs (q * table.period + table.entry) a in
      let e : suc (q * table.period + table.entry) ≡ table.entry + q * table.period + 1 = omega arith in
      let done : end_of net (earliest net (suc (q * table.period + table.entry))) a k ≤ q * table.period + table.entry = is.done k early_one in
      let within : k < count_of (earliest net (suc (q * table.period + table.entry))) a = omega (arith, is.within) in
      let done_there : end_of net (up_to net table q) a k ≤ q * table.period + table.entry = subst (λ (t : ℕ). end_of net (earliest net t) a k ≤ q * table.period + table.entry) e done in
      let there_too : k < count_of (up_to net table q) a = subst (λ (t : ℕ). k < count_of (earliest net t) a) e within in
      let same : start_of (up_to net table p) a k ≡ start_of (up_to net table q) a k = agree-at p q a k there there_too in
      omega arith))
      (λ (h : ended_at net table.entry a + q * pass_of net table.rounds a ≤ k). h)
      (cases_lt k (ended_at net table.entry a + q * pass_of net table.rounds a))

  -- and one that has not ended by the entry runs on
  pub runs-on : (p a k : ℕ) → k < count_of (up_to net table p) a → ended_at net table.entry a ≤ k → table.entry < end_of net (up_to net table p) a k
  runs-on p a k there from =
      let e : suc table.entry ≡ table.entry + 0 * table.period + 1 = omega arith in
      let is = ended-at-is net (regular net laws) inputs table.entry a in
      ⊎_elim
      (λ (now : k < count_of (up_to net table 0) a).
      let here : k < count_of (earliest net (suc table.entry)) a = subst (λ (t : ℕ). k < count_of (earliest net t) a) (sym e) now in
      let going_on : table.entry < end_of net (earliest net (suc table.entry)) a k = is.going k from here in
      let going : table.entry < end_of net (up_to net table 0) a k = subst (λ (t : ℕ). table.entry < end_of net (earliest net t) a k) e going_on in
      let same : start_of (up_to net table p) a k ≡ start_of (up_to net table 0) a k = agree-at p 0 a k there now in
      omega arith)
      (λ (later : count_of (up_to net table 0) a ≤ k).
      let start : table.entry + 0 * table.period < start_of (up_to net table p) a k = starts-after 0 (table.entry + p * table.period + 1) a k later there in
      omega arith)
      (cases_lt k (count_of (up_to net table 0) a))

  -- ---- the second pass

  pub actors-same : length table.starts ≡ length net.times
  actors-same = loop.rows

  pub listed-many : (a : ℕ) → a < length net.times → count_of table.starts a ≡ pass_of net table.rounds a
  listed-many a actor = loop.whole a actor

  -- a firing of the second pass, by the earliest schedule
  pub record Second (x : FiringNo) : Type 0 where
    pub actor : x.actor < length net.times
    pub from : count_of (up_to net table 1) x.actor ≤ x.number
    pub below : x.number < count_of (up_to net table 2) x.actor
    pub start : start_of (up_to net table 2) x.actor x.number ≡ listed_at table x + table.period

  pub second-from : (a : ℕ) → a < length net.times → count_of (up_to net table 1) a ≡ second_of table a
  second-from a actor = omega (arith, counts-at 1 a, loop.earlier a actor, loop.whole a actor)

  pub second-is : (x : FiringNo) → IsSecond table x → Second x
  second-is x second =
      let a : ℕ = x.actor in
      let k : ℕ = x.number - second_of table a in
      let actor : a < length net.times = omega (arith, second.actor, actors-same) in
      let many : count_of table.starts a ≡ pass_of net table.rounds a = listed-many a actor in
      let earlier : slice_index table.before a ≡ count_of (earliest net (table.entry + 1)) a = loop.earlier a actor in
      let listed : k < count_of table.starts a = omega (arith, second.from, second.below) in
      let first : table.entry + table.period + 1 ≡ table.entry + 1 * table.period + 1 = omega arith in
      let moment : start_of table.starts a k ≡ start_of (up_to net table 1) a (slice_index table.before a + k) = rw first at (loop.moments a k actor listed) in
      let there : slice_index table.before a + k < count_of (up_to net table 1) a = omega (arith, counts-at 1 a) in
      let zeroth : table.entry + 1 ≡ table.entry + 0 * table.period + 1 = omega arith in
      let late : table.entry + 0 * table.period < start_of (up_to net table 1) a (slice_index table.before a + k) =
      starts-after 0 (table.entry + 1 * table.period + 1) a (slice_index table.before a + k) (omega (arith, counts-at 0 a)) there in
      let on : start_of (up_to net table 2) a ((slice_index table.before a + k) + pass_of net table.rounds a) ≡ start_of (up_to net table 1) a (slice_index table.before a + k) + table.period =
      passes.step-on net laws inputs table.entry table.period table.rounds table.before table.starts loop 1 a (slice_index table.before a + k) there (omega arith) in
      let place : (slice_index table.before a + k) + pass_of net table.rounds a ≡ x.number = omega (arith, second.from) in
      let here : start_of (up_to net table 2) a x.number ≡ start_of (up_to net table 1) a (slice_index table.before a + k) + table.period = rw place at on in
      record {
        actor = actor;
        from = omega (arith, second-from a actor, second.from);
        below = omega (arith, counts-at 2 a, second.below);
        start = omega arith;
      }
