-- The starts of moment 0 are those of the earliest schedule.
use Rattle.std.proofs.Common.{◌≡◌, ℕ, ◌+◌, ◌≤◌, ◌<◌, Bool, true, false, List, [], length, map, replicate, ⊎_elim, sym, refl, ap, ◌∙◌, arith}
use Rattle.std.specs.Prelude.{slice_index, slice_index_or}
use Rattle.std.specs.List.{range_with_len}
use Rattle.std.specs.Bool.{MatchBool, OnTrue}
use Rattle.std.proofs.lemmas.Bool.{cases_lt}
use Rattle.std.proofs.lemmas.List.{get_or-map, get_or-replicate, length-replicate, get_or_past}
use Rattle.std.proofs.lemmas.List.FromFn.{get_or-map-range_with_len, length-map-range_with_len}
use Rattle.sd_base.specs.Net.{Net, channel_at, total}
use Rattle.sd_base.specs.Schedules.{time_of, Lacks, Schedule, count_of, start_of, Admissible, Earliest, HasInputs}
use Rattle.sd_base.specs.SelfTimed.{earliest}
use Rattle.sd_base.specs.Lawful.{Lawful}
use Rattle.sd_base.proofs.SumsRepeatByTurns.{total-zero, total-le}
use Rattle.sd_base.proofs.LawfulIsRegular.{Regular, regular}
use Rattle.sd_base.proofs.NextMomentIsEarliest.{Able, Full}
use Rattle.sd_base.proofs.EndsDecideCounts.{early_at, able-along, full-along, first-counts, first-ended}
use Rattle.sd_base.proofs.FiringOrdersEnd.{sum_to, sum_to-le}
use Rattle.sd_base.proofs.EndsAreEvents.{is_event-zero}
use Rattle.selftimed.specs.declared.actors.ActorState.{ActorState}
use Rattle.selftimed.specs.inside.Actors.{started_in, ended_in, running_in, touched_in, lacking_in, LacksAt, Stand, Counted, StartedAll, CanOverrun, HaveStarted}
use Rattle.selftimed.specs.inside.Stands.{IsFresh, Stands, Begins}
use Rattle.selftimed.specs.Moves.{AreStarters, Overruns}
use Rattle.selftimed.proofs.StartersAreListed.{starters-at}
use Rattle.selftimed.proofs.ActorsStartAllTheyCan.{started-le}
use Rattle.selftimed.proofs.MovesReachNextEvent.{fed-from, inputs-from, starts-sum}

-- ---- schedules of firings that start at moment 0

at_zero : (ℕ → ℕ) → ℕ → Schedule
at_zero m n = map (λ a. replicate (m a) 0) (range_with_len 0 n)

zero-row : (m : ℕ → ℕ) (n a : ℕ) → a < n → slice_index_or (at_zero m n) a [] ≡ replicate (m a) 0
unfolding at_zero
zero-row m n a below = get_or-map-range_with_len (λ (b : ℕ). replicate (m b) 0) 0 n a a [] below (omega arith)

zero-count : (m : ℕ → ℕ) (n a : ℕ) → a < n → count_of (at_zero m n) a ≡ m a
zero-count m n a below = ap length (zero-row m n a below) ∙ length-replicate {A = ℕ} (m a) 0

zero-long : (m : ℕ → ℕ) (n : ℕ) → length (at_zero m n) ≡ n
unfolding at_zero
zero-long m n = length-map-range_with_len (λ (b : ℕ). replicate (m b) 0) 0 n

zero-past : (m : ℕ → ℕ) (n a : ℕ) → n ≤ a → count_of (at_zero m n) a ≡ 0
zero-past m n a past = ap length (get_or_past (at_zero m n) a [] (omega (arith, zero-long m n)))

zero-actor : (m : ℕ → ℕ) (n a k : ℕ) → k < count_of (at_zero m n) a → a < n
zero-actor m n a k below = ⊎_elim (λ (h : a < n). h) (λ (past : n ≤ a). absurd (omega (arith, zero-past m n a past))) (cases_lt a n)

zero-start : (m : ℕ → ℕ) (n a k : ℕ) → k < count_of (at_zero m n) a → start_of (at_zero m n) a k ≡ 0
zero-start m n a k below =
    let actor : a < n = zero-actor m n a k below in
    rw (zero-row m n a actor) (get_or-replicate {A = ℕ} (m a) k 0 0 (omega (arith, zero-count m n a actor)))

zero-admissible : (net : Net) (m : ℕ → ℕ) → Lawful net → Able net (λ a. 0) m → Admissible net (at_zero m (length net.times))
zero-admissible net m laws able = record {
  actors = zero-long m (length net.times);
  rising = λ a k below. rw (zero-start m (length net.times) a k (omega arith)) (omega arith);
  fed = λ i j k there below need. absurd (
      let target : (channel_at net i).target < length net.times = laws.targets i there in
      let enough : total (channel_at net i).taken (m (channel_at net i).target) ≤ (channel_at net i).tokens + total (channel_at net i).made 0 = able.enough i there in
      let le : total (channel_at net i).taken (j + 1) ≤ total (channel_at net i).taken (m (channel_at net i).target) = total-le (channel_at net i).taken (omega (arith, zero-count m (length net.times) (channel_at net i).target target)) in
      let none : total (channel_at net i).made 0 ≡ 0 = total-zero (channel_at net i).made in
      omega arith);
}

-- counts that are able before anything has ended are within those of the earliest schedule of moment 0
zero-within : (net : Net) (m : ℕ → ℕ) (s : Schedule) → Lawful net → Able net (λ a. 0) m → Earliest net 1 s → (a : ℕ) → a < length net.times → m a ≤ count_of s a
zero-within net m s laws able early a actor = ⊎_elim
    (λ (more : count_of s a < m a). absurd (
    let there : count_of s a < count_of (at_zero m (length net.times)) a = omega (arith, zero-count m (length net.times) a actor) in
    let start : start_of (at_zero m (length net.times)) a (count_of s a) ≡ 0 = zero-start m (length net.times) a (count_of s a) there in
    let in_s : count_of s a < count_of s a = (early.least (at_zero m (length net.times)) (zero-admissible net m laws able) a (count_of s a) there (omega arith)).0 in
    omega arith))
    (λ (h : m a ≤ count_of s a). h) (cases_lt (count_of s a) (m a))

-- ---- a fresh engine

module _ (net : Net) (laws : Lawful net) (most : ℕ) (old : List ActorState) (tokens : List ℕ) (all : ℕ) (fresh : IsFresh net most old tokens all) where
  ended-none : (a : ℕ) → a < length net.times → ended_in old a ≡ 0
  ended-none a actor = omega (arith, fresh.stand.counts a actor, fresh.started a actor)

  running-none : (a : ℕ) → a < length net.times → length (running_in old a) ≡ 0
  running-none a actor = omega (arith, fresh.stand.counts a actor, fresh.started a actor)

  pub fresh-lacks : (b : ℕ) → b < length net.times → touched_in old b ≡ false → LacksAt net (ended_in old) b (started_in old b) (lacking_in old b)
  fresh-lacks b actor calm =
      let lack : LacksAt net (λ a. 0) b 0 (lacking_in old b) = fresh.lacks b actor calm in
      (lack.0, lack.1, rw (fresh.started b actor, ended-none (channel_at net (lacking_in old b)).source (laws.sources (lacking_in old b) lack.0)) lack.2)

  -- more starts were due at moment 0 than the bound
  pub fresh-overruns : CanOverrun net (ended_in old) most → Overruns net 0 most
  fresh-overruns can s early =
      let able : Able net (λ a. 0) can.0 = able-along net (ended_in old) (λ a. 0) can.0 can.0 (regular net laws).wired ended-none (λ b is. refl) can.1 in
      let le : sum_to can.0 (length net.times) ≤ sum_to (count_of s) (length net.times) = sum_to-le can.0 (count_of s) (length net.times) (zero-within net can.0 s laws able early) in
      let much : most < sum_to can.0 (length net.times) = can.2 in
      omega (arith, starts-sum s (length net.times) early.admissible.actors)

  module _ (new : List ActorState) (left : List ℕ) (total_now : ℕ) (started : StartedAll net 0 old new) (stand : Stand net new left) (counted : Counted new total_now most) where
    new-able : Able net (λ a. 0) (started_in new)
    new-able = record {
      enough = λ i there.
          let level : slice_index left i + total (channel_at net i).taken (started_in new (channel_at net i).target) ≡ (channel_at net i).tokens + total (channel_at net i).made (ended_in new (channel_at net i).source) = stand.level.each i there in
          let none : ended_in new (channel_at net i).source ≡ 0 = started.ended (channel_at net i).source ∙ ended-none (channel_at net i).source (laws.sources i there) in
          let made : total (channel_at net i).made (ended_in new (channel_at net i).source) ≡ total (channel_at net i).made 0 = ap (total (channel_at net i).made) none in
          omega arith;
    }

    new-full : Full net (λ a. 0) (started_in new)
    new-full = full-along net (ended_in old) (λ a. 0) (started_in new) (started_in new) (regular net laws).wired ended-none (λ b is. refl) (λ b is. (lacking_in new b, (started.lacks b is).0, (started.lacks b is).1, (started.lacks b is).2))

    fed : HasInputs net
    fed = inputs-from net (fed-from net (λ a. 0) (started_in new) new-full)

    reg : Regular net
    reg = regular net laws

    new-counts : (a : ℕ) → a < length net.times → started_in new a ≡ count_of (earliest net 1) a
    new-counts a actor = first-counts net reg fed (started_in new) new-able new-full a actor

    -- the starts of moment 0 are the earliest ones
    pub fresh-stands : Stands net 0 most new left total_now
    fresh-stands = record {
      stand = stand;
      counted = counted;
      fed = fed-from net (λ a. 0) (started_in new) new-full;
      counts = new-counts;
      ended = λ a actor. started.ended a ∙ (ended-none a actor ∙ sym (first-ended net reg fed a));
      ends = λ a k actor below.
          let adds = started.ends a actor in
          let old_none : length (running_in old a) ≡ 0 = running-none a actor in
          let new_none : ended_in new a ≡ 0 = started.ended a ∙ ended-none a actor in
          let old_zero : started_in old a ≡ 0 = fresh.started a actor in
          let added : slice_index (running_in new a) (length (running_in old a) + k) ≡ 0 + time_of net a (started_in old a + k) = adds.added k (omega (arith, adds.long)) in
          let e : length (running_in old a) + k ≡ k = omega arith in
          let f : started_in old a + k ≡ ended_in new a + k = omega arith in
          let there : ended_in new a + k < count_of (earliest net 1) a = omega (arith, new-counts a actor, stand.counts a actor) in
          let before : start_of (earliest net 1) a (ended_in new a + k) < 1 = (early_at net reg fed 1).before a (ended_in new a + k) there in
          let zero_start : 0 ≡ start_of (earliest net 1) a (ended_in new a + k) = omega arith in
          (rw (e, f) at added) ∙ ap (λ (x : ℕ). x + time_of net a (ended_in new a + k)) zero_start;
      calm = started.calm;
      lacks = λ b is.
          let lack : LacksAt net (ended_in old) b (started_in new b) (lacking_in new b) = started.lacks b is in
          (lack.0, lack.1, rw (started.ended (channel_at net (lacking_in new b)).source) lack.2);
      clock = omega arith;
      event = is_event-zero net;
    }

    -- where nothing started nothing can
    pub fresh-stuck : total_now ≡ 0 → (a : ℕ) → a < length net.times → Lacks net (λ b. 0) a 0
    fresh-stuck none a actor =
        let zero_now : started_in new a ≡ 0 = omega (arith, started-le new total_now most a counted (rw stand.long actor)) in
        let lack : Lacks net (λ b. 0) a (started_in new a) = new-full a actor in
        (lack.0, lack.1, lack.2, rw zero_now at lack.3)

    pub fresh-again : total_now ≡ 0 → IsFresh net most new left total_now
    fresh-again none = record {
      stand = stand;
      counted = counted;
      started = λ a actor. omega (arith, started-le new total_now most a counted (rw stand.long actor));
      lacks = λ a actor calm.
          let lack : LacksAt net (ended_in old) a (started_in new a) (lacking_in new a) = started.lacks a actor in
          let zero_now : started_in new a ≡ 0 = omega (arith, started-le new total_now most a counted (rw stand.long actor)) in
          let none_ended : ended_in old (channel_at net (lacking_in new a)).source ≡ 0 = ended-none (channel_at net (lacking_in new a)).source (laws.sources (lacking_in new a) lack.0) in
          (lack.0, lack.1, rw (zero_now, none_ended) at lack.2);
    }

-- what the starts of moment 0 come to
pub fresh-begins : (net : Net) (laws : Lawful net) (most : ℕ) (old new : List ActorState) (tokens left : List ℕ) (all total_now : ℕ) (fresh : IsFresh net most old tokens all) (fits : Bool) →
    MatchBool fits (StartedAll net 0 old new) (CanOverrun net (ended_in old) most) → OnTrue fits (Stand net new left) → OnTrue fits (Counted new total_now most) →
    MatchBool fits (Begins net most new left total_now) (Overruns net 0 most)
fresh-begins net laws most old new tokens left all total_now fresh true started stand counted = record {
  stands = fresh-stands net laws most old tokens all fresh new left total_now started stand counted;
  again = fresh-again net laws most old tokens all fresh new left total_now started stand counted;
  stuck = fresh-stuck net laws most old tokens all fresh new left total_now started stand counted;
}
fresh-begins net laws most old new tokens left all total_now fresh false can stand counted = fresh-overruns net laws most old tokens all fresh can

-- who starts then
pub fresh-starters : (net : Net) (most : ℕ) (old new : List ActorState) (tokens left list : List ℕ) (all total_now : ℕ) (fresh : IsFresh net most old tokens all) (fits : Bool) →
    MatchBool fits (Begins net most new left total_now) (Overruns net 0 most) → OnTrue fits (HaveStarted net old new list) → OnTrue fits (AreStarters net 0 list)
unfolding earliest
fresh-starters net most old new tokens left list all total_now fresh true after started =
    let none : (a : ℕ) → a < length net.times → count_of (earliest net 0) a ≡ 0 = λ a actor. ap length (get_or-map (λ (row : List ℕ). []) net.times a [] [] actor) in
    starters-at net 0 old new list (λ a actor. fresh.started a actor ∙ sym (none a actor)) after.stands.counts started
fresh-starters net most old new tokens left list all total_now fresh false after started = started
