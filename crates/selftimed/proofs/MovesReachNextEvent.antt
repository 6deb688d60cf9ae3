-- The ends and starts of a move lead from one event to the next.
use Rattle.std.proofs.Common.{◌≡◌, ◌≢◌, ℕ, zero, suc, ◌+◌, ◌-◌, ◌*◌, ◌%◌, ◌≤◌, ◌<◌, ◌^◌, ◌⊎◌, Bool, true, false, List, [], ◌∷◌, Option, Some, None, length, map, fold, take, drop, min, sum, replicate, inl, inr, ⊎_elim, subst, sym, refl, ap, ◌∙◌, arith, mod-lt}
use Rattle.std.specs.Prelude.{slice_index, slice_index_or, ◌==◌}
use Rattle.std.specs.List.{list_any}
use Rattle.std.specs.Bool.{MatchBool, OnTrue}
use Rattle.std.proofs.lemmas.Bool.{cases_lt, cases_eq, cases_Bool, false≢true}
use Rattle.std.proofs.lemmas.List.{get_or-drop, length-drop, get_or-map, length-map, take_all}
use Rattle.std.proofs.lemmas.List.Sums.{sum_by_more}
use Rattle.sd_base.specs.Net.{Channel, Net, nowhere, channel_at, total}
use Rattle.sd_base.specs.Schedules.{time_of, phases_at, Needs, Lacks, Schedule, count_of, start_of, end_of, Earliest, HasInputs}
use Rattle.sd_base.specs.SelfTimed.{ended_by, earliest, IsEvent, is_event}
use Rattle.sd_base.specs.Lawful.{Lawful}
use Rattle.sd_base.proofs.LawfulIsRegular.{Regular, regular}
use Rattle.sd_base.proofs.FiringsKeepOrder.{is_actor, ends-le, earliest-equal}
use Rattle.sd_base.proofs.NextMomentIsEarliest.{Ended, Able, Full, Extended}
use Rattle.sd_base.proofs.EarliestExists.{extended-is}
use Rattle.sd_base.proofs.EndsDecideCounts.{Same, Quiet, ended_at, early_at, ended-at-is, full-at, decided-le, quiet-until, advance-ended, advance-counts, full-along, able-along}
use Rattle.sd_base.proofs.FiringOrdersEnd.{sum_to, sum_to-le, sum_to-lt}
use Rattle.sd_base.proofs.EndsAreEvents.{is_event-end, event-tells}
use Rattle.sd_base.proofs.ElementsKeepPlaces.{any-place}
use Rattle.selftimed.specs.declared.actors.ActorState.{ActorState}
use Rattle.selftimed.specs.inside.Actors.{started_in, ended_in, running_in, touched_in, lacking_in, LacksAt, IsFirstEnd, IsQuiet, EndsAll, Stand, Counted, StartedAll, CanOverrun, HaveStarted}
use Rattle.selftimed.specs.inside.Stands.{Stands}
use Rattle.selftimed.specs.Moves.{AreStarters, IsNextEvent, Overruns}
use Rattle.selftimed.proofs.StartersAreListed.{starters-at}
use Rattle.selftimed.proofs.ActorsStartAllTheyCan.{sum_to-all, sum_to-same}

-- ---- inputs

pub inputs-from : (net : Net) → ((a : ℕ) → a < length net.times → list_any (λ (c : Channel). c.target == a) net.channels ≡ true) → HasInputs net
inputs-from net fed a actor =
    let found : (i : ℕ) × (i < length net.channels) × (((slice_index_or net.channels i nowhere).target == a) ≡ true) = any-place (λ (c : Channel). c.target == a) nowhere net.channels (fed a actor) in
    (found.0, found.1, Rattle.std.proofs.Common.eqb-true (channel_at net found.0).target a found.2)

list_any-from : (p : Channel → Bool) (cs : List Channel) (i : ℕ) → i < length cs → p (slice_index_or cs i nowhere) ≡ true → list_any p cs ≡ true
list_any-from p [] i below holds = absurd (omega arith)
list_any-from p (c ∷ cs) zero below holds = Rattle.std.proofs.lemmas.Bool.or_left _ _ holds
list_any-from p (c ∷ cs) (suc i) below holds = Rattle.std.proofs.lemmas.Bool.or_right _ _ (list_any-from p cs i (omega arith) holds)

pub fed-from : (net : Net) (e n : ℕ → ℕ) → Full net e n → (a : ℕ) → a < length net.times → list_any (λ (c : Channel). c.target == a) net.channels ≡ true
fed-from net e n full a actor =
    let lack : Lacks net e a (n a) = full a actor in
    list_any-from (λ (c : Channel). c.target == a) net.channels lack.0 lack.1 (Rattle.std.proofs.Common.eq-eqb (channel_at net lack.0).target a lack.2)

-- ---- counts of all starts

starts-take : (s : Schedule) (n : ℕ) → n ≤ length s → sum_to (count_of s) n ≡ sum (take n (map length s))
unfolding sum_to
starts-take s zero within = refl
starts-take s (suc n) within =
    let there : n < length (map length s) = rw length-map within in
    let more : sum (take (n + 1) (map length s)) ≡ sum (take n (map length s)) + slice_index (map length s) n = sum_by_more (λ (x : ℕ). x) (map length s) n 0 there in
    let read : slice_index (map length s) n ≡ count_of s n = get_or-map length s n [] 0 within in
    let e : suc n ≡ n + 1 = omega arith in
    rw e (omega (arith, more, read, starts-take s n (omega arith)))

pub starts-sum : (s : Schedule) (n : ℕ) → length s ≡ n → sum_to (count_of s) n ≡ sum (map length s)
starts-sum s n long = starts-take s n (omega arith) ∙ ap sum (take_all n (map length s) (omega (arith, length-map s length)))

-- ---- the next event

module _ (net : Net) (laws : Lawful net) (now most : ℕ) (old : List ActorState) (tokens : List ℕ) (all : ℕ) (stands : Stands net now most old tokens all) where
  fed : HasInputs net
  fed = inputs-from net stands.fed

  reg : Regular net
  reg = regular net laws

  base-ended : (a : ℕ) → a < length net.times → Ended net now (earliest net (suc now)) a (ended_in old a)
  base-ended a actor = subst (Ended net now (earliest net (suc now)) a) (sym (stands.ended a actor)) (ended-at-is net reg fed now a)

  -- the firing at a place of the list of those that run
  run-end : (a k : ℕ) → a < length net.times → ended_in old a ≤ k → k < count_of (earliest net (suc now)) a →
      (k - ended_in old a < length (running_in old a)) × (slice_index (running_in old a) (k - ended_in old a) ≡ end_of net (earliest net (suc now)) a k)
  run-end a k actor from below =
      let many : ended_in old a + length (running_in old a) ≡ started_in old a = stands.stand.counts a actor in
      let inside : k - ended_in old a < length (running_in old a) = omega (arith, stands.counts a actor) in
      let e : ended_in old a + (k - ended_in old a) ≡ k = omega arith in
      (inside, rw e at (stands.ends a (k - ended_in old a) actor inside))

  -- where nothing runs all that has started has ended
  pub stuck-ended : IsQuiet old → (a : ℕ) → a < length net.times → ended_by net now (earliest net (suc now)) a ≡ count_of (earliest net (suc now)) a
  stuck-ended none a actor =
      let many : ended_in old a + length (running_in old a) ≡ started_in old a = stands.stand.counts a actor in
      omega (arith, stands.counts a actor, stands.ended a actor, none a (rw stands.stand.long actor))

  pub stuck-lacks : IsQuiet old → (a : ℕ) → a < length net.times → Lacks net (count_of (earliest net (suc now))) a (count_of (earliest net (suc now)) a)
  stuck-lacks none = full-along net (ended_at net now) (count_of (earliest net (suc now))) (count_of (earliest net (suc now))) (count_of (earliest net (suc now))) reg.wired (stuck-ended none) (λ a actor. refl) (full-at net reg fed now)

  module _ (t : ℕ) (head : IsFirstEnd old t) where
    quiet : Quiet net now t
    quiet = record {
      still = λ a k from below.
          let actor : a < length net.times = is_actor net (earliest net (suc now)) a k (early_at net reg fed (suc now)).admissible below in
          let from_old : ended_in old a ≤ k = omega (arith, stands.ended a actor) in
          let many : ended_in old a + length (running_in old a) ≡ started_in old a = stands.stand.counts a actor in
          let some : 0 < length (running_in old a) = omega (arith, stands.counts a actor) in
          let low : t ≤ slice_index (running_in old a) 0 = head.below a (rw stands.stand.long actor) some in
          let front : slice_index (running_in old a) 0 ≡ end_of net (earliest net (suc now)) a (ended_in old a + 0) = stands.ends a 0 actor some in
          let e : ended_in old a + 0 ≡ ended_in old a = omega arith in
          let front_at : slice_index (running_in old a) 0 ≡ end_of net (earliest net (suc now)) a (ended_in old a) = rw e at front in
          let rise : end_of net (earliest net (suc now)) a (ended_in old a) ≤ end_of net (earliest net (suc now)) a k = ends-le net (earliest net (suc now)) reg.own (early_at net reg fed (suc now)).admissible a (ended_in old a) k from_old below in
          omega arith;
    }

    -- who ends then
    ending : (a : ℕ) × (a < length net.times) × (0 < length (running_in old a)) × (slice_index (running_in old a) 0 ≡ t)
    ending = (head.there.0, rw stands.stand.long at head.there.1, head.there.2, head.there.3)

    ending-end : (ended_in old ending.0 < count_of (earliest net (suc now)) ending.0) × (end_of net (earliest net (suc now)) ending.0 (ended_in old ending.0) ≡ t)
    ending-end =
        let many : ended_in old ending.0 + length (running_in old ending.0) ≡ started_in old ending.0 = stands.stand.counts ending.0 ending.1 in
        let at : slice_index (running_in old ending.0) 0 ≡ end_of net (earliest net (suc now)) ending.0 (ended_in old ending.0 + 0) = stands.ends ending.0 0 ending.1 ending.2 in
        let e : ended_in old ending.0 + 0 ≡ ended_in old ending.0 = omega arith in
        let here : slice_index (running_in old ending.0) 0 ≡ t = ending.3 in
        let front : slice_index (running_in old ending.0) 0 ≡ end_of net (earliest net (suc now)) ending.0 (ended_in old ending.0) = rw e at at in
        (omega (arith, ending.2, stands.counts ending.0 ending.1), sym front ∙ here)

    later : now < t
    later =
        let going : now < end_of net (earliest net (suc now)) ending.0 (ended_in old ending.0) = (base-ended ending.0 ending.1).going (ended_in old ending.0) (omega arith) ending-end.0 in
        omega (arith, ending-end.1)

    same : Same (earliest net (suc now)) (earliest net t)
    same = quiet-until net reg fed now t quiet later

    -- what has started before then
    pub started-before : (a : ℕ) → a < length net.times → started_in old a ≡ count_of (earliest net t) a
    started-before a actor = stands.counts a actor ∙ same.counts a

    -- the event is there
    event : is_event net t ≡ true
    event = is_event-end net t ending.0 (ended_in old ending.0) ending.1 (omega (arith, ending-end.0, same.counts ending.0))
        (rw (← same.starts ending.0 (ended_in old ending.0) ending-end.0) ending-end.1)

    no-event : (u : ℕ) → now < u → u < t → IsEvent net u → ⊥
    no-event u after before at = ⊎_elim
        (λ (zero_at : u ≡ 0). absurd (omega arith))
        (λ (found : (a : ℕ) × (k : ℕ) × (k < count_of (earliest net u) a) × (end_of net (earliest net u) a k ≡ u)).
        let sooner : Quiet net now u = record { still = λ a k from below. let late : t ≤ end_of net (earliest net (suc now)) a k = quiet.still a k from below in omega arith } in
        let match : Same (earliest net (suc now)) (earliest net u) = quiet-until net reg fed now u sooner after in
        let there : found.1 < count_of (earliest net (suc now)) found.0 = omega (arith, found.2, match.counts found.0) in
        let actor : found.0 < length net.times = is_actor net (earliest net (suc now)) found.0 found.1 (early_at net reg fed (suc now)).admissible there in
        let at_u : end_of net (earliest net (suc now)) found.0 found.1 ≡ u = rw (match.starts found.0 found.1 there) found.3 in
        ⊎_elim
        (λ (past : found.1 < ended_in old found.0). let done : end_of net (earliest net (suc now)) found.0 found.1 ≤ now = (base-ended found.0 actor).done found.1 past in absurd (omega arith))
        (λ (still : ended_in old found.0 ≤ found.1). let late : t ≤ end_of net (earliest net (suc now)) found.0 found.1 = quiet.still found.0 found.1 (rw (stands.ended found.0 actor) at still) there in absurd (omega arith))
        (cases_lt found.1 (ended_in old found.0)))
        at

    pub next-event : IsNextEvent net now t
    next-event = record { later = later; event = event-tells net t event; quiet = no-event }

    -- the moment stays small
    pub soon : t ≤ 1000000000 * sum_to (ended_in old) (length net.times) + 1000000000
    soon =
        let started : start_of (earliest net (suc now)) ending.0 (ended_in old ending.0) < suc now = (early_at net reg fed (suc now)).before ending.0 (ended_in old ending.0) ending-end.0 in
        let short : time_of net ending.0 (ended_in old ending.0) ≤ 1000000000 = laws.short_times ending.0 (ended_in old ending.0 % phases_at net ending.0) ending.1 (mod-lt (ended_in old ending.0) (laws.some_phase ending.0 ending.1)) in
        omega (arith, ending-end.1, stands.clock)

    ended-few : sum_to (ended_in old) (length net.times) ≤ all
    ended-few =
        let le : sum_to (ended_in old) (length net.times) ≤ sum_to (started_in old) (length net.times) = sum_to-le (ended_in old) (started_in old) (length net.times) (λ b is. omega (arith, stands.stand.counts b is)) in
        omega (arith, sum_to-all old (length net.times) stands.stand.long, stands.counted.total)

    pub moment-small : most ≤ 2 ^ 32 → t ≤ 2 ^ 62
    moment-small few = omega (arith, soon, ended-few, stands.counted.within)

    module _ (mid : List ActorState) (ends : EndsAll net t old mid) where
      -- what has ended by then
      mid-ended : (a : ℕ) → a < length net.times → Ended net t (earliest net (suc now)) a (ended_in mid a)
      mid-ended a actor =
          let one = ends.each a actor in
          let n : ℕ = ended_in mid a - ended_in old a in
          let many : ended_in old a + length (running_in old a) ≡ started_in old a = stands.stand.counts a actor in
          let whole : ended_in old a + n ≡ ended_in mid a = omega (arith, one.later) in
          record {
            within = omega (arith, one.within, stands.counts a actor);
            done = λ k below. ⊎_elim
                (λ (past : k < ended_in old a). let done : end_of net (earliest net (suc now)) a k ≤ now = (base-ended a actor).done k past in omega (arith, later))
                (λ (from : ended_in old a ≤ k).
                let here = run-end a k actor from (omega (arith, one.within, stands.counts a actor)) in
                let past : slice_index (running_in old a) (k - ended_in old a) ≤ t = one.past (k - ended_in old a) (omega arith) in
                omega (arith, here.1))
                (cases_lt k (ended_in old a));
            going = λ k from below.
                let there : ended_in mid a < count_of (earliest net (suc now)) a = omega arith in
                let here = run-end a (ended_in mid a) actor one.later there in
                let next : t < slice_index (running_in old a) (ended_in mid a - ended_in old a) = one.next here.0 in
                let rise : end_of net (earliest net (suc now)) a (ended_in mid a) ≤ end_of net (earliest net (suc now)) a k = ends-le net (earliest net (suc now)) reg.own (early_at net reg fed (suc now)).admissible a (ended_in mid a) k from below in
                omega (arith, here.1);
          }

      -- an untouched actor lacks what it lacked
      pub mid-lacks : (b : ℕ) → b < length net.times → touched_in mid b ≡ false → LacksAt net (ended_in mid) b (started_in mid b) (lacking_in mid b)
      mid-lacks b actor calm =
          let i : ℕ = lacking_in old b in
          let lack : LacksAt net (ended_in old) b (started_in old b) i = stands.lacks b actor in
          let count : started_in mid b ≡ started_in old b = (ends.each b actor).started in
          let short : Needs (channel_at net i) (started_in mid b) (ended_in mid (channel_at net i).source) = ⊎_elim
          (λ (still : ended_in mid (channel_at net i).source ≡ ended_in old (channel_at net i).source). rw (still, count) lack.2)
          (λ (needs : Needs (channel_at net i) (started_in mid (channel_at net i).target) (ended_in mid (channel_at net i).source)). rw lack.1 at needs)
          (ends.untouched i lack.0 (rw lack.1 calm) (rw lack.1 (ends.lacking b))) in
          rw (ends.lacking b) (lack.0, lack.1, short)

      pub mid-counted : Counted mid all most
      mid-counted =
          let long : length mid ≡ length net.times = ends.long ∙ stands.stand.long in
          record {
            total = omega (
              arith,
              stands.counted.total,
              sum_to-all old (length net.times) stands.stand.long,
              sum_to-all mid (length net.times) long,
              sum_to-same (started_in old) (started_in mid) (length net.times) (λ b is. (ends.each b is).started),
            );
            within = stands.counted.within;
          }

      -- counts that are able with what has ended by then are within those of the earliest schedule
      pub able-within : (m : ℕ → ℕ) → Able net (ended_in mid) m → (a : ℕ) → a < length net.times → m a ≤ count_of (earliest net (suc t)) a
      able-within m able a actor =
          decided-le net (ended_at net t) (count_of (earliest net (suc t))) m (full-at net reg fed t)
          (able-along net (ended_in mid) (ended_at net t) m m reg.wired (advance-ended net reg fed now t quiet later (ended_in mid) mid-ended) (λ b is. refl) able) a actor

      pub overruns : CanOverrun net (ended_in mid) most → Overruns net t most
      overruns can s early =
          let at_next : Earliest net (t + 1) (earliest net (suc t)) = rw Rattle.std.proofs.Common.add-one (early_at net reg fed (suc t)) in
          let same_one : s ≡ earliest net (suc t) = earliest-equal net (t + 1) s (earliest net (suc t)) early at_next in
          let long : length (earliest net (suc t)) ≡ length net.times = (early_at net reg fed (suc t)).admissible.actors in
          let le : sum_to can.0 (length net.times) ≤ sum_to (count_of (earliest net (suc t))) (length net.times) = sum_to-le can.0 (count_of (earliest net (suc t))) (length net.times) (able-within can.0 can.1) in
          let much : most < sum_to can.0 (length net.times) = can.2 in
          rw same_one (omega (arith, starts-sum (earliest net (suc t)) (length net.times) long))

      module _ (new : List ActorState) (left : List ℕ) (total_now : ℕ) (started : StartedAll net t mid new) (stand : Stand net new left) (counted : Counted new total_now most) where
        new-able : Able net (ended_in mid) (started_in new)
        new-able = record {
          enough = λ i there.
              let level : slice_index left i + total (channel_at net i).taken (started_in new (channel_at net i).target) ≡ (channel_at net i).tokens + total (channel_at net i).made (ended_in new (channel_at net i).source) = stand.level.each i there in
              rw (← started.ended (channel_at net i).source) (omega arith);
        }

        new-counts : (a : ℕ) → a < length net.times → started_in new a ≡ count_of (earliest net (suc t)) a
        new-counts a actor = advance-counts net reg fed now t quiet later (ended_in mid) mid-ended (started_in new) new-able (λ b is. (lacking_in new b, (started.lacks b is).0, (started.lacks b is).1, (started.lacks b is).2)) a actor

        new-ends : (a k : ℕ) → a < length net.times → k < length (running_in new a) → slice_index (running_in new a) k ≡ end_of net (earliest net (suc t)) a (ended_in new a + k)
        new-ends a k actor below =
            let one = ends.each a actor in
            let adds = started.ends a actor in
            let n : ℕ = ended_in mid a - ended_in old a in
            let ext : Extended net t (ended_by net t (earliest net t)) (earliest net t) (earliest net (suc t)) = extended-is net reg fed t in
            let many : ended_in old a + length (running_in old a) ≡ started_in old a = stands.stand.counts a actor in
            let rest : length (running_in mid a) ≡ length (running_in old a) - n = ap length one.rest ∙ length-drop n (running_in old a) in
            let was : started_in old a ≡ count_of (earliest net t) a = stands.counts a actor ∙ same.counts a in
            let mid_started : started_in mid a ≡ started_in old a = one.started in
            rw (started.ended a) (⊎_elim
            (λ (early : k < length (running_in mid a)).
            let place : n + k < length (running_in old a) = omega arith in
            let read : slice_index (running_in mid a) k ≡ slice_index (running_in old a) (n + k) = ap (λ (xs : List ℕ). slice_index xs k) one.rest ∙ get_or-drop n (running_in old a) k 0 in
            let value : slice_index (running_in old a) (n + k) ≡ end_of net (earliest net (suc now)) a (ended_in old a + (n + k)) = stands.ends a (n + k) actor place in
            let e : ended_in old a + (n + k) ≡ ended_in mid a + k = omega (arith, one.later) in
            let there : ended_in mid a + k < count_of (earliest net (suc now)) a = omega (arith, stands.counts a actor, one.later) in
            let kept : start_of (earliest net (suc t)) a (ended_in mid a + k) ≡ start_of (earliest net (suc now)) a (ended_in mid a + k) =
            ext.kept a (ended_in mid a + k) (omega (arith, same.counts a)) ∙ sym (same.starts a (ended_in mid a + k) there) in
            adds.kept k early ∙ (read ∙ ((rw e at value) ∙ ap (λ (x : ℕ). x + time_of net a (ended_in mid a + k)) (sym kept))))
            (λ (late : length (running_in mid a) ≤ k).
            let j : ℕ = k - length (running_in mid a) in
            let few : j < started_in new a - started_in mid a = omega (arith, adds.long) in
            let added : slice_index (running_in new a) (length (running_in mid a) + j) ≡ t + time_of net a (started_in mid a + j) = adds.added j few in
            let e : length (running_in mid a) + j ≡ k = omega arith in
            let f : started_in mid a + j ≡ ended_in mid a + k = omega (arith, one.later, one.within) in
            let there : ended_in mid a + k < count_of (earliest net (suc t)) a = omega (arith, new-counts a actor) in
            let start : start_of (earliest net (suc t)) a (ended_in mid a + k) ≡ t = ext.added a (ended_in mid a + k) (omega arith) there in
            (rw (e, f) at added) ∙ ap (λ (x : ℕ). x + time_of net a (ended_in mid a + k)) (sym start))
            (cases_lt k (length (running_in mid a))))

        new-clock : t ≤ 1000000000 * sum_to (ended_in new) (length net.times)
        new-clock =
            let one = ends.each ending.0 ending.1 in
            let more : ended_in old ending.0 < ended_in mid ending.0 = ⊎_elim
            (λ (h : ended_in old ending.0 < ended_in mid ending.0). h)
            (λ (none : ended_in mid ending.0 ≤ ended_in old ending.0).
            let zero_n : ended_in mid ending.0 - ended_in old ending.0 ≡ 0 = omega arith in
            let next : t < slice_index (running_in old ending.0) 0 = rw zero_n at (one.next (omega (arith, ending.2))) in
            let at : slice_index (running_in old ending.0) 0 ≡ t = ending.3 in
            absurd (omega arith))
            (cases_lt (ended_in old ending.0) (ended_in mid ending.0)) in
            let grows : sum_to (ended_in old) (length net.times) < sum_to (ended_in mid) (length net.times) = sum_to-lt (ended_in old) (ended_in mid) (length net.times) ending.0 (λ b is. (ends.each b is).later) ending.1 more in
            let kept : sum_to (ended_in new) (length net.times) ≡ sum_to (ended_in mid) (length net.times) = sum_to-same (ended_in mid) (ended_in new) (length net.times) (λ b is. started.ended b) in
            omega (arith, soon)

        pub next-stands : Stands net t most new left total_now
        next-stands = record {
          stand = stand;
          counted = counted;
          fed = stands.fed;
          counts = new-counts;
          ended = λ a actor. started.ended a ∙ advance-ended net reg fed now t quiet later (ended_in mid) mid-ended a actor;
          ends = new-ends;
          calm = started.calm;
          lacks = λ b is.
              let lack : LacksAt net (ended_in mid) b (started_in new b) (lacking_in new b) = started.lacks b is in
              (lack.0, lack.1, rw (started.ended (channel_at net (lacking_in new b)).source) lack.2);
          clock = new-clock;
          event = event;
        }

-- what the ends and starts of the next event come to
pub next-move : (net : Net) (laws : Lawful net) (now most t : ℕ) (old mid new : List ActorState) (tokens left : List ℕ) (all total_now : ℕ) (stands : Stands net now most old tokens all) → IsFirstEnd old t → EndsAll net t old mid → (fits : Bool) →
    MatchBool fits (StartedAll net t mid new) (CanOverrun net (ended_in mid) most) → OnTrue fits (Stand net new left) → OnTrue fits (Counted new total_now most) →
    MatchBool fits (Stands net t most new left total_now) (Overruns net t most)
next-move net laws now most t old mid new tokens left all total_now stands first ends true started stand counted = next-stands net laws now most old tokens all stands t first mid ends new left total_now started stand counted
next-move net laws now most t old mid new tokens left all total_now stands first ends false can stand counted = overruns net laws now most old tokens all stands t first mid ends can

-- who starts then
pub next-starters : (net : Net) (laws : Lawful net) (now most t : ℕ) (old mid new : List ActorState) (tokens left list : List ℕ) (all total_now : ℕ) (stands : Stands net now most old tokens all) → IsFirstEnd old t → EndsAll net t old mid → (fits : Bool) →
    MatchBool fits (Stands net t most new left total_now) (Overruns net t most) → OnTrue fits (HaveStarted net mid new list) → OnTrue fits (AreStarters net t list)
next-starters net laws now most t old mid new tokens left list all total_now stands first ends true after started =
    let e : t + 1 ≡ suc t = omega arith in
    starters-at net t mid new list (λ a actor. (ends.each a actor).started ∙ started-before net laws now most old tokens all stands t first a actor) (λ a actor. rw e (after.counts a actor)) started
next-starters net laws now most t old mid new tokens left list all total_now stands first ends false after started = started
