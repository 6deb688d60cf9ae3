-- The loop that rows of starts show.
use Rattle.std.proofs.Common.{◌≡◌, ◌≢◌, ◌↔◌, ℕ, suc, ◌+◌, ◌-◌, ◌*◌, ◌%◌, ◌^◌, ◌≤◌, ◌<◌, ◌⊎◌, Bool, List, [], length, IsTrue, inl, inr, ⊎_elim, subst, sym, ap, ◌∙◌, arith, add-one}
use Rattle.std.specs.Prelude.{slice_index, slice_index_or}
use Rattle.std.proofs.Math.Nat.{mul-le-mul_right, one-le-mul}
use Rattle.std.proofs.lemmas.Bool.{cases_lt}
use Rattle.sd_base.specs.Net.{Net}
use Rattle.sd_base.specs.Schedules.{HasInputs, Schedule, count_of, start_of, end_of, phases_at, time_of}
use Rattle.sd_base.specs.SelfTimed.{earliest, IsEvent, shape_at}
use Rattle.sd_base.specs.Lawful.{Lawful}
use Rattle.sd_base.specs.Rates.{IsLoop}
use Rattle.sd_base.specs.Connection.{IsConnected}
use Rattle.sd_base.proofs.LawfulIsRegular.{regular, balanced}
use Rattle.sd_base.proofs.FiringsKeepOrder.{is_actor, one_time}
use Rattle.sd_base.proofs.EndsDecideCounts.{early_at}
use Rattle.sd_base.proofs.EqualShapesRepeat.{count-rises}
use Rattle.sd_base.proofs.LoopsSpanRounds.{rounds, repeats-rounds, at-least_one}
use Rattle.loops.specs.StartRows.{AreStarts, Ascend, AreBy}
use Rattle.loops.specs.Settling.{IsRowSettled, Recurs}
use Rattle.need_loops.specs.inside.Showing.{AreBothAfter, Differ, IsFirstDoubled, IsFirstEnd, IsFirstEvent, SettlesFrom}
use Rattle.loops.proofs.ShapesRecur.{apart-event, apart-same, apart-least}
use Rattle.loops.proofs.SettledShapesMatch.{started-by, start-kept, settled-same}
use Rattle.loops.proofs.RowsTellStarts.{row-count, row-start, count-by, rows-settle, same-over}
use Rattle.loops.proofs.RowsSettle.{settled-later}
use Rattle.loops.proofs.RowsAgain.{rows-again}

-- all firings of an actor of one phase take one time
pub time-is : (net : Net) (a time : ℕ) → phases_at net a ≡ 1 → time ≡ slice_index (slice_index_or net.times a []) 0 → (k : ℕ) → time_of net a k ≡ time
time-is net a time single is k =
    let few : phases_at net a ≤ 1 = omega arith in
    let first : 0 % length (slice_index_or net.times a []) ≡ 0 = omega arith in
    one_time (slice_index_or net.times a []) k 0 few ∙ (ap (slice_index (slice_index_or net.times a [])) first ∙ sym is)

-- ---- one row, the firings of which all take one time

module _ (net : Net) (a time : ℕ) (row : List ℕ) (all : (k : ℕ) → time_of net a k ≡ time) (ascend : Ascend row) where
  -- the last start that is so long before a moment decides whether a firing ends there
  pub end-there : (moment count : ℕ) (is : Bool) → time ≤ moment → AreBy row (moment - time) count → 1 ≤ count → (IsTrue is ↔ (slice_index row (count - 1) + time ≡ moment)) →
      (IsTrue is ↔ ((k : ℕ) × (k < length row) × (slice_index row k + time_of net a k ≡ moment)))
  end-there moment count is long by some tells = (
    λ h. (count - 1, omega (arith, by.within), omega (arith, tells.0 h, all (count - 1))),
    λ found. tells.1 (back found.0 found.1 found.2),
  )
    where
      back : (k : ℕ) → k < length row → slice_index row k + time_of net a k ≡ moment → slice_index row (count - 1) + time ≡ moment
      back k there ends = ⊎_elim
          (λ (low : k < count). omega (arith, ascend k (count - 1) (omega arith) (omega (arith, by.within)), by.by some, all k))
          (λ (past : count ≤ k). absurd (omega (arith, by.after k past there, all k)))
          (cases_lt k count)

  -- the first firing that doesn't end before a moment is the first to end from there on
  pub end-first : (from before : ℕ) → before < length row → (1 ≤ before → slice_index row (before - 1) + time < from) → from ≤ slice_index row before + time →
      IsFirstEnd net a row from (slice_index row before + time)
  end-first from before there early late = record {
    late = late;
    first = λ k below from_k. ⊎_elim
        (λ (low : k < before). absurd (omega (arith, early (omega arith), ascend k (before - 1) (omega arith) (omega arith), all k)))
        (λ (high : before ≤ k). omega (arith, ascend before k high below, all k))
        (cases_lt k before);
    there = inr (before, there, omega (arith, all before));
  }

-- ---- rows of starts

-- a firing of one of the rows ends at a moment
pub record EndsIn (net : Net) (starts : Schedule) (moment : ℕ) : Type 0 where
  pub actor : ℕ
  pub firing : ℕ
  pub is_actor : actor < length net.times
  pub started : firing < count_of starts actor
  pub ends : start_of starts actor firing + time_of net actor firing ≡ moment

-- the first end in the rows of the first n actors from a moment on, or the greatest number
pub record IsFirstOf (net : Net) (starts : Schedule) (from n first : ℕ) : Type 0 where
  pub late : from ≤ first
  pub is : (first ≡ 2 ^ 64 - 1) ⊎ EndsIn net starts first
  pub least : (a k : ℕ) → a < n → k < count_of starts a → from ≤ start_of starts a k + time_of net a k → first ≤ start_of starts a k + time_of net a k

-- and with the row of one more actor
pub first-more : (net : Net) (starts : Schedule) (from n first end next : ℕ) → n < length net.times → IsFirstOf net starts from n first → IsFirstEnd net n (slice_index_or starts n []) from end →
    ((next ≡ first) × (first ≤ end)) ⊎ ((next ≡ end) × (end ≤ first)) → IsFirstOf net starts from (n + 1) next
first-more net starts from n first end next actor old new is = record {
  late = ⊎_elim (λ (same : (next ≡ first) × (first ≤ end)). omega (arith, old.late)) (λ (other : (next ≡ end) × (end ≤ first)). omega (arith, new.late)) is;
  is = ⊎_elim
      (λ (same : (next ≡ first) × (first ≤ end)). rw same.0 old.is)
      (λ (other : (next ≡ end) × (end ≤ first)). rw other.0 (⊎_elim
      (λ (none : end ≡ 2 ^ 64 - 1). inl none)
      (λ (found : (k : ℕ) × (k < length (slice_index_or starts n [])) × (slice_index (slice_index_or starts n []) k + time_of net n k ≡ end)).
      inr (record { actor = n; firing = found.0; is_actor = actor; started = found.1; ends = found.2 }))
      new.there))
      is;
  least = λ a k below there late. ⊎_elim
      (λ (before : a < n). ⊎_elim (λ (same : (next ≡ first) × (first ≤ end)). omega (arith, old.least a k before there late)) (λ (other : (next ≡ end) × (end ≤ first)). omega (arith, old.least a k before there late)) is)
      (λ (last : n ≤ a).
      let e : a ≡ n = omega arith in
      let mine : end ≤ start_of starts a k + time_of net a k = rw e (new.first k (rw e at there) (rw e at late)) in
      ⊎_elim (λ (same : (next ≡ first) × (first ≤ end)). omega arith) (λ (other : (next ≡ end) × (end ≤ first)). omega arith) is)
      (cases_lt a n);
}

module _ (net : Net) (laws : Lawful net) (fed : HasInputs net) (until : ℕ) (starts : Schedule) (have : AreStarts net until starts) where
  -- firings end at events
  pub ends-event : (x : ℕ) → x ≤ until → EndsIn net starts x → IsEvent net x
  ends-event x soon found =
      let long : 1 ≤ time_of net found.actor found.firing = (regular net laws).timed.some found.actor found.firing found.is_actor in
      let there : found.firing < count_of (earliest net (suc until)) found.actor = omega (arith, row-count net laws fed until starts have found.actor found.is_actor, found.started) in
      let start : start_of starts found.actor found.firing ≡ start_of (earliest net (suc until)) found.actor found.firing = row-start net laws fed until starts have found.actor found.firing found.is_actor found.started in
      let here : found.firing < count_of (earliest net (suc (x - 1))) found.actor = started-by net laws fed (x - 1) until found.actor found.firing (omega arith) there (omega (arith, found.ends)) in
      let kept : start_of (earliest net (suc until)) found.actor found.firing ≡ start_of (earliest net (suc (x - 1))) found.actor found.firing = (start-kept net laws fed (x - 1) until found.actor found.firing (omega arith) here).1 in
      let next : suc (x - 1) ≡ x = omega (arith, found.ends) in
      let ends : end_of net (earliest net (suc (x - 1))) found.actor found.firing ≡ x = omega (arith, found.ends) in
      inr (found.actor, found.firing, rw next at here, subst (λ (y : ℕ). end_of net (earliest net y) found.actor found.firing ≡ x) next ends)

  -- and at each event but 0 one ends
  pub event-ends : (x : ℕ) → x ≤ until → 1 ≤ x → IsEvent net x → EndsIn net starts x
  event-ends x soon some (inl first) = absurd (omega arith)
  event-ends x soon some (inr (a, k, there, ends)) =
      let next : x ≡ suc (x - 1) = omega arith in
      let here : k < count_of (earliest net (suc (x - 1))) a = subst (λ (y : ℕ). k < count_of (earliest net y) a) next there in
      let done : end_of net (earliest net (suc (x - 1))) a k ≡ x = subst (λ (y : ℕ). end_of net (earliest net y) a k ≡ x) next ends in
      let kept = start-kept net laws fed (x - 1) until a k (omega arith) here in
      let actor : a < length net.times = is_actor net (earliest net (suc (x - 1))) a k (early_at net (regular net laws) fed (suc (x - 1))).admissible here in
      let started : k < count_of starts a = omega (arith, row-count net laws fed until starts have a actor, kept.0) in
      record { actor = a; firing = k; is_actor = actor; started = started; ends = omega (arith, row-start net laws fed until starts have a k actor started, kept.1, done) }

  -- the first end of the rows from a moment on is the first event
  pub ends-first : (from n first : ℕ) → 1 ≤ from → n ≡ length net.times → first ≤ until → until ≤ 2 ^ 62 → IsFirstOf net starts from n first → IsFirstEvent net from until first
  ends-first from n first some all soon small is_first = record {
    late = is_first.late;
    soon = soon;
    is = ⊎_elim (λ (none : first ≡ 2 ^ 64 - 1). absurd (omega arith)) (λ found. ends-event first soon found) is_first.is;
    first = λ x from_x below event.
        let found : EndsIn net starts x = event-ends x (omega arith) (omega arith) event in
        omega (arith, is_first.least found.actor found.firing (omega (arith, found.is_actor)) found.started (omega (arith, found.ends)), found.ends);
  }

  -- all starts are up to and with the last moment
  pub starts-soon : (a k : ℕ) → a < length net.times → k < count_of starts a → start_of starts a k ≤ until
  starts-soon a k actor there =
      let here : k < count_of (earliest net (suc until)) a = omega (arith, row-count net laws fed until starts have a actor) in
      let before : start_of (earliest net (suc until)) a k < suc until = (early_at net (regular net laws) fed (suc until)).before a k here in
      omega (arith, row-start net laws fed until starts have a k actor there)

-- the first event is the first that is one a period later too if it is
pub doubled-first : (net : Net) (from period until later event : ℕ) → IsFirstEvent net from later event → event ≤ until → IsEvent net (event + period) → IsFirstDoubled net from period until event
doubled-first net from period until later event is soon again = record {
  late = is.late;
  soon = soon;
  is = is.is;
  again = again;
  first = λ x from_x below one other. is.first x from_x below one;
}

-- and the next one is where the first one isn't
pub doubled-next : (net : Net) (from period until later event : ℕ) → (IsEvent net (from + period) → ⊥) → IsFirstEvent net (from + 1) later event → event ≤ until → IsEvent net (event + period) →
    IsFirstDoubled net from period until event
doubled-next net from period until later event none is soon again = record {
  late = omega (arith, is.late);
  soon = soon;
  is = is.is;
  again = again;
  first = λ x from_x below one other. ⊎_elim
      (λ (after : from < x). is.first x (omega arith) below one)
      (λ (here : x ≤ from). let e : x ≡ from = omega arith in none (rw e at other))
      (cases_lt from x);
}

-- ---- from two moments with some rounds of starts between them to the loop

module _ (net : Net) (laws : Lawful net) (fed : HasInputs net) (connected : IsConnected net) (r t rounds_between : ℕ) (later : r < t) (some_rounds : 1 ≤ rounds_between) (starts : Schedule) (have : AreStarts net t starts) where
  -- between events of equal shapes there is some number of rounds
  module _ (x y : ℕ) (less : x < y) (same : shape_at net x ≡ shape_at net y) where
    abbrev turns : ℕ
    turns = rounds net laws fed x y less same connected

    turns-on : (d a : ℕ) → count_of (earliest net (y + d + 1)) a ≡ count_of (earliest net (x + d + 1)) a + turns * slice_index net.round a
    turns-on = (repeats-rounds net laws fed x y less same connected).counts

    turns-here : (a : ℕ) → count_of (earliest net (y + 1)) a ≡ count_of (earliest net (x + 1)) a + turns * slice_index net.round a
    turns-here a =
        let here : x + 0 + 1 ≡ x + 1 = omega arith in
        let there : y + 0 + 1 ≡ y + 1 = omega arith in
        rw here at (rw there at (turns-on 0 a))

    turns-some : IsEvent net y → 1 ≤ turns
    turns-some = at-least_one net laws fed x y less same connected

  -- from one moment on all is settled, and another one is the first event from there on that is one a period later too
  module _ (from e : ℕ) (settles : SettlesFrom net starts rounds_between r t from) (doubled : IsFirstDoubled net from (t - r) r e)
      (differ : (k : ℕ) → 1 ≤ k → k < rounds_between → Differ net starts e k) where
    row-recurs : (a : ℕ) → a < length net.times → Recurs net a (slice_index_or starts a []) r (t - r) (rounds_between * slice_index net.round a)
    row-recurs a actor = record {
      before = count_of starts a - rounds_between * slice_index net.round a;
      by = settles.counts a actor;
      number = omega (arith, settles.long a actor);
      settled = settled-later net a (slice_index_or starts a []) (rounds_between * slice_index net.round a) (t - r) from r settles.before (settles.settled a actor);
    }

    -- so the shape at the earlier moment comes again at the later one
    same-ends : shape_at net r ≡ shape_at net t
    same-ends = sym (rows-again net laws fed r t rounds_between later starts have row-recurs)

    -- these rounds of each actor lie between them
    round-between : (a : ℕ) → a < length net.times → rounds_between * slice_index net.round a ≡ count_of starts a - count_of (earliest net (r + 1)) a
    round-between a actor =
        let early : count_of starts a - rounds_between * slice_index net.round a ≡ count_of (earliest net (r + 1)) a =
        count-by net laws fed t starts have r a (count_of starts a - rounds_between * slice_index net.round a) (omega arith) actor (settles.counts a actor) in
        omega (arith, settles.long a actor)

    -- and that at the event a period later
    same-entry : shape_at net e ≡ shape_at net (e + (t - r))
    same-entry = settled-same net laws fed r t later same-ends e doubled.soon (rows-settle net laws fed r t later same-ends starts have e settled)
      where
        settled : (a m : ℕ) → a < length net.times → m ≡ count_of starts a - count_of (earliest net (r + 1)) a → IsRowSettled net a (slice_index_or starts a []) m (t - r) e
        settled a m actor is =
            let number : m ≡ rounds_between * slice_index net.round a = is ∙ sym (round-between a actor) in
            rw number (settled-later net a (slice_index_or starts a []) (rounds_between * slice_index net.round a) (t - r) from e doubled.late (settles.settled a actor))

    ahead : e < e + (t - r)
    ahead = omega arith

    -- where the shape of the entry comes again, each firing after it starts as long after the one so many rounds before it
    module _ (x : ℕ) (less : e < x) (same : shape_at net e ≡ shape_at net x) (a j : ℕ) (both : AreBothAfter net starts e (turns e x less same) a j) where
      abbrev v : ℕ
      v = turns e x less same * slice_index net.round a

      abbrev count : ℕ → ℕ
      count y = count_of (earliest net (y + 1)) a

      abbrev start : ℕ → ℕ
      start k = start_of (earliest net (suc t)) a k

      by-start : (k : ℕ) → k < count t → k < count (start k)
      by-start k there =
          let soon : start k ≤ t = omega (arith, (early_at net (regular net laws) fed (suc t)).before a k (rw (add-one t) at there)) in
          rw (add-one (start k)) (started-by net laws fed (start k) t a k soon (rw (add-one t) at there) (omega arith))

      start-by : (y k : ℕ) → y ≤ t → k < count y → start k ≤ y
      start-by y k le there =
          let here : k < count_of (earliest net (suc y)) a = rw (add-one y) at there in
          let soon : start_of (earliest net (suc y)) a k < suc y = (early_at net (regular net laws) fed (suc y)).before a k here in
          omega (arith, (start-kept net laws fed y t a k le here).1)

      number : count_of starts a ≡ count t
      number = have.all a both.is_actor

      read : (k : ℕ) → k < count_of starts a → start_of starts a k ≡ start k
      read k there = row-start net laws fed t starts have a k both.is_actor there

      there-last : j < count t
      there-last = omega (arith, number, both.within)

      there-first : j - v < count t
      there-first = omega (arith, there-last)

      late : e < start (j - v)
      late = omega (arith, both.late, read (j - v) (omega (arith, both.within)))

      soon-last : start j ≤ t
      soon-last = start-by t j (omega arith) there-last

      soon-first : start (j - v) ≤ t
      soon-first = start-by t (j - v) (omega arith) there-first

      at-least : start (j - v) + (x - e) ≤ start j
      at-least = ⊎_elim
          (λ (early : start j < start (j - v) + (x - e)). absurd (
          let one : x + (start (j - v) - 1 - e) ≡ start (j - v) - 1 + (x - e) = omega (arith, late) in
          let other : e + (start (j - v) - 1 - e) ≡ start (j - v) - 1 = omega (arith, late) in
          let more : count (start (j - v) - 1 + (x - e)) ≡ count (start (j - v) - 1) + v = rw one at (rw other at (turns-on e x less same (start (j - v) - 1 - e) a)) in
          let rises : count (start j) ≤ count (start (j - v) - 1 + (x - e)) = count-rises net (regular net laws) fed (start j + 1) (start (j - v) - 1 + (x - e) + 1) (omega (arith, late)) a in
          let before : j - v < count (start (j - v) - 1) = omega (arith, by-start j there-last, rises, more, both.back) in
          omega (arith, start-by (start (j - v) - 1) (j - v) (omega (arith, soon-first)) before, late)))
          (λ (h : start (j - v) + (x - e) ≤ start j). h)
          (cases_lt (start j) (start (j - v) + (x - e)))

      at-most : start j ≤ start (j - v) + (x - e)
      at-most =
          let one : x + (start (j - v) - e) ≡ start (j - v) + (x - e) = omega (arith, late) in
          let other : e + (start (j - v) - e) ≡ start (j - v) = omega (arith, late) in
          let more : count (start (j - v) + (x - e)) ≡ count (start (j - v)) + v = rw one at (rw other at (turns-on e x less same (start (j - v) - e) a)) in
          start-by (start (j - v) + (x - e)) j (omega (arith, at-least, soon-last)) (omega (arith, by-start (j - v) there-first, more, both.back))

      apart-is : start_of starts a (j - v) + (x - e) ≡ start_of starts a j
      apart-is = omega (arith, read j both.within, read (j - v) (omega (arith, both.within)), at-least, at-most)

    some-fire : (a : ℕ) → a < length net.times → 1 ≤ slice_index net.round a
    some-fire a actor = (balanced net laws).fires a actor

    -- the shape of the first event that is one a period later too doesn't come again sooner
    none-sooner : (x : ℕ) → IsEvent net x → e < x → x < e + (t - r) → shape_at net x ≢ shape_at net e
    none-sooner x event after before equal =
        let found : Differ net starts e (turns e x after (sym equal)) = differ (turns e x after (sym equal)) (turns-some e x after (sym equal) event) fewer in
        let one = apart-is x after (sym equal) found.one.actor found.one.firing found.one.both in
        let two = apart-is x after (sym equal) found.other found.later found.both in
        let same : found.apart ≡ x - e = omega (arith, one, found.one.is) in
        found.unlike (rw same two)
      where
        actor : 0 < length net.times
        actor = omega (arith, laws.some_actor)

        whole : turns e (e + (t - r)) ahead same-entry * slice_index net.round 0 ≡ rounds_between * slice_index net.round 0
        whole =
            let one : e + (r - e) + 1 ≡ r + 1 = omega (arith, doubled.soon) in
            let other : e + (t - r) + (r - e) + 1 ≡ t + 1 = omega (arith, doubled.soon) in
            let counts : count_of (earliest net (t + 1)) 0 ≡ count_of (earliest net (r + 1)) 0 + turns e (e + (t - r)) ahead same-entry * slice_index net.round 0 =
            rw one at (rw other at (turns-on e (e + (t - r)) ahead same-entry (r - e) 0)) in
            omega (arith, counts, have.all 0 actor, round-between 0 actor, settles.long 0 actor)

        parts : turns e x after (sym equal) * slice_index net.round 0 + turns x (e + (t - r)) before (equal ∙ same-entry) * slice_index net.round 0 ≡ rounds_between * slice_index net.round 0
        parts = omega (arith, whole, turns-here e x after (sym equal) 0, turns-here x (e + (t - r)) before (equal ∙ same-entry) 0, turns-here e (e + (t - r)) ahead same-entry 0)

        some-after : 1 ≤ turns x (e + (t - r)) before (equal ∙ same-entry) * slice_index net.round 0
        some-after = one-le-mul (turns-some x (e + (t - r)) before (equal ∙ same-entry) doubled.again) (some-fire 0 actor)

        fewer : turns e x after (sym equal) < rounds_between
        fewer = ⊎_elim
            (λ (h : turns e x after (sym equal) < rounds_between). h)
            (λ (many : rounds_between ≤ turns e x after (sym equal)). absurd (omega (arith, mul-le-mul_right (slice_index net.round 0) many, parts, some-after)))
            (cases_lt (turns e x after (sym equal)) rounds_between)

    -- no shape comes again before: it would stand at an earlier event that is one a period later too
    pub row-loops : IsLoop net e (t - r)
    row-loops = record {
      enters = doubled.is;
      repeats = doubled.again;
      passes = omega arith;
      same = same-entry;
      first = λ x y one other less before equal.
          let some : 1 ≤ t - r = omega arith in
          let twin : IsEvent net (x + (t - r)) = apart-event net laws fed e (t - r) some doubled.is doubled.again same-entry none-sooner x y less one other equal in
          let like : shape_at net x ≡ shape_at net (x + (t - r)) = apart-same net laws fed e (t - r) some doubled.is doubled.again same-entry none-sooner x y less one other equal in
          let apart : x + (t - r) ≤ y = apart-least net laws fed e (t - r) some doubled.is doubled.again same-entry none-sooner x y less one other equal in
          let early : x < e = omega arith in
          let late : from ≤ x = settles.first x (λ a j actor there unlike.
          same-over net laws fed r t later same-ends starts have x a (rounds_between * slice_index net.round a) j (omega (arith, doubled.soon)) like actor (round-between a actor) there unlike) in
          doubled.first x late early one twin;
    }
