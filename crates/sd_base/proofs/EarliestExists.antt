-- Where each actor has an input, the schedule made moment by moment is the earliest one.
use Rattle.std.proofs.Common.{◌≡◌, ℕ, zero, suc, ◌+◌, ◌-◌, ◌*◌, ◌≤◌, ◌<◌, ◌⊎◌, Bool, true, false, not, ◌&&◌, ◌||◌, List, [], ◌∷◌, ◌++◌, length, map, replicate, inl, inr, ⊎_elim, subst, sym, refl, ap, ◌∙◌, arith, add-one, leb-true, leb-false, eqb-true, eq-eqb}
use Rattle.std.specs.Prelude.{slice_index, slice_index_or, nat_le, ◌==◌, if◌then◌else◌}
use Rattle.std.proofs.lemmas.Bool.{cases_lt, cases_order, cases_Bool, and_parts, and_cases, or_cases, or_parts, not-false, not-true, false≢true}
use Rattle.std.proofs.lemmas.List.{get_or_past, get_or_append_left, get_or-append_right, get_or-replicate, length-append, length-replicate, length-map}
use Rattle.sd_base.specs.Net.{Channel, Net, nowhere, channel_at, total}
use Rattle.sd_base.specs.Schedules.{Needs, Schedule, count_of, start_of, end_of, Admissible, Earliest, HasInputs}
use Rattle.sd_base.specs.SelfTimed.{ended_among, ended_by, allows, first_held_back, more_than_fed, started_at, earliest}
use Rattle.sd_base.proofs.SumsRepeatByTurns.{total-zero, total-le, total-grows}
use Rattle.sd_base.proofs.LawfulIsRegular.{OneByOne, Wired, Regular}
use Rattle.sd_base.proofs.FiringsKeepOrder.{no_actor, ends-le}
use Rattle.sd_base.proofs.NextMomentIsEarliest.{Ended, Able, Extended, earliest_step}

-- ---- how many firings have ended

-- of the first n firings the first c have ended by t
record EndedAmong (net : Net) (t : ℕ) (s : Schedule) (a n c : ℕ) : Type 0 where
  within : c ≤ n
  done : (k : ℕ) → k < c → end_of net s a k ≤ t
  going : (k : ℕ) → c ≤ k → k < n → t < end_of net s a k

ended_among-more : (net : Net) (t : ℕ) (s : Schedule) → OneByOne net → Admissible net s → (a n c : ℕ) → n < count_of s a →
    EndedAmong net t s a n c → (b : Bool) → nat_le (end_of net s a n) t ≡ b → EndedAmong net t s a (suc n) (c + (if b then 1 else 0))
ended_among-more net t s own good a n c below among true test =
    let now : end_of net s a n ≤ t = leb-true _ _ test in
    let whole : c ≡ n = ⊎_elim
    (λ (less : c < n). absurd (
    let going : t < end_of net s a c = among.going c (omega arith) less in
    let rise : end_of net s a c ≤ end_of net s a n = ends-le net s own good a c n (omega arith) below in omega arith))
    (λ (h : n ≤ c). omega (arith, among.within)) (cases_lt c n) in
    record {
      within = omega arith;
      done = λ k at. ⊎_elim (λ (same : k ≡ n). rw same now) (λ (other : (k < n) ⊎ (n < k)). ⊎_elim (λ (less : k < n). among.done k (omega arith)) (λ (more : n < k). absurd (omega arith)) other) (cases_order k n);
      going = λ k from at. absurd (omega arith);
    }
ended_among-more net t s own good a n c below among false test =
    let not_now : t < end_of net s a n = leb-false _ _ test in
    record {
      within = omega (arith, among.within);
      done = λ k at. among.done k (omega arith);
      going = λ k from at. ⊎_elim (λ (same : k ≡ n). rw same not_now) (λ (other : (k < n) ⊎ (n < k)). ⊎_elim (λ (less : k < n). among.going k (omega arith) less) (λ (more : n < k). absurd (omega arith)) other) (cases_order k n);
    }

ended_among-is : (net : Net) (t : ℕ) (s : Schedule) → OneByOne net → Admissible net s → (a n : ℕ) → n ≤ count_of s a → EndedAmong net t s a n (ended_among net t s a n)
ended_among-is net t s own good a zero below = record { within = omega arith; done = λ k at. absurd (omega arith); going = λ k from at. absurd (omega arith) }
ended_among-is net t s own good a (suc n) below =
    ended_among-more net t s own good a n (ended_among net t s a n) (omega arith) (ended_among-is net t s own good a n (omega arith)) (nat_le (end_of net s a n) t) refl

pub ended-is : (net : Net) (t : ℕ) (s : Schedule) → OneByOne net → Admissible net s → (a : ℕ) → Ended net t s a (ended_by net t s a)
unfolding ended_by
ended-is net t s own good a =
    let among = ended_among-is net t s own good a (count_of s a) (omega arith) in
    record { within = among.within; done = among.done; going = among.going }

-- ---- which firings the channels allow

pub allows-true : (cs : List Channel) (e : ℕ → ℕ) (a k : ℕ) → allows cs e a k ≡ true → (i : ℕ) → i < length cs → (slice_index_or cs i nowhere).target ≡ a →
    total (slice_index_or cs i nowhere).taken (k + 1) ≤ (slice_index_or cs i nowhere).tokens + total (slice_index_or cs i nowhere).made (e (slice_index_or cs i nowhere).source)
allows-true [] e a k holds i below into = absurd (omega arith)
allows-true (c ∷ cs) e a k holds zero below into = ⊎_elim
    (λ (away : not (c.target == a) ≡ true). absurd (false≢true (sym (not-true _ away) ∙ eq-eqb c.target a into)))
    (λ (enough : nat_le (total c.taken (k + 1)) (c.tokens + total c.made (e c.source)) ≡ true). leb-true _ _ enough)
    (or_cases _ _ (and_parts _ _ holds).0)
allows-true (c ∷ cs) e a k holds (suc i) below into = allows-true cs e a k (and_parts _ _ holds).1 i (omega arith) into

-- a channel of the list into a lacks tokens for firing k
abbrev pub LacksAmong : List Channel → (ℕ → ℕ) → ℕ → ℕ → Type 0
LacksAmong cs e a k = (i : ℕ) × (i < length cs) × ((slice_index_or cs i nowhere).target ≡ a) × Needs (slice_index_or cs i nowhere) k (e (slice_index_or cs i nowhere).source)

pub allows-false : (cs : List Channel) (e : ℕ → ℕ) (a k : ℕ) → allows cs e a k ≡ false → LacksAmong cs e a k
allows-false [] e a k fails = absurd (false≢true (sym fails))
allows-false (c ∷ cs) e a k fails = ⊎_elim
    (λ (here : (not (c.target == a) || nat_le (total c.taken (k + 1)) (c.tokens + total c.made (e c.source))) ≡ false).
    let parts = or_parts _ _ here in
    (0, omega arith, eqb-true c.target a (not-false _ parts.0), leb-false _ _ parts.1))
    (λ (later : allows cs e a k ≡ false).
    let found : LacksAmong cs e a k = allows-false cs e a k later in
    (suc found.0, omega (arith, found.1), found.2, found.3))
    (and_cases _ _ fails)

-- n is the first firing from k on that isn't allowed
record Grown (cs : List Channel) (e : ℕ → ℕ) (a k n : ℕ) : Type 0 where
  since : k ≤ n
  through : (j : ℕ) → k ≤ j → j < n → allows cs e a j ≡ true
  stops : allows cs e a n ≡ false

grown-more : (cs : List Channel) (e : ℕ → ℕ) (a fuel k m : ℕ) → k ≤ m → allows cs e a m ≡ false →
    (suc k ≤ m → Grown cs e a (suc k) (first_held_back cs e a fuel (suc k))) →
    (b : Bool) → allows cs e a k ≡ b → Grown cs e a k (if b then first_held_back cs e a fuel (suc k) else k)
grown-more cs e a fuel k m from fails next true test =
    let further : suc k ≤ m = ⊎_elim (λ (same : k ≡ m). absurd (false≢true (sym fails ∙ (ap (allows cs e a) (sym same) ∙ test)))) (λ (other : (k < m) ⊎ (m < k)). ⊎_elim (λ (h : k < m). omega arith) (λ (h : m < k). absurd (omega arith)) other) (cases_order k m) in
    let rest = next further in
    record {
      since = omega (arith, rest.since);
      through = λ j at below. ⊎_elim (λ (same : k ≡ j). rw (← same) test) (λ (other : (k < j) ⊎ (j < k)). ⊎_elim (λ (h : k < j). rest.through j (omega arith) below) (λ (h : j < k). absurd (omega arith)) other) (cases_order k j);
      stops = rest.stops;
    }
grown-more cs e a fuel k m from fails next false test = record { since = omega arith; through = λ j at below. absurd (omega arith); stops = test }

grown-is : (cs : List Channel) (e : ℕ → ℕ) (a fuel k m : ℕ) → k ≤ m → m ≤ fuel + k → allows cs e a m ≡ false → Grown cs e a k (first_held_back cs e a fuel k)
unfolding first_held_back
grown-is cs e a zero k m from near fails =
    let same : m ≡ k = omega arith in
    record { since = omega arith; through = λ j at below. absurd (omega arith); stops = rw same at fails }
grown-is cs e a (suc fuel) k m from near fails =
    grown-more cs e a fuel k m from fails (λ further. grown-is cs e a fuel (suc k) m further (omega arith) fails) (allows cs e a k) refl

fuel-le : (cs : List Channel) (e : ℕ → ℕ) (i : ℕ) → i < length cs →
    ((slice_index_or cs i nowhere).tokens + total (slice_index_or cs i nowhere).made (e (slice_index_or cs i nowhere).source) + 1) * length (slice_index_or cs i nowhere).taken ≤ more_than_fed cs e
unfolding more_than_fed
fuel-le [] e i below = absurd (omega arith)
fuel-le (c ∷ cs) e zero below = Rattle.std.proofs.Common.le-add_right _ _
fuel-le (c ∷ cs) e (suc i) below =
    let more = fuel-le cs e i (omega arith) in
    Rattle.std.proofs.Common.le_trans more (Rattle.std.proofs.Common.le-add_left _ _)

-- ---- the rows of the next moment

started_at-length : (cs : List Channel) (e : ℕ → ℕ) (t a : ℕ) (rows : List (List ℕ)) → length (started_at cs e t a rows) ≡ length rows
unfolding started_at
started_at-length cs e t a [] = refl
started_at-length cs e t a (row ∷ rows) = ap suc (started_at-length cs e t (suc a) rows)

-- the row of an actor, with its new starts
abbrev grown_row : List Channel → (ℕ → ℕ) → ℕ → ℕ → List ℕ → List ℕ
grown_row cs e t a row = row ++ replicate (first_held_back cs e a (more_than_fed cs e) (length row) - length row) t

started_at-row : (cs : List Channel) (e : ℕ → ℕ) (t a : ℕ) (rows : List (List ℕ)) (b : ℕ) → b < length rows →
    slice_index_or (started_at cs e t a rows) b [] ≡ grown_row cs e t (a + b) (slice_index_or rows b [])
unfolding started_at
started_at-row cs e t a [] b below = absurd (omega arith)
started_at-row cs e t a (row ∷ rows) zero below = let same : a + 0 ≡ a = omega arith in rw same refl
started_at-row cs e t a (row ∷ rows) (suc b) below =
    let same : a + suc b ≡ suc a + b = omega arith in
    rw same (started_at-row cs e t (suc a) rows b (omega arith))

grown_row-length : (cs : List Channel) (e : ℕ → ℕ) (t a n : ℕ) (row : List ℕ) → first_held_back cs e a (more_than_fed cs e) (length row) ≡ n → length row ≤ n →
    length (grown_row cs e t a row) ≡ n
grown_row-length cs e t a n row same since =
    let parts : length (grown_row cs e t a row) ≡ length row + length (replicate (first_held_back cs e a (more_than_fed cs e) (length row) - length row) t) = length-append row (replicate (first_held_back cs e a (more_than_fed cs e) (length row) - length row) t) in
    let many : length (replicate (first_held_back cs e a (more_than_fed cs e) (length row) - length row) t) ≡ first_held_back cs e a (more_than_fed cs e) (length row) - length row = length-replicate _ t in
    omega arith

grown_row-kept : (cs : List Channel) (e : ℕ → ℕ) (t a k : ℕ) (row : List ℕ) → k < length row → slice_index (grown_row cs e t a row) k ≡ slice_index row k
grown_row-kept cs e t a k row below = get_or_append_left row (replicate (first_held_back cs e a (more_than_fed cs e) (length row) - length row) t) 0 k below

grown_row-added : (cs : List Channel) (e : ℕ → ℕ) (t a k : ℕ) (row : List ℕ) → length row ≤ k → k < first_held_back cs e a (more_than_fed cs e) (length row) → slice_index (grown_row cs e t a row) k ≡ t
grown_row-added cs e t a k row from below =
    get_or-append_right row (replicate (first_held_back cs e a (more_than_fed cs e) (length row) - length row) t) (length row) k 0 refl from
    ∙ get_or-replicate (first_held_back cs e a (more_than_fed cs e) (length row) - length row) (k - length row) t 0 (omega arith)

-- ---- the schedule of one moment more

-- tokens suffice for the firings that stand
pub able_now : (net : Net) (t : ℕ) (e : ℕ → ℕ) (s : Schedule) → Earliest net t s → ((a : ℕ) → Ended net t s a (e a)) → Able net e (count_of s)
able_now net t e s early ended = record { enough = λ i place. each i place (count_of s (channel_at net i).target) refl }
  where
    each : (i : ℕ) → i < length net.channels → (n : ℕ) → count_of s (channel_at net i).target ≡ n →
        total (channel_at net i).taken n ≤ (channel_at net i).tokens + total (channel_at net i).made (e (channel_at net i).source)
    each i place zero same = rw total-zero (omega arith)
    each i place (suc n) same = ⊎_elim
        (λ (lack : Needs (channel_at net i) n (e (channel_at net i).source)). absurd (
        let fed = early.admissible.fed i n (e (channel_at net i).source) place (omega (arith, same)) lack in
        let there : e (channel_at net i).source < count_of s (channel_at net i).source = fed.0 in
        let in_time : end_of net s (channel_at net i).source (e (channel_at net i).source) ≤ start_of s (channel_at net i).target n = fed.1 in
        let going : t < end_of net s (channel_at net i).source (e (channel_at net i).source) = (ended (channel_at net i).source).going (e (channel_at net i).source) (omega arith) there in
        let soon : start_of s (channel_at net i).target n < t = early.before (channel_at net i).target n (omega (arith, same)) in
        omega arith))
        (λ (enough : total (channel_at net i).taken (n + 1) ≤ (channel_at net i).tokens + total (channel_at net i).made (e (channel_at net i).source)). rw (← add-one) enough)
        (cases_lt ((channel_at net i).tokens + total (channel_at net i).made (e (channel_at net i).source)) (total (channel_at net i).taken (n + 1)))

-- a channel into a stops it within the fuel
some_not : (net : Net) (e : ℕ → ℕ) (a n i : ℕ) → Wired net → i < length net.channels → (channel_at net i).target ≡ a →
    total (channel_at net i).taken n ≤ (channel_at net i).tokens + total (channel_at net i).made (e (channel_at net i).source) →
    (m : ℕ) × (n ≤ m) × (m ≤ more_than_fed net.channels e + n) × (allows net.channels e a m ≡ false)
some_not net e a n i wired place into stands =
    let have : ℕ = (channel_at net i).tokens + total (channel_at net i).made (e (channel_at net i).source) in
    let m : ℕ = (have + 1) * length (channel_at net i).taken in
    let grows : have + 1 ≤ total (channel_at net i).taken m = total-grows (channel_at net i).taken (have + 1) (wired.some_taken i place) in
    let past : n ≤ m = ⊎_elim (λ (less : m < n). absurd (let le : total (channel_at net i).taken m ≤ total (channel_at net i).taken n = total-le (channel_at net i).taken (omega arith) in omega arith)) (λ (h : n ≤ m). h) (cases_lt m n) in
    let near : m ≤ more_than_fed net.channels e = fuel-le net.channels e i place in
    (m, past, omega arith, not-here m grows (cases_Bool (allows net.channels e a m)))
  where
    not-here : (m : ℕ) → (channel_at net i).tokens + total (channel_at net i).made (e (channel_at net i).source) + 1 ≤ total (channel_at net i).taken m →
        (allows net.channels e a m ≡ true) ⊎ (allows net.channels e a m ≡ false) → allows net.channels e a m ≡ false
    not-here m grows (inr fails) = fails
    not-here m grows (inl holds) = absurd (
        let enough : total (channel_at net i).taken (m + 1) ≤ (channel_at net i).tokens + total (channel_at net i).made (e (channel_at net i).source) = allows-true net.channels e a m holds i place into in
        let le : total (channel_at net i).taken m ≤ total (channel_at net i).taken (m + 1) = total-le (channel_at net i).taken (omega arith) in
        omega arith)

module _ (net : Net) (reg : Regular net) (fed : HasInputs net) (t : ℕ) (e : ℕ → ℕ) (s : Schedule) (early : Earliest net t s) (ended : (a : ℕ) → Ended net t s a (e a)) where
  next-grown : (a : ℕ) → a < length net.times → Grown net.channels e a (count_of s a) (first_held_back net.channels e a (more_than_fed net.channels e) (count_of s a))
  next-grown a below =
      let input = fed a below in
      let i : ℕ = input.0 in
      let able : Able net e (count_of s) = able_now net t e s early ended in
      let stands : total (channel_at net input.0).taken (count_of s a) ≤ (channel_at net input.0).tokens + total (channel_at net input.0).made (e (channel_at net input.0).source) = rw input.2 at (able.enough input.0 input.1) in
      let bound = some_not net e a (count_of s a) input.0 reg.wired input.1 input.2 stands in
      grown-is net.channels e a (more_than_fed net.channels e) (count_of s a) bound.0 bound.1 bound.2 bound.3

  next-row : (a : ℕ) → a < length s → slice_index_or (started_at net.channels e t 0 s) a [] ≡ grown_row net.channels e t a (slice_index_or s a [])
  next-row a below = let same : 0 + a ≡ a = omega arith in rw same at (started_at-row net.channels e t 0 s a below)

  next-count : (a : ℕ) → a < length s → count_of (started_at net.channels e t 0 s) a ≡ first_held_back net.channels e a (more_than_fed net.channels e) (count_of s a)
  next-count a below =
      let grew = next-grown a (rw (early.admissible.actors) at below) in
      ap length (next-row a below) ∙ grown_row-length net.channels e t a (first_held_back net.channels e a (more_than_fed net.channels e) (count_of s a)) (slice_index_or s a []) refl grew.since

  -- past the last actor there are no firings
  next-past : (a : ℕ) → length s ≤ a → (count_of (started_at net.channels e t 0 s) a ≡ 0) × (count_of s a ≡ 0)
  next-past a past =
      let many : length (started_at net.channels e t 0 s) ≡ length s = started_at-length net.channels e t 0 s in
      (ap length (get_or_past (started_at net.channels e t 0 s) a [] (omega arith)), ap length (get_or_past s a [] past))

  next-longer : (a : ℕ) → count_of s a ≤ count_of (started_at net.channels e t 0 s) a
  next-longer a = ⊎_elim
      (λ (below : a < length s). let grew = next-grown a (rw (early.admissible.actors) at below) in rw (next-count a below) grew.since)
      (λ (past : length s ≤ a). let none = next-past a past in omega (arith, none.0, none.1))
      (cases_lt a (length s))

  next-kept : (a k : ℕ) → k < count_of s a → start_of (started_at net.channels e t 0 s) a k ≡ start_of s a k
  next-kept a k below = rw (next-row a (no_actor s a k below)) (grown_row-kept net.channels e t a k (slice_index_or s a []) below)

  next-added : (a k : ℕ) → count_of s a ≤ k → k < count_of (started_at net.channels e t 0 s) a → start_of (started_at net.channels e t 0 s) a k ≡ t
  next-added a k from below =
      let many : length (started_at net.channels e t 0 s) ≡ length s = started_at-length net.channels e t 0 s in
      let actor : a < length s = omega (arith, no_actor (started_at net.channels e t 0 s) a k below) in
      rw (next-row a actor) (grown_row-added net.channels e t a k (slice_index_or s a []) from (rw (next-count a actor) at below))

  next-able : (i : ℕ) → i < length net.channels → (n : ℕ) → count_of (started_at net.channels e t 0 s) (channel_at net i).target ≡ n →
      total (channel_at net i).taken n ≤ (channel_at net i).tokens + total (channel_at net i).made (e (channel_at net i).source)
  next-able i place zero same = rw total-zero (omega arith)
  next-able i place (suc n) same = ⊎_elim
      (λ (old : n < count_of s (channel_at net i).target).
      let able : Able net e (count_of s) = able_now net t e s early ended in
      let stands : total (channel_at net i).taken (count_of s (channel_at net i).target) ≤ (channel_at net i).tokens + total (channel_at net i).made (e (channel_at net i).source) = able.enough i place in
      let le : total (channel_at net i).taken (suc n) ≤ total (channel_at net i).taken (count_of s (channel_at net i).target) = total-le (channel_at net i).taken (omega arith) in
      omega arith)
      (λ (new : count_of s (channel_at net i).target ≤ n).
      let target : ℕ = (channel_at net i).target in
      let actor : target < length net.times = reg.wired.targets i place in
      let grew = next-grown target actor in
      let there : n < first_held_back net.channels e target (more_than_fed net.channels e) (count_of s target) = omega (arith, next-count target (rw (early.admissible.actors) actor), same) in
      rw (← add-one) (allows-true net.channels e target n (grew.through n new there) i place refl))
      (cases_lt n (count_of s (channel_at net i).target))

  pub next-extended : Extended net t e s (started_at net.channels e t 0 s)
  next-extended = record {
    actors = started_at-length net.channels e t 0 s;
    longer = next-longer;
    kept = next-kept;
    added = next-added;
    able = record { enough = λ i place. next-able i place (count_of (started_at net.channels e t 0 s) (channel_at net i).target) refl };
    full = λ a below.
        let grew = next-grown a below in
        let actor : a < length s = rw (early.admissible.actors) below in
        rw (next-count a actor) (allows-false net.channels e a (first_held_back net.channels e a (more_than_fed net.channels e) (count_of s a)) grew.stops);
  }

-- ---- the earliest schedules

empty-count : (rows : List (List ℕ)) (a : ℕ) → count_of (map (λ (row : List ℕ). []) rows) a ≡ 0
empty-count [] a = refl
empty-count (row ∷ rows) zero = refl
empty-count (row ∷ rows) (suc a) = empty-count rows a

earliest-none : (net : Net) → Earliest net 0 (earliest net 0)
unfolding earliest
earliest-none net = record {
  admissible = record {
    actors = length-map net.times (λ (row : List ℕ). []);
    rising = λ a k below. absurd (omega (arith, empty-count net.times a));
    fed = λ i j m place below need. absurd (omega (arith, empty-count net.times (channel_at net i).target));
  };
  before = λ a k below. absurd (omega (arith, empty-count net.times a));
  least = λ other good a k below by. absurd (omega arith);
}

-- the schedule made moment by moment is the earliest one
pub earliest-is : (net : Net) → Regular net → HasInputs net → (t : ℕ) → Earliest net t (earliest net t)
unfolding earliest
earliest-is net reg fed zero = earliest-none net
earliest-is net reg fed (suc t) =
    let early = earliest-is net reg fed t in
    let ended : (a : ℕ) → Ended net t (earliest net t) a (ended_by net t (earliest net t) a) = ended-is net t (earliest net t) reg.own early.admissible in
    let ext : Extended net t (ended_by net t (earliest net t)) (earliest net t) (started_at net.channels (ended_by net t (earliest net t)) t 0 (earliest net t)) =
    next-extended net reg fed t (ended_by net t (earliest net t)) (earliest net t) early ended in
    let step : Earliest net (t + 1) (started_at net.channels (ended_by net t (earliest net t)) t 0 (earliest net t)) =
    earliest_step net t (ended_by net t (earliest net t)) (earliest net t) (started_at net.channels (ended_by net t (earliest net t)) t 0 (earliest net t)) early ended ext reg.timed in
    rw add-one at step

-- what one moment adds
pub extended-is : (net : Net) → Regular net → HasInputs net → (t : ℕ) → Extended net t (ended_by net t (earliest net t)) (earliest net t) (earliest net (suc t))
unfolding earliest
extended-is net reg fed t =
    let early = earliest-is net reg fed t in
    next-extended net reg fed t (ended_by net t (earliest net t)) (earliest net t) early (ended-is net t (earliest net t) reg.own early.admissible)
