-- Rows of starts that needs decide are those of self-timed execution.
use Rattle.std.proofs.Common.{◌≡◌, ◌≢◌, ℕ, zero, suc, ◌+◌, ◌-◌, ◌≤◌, ◌<◌, ◌⊎◌, List, [], ◌∷◌, ◌++◌, length, inl, inr, ⊎_elim, subst, sym, refl, ap, ◌∙◌, arith, length-append, get_or-set_other, get_or-set_same}
use Rattle.std.proofs.Math.ListN.{set, length-set, get_or-append}
use Rattle.std.proofs.Math.Seq.{get_or-append_seam}
use Rattle.std.specs.Prelude.{slice_index, slice_index_or, slice_get, Some}
use Rattle.std.proofs.lemmas.Bool.{cases_lt, cases_eq}
use Rattle.std.proofs.lemmas.Option.{slice_get_within, slice_get-get_or, get_or_from_slice_get}
use Rattle.std.proofs.lemmas.List.{get_or_default}
use Rattle.sd_base.specs.declared.limits.TheConstants.{TIME}
use Rattle.sd_base.specs.Net.{Net, channel_at, phase_entry, total}
use Rattle.sd_base.specs.Schedules.{Schedule, Admissible, Earliest, LastNeed, HasInputs, count_of, start_of, end_of, time_of}
use Rattle.sd_base.specs.SelfTimed.{earliest}
use Rattle.sd_base.specs.Lawful.{Lawful}
use Rattle.sd_base.proofs.LawfulIsRegular.{Regular, regular, all_one-total}
use Rattle.sd_base.proofs.SumsRepeatByTurns.{total-le, one-last-need}
use Rattle.sd_base.proofs.LastNeedsSuffice.{from-last}
use Rattle.sd_base.proofs.FiringsKeepOrder.{is_actor, starts-le, one_time}
use Rattle.sd_base.proofs.EndsDecideCounts.{early_at}
use Rattle.loops.specs.StartRows.{AreStarts}
use Rattle.need_loops.specs.inside.Needing.{AreDue, AreNext, EndsNeed, Feeds, HasFeed, IsDue, IsFeedInto, IsFeedOf, IsNextOf, IsStuck, Paces, StartsNext}
use Rattle.need_loops.specs.declared.feeds.Feed.{Feed}
use Rattle.need_loops.specs.declared.feeds.NextFiring.{NextFiring}

-- no start of an actor up to a moment is left
abbrev pub IsDone : Net → Schedule → ℕ → ℕ → Type 0
IsDone net rows until a = IsStuck net rows a ⊎ ((s : ℕ) × StartsNext net rows a s × (until < s))

-- ---- rows without another start are those of self-timed execution

module _ (net : Net) (laws : Lawful net) (inputs : HasInputs net) (until : ℕ) (rows : Schedule) (due : AreDue net until rows) where
  abbrev all : Schedule
  all = earliest net (until + 1)

  reg : Regular net
  reg = regular net laws

  early : Earliest net (until + 1) (earliest net (until + 1))
  early = early_at net (regular net laws) inputs (until + 1)

  pub admissible : Admissible net rows
  admissible = from-last net (regular net laws).own (regular net laws).wired rows due.admissible

  pub no-later : (a k : ℕ) → k < count_of rows a → (k < count_of all a) × (start_of all a k ≤ start_of rows a k)
  no-later a k there = early.least rows admissible a k there (omega (arith, due.by a k there))

  -- what a firing of self-timed execution needs has ended by its start
  fed-early : (i k m a : ℕ) → i < length net.channels → (channel_at net i).target ≡ a → LastNeed (channel_at net i) k m → k < count_of all a →
      (m < count_of all (channel_at net i).source) × (end_of net all (channel_at net i).source m ≤ start_of all a k) × (1 ≤ time_of net (channel_at net i).source m)
  fed-early i k m a place into last there =
      let fed = early.admissible.fed i k m place (rw into there) last.needed in
      (fed.0, subst (λ (b : ℕ). end_of net all (channel_at net i).source m ≤ start_of all b k) into fed.1, reg.timed.some (channel_at net i).source m (laws.sources i place))

  abbrev NoSooner : ℕ → Type 0
  NoSooner most = (a k : ℕ) → k < count_of rows a → start_of rows a k < most → start_of rows a k ≤ start_of all a k

  no-sooner-need : (fuel a k : ℕ) → NoSooner fuel → k < count_of rows a → start_of rows a k < suc fuel → EndsNeed net rows a k (start_of rows a k) → start_of rows a k ≤ start_of all a k
  no-sooner-need fuel a k before there small need =
      let fed = fed-early need.channel k need.firing a need.place need.into need.last (no-later a k there).0 in
      let ends : end_of net all (channel_at net need.channel).source need.firing ≤ start_of all a k = fed.1 in
      let time : 1 ≤ time_of net (channel_at net need.channel).source need.firing = fed.2 in
      let just : end_of net rows (channel_at net need.channel).source need.firing ≡ start_of rows a k = need.ends in
      let low : start_of rows (channel_at net need.channel).source need.firing ≤ start_of all (channel_at net need.channel).source need.firing =
      before (channel_at net need.channel).source need.firing need.there (omega arith) in
      omega arith

  no-sooner-row : (fuel a k : ℕ) → NoSooner fuel → k < count_of rows a → start_of rows a k < suc fuel → start_of rows a k ≤ start_of all a k
  no-sooner-row fuel a zero before there small = by (due.due a zero there)
    where
      by : IsDue net rows a zero (start_of rows a zero) → start_of rows a zero ≤ start_of all a zero
      by (inl none) = omega arith
      by (inr (inl row)) = absurd (omega (arith, row.0))
      by (inr (inr need)) = no-sooner-need fuel a zero before there small need
  no-sooner-row fuel a (suc k) before there small = by (no-sooner-row fuel a k before (omega arith)) (due.due a (suc k) there)
    where
      by : (start_of rows a k < suc fuel → start_of rows a k ≤ start_of all a k) → IsDue net rows a (suc k) (start_of rows a (suc k)) → start_of rows a (suc k) ≤ start_of all a (suc k)
      by next (inl none) = omega arith
      by next (inr (inl row)) =
          let e : suc k - 1 ≡ k = omega arith in
          let same : start_of rows a (suc k) ≡ start_of rows a k = rw e at row.1 in
          let up : start_of all a k ≤ start_of all a (suc k) = starts-le net all early.admissible a k (suc k) (omega arith) (no-later a (suc k) there).0 in
          omega (arith, next (omega arith))
      by next (inr (inr need)) = no-sooner-need fuel a (suc k) before there small need

  no-sooner : (fuel : ℕ) → NoSooner fuel
  no-sooner zero a k there small = absurd (omega arith)
  no-sooner (suc fuel) a k there small = no-sooner-row fuel a k (no-sooner fuel) there small

  pub same-start : (a k : ℕ) → k < count_of rows a → start_of rows a k ≡ start_of all a k
  same-start a k there = omega (arith, (no-later a k there).1, no-sooner (suc (start_of rows a k)) a k there (omega arith))

  module _ (done : (a : ℕ) → a < length net.times → IsDone net rows until a) where
    abbrev AreThere : ℕ → Type 0
    AreThere most = (a k : ℕ) → k < count_of all a → start_of all a k < most → k < count_of rows a

    none-left : (fuel a : ℕ) → AreThere fuel → count_of rows a < count_of all a → start_of all a (count_of rows a) < suc fuel → IsDone net rows until a → ⊥
    none-left fuel a before there small (inl stuck) =
        let fed = fed-early stuck.channel (count_of rows a) stuck.firing a stuck.place stuck.into stuck.last there in
        let ends : end_of net all (channel_at net stuck.channel).source stuck.firing ≤ start_of all a (count_of rows a) = fed.1 in
        let time : 1 ≤ time_of net (channel_at net stuck.channel).source stuck.firing = fed.2 in
        let mine : stuck.firing < count_of rows (channel_at net stuck.channel).source =
        before (channel_at net stuck.channel).source stuck.firing fed.0 (omega arith) in
        omega (arith, stuck.missing)
    none-left fuel a before there small (inr (s, next, late)) = by next.due
      where
        by : IsDue net rows a (count_of rows a) s → ⊥
        by (inl none) = omega arith
        by (inr (inl row)) = omega (arith, row.1, due.by a (count_of rows a - 1) (omega (arith, row.0)))
        by (inr (inr need)) =
            let fed = fed-early need.channel (count_of rows a) need.firing a need.place need.into need.last there in
            let ends : end_of net all (channel_at net need.channel).source need.firing ≤ start_of all a (count_of rows a) = fed.1 in
            let just : end_of net rows (channel_at net need.channel).source need.firing ≡ s = need.ends in
            let soon : start_of all a (count_of rows a) < until + 1 = early.before a (count_of rows a) there in
            omega (arith, same-start (channel_at net need.channel).source need.firing need.there)

    are-there : (fuel : ℕ) → AreThere fuel
    are-there zero a k there small = absurd (omega arith)
    are-there (suc fuel) a k there small = ⊎_elim
        (λ (h : k < count_of rows a). h)
        (λ (past : count_of rows a ≤ k).
        let low : start_of all a (count_of rows a) ≤ start_of all a k = starts-le net all early.admissible a (count_of rows a) k past there in
        absurd (none-left fuel a (are-there fuel) (omega arith) (omega arith) (done a (is_actor net all a k early.admissible there))))
        (cases_lt k (count_of rows a))

    pub whole : AreStarts net until rows
    whole = record {
      rows = due.admissible.actors;
      all = λ a actor. omega (arith, fewer a, more a);
      moments = λ a k actor there. same-start a k there;
    }
      where
        fewer : (a : ℕ) → count_of rows a ≤ count_of all a
        fewer a = ⊎_elim
            (λ (less : count_of all a < count_of rows a). absurd (let there : count_of all a < count_of all a = (no-later a (count_of all a) less).0 in omega arith))
            (λ (h : count_of rows a ≤ count_of all a). h) (cases_lt (count_of all a) (count_of rows a))

        more : (a : ℕ) → count_of all a ≤ count_of rows a
        more a = ⊎_elim
            (λ (less : count_of rows a < count_of all a). absurd (
            let there : count_of rows a < count_of rows a = are-there (suc (start_of all a (count_of rows a))) a (count_of rows a) less (omega arith) in omega arith))
            (λ (h : count_of all a ≤ count_of rows a). h) (cases_lt (count_of rows a) (count_of all a))

-- ---- one more start

-- a row has one more start, and the other rows are as they were
pub record Appends (old new : Schedule) (a s : ℕ) : Type 0 where
  pub rows : length new ≡ length old
  pub here : slice_index_or new a [] ≡ slice_index_or old a [] ++ s ∷ []
  pub others : (b : ℕ) → b ≢ a → slice_index_or new b [] ≡ slice_index_or old b []

module _ (old new : Schedule) (a s : ℕ) (more : Appends old new a s) where
  pub append-count : count_of new a ≡ count_of old a + 1
  append-count = ap length more.here ∙ length-append (slice_index_or old a []) (s ∷ [])

  append-last : start_of new a (count_of old a) ≡ s
  append-last = ap (λ (row : List ℕ). slice_index row (count_of old a)) more.here ∙ get_or-append_seam (slice_index_or old a []) s [] 0

  append-kept : (b k : ℕ) → k < count_of old b → (k < count_of new b) × (start_of new b k ≡ start_of old b k)
  append-kept b k there = each (cases_eq b a)
    where
      mine : k < count_of old a → (k < count_of new a) × (start_of new a k ≡ start_of old a k)
      mine below = (
        omega (arith, append-count),
        ap (λ (row : List ℕ). slice_index row k) more.here ∙ get_or-append (slice_index_or old a []) (s ∷ []) 0 k below,
      )

      each : (b ≡ a) ⊎ (b ≡ a → ⊥) → (k < count_of new b) × (start_of new b k ≡ start_of old b k)
      each (inl same) = rw same (mine (rw same at there))
      each (inr other) = (
        omega (arith, ap length (more.others b other)),
        ap (λ (row : List ℕ). slice_index row k) (more.others b other),
      )

  append-split : (b k : ℕ) → k < count_of new b → (k < count_of old b) ⊎ ((b ≡ a) × (k ≡ count_of old a))
  append-split b k there = each (cases_eq b a)
    where
      each : (b ≡ a) ⊎ (b ≡ a → ⊥) → (k < count_of old b) ⊎ ((b ≡ a) × (k ≡ count_of old a))
      each (inl same) = ⊎_elim
          (λ (h : k < count_of old b). inl h)
          (λ (h : count_of old b ≤ k).
          let low : count_of old a ≤ k = rw same at h in
          let high : k < count_of new a = rw same at there in
          inr (same, omega (arith, append-count)))
          (cases_lt k (count_of old b))
      each (inr other) = inl (omega (arith, ap length (more.others b other)))

  append-due : (net : Net) (b k moment : ℕ) → k ≤ count_of old b → IsDue net old b k moment → IsDue net new b k moment
  append-due net b k moment within (inl none) = inl none
  append-due net b k moment within (inr (inl row)) =
      inr (inl (row.0, row.1 ∙ sym (append-kept b (k - 1) (omega (arith, row.0))).1))
  append-due net b k moment within (inr (inr need)) = inr (inr (record {
    channel = need.channel;
    firing = need.firing;
    place = need.place;
    into = need.into;
    last = need.last;
    there = (append-kept (channel_at net need.channel).source need.firing need.there).0;
    ends =
        let just : end_of net old (channel_at net need.channel).source need.firing ≡ moment = need.ends in
        omega (arith, (append-kept (channel_at net need.channel).source need.firing need.there).1);
  }))

  -- with the next start of an actor added the rows are due still
  pub append-next : (net : Net) (until : ℕ) → AreDue net until old → StartsNext net old a s → s ≤ until → AreDue net until new
  append-next net until due next soon = record {
    admissible = record { actors = more.rows ∙ due.admissible.actors; rising = rising; fed = fed };
    due = λ b k there. is-due b k (append-split b k there);
    by = λ b k there. by b k (append-split b k there);
  }
    where
      rising : (b k : ℕ) → k + 1 < count_of new b → start_of new b k ≤ start_of new b (k + 1)
      rising b k there = each (append-split b (k + 1) there)
        where
          here : k + 1 ≡ count_of old a → start_of new a k ≤ start_of new a (k + 1)
          here last =
              let before : count_of old a - 1 ≡ k = omega arith in
              let up : start_of old a k ≤ s = rw before at (next.rising (omega arith)) in
              let mine : start_of new a (k + 1) ≡ s = ap (start_of new a) last ∙ append-last in
              omega (arith, (append-kept a k (omega arith)).1)

          each : (k + 1 < count_of old b) ⊎ ((b ≡ a) × (k + 1 ≡ count_of old a)) → start_of new b k ≤ start_of new b (k + 1)
          each (inl old_one) = omega (arith, due.admissible.rising b k old_one, (append-kept b k (omega arith)).1, (append-kept b (k + 1) old_one).1)
          each (inr new_one) = rw new_one.0 (here new_one.1)

      fed : (i j m : ℕ) → i < length net.channels → j < count_of new (channel_at net i).target → LastNeed (channel_at net i) j m →
          (m < count_of new (channel_at net i).source) × (end_of net new (channel_at net i).source m ≤ start_of new (channel_at net i).target j)
      fed i j m place there last = each (append-split (channel_at net i).target j there)
        where
          each : (j < count_of old (channel_at net i).target) ⊎ (((channel_at net i).target ≡ a) × (j ≡ count_of old a)) →
              (m < count_of new (channel_at net i).source) × (end_of net new (channel_at net i).source m ≤ start_of new (channel_at net i).target j)
          each (inl old_one) =
              let was = due.admissible.fed i j m place old_one last in
              let ended : end_of net old (channel_at net i).source m ≤ start_of old (channel_at net i).target j = was.1 in
              let kept = append-kept (channel_at net i).source m was.0 in
              (kept.0, omega (arith, kept.1, (append-kept (channel_at net i).target j old_one).1))
          each (inr new_one) =
              let mine : LastNeed (channel_at net i) (count_of old a) m = subst (λ (k : ℕ). LastNeed (channel_at net i) k m) new_one.1 last in
              let was = next.fed i m place new_one.0 mine in
              let ended : end_of net old (channel_at net i).source m ≤ s = was.1 in
              let kept = append-kept (channel_at net i).source m was.0 in
              let start : start_of new (channel_at net i).target j ≡ s = ap (λ (b : ℕ). start_of new b j) new_one.0 ∙ (ap (start_of new a) new_one.1 ∙ append-last) in
              (kept.0, omega (arith, kept.1))

      is-due : (b k : ℕ) → (k < count_of old b) ⊎ ((b ≡ a) × (k ≡ count_of old a)) → IsDue net new b k (start_of new b k)
      is-due b k (inl old_one) = rw ((append-kept b k old_one).1) (append-due net b k (start_of old b k) (omega arith) (due.due b k old_one))
      is-due b k (inr new_one) = rw new_one.0 (rw new_one.1 (rw append-last (append-due net a (count_of old a) s (omega arith) next.due)))

      by : (b k : ℕ) → (k < count_of old b) ⊎ ((b ≡ a) × (k ≡ count_of old a)) → start_of new b k ≤ until
      by b k (inl old_one) = omega (arith, due.by b k old_one, (append-kept b k old_one).1)
      by b k (inr new_one) = rw new_one.0 (rw new_one.1 (rw append-last soon))

-- ---- the next start of an actor

-- a feed's firings are in the rows, and the last of them has ended by a moment
abbrev pub IsFedBy : Schedule → ℕ → Feed → Type 0
IsFedBy rows moment f = 1 ≤ f.firings → (f.firings ≤ count_of rows f.source) × (start_of rows f.source (f.firings - 1) + f.time ≤ moment)

-- by a moment the pause of an actor is over and its first n feeds are there, and its next firing is due then
pub record AreFedBy (net : Net) (rows : Schedule) (a : ℕ) (next : NextFiring) (n moment : ℕ) : Type 0 where
  pub due : IsDue net rows a (count_of rows a) moment
  pub over : 1 ≤ count_of rows a → start_of rows a (count_of rows a - 1) + next.pause ≤ moment
  pub fed : (j : ℕ) (f : Feed) → j < n → slice_get next.feeds.items j ≡ Some f → IsFedBy rows moment f

one_entry : (x k : ℕ) → phase_entry (x ∷ []) k ≡ x
one_entry x k = one_time (x ∷ []) k 0 (omega arith)

-- a channel that paces makes each firing need the one before it
pace-last : (net : Net) (a i pause k : ℕ) → Paces net a i pause → LastNeed (channel_at net i) (k + 1) k
pace-last net a i pause k paces = record {
  needed = rw (paces.tokens, paces.made, paces.taken) (omega (arith, ones k, ones (k + 1 + 1)));
  enough = rw (paces.tokens, paces.made, paces.taken) (omega (arith, ones (k + 1), ones (k + 1 + 1)));
}
  where
    ones : (n : ℕ) → total (1 ∷ []) n ≡ n
    ones n = all_one-total (1 ∷ []) n refl (omega arith)

-- it needs none but that one
paced-need : (net : Net) (a i pause k m : ℕ) → Paces net a i pause → LastNeed (channel_at net i) k m → 1 + m < k + 1
paced-need net a i pause k m paces last =
    let needed : (channel_at net i).tokens + total (channel_at net i).made m < total (channel_at net i).taken (k + 1) = last.needed in
    let mine : 1 + total (1 ∷ []) m < total (1 ∷ []) (k + 1) = rw (paces.tokens, paces.made, paces.taken) at needed in
    omega (arith, all_one-total (1 ∷ []) m refl (omega arith), all_one-total (1 ∷ []) (k + 1) refl (omega arith))

-- the last need on a channel, by its feed
feed-last : (net : Net) (i k : ℕ) (f : Feed) → Feeds net i (k + 1) f → 1 ≤ f.firings → LastNeed (channel_at net i) k (f.firings - 1)
feed-last net i k f feeds some =
    let e : f.firings - 1 + 1 ≡ f.firings = omega arith in
    record { needed = feeds.least (f.firings - 1) (omega arith); enough = rw e (omega (arith, feeds.left)) }

-- without firings nothing is needed
feed-none : (net : Net) (i k m : ℕ) (f : Feed) → Feeds net i (k + 1) f → f.firings ≡ 0 → LastNeed (channel_at net i) k m → ⊥
feed-none net i k m f feeds none last =
    let left : f.left + total (channel_at net i).taken (k + 1) ≡ (channel_at net i).tokens + total (channel_at net i).made 0 = rw none at feeds.left in
    let low : total (channel_at net i).made 0 ≤ total (channel_at net i).made m = total-le (channel_at net i).made (omega arith) in
    omega (arith, last.needed)

feed-time : (net : Net) (i m : ℕ) (f : Feed) → IsFeedOf net i f → time_of net (channel_at net i).source m ≡ f.time
feed-time net i m f of = rw of.time (one_entry f.time m)

one-short : {net : Net} → Lawful net → (a t : ℕ) → a < length net.times → slice_index_or net.times a [] ≡ t ∷ [] → t ≤ TIME
one-short {net} laws a t actor one = rw one at (laws.short_times a 0 actor (rw one (omega arith)))

module _ (net : Net) (rows : Schedule) (a : ℕ) (next : NextFiring) (is : IsNextOf net a (count_of rows a) next) where
  -- the first firing can start at once, but for its feeds
  pub fed-first : count_of rows a ≡ 0 → AreFedBy net rows a next 0 0
  fed-first none = record { due = inl refl; over = λ some. absurd (omega arith); fed = λ j f below. absurd (omega arith) }

  -- another one when the pause after the one before it is over
  pub fed-pause : 1 ≤ count_of rows a → AreFedBy net rows a next 0 (start_of rows a (count_of rows a - 1) + next.pause)
  fed-pause some = record { due = by is.pause; over = λ h. omega arith; fed = λ j f below. absurd (omega arith) }
    where
      e : count_of rows a - 1 + 1 ≡ count_of rows a
      e = omega arith

      by : (next.pause ≡ 0) ⊎ ((i : ℕ) × Paces net a i next.pause) → IsDue net rows a (count_of rows a) (start_of rows a (count_of rows a - 1) + next.pause)
      by (inl none) = inr (inl (some, omega arith))
      by (inr (i, paces)) = inr (inr (record {
        channel = i;
        firing = count_of rows a - 1;
        place = paces.place;
        into = paces.target;
        last = subst (λ (k : ℕ). LastNeed (channel_at net i) k (count_of rows a - 1)) e (pace-last net a i next.pause (count_of rows a - 1) paces);
        there = rw paces.source (omega arith);
        ends =
            let time : time_of net a (count_of rows a - 1) ≡ next.pause = rw paces.time (one_entry next.pause (count_of rows a - 1)) in
            rw paces.source (omega arith);
      }))

  -- by a feed whose last firing isn't there the actor is stuck
  pub fed-stuck : (n : ℕ) (f : Feed) → slice_get next.feeds.items n ≡ Some f → count_of rows f.source < f.firings → IsStuck net rows a
  fed-stuck n f there missing =
      let from = is.each n f there in
      let source : f.source ≡ (channel_at net from.channel).source = from.feeds_it.of.source in
      record {
        channel = from.channel;
        firing = f.firings - 1;
        place = from.place;
        into = from.into;
        last = feed-last net from.channel (count_of rows a) f from.feeds_it (omega arith);
        missing = rw (← source) (omega arith);
      }

  fed-more : (n moment later : ℕ) (f : Feed) → slice_get next.feeds.items n ≡ Some f → AreFedBy net rows a next n moment → moment ≤ later → IsFedBy rows later f →
      IsDue net rows a (count_of rows a) later → AreFedBy net rows a next (n + 1) later
  fed-more n moment later f there before le mine due = record {
    due = due;
    over = λ some. omega (arith, before.over some);
    fed = λ j g below here some. each j g below here some (cases_lt j n);
  }
    where
      each : (j : ℕ) (g : Feed) → j < n + 1 → slice_get next.feeds.items j ≡ Some g → 1 ≤ g.firings → (j < n) ⊎ (n ≤ j) →
          (g.firings ≤ count_of rows g.source) × (start_of rows g.source (g.firings - 1) + g.time ≤ later)
      each j g below here some (inl old) =
          let was = before.fed j g old here some in
          let end : start_of rows g.source (g.firings - 1) + g.time ≤ moment = was.1 in
          (was.0, omega arith)
      each j g below here some (inr new) =
          let last : j ≡ n = omega arith in
          let one : slice_get next.feeds.items n ≡ Some g = rw last at here in
          let same : f ≡ g = cc in
          subst (λ (h : Feed). IsFedBy rows later h) same mine some

  -- a feed that has ended by a moment
  pub fed-same : (n moment : ℕ) (f : Feed) → slice_get next.feeds.items n ≡ Some f → AreFedBy net rows a next n moment → IsFedBy rows moment f → AreFedBy net rows a next (n + 1) moment
  fed-same n moment f there before mine = fed-more n moment moment f there before (omega arith) mine before.due

  -- a feed that ends later
  pub fed-later : (n moment later : ℕ) (f : Feed) → slice_get next.feeds.items n ≡ Some f → AreFedBy net rows a next n moment → moment ≤ later → 1 ≤ f.firings →
      f.firings ≤ count_of rows f.source → later ≡ start_of rows f.source (f.firings - 1) + f.time → AreFedBy net rows a next (n + 1) later
  fed-later n moment later f there before le some enough ends = fed-more n moment later f there before le (λ h. (enough, omega arith)) (inr (inr due))
    where
      from : IsFeedInto net a (count_of rows a + 1) f
      from = is.each n f there

      due : EndsNeed net rows a (count_of rows a) later
      due =
          let source : f.source ≡ (channel_at net from.channel).source = from.feeds_it.of.source in
          let time : time_of net (channel_at net from.channel).source (f.firings - 1) ≡ f.time = feed-time net from.channel (f.firings - 1) f from.feeds_it.of in
          let count : count_of rows f.source ≡ count_of rows (channel_at net from.channel).source = ap (count_of rows) source in
          let start : start_of rows f.source (f.firings - 1) ≡ start_of rows (channel_at net from.channel).source (f.firings - 1) = ap (λ (b : ℕ). start_of rows b (f.firings - 1)) source in
          record {
            channel = from.channel;
            firing = f.firings - 1;
            place = from.place;
            into = from.into;
            last = feed-last net from.channel (count_of rows a) f from.feeds_it some;
            there = omega arith;
            ends = omega arith;
          }

  -- by all feeds the actor's next firing can start
  pub fed-all : (n moment : ℕ) → length next.feeds.items ≤ n → AreFedBy net rows a next n moment → StartsNext net rows a moment
  fed-all n moment whole fed = record {
    rising = λ some. omega (arith, fed.over some);
    fed = λ i m place into last. by i m last (is.all i place into);
    due = fed.due;
  }
    where
      by : (i m : ℕ) → LastNeed (channel_at net i) (count_of rows a) m → Paces net a i next.pause ⊎ HasFeed net i (count_of rows a + 1) next.feeds.items →
          (m < count_of rows (channel_at net i).source) × (end_of net rows (channel_at net i).source m ≤ moment)
      by i m last (inl paces) =
          let needed : 1 + m < count_of rows a + 1 = paced-need net a i next.pause (count_of rows a) m paces last in
          let e : count_of rows a - 1 + 1 ≡ count_of rows a = omega arith in
          let other : LastNeed (channel_at net i) (count_of rows a) (count_of rows a - 1) =
          subst (λ (k : ℕ). LastNeed (channel_at net i) k (count_of rows a - 1)) e (pace-last net a i next.pause (count_of rows a - 1) paces) in
          let same : m ≡ count_of rows a - 1 =
          omega (arith, one-last-need (channel_at net i) (count_of rows a) m (count_of rows a - 1) last other, one-last-need (channel_at net i) (count_of rows a) (count_of rows a - 1) m other last) in
          let time : time_of net a m ≡ next.pause = rw paces.time (one_entry next.pause m) in
          let over : start_of rows a (count_of rows a - 1) + next.pause ≤ moment = fed.over (omega arith) in
          let start : start_of rows a m ≡ start_of rows a (count_of rows a - 1) = ap (start_of rows a) same in
          rw paces.source (omega arith, omega arith)
      by i m last (inr has) = ⊎_elim
          (λ (some : 0 < has.feed.firings).
          let other : LastNeed (channel_at net i) (count_of rows a) (has.feed.firings - 1) = feed-last net i (count_of rows a) has.feed has.feeds_it some in
          let same : m ≡ has.feed.firings - 1 =
          omega (arith, one-last-need (channel_at net i) (count_of rows a) m (has.feed.firings - 1) last other, one-last-need (channel_at net i) (count_of rows a) (has.feed.firings - 1) m other last) in
          let time : time_of net (channel_at net i).source m ≡ has.feed.time = feed-time net i m has.feed has.feeds_it.of in
          let ended = fed.fed has.place has.feed (omega (arith, slice_get_within next.feeds.items has.place has.feed has.there)) has.there some in
          let source : has.feed.source ≡ (channel_at net i).source = has.feeds_it.of.source in
          let count : count_of rows has.feed.source ≡ count_of rows (channel_at net i).source = ap (count_of rows) source in
          let start : start_of rows has.feed.source (has.feed.firings - 1) ≡ start_of rows (channel_at net i).source m = ap (λ (b : ℕ). start_of rows b (has.feed.firings - 1)) source ∙ ap (start_of rows (channel_at net i).source) (sym same) in
          let there : has.feed.firings ≤ count_of rows has.feed.source = ended.0 in
          let end : start_of rows has.feed.source (has.feed.firings - 1) + has.feed.time ≤ moment = ended.1 in
          (omega arith, omega arith))
          (λ (none : has.feed.firings ≤ 0). absurd (feed-none net i (count_of rows a) m has.feed has.feeds_it (omega arith) last))
          (cases_lt 0 has.feed.firings)

  -- the sources of its feeds are actors, and its times are small
  module _ (laws : Lawful net) where
    pub feed-source : (n : ℕ) (f : Feed) → slice_get next.feeds.items n ≡ Some f → f.source < length net.times
    feed-source n f there =
        let from = is.each n f there in
        rw from.feeds_it.of.source (laws.sources from.channel from.place)

    pub feed-short : (n : ℕ) (f : Feed) → slice_get next.feeds.items n ≡ Some f → f.time ≤ TIME
    feed-short n f there =
        let from = is.each n f there in
        one-short laws (channel_at net from.channel).source f.time (laws.sources from.channel from.place) from.feeds_it.of.time

    pub pause-short : a < length net.times → next.pause ≤ TIME
    pause-short actor = by is.pause
      where
        by : (next.pause ≡ 0) ⊎ ((i : ℕ) × Paces net a i next.pause) → next.pause ≤ TIME
        by (inl none) = rw none (omega arith)
        by (inr (i, paces)) = one-short laws a next.pause actor paces.time

-- ---- as the code reads them

pub feed-at : (feeds items : List Feed) (n : ℕ) (d : Feed) → feeds ≡ items → n < length feeds → slice_get items n ≡ Some (slice_index_or feeds n d)
feed-at feeds items n d same there = rw (← same) (slice_get-get_or feeds n d there)

pub row-at : (rows : Schedule) (a : ℕ) (row read : List ℕ) → a < length rows → row ≡ slice_index_or rows a row → read ≡ row → read ≡ slice_index_or rows a []
row-at rows a row read there at same = same ∙ (at ∙ get_or_default rows a row [] there)

pub row-last : (rows : Schedule) (a x : ℕ) (row : List ℕ) → row ≡ slice_index_or rows a [] → Some x ≡ slice_get row (length row - 1) → (1 ≤ count_of rows a) × (start_of rows a (count_of rows a - 1) ≡ x)
row-last rows a x row same last = (
  omega (arith, slice_get_within row (length row - 1) x (sym last), ap length same),
  ap (λ (r : List ℕ). slice_index r (length r - 1)) (sym same) ∙ get_or_from_slice_get row (length row - 1) x 0 (sym last),
)

-- ---- more starts of one actor

-- the row of an actor has grown to so many starts that needs decide, and the other rows are as they were
pub record IsGrown (net : Net) (until a : ℕ) (old new : Schedule) (needs : NextFiring) (count : ℕ) : Type 0 where
  pub rows : length new ≡ length old
  pub counted : count_of new a ≡ count
  pub due : AreDue net until new
  pub next : IsNextOf net a count needs
  pub others : (b : ℕ) → b ≢ a → slice_index_or new b [] ≡ slice_index_or old b []

-- by one more, that the code puts
pub grow-set : (net : Net) (until a s count : ℕ) (old new : Schedule) (row was : List ℕ) (next more : NextFiring) → a < length net.times → IsGrown net until a old new next count →
    StartsNext net new a s → s ≤ until → row ≡ slice_index_or new a was ++ s ∷ [] → IsNextOf net a (count + 1) more → IsGrown net until a old (set new a row) more (count + 1)
grow-set net until a s count old new row was next more actor grown starts soon put is = record {
  rows = length-set new a row ∙ grown.rows;
  counted = omega (arith, append-count new (set new a row) a s one, grown.counted);
  due = append-next new (set new a row) a s one net until grown.due starts soon;
  next = is;
  others = λ b apart. get_or-set_other new a b row [] apart ∙ grown.others b apart;
}
  where
    there : a < length new
    there = omega (arith, grown.due.admissible.actors)

    one : Appends new (set new a row) a s
    one = record {
      rows = length-set new a row;
      here = get_or-set_same new a row [] there ∙ (put ∙ ap (λ (r : List ℕ). r ++ s ∷ []) (get_or_default new a was [] there));
      others = λ b apart. get_or-set_other new a b row [] apart;
    }

pub grow-none : (net : Net) (until a count : ℕ) (rows : Schedule) (row : List ℕ) (next : NextFiring) → a < length net.times → AreDue net until rows → IsNextOf net a (count_of rows a) next →
    count ≡ length (slice_index_or rows a row) → IsGrown net until a rows rows next count
grow-none net until a count rows row next actor due is read = record {
  rows = refl;
  counted = sym same;
  due = due;
  next = rw same is;
  others = λ b apart. refl;
}
  where
    same : count ≡ count_of rows a
    same = read ∙ ap length (get_or_default rows a row [] (omega (arith, due.admissible.actors)))

-- after more starts of one actor what the next firings need is known as before, once its own is
pub next-set : (net : Net) (old new : Schedule) (nexts : List NextFiring) (a : ℕ) (more : NextFiring) → AreNext net old nexts → ((b : ℕ) → b ≢ a → slice_index_or new b [] ≡ slice_index_or old b []) →
    IsNextOf net a (count_of new a) more → AreNext net new (set nexts a more)
next-set net old new nexts a more before others is = record { actors = length-set nexts a more ∙ before.actors; each = λ b next there. each b next there (cases_eq b a) }
  where
    each : (b : ℕ) (next : NextFiring) → slice_get (set nexts a more) b ≡ Some next → (b ≡ a) ⊎ (b ≡ a → ⊥) → IsNextOf net b (count_of new b) next
    each b next there (inl same) =
        let inside : b < length (set nexts a more) = slice_get_within (set nexts a more) b next there in
        let place : a < length nexts = omega (arith, length-set nexts a more) in
        let put : slice_index_or (set nexts a more) a more ≡ more = get_or-set_same nexts a more more place in
        let read : slice_index_or (set nexts a more) b more ≡ next = get_or_from_slice_get (set nexts a more) b next more there in
        let mine : slice_index_or (set nexts a more) a more ≡ next = rw same at read in
        let one : more ≡ next = sym put ∙ mine in
        rw same (subst (IsNextOf net a (count_of new a)) one is)
    each b next there (inr apart) =
        let inside : b < length (set nexts a more) = slice_get_within (set nexts a more) b next there in
        let place : b < length nexts = omega (arith, length-set nexts a more) in
        let kept : slice_index_or (set nexts a more) b next ≡ slice_index_or nexts b next = get_or-set_other nexts a b more next apart in
        let read : slice_index_or (set nexts a more) b next ≡ next = get_or_from_slice_get (set nexts a more) b next next there in
        let was : slice_get nexts b ≡ Some next = slice_get-get_or nexts b next place ∙ ap Some (sym kept ∙ read) in
        let count : count_of new b ≡ count_of old b = ap length (others b apart) in
        rw count (before.each b next was)

pub next-at : (net : Net) (rows : Schedule) (nexts : List NextFiring) (a : ℕ) (d : NextFiring) → a < length net.times → AreNext net rows nexts → IsNextOf net a (count_of rows a) (slice_index_or nexts a d)
next-at net rows nexts a d actor are =
    let there : a < length nexts = omega (arith, are.actors) in
    are.each a (slice_index_or nexts a d) (slice_get-get_or nexts a d there)
