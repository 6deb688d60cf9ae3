-- Actor by actor, all actors start the firings that they can.
use Rattle.std.proofs.Common.{◌≡◌, ◌≢◌, ℕ, zero, suc, ◌+◌, ◌-◌, ◌≤◌, ◌<◌, ◌^◌, ◌⊎◌, Bool, true, false, List, [], ◌∷◌, ◌++◌, length, set, take, Some, inl, inr, ⊎_elim, subst, sym, refl, ap, ◌∙◌, arith}
use Rattle.std.specs.Prelude.{slice_index, slice_index_or, if◌then◌else◌, ◌==◌, All, Contains}
use Rattle.std.specs.List.{sum_by}
use Rattle.std.proofs.lemmas.Bool.{cases_eq, false≢true}
use Rattle.std.proofs.lemmas.List.{length-set, get_or-set_same, get_or-set_other, take_all}
use Rattle.std.proofs.lemmas.List.Elements.{All-contains, All-pop, All-weaker, Contains-push, Contains-push_cases}
use Rattle.std.proofs.lemmas.List.Sums.{sum_by-set, sum_by_more, get_or-le-sum_by}
use Rattle.sd_base.specs.Net.{Net, channel_at, total}
use Rattle.sd_base.specs.Schedules.{Needs}
use Rattle.sd_base.proofs.NextMomentIsEarliest.{Able}
use Rattle.sd_base.proofs.FiringOrdersEnd.{sum_to}
use Rattle.firing.specs.Wiring.{LacksNow, IsLevel}
use Rattle.firing.proofs.TokenMoves.{MoreBy, level-takes, level-needs}
use Rattle.selftimed.specs.inside.Starts.{AddsEnds, Overfills}
use Rattle.selftimed.specs.declared.actors.ActorState.{ActorState}
use Rattle.selftimed.specs.inside.Actors.{idle, started_in, ended_in, running_in, touched_in, lacking_in, LacksAt, Stand, Counted, StartsOne, StartedAll, CanOverrun}
use Rattle.selftimed.specs.inside.EventQueues.{Entry, entry, Announces, IsFirst, Lists, IsEventQueue}
use Rattle.selftimed.proofs.EventQueuesTellWhoRuns.{HasFirsts, has-firsts, entries-found, has-number, number-found, announced-kept, announced-there, announced-all}

is-false : (b : Bool) → (b ≡ true → ⊥) → b ≡ false
is-false true never = absurd (never refl)
is-false false never = refl

-- ---- sums over actors

sum_to-take : (actors : List ActorState) (n : ℕ) → n ≤ length actors → sum_to (started_in actors) n ≡ sum_by (λ (s : ActorState). s.started) (take n actors)
unfolding sum_to
sum_to-take actors zero within = refl
sum_to-take actors (suc n) within =
    let more : sum_by (λ (s : ActorState). s.started) (take (n + 1) actors) ≡ sum_by (λ (s : ActorState). s.started) (take n actors) + started_in actors n = sum_by_more (λ (s : ActorState). s.started) actors n idle (omega arith) in
    let e : suc n ≡ n + 1 = omega arith in
    rw e (omega (arith, more, sum_to-take actors n (omega arith)))

pub sum_to-all : (actors : List ActorState) (n : ℕ) → length actors ≡ n → sum_to (started_in actors) n ≡ sum_by (λ (s : ActorState). s.started) actors
sum_to-all actors n long = sum_to-take actors n (omega arith) ∙ ap (sum_by (λ (s : ActorState). s.started)) (take_all n actors (omega arith))

pub sum_to-same : (f g : ℕ → ℕ) (n : ℕ) → ((b : ℕ) → b < n → g b ≡ f b) → sum_to g n ≡ sum_to f n
unfolding sum_to
sum_to-same f g zero same = refl
sum_to-same f g (suc n) same = omega (arith, sum_to-same f g n (λ b h. same b (omega arith)), same n (omega arith))

sum_to-more : (f g : ℕ → ℕ) (n a k : ℕ) → a < n → g a ≡ f a + k → ((b : ℕ) → b ≢ a → g b ≡ f b) → sum_to g n ≡ sum_to f n + k
unfolding sum_to
sum_to-more f g zero a k below here others = absurd (omega arith)
sum_to-more f g (suc n) a k below here others = ⊎_elim
    (λ (same : n ≡ a). let last : g n ≡ f n + k = rw same here in omega (arith, sum_to-same f g n (λ b h. others b (λ e. absurd (omega arith)))))
    (λ (away : n ≢ a). omega (arith, sum_to-more f g n a k (omega arith) here others, others n away))
    (cases_eq n a)

pub started-le : (actors : List ActorState) (all most b : ℕ) → Counted actors all most → b < length actors → started_in actors b ≤ all
started-le actors all most b counted place = omega (arith, counted.total, get_or-le-sum_by (λ (s : ActorState). s.started) actors b idle place)

-- ---- actor by actor

-- the untouched actors have started all that they can, and the touched ones stand as they did
pub record StartsSoFar (net : Net) (moment : ℕ) (first now : List ActorState) (tokens : List ℕ) (all most : ℕ) (ends : List Entry) (touched : List ℕ) : Type 0 where
  pub long : length now ≡ length first
  pub ended : (b : ℕ) → ended_in now b ≡ ended_in first b
  pub more : (b : ℕ) → b < length net.times → touched_in now b ≡ false → started_in first b ≤ started_in now b
  pub adds : (b : ℕ) → b < length net.times → touched_in now b ≡ false → AddsEnds net b moment (started_in first b) (started_in now b - started_in first b) (running_in first b) (running_in now b)
  pub lacks : (b : ℕ) → b < length net.times → touched_in now b ≡ false → LacksAt net (ended_in first) b (started_in now b) (lacking_in now b)
  pub started : (b : ℕ) → touched_in now b ≡ true → started_in now b ≡ started_in first b
  pub running : (b : ℕ) → touched_in now b ≡ true → running_in now b ≡ running_in first b
  pub stand : Stand net now tokens
  pub counted : Counted now all most
  pub event_queue : IsEventQueue net now ends touched

-- the entry of an actor is noted where it had none
abbrev pub Noted : ℕ → List ℕ → List ℕ → List Entry → List Entry → Type 0
Noted a old runs ends more = Announces a runs ends more ⊎ ((0 < length old) × (more ≡ ends))

-- nothing has started yet
pub starts-none : (net : Net) (moment : ℕ) (actors : List ActorState) (tokens : List ℕ) (all most : ℕ) (ends : List Entry) (touched : List ℕ) → Stand net actors tokens → Counted actors all most → IsEventQueue net actors ends touched →
    ((b : ℕ) → b < length net.times → touched_in actors b ≡ false → LacksAt net (ended_in actors) b (started_in actors b) (lacking_in actors b)) → StartsSoFar net moment actors actors tokens all most ends touched
starts-none net moment actors tokens all most ends touched stand counted event_queue lacks = record {
  long = refl;
  ended = λ b. refl;
  more = λ b is off. omega arith;
  adds = λ b is off. record { long = omega arith; kept = λ j below. refl; added = λ j below. absurd (omega arith) };
  lacks = lacks;
  started = λ b on. refl;
  running = λ b on. refl;
  stand = stand;
  counted = counted;
  event_queue = event_queue;
}

-- no actor is left to be looked at
pub starts-done : (net : Net) (moment : ℕ) (first now : List ActorState) (tokens : List ℕ) (all most : ℕ) (ends : List Entry) (touched : List ℕ) → touched ≡ [] → StartsSoFar net moment first now tokens all most ends touched → StartedAll net moment first now
starts-done net moment first now tokens all most ends touched none so_far = record {
  ended = so_far.ended;
  more = λ b is. so_far.more b is (calm b);
  ends = λ b is. so_far.adds b is (calm b);
  lacks = λ b is. so_far.lacks b is (calm b);
  calm = λ b is. calm b;
}
  where
    calm : (b : ℕ) → touched_in now b ≡ false
    calm b = is-false (touched_in now b) (λ on. false≢true (rw none at (so_far.event_queue.lists.listed b on)))

module _ (net : Net) (moment : ℕ) (first now : List ActorState) (tokens : List ℕ) (all most a : ℕ) (ends : List Entry) (rest : List ℕ) (few : most ≤ 2 ^ 32) (so_far : StartsSoFar net moment first now tokens all most ends (rest ++ a ∷ [])) where
  pub actor : a < length net.times
  actor = All-contains (λ (b : ℕ). b < length net.times) (rest ++ a ∷ []) a so_far.event_queue.lists.within (Contains-push rest a)

  pub place : a < length now
  place = rw so_far.stand.long actor

  -- there is room for the starts of the actor
  pub room-fits : started_in now a + (most - all) ≤ 2 ^ 32
  room-fits = omega (arith, started-le now all most a so_far.counted place, so_far.counted.within)

  within-rest : All (λ (b : ℕ). b < length net.times) rest
  within-rest = (All-pop (λ (b : ℕ). b < length net.times) (rest ++ a ∷ []) rest (Some a) refl so_far.event_queue.lists.within).0

  -- an actor that isn't to be looked at is passed over
  pub starts-past : touched_in now a ≡ false → StartsSoFar net moment first now tokens all most ends rest
  starts-past off = record {
    long = so_far.long;
    ended = so_far.ended;
    more = so_far.more;
    adds = so_far.adds;
    lacks = so_far.lacks;
    started = so_far.started;
    running = so_far.running;
    stand = so_far.stand;
    counted = so_far.counted;
    event_queue = record {
      firsts = so_far.event_queue.firsts;
      whole = so_far.event_queue.whole;
      lists = record {
        within = within-rest;
        listed = λ b is. ⊎_elim
            (λ (has : Contains rest b). number-found rest b has)
            (λ (e : a ≡ b). absurd (false≢true (sym off ∙ rw e is)))
            (Contains-push_cases rest a b (has-number (rest ++ a ∷ []) b (so_far.event_queue.lists.listed b is)));
      };
    };
  }

  module _ (on : touched_in now a ≡ true) (left : List ℕ) (s : ActorState) (n : ℕ) (fits : n ≤ most - all) (one : StartsOne net a moment n tokens left (slice_index_or now a idle) s) (longer : length left ≡ length tokens) where
    here : slice_index_or (set now a s) a idle ≡ s
    here = get_or-set_same now a s idle place

    other : (b : ℕ) → b ≢ a → slice_index_or (set now a s) b idle ≡ slice_index_or now b idle
    other b away = get_or-set_other now a b s idle away

    started-here : started_in (set now a s) a ≡ started_in now a + n
    started-here = ap (λ (x : ActorState). x.started) here ∙ one.started

    started-other : (b : ℕ) → b ≢ a → started_in (set now a s) b ≡ started_in now b
    started-other b away = ap (λ (x : ActorState). x.started) (other b away)

    ended-all : (b : ℕ) → ended_in (set now a s) b ≡ ended_in now b
    ended-all b = ⊎_elim (λ (e : b ≡ a). rw e (ap (λ (x : ActorState). x.ended) here ∙ one.ended)) (λ (away : b ≢ a). ap (λ (x : ActorState). x.ended) (other b away)) (cases_eq b a)

    running-here : running_in (set now a s) a ≡ s.running
    running-here = ap (λ (x : ActorState). x.running) here

    running-other : (b : ℕ) → b ≢ a → running_in (set now a s) b ≡ running_in now b
    running-other b away = ap (λ (x : ActorState). x.running) (other b away)

    touched-other : (b : ℕ) → b ≢ a → touched_in (set now a s) b ≡ touched_in now b
    touched-other b away = ap (λ (x : ActorState). x.touched) (other b away)

    by : MoreBy a n (started_in now) (started_in (set now a s))
    by = record { here = started-here; others = started-other }

    level : IsLevel net (started_in (set now a s)) (ended_in (set now a s)) left
    level =
        let moved : IsLevel net (started_in (set now a s)) (ended_in now) left = level-takes net a n (started_in now) (started_in (set now a s)) (ended_in now) tokens left so_far.stand.level one.all.takes longer by in
        record { long = moved.long; each = λ i there. rw (ended-all (channel_at net i).source) (moved.each i there) }

    counted : Counted (set now a s) (all + n) most
    counted = record {
      total =
          let sums : sum_by (λ (x : ActorState). x.started) (set now a s) + started_in now a ≡ sum_by (λ (x : ActorState). x.started) now + s.started = sum_by-set (λ (x : ActorState). x.started) now a s idle place in
          omega (arith, so_far.counted.total, one.started);
      within = omega (arith, so_far.counted.within);
    }

    stand : Stand net (set now a s) left
    stand = record {
      long = length-set now a s ∙ so_far.stand.long;
      counts = λ b is. ⊎_elim
          (λ (e : b ≡ a).
          let long : length s.running ≡ length (running_in now a) + n = one.all.ends.long in
          let was : ended_in now a + length (running_in now a) ≡ started_in now a = so_far.stand.counts a actor in
          rw (e, ended-all a, running-here, started-here) (omega arith))
          (λ (away : b ≢ a). rw (ended-all b, running-other b away, started-other b away) (so_far.stand.counts b is))
          (cases_eq b a);
      few = λ b is.
          let there : b < length (set now a s) = omega (arith, length-set now a s, so_far.stand.long) in
          omega (arith, started-le (set now a s) (all + n) most b counted there, counted.within);
      level = level;
    }

    lacking-here : lacking_in (set now a s) a ≡ s.lacking
    lacking-here = ap (λ (x : ActorState). x.lacking) here

    lacking-other : (b : ℕ) → b ≢ a → lacking_in (set now a s) b ≡ lacking_in now b
    lacking-other b away = ap (λ (x : ActorState). x.lacking) (other b away)

    lack-here : LacksAt net (ended_in first) a (started_in (set now a s) a) (lacking_in (set now a s) a)
    lack-here =
        let short : LacksNow net left a (started_in (set now a s) a) s.lacking = rw started-here one.all.lacks in
        let need : Needs (channel_at net s.lacking) (started_in (set now a s) a) (ended_in (set now a s) (channel_at net s.lacking).source) =
        level-needs net (started_in (set now a s)) (ended_in (set now a s)) left a s.lacking level short in
        rw lacking-here (short.place, short.into, rw (ended-all (channel_at net s.lacking).source ∙ so_far.ended (channel_at net s.lacking).source) at need)

    first-kept : (e : Entry) → IsFirst now e → IsFirst (set now a s) e
    first-kept e is = ⊎_elim
        (λ (same : e.1 ≡ a).
        let some : 0 < length (running_in now a) = rw same at is.0 in
        let was : slice_index (running_in now a) 0 ≡ e.0.0 = rw same at is.1 in
        let long : length s.running ≡ length (running_in now a) + n = one.all.ends.long in
        let kept : slice_index s.running 0 ≡ slice_index (running_in now a) 0 = one.all.ends.kept 0 some in
        rw (same, running-here) (omega arith, kept ∙ was))
        (λ (away : e.1 ≢ a). (rw (running-other e.1 away) is.0, rw (running-other e.1 away) is.1))
        (cases_eq e.1 a)

    lists : Lists net (set now a s) rest
    lists = record {
      within = within-rest;
      listed = λ b is. ⊎_elim
          (λ (e : b ≡ a).
          let off : touched_in (set now a s) b ≡ false = rw e (ap (λ (x : ActorState). x.touched) here ∙ one.calm) in
          absurd (false≢true (sym off ∙ is)))
          (λ (away : b ≢ a). ⊎_elim
          (λ (has : Contains rest b). number-found rest b has)
          (λ (e : a ≡ b). absurd (away (sym e)))
          (Contains-push_cases rest a b (has-number (rest ++ a ∷ []) b (so_far.event_queue.lists.listed b (sym (touched-other b away) ∙ is)))))
          (cases_eq b a);
    }

    has : HasFirsts now ends
    has = has-firsts now ends so_far.event_queue.firsts so_far.event_queue.whole

    event_queue : (more : List Entry) → Noted a (running_in now a) s.running ends more → IsEventQueue net (set now a s) more rest
    event_queue more (inl announced) = record {
      firsts = announced-all a ends more s.running (IsFirst (set now a s)) announced (All-weaker (IsFirst now) (IsFirst (set now a s)) first-kept ends so_far.event_queue.firsts) (λ some. rw running-here (some, refl));
      whole = entries-found (set now a s) more (λ b some. ⊎_elim
          (λ (e : b ≡ a).
          let runs : 0 < length s.running = rw (e, running-here) at some in
          rw (e, running-here) (announced-there a ends more s.running announced runs))
          (λ (away : b ≢ a).
          let there : 0 < length (running_in now b) = rw (running-other b away) at some in
          rw (running-other b away) (announced-kept a ends more s.running (entry (slice_index (running_in now b) 0) b) announced (has b there)))
          (cases_eq b a));
      lists = lists;
    }
    event_queue more (inr (busy, same)) = rw same (record {
      firsts = All-weaker (IsFirst now) (IsFirst (set now a s)) first-kept ends so_far.event_queue.firsts;
      whole = entries-found (set now a s) ends (λ b some. ⊎_elim
          (λ (e : b ≡ a).
          let kept : slice_index s.running 0 ≡ slice_index (running_in now a) 0 = one.all.ends.kept 0 busy in
          rw (e, running-here, kept) (has a busy))
          (λ (away : b ≢ a).
          let there : 0 < length (running_in now b) = rw (running-other b away) at some in
          rw (running-other b away) (has b there))
          (cases_eq b a));
      lists = lists;
    })

    pub starts-more : (more : List Entry) → Noted a (running_in now a) s.running ends more → StartsSoFar net moment first (set now a s) left (all + n) most more rest
    starts-more more noted = record {
      long = length-set now a s ∙ so_far.long;
      ended = λ b. ended-all b ∙ so_far.ended b;
      more = λ b is off. ⊎_elim
          (λ (e : b ≡ a). rw (e, started-here) (omega (arith, so_far.started a on)))
          (λ (away : b ≢ a). rw (started-other b away) (so_far.more b is (sym (touched-other b away) ∙ off)))
          (cases_eq b a);
      adds = λ b is off. ⊎_elim
          (λ (e : b ≡ a). subst (λ (x : ℕ). AddsEnds net x moment (started_in first x) (started_in (set now a s) x - started_in first x) (running_in first x) (running_in (set now a s) x)) (sym e) ends-here)
          (λ (away : b ≢ a). rw (started-other b away, running-other b away) (so_far.adds b is (sym (touched-other b away) ∙ off)))
          (cases_eq b a);
      lacks = λ b is off. ⊎_elim
          (λ (e : b ≡ a). subst (λ (x : ℕ). LacksAt net (ended_in first) x (started_in (set now a s) x) (lacking_in (set now a s) x)) (sym e) lack-here)
          (λ (away : b ≢ a). rw (started-other b away, lacking-other b away) (so_far.lacks b is (sym (touched-other b away) ∙ off)))
          (cases_eq b a);
      started = λ b is. started-other b (away-from b is) ∙ so_far.started b (still b is);
      running = λ b is. running-other b (away-from b is) ∙ so_far.running b (still b is);
      stand = stand;
      counted = counted;
      event_queue = event_queue more noted;
    }
      where
        ends-here : AddsEnds net a moment (started_in first a) (started_in (set now a s) a - started_in first a) (running_in first a) (running_in (set now a s) a)
        ends-here =
            let many : started_in (set now a s) a - started_in first a ≡ n = omega (arith, started-here, so_far.started a on) in
            rw (many, running-here, ← so_far.started a on, ← so_far.running a on) one.all.ends

        away-from : (b : ℕ) → touched_in (set now a s) b ≡ true → b ≢ a
        away-from b is e = absurd (false≢true (sym (rw e (ap (λ (x : ActorState). x.touched) here ∙ one.calm)) ∙ is))

        still : (b : ℕ) → touched_in (set now a s) b ≡ true → touched_in now b ≡ true
        still b is = sym (touched-other b (away-from b is)) ∙ is

  -- more could start than the bound
  pub starts-over : Overfills net tokens a (started_in now a) (most - all) → CanOverrun net (ended_in first) most
  starts-over over = (m, able, much)
    where
      m : ℕ → ℕ
      m b = if b == a then started_in now b + over.0 else started_in now b

      m-here : m a ≡ started_in now a + over.0
      m-here = rw (Rattle.std.proofs.Common.eq-eqb a a refl) refl

      m-other : (b : ℕ) → b ≢ a → m b ≡ started_in now b
      m-other b away = rw (Rattle.std.proofs.Common.ne_eqb b a away) refl

      able : Able net (ended_in first) m
      able = record {
        enough = λ i there. rw (← so_far.ended (channel_at net i).source) (⊎_elim
            (λ (into : (channel_at net i).target ≡ a).
            let feeds : total (channel_at net i).taken (started_in now a + over.0) ≤ slice_index tokens i + total (channel_at net i).taken (started_in now a) = over.2 i there into in
            let was : slice_index tokens i + total (channel_at net i).taken (started_in now (channel_at net i).target) ≡ (channel_at net i).tokens + total (channel_at net i).made (ended_in now (channel_at net i).source) = so_far.stand.level.each i there in
            let at_a : slice_index tokens i + total (channel_at net i).taken (started_in now a) ≡ (channel_at net i).tokens + total (channel_at net i).made (ended_in now (channel_at net i).source) = rw into at was in
            rw (into, m-here) (omega arith))
            (λ (away : (channel_at net i).target ≢ a).
            let was : slice_index tokens i + total (channel_at net i).taken (started_in now (channel_at net i).target) ≡ (channel_at net i).tokens + total (channel_at net i).made (ended_in now (channel_at net i).source) = so_far.stand.level.each i there in
            rw (m-other (channel_at net i).target away) (omega arith))
            (cases_eq (channel_at net i).target a));
      }

      much : most < sum_to m (length net.times)
      much =
          let sums : sum_to m (length net.times) ≡ sum_to (started_in now) (length net.times) + over.0 = sum_to-more (started_in now) m (length net.times) a over.0 actor m-here m-other in
          let all_is : sum_to (started_in now) (length net.times) ≡ sum_by (λ (x : ActorState). x.started) now = sum_to-all now (length net.times) so_far.stand.long in
          omega (arith, so_far.counted.total, so_far.counted.within, over.1)
