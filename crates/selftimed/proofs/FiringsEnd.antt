-- Ends of firings, actor by actor.
use Rattle.std.proofs.Common.{◌≡◌, ◌≢◌, ℕ, ◌+◌, ◌-◌, ◌*◌, ◌≤◌, ◌<◌, ◌^◌, ◌⊎◌, true, false, List, [], ◌∷◌, ◌++◌, Option, Some, length, drop, set, inl, inr, ⊎_elim, subst, sym, refl, ap, ◌∙◌, arith}
use Rattle.std.specs.Prelude.{slice_index, slice_index_or, if◌then◌else◌, All, IsPermutation}
use Rattle.std.proofs.lemmas.Bool.{cases_lt, cases_eq, cases_Bool, false≢true}
use Rattle.std.proofs.lemmas.List.{length-set, get_or-set_same, get_or-set_other, length-drop, get_or-drop, drop-drop}
use Rattle.std.proofs.lemmas.List.Elements.{All-push, All-weaker, All-head, All-tail, All-contains, Contains-push, Contains-append_left}
use Rattle.std.proofs.lemmas.List.Sorted.{All-permutation}
use Rattle.sd_base.specs.Net.{Net, channel_at, phase_entry}
use Rattle.sd_base.specs.Lawful.{Lawful}
use Rattle.firing.specs.declared.sums.Port.TheVariants.{Made}
use Rattle.firing.specs.Wiring.{PutsTokens, IsLevel}
use Rattle.firing.proofs.TokenMoves.{MoreBy, level-puts, level-small, level-needs}
use Rattle.selftimed.specs.declared.actors.ActorState.{ActorState}
use Rattle.selftimed.specs.inside.Actors.{idle, started_in, ended_in, running_in, touched_in, lacking_in, EndsOne, Kept, TouchesItself, Touches, EndsAll, Stand}
use Rattle.selftimed.specs.inside.EventQueues.{Entry, entry, Announces, IsFirst, Lists, IsEventQueue}
use Rattle.selftimed.specs.inside.Ports.{IsOwn, MayOwn, IsOther, IsListedBut}
use Rattle.selftimed.proofs.OwnChannels.{own-or-other, of-own, not-own, other-place}
use Rattle.selftimed.proofs.EventQueuesTellWhoRuns.{HasFirsts, has-firsts, has-number, number-found, runs-place, besides, announced-kept, announced-there, announced-all}

at : List ActorState → ℕ → ActorState
at actors a = slice_index_or actors a idle

-- ---- touched actors

pub record TouchesSoFar (net : Net) (tokens channels : List ℕ) (old new : List ActorState) (touched : List ℕ) (done : ℕ) : Type 0 where
  pub long : length new ≡ length old
  pub started : (b : ℕ) → started_in new b ≡ started_in old b
  pub ended : (b : ℕ) → ended_in new b ≡ ended_in old b
  pub running : (b : ℕ) → running_in new b ≡ running_in old b
  pub kept : (b : ℕ) → touched_in new b ≡ false → touched_in old b ≡ false
  pub lacking : (b : ℕ) → lacking_in new b ≡ lacking_in old b
  pub there : (j : ℕ) → j < done → touched_in new (channel_at net (slice_index channels j)).target ≡ false → lacking_in new (channel_at net (slice_index channels j)).target ≡ slice_index channels j →
      slice_index tokens (slice_index channels j) < phase_entry (channel_at net (slice_index channels j)).taken (started_in new (channel_at net (slice_index channels j)).target)
  pub lists : Lists net new touched

-- an actor that lacks tokens on another channel, or still lacks them on this one, isn't touched
pub touches-skip : (net : Net) (tokens channels : List ℕ) (old now : List ActorState) (touched : List ℕ) (done t : ℕ) → t ≡ (channel_at net (slice_index channels done)).target →
    (lacking_in now t ≡ slice_index channels done → slice_index tokens (slice_index channels done) < phase_entry (channel_at net (slice_index channels done)).taken (started_in now t)) →
    TouchesSoFar net tokens channels old now touched done → TouchesSoFar net tokens channels old now touched (done + 1)
touches-skip net tokens channels old now touched done t into short so_far = record {
  long = so_far.long;
  started = so_far.started;
  ended = so_far.ended;
  running = so_far.running;
  kept = so_far.kept;
  lacking = so_far.lacking;
  there = λ j h off. ⊎_elim
      (λ (before : j < done). so_far.there j before off)
      (λ (here : done ≤ j). let same : j ≡ done = omega arith in rw (same, ← into) short)
      (cases_lt j done);
  lists = so_far.lists;
}

-- one more actor is touched
module _ (net : Net) (now : List ActorState) (touched more : List ℕ) (t : ℕ) (actor : t < length net.times) (place : t < length now) (base : ActorState)
    (was : base ≡ slice_index_or now t idle) (lists : Lists net now touched) (listed : more ≡ (if base.touched then touched else touched ++ t ∷ [])) where
  read : (b : ℕ) → b ≢ t → slice_index_or (set now t (record base { touched = true })) b idle ≡ slice_index_or now b idle
  read b away = get_or-set_other now t b (record base { touched = true }) idle away

  here : slice_index_or (set now t (record base { touched = true })) t idle ≡ record base { touched = true }
  here = get_or-set_same now t (record base { touched = true }) idle place

  keeps : {X : Type 0} (f : ActorState → X) → f (record base { touched = true }) ≡ f base → (b : ℕ) →
      f (slice_index_or (set now t (record base { touched = true })) b idle) ≡ f (slice_index_or now b idle)
  keeps {X} f same b = ⊎_elim
      (λ (e : b ≡ t). rw e (ap f here ∙ (same ∙ ap f was)))
      (λ (away : b ≢ t). ap f (read b away))
      (cases_eq b t)

  kept-on : (b : ℕ) → b ≢ t → touched_in (set now t (record base { touched = true })) b ≡ touched_in now b
  kept-on b away = ap (λ (s : ActorState). s.touched) (read b away)

  pub lists-more : Lists net (set now t (record base { touched = true })) more
  lists-more = ⊎_elim
      (λ (on : base.touched ≡ true).
      let same : more ≡ touched = rw on at listed in
      rw same (record {
        within = lists.within;
        listed = λ b is. ⊎_elim
            (λ (e : b ≡ t). rw e (lists.listed t (sym (ap (λ (s : ActorState). s.touched) was) ∙ on)))
            (λ (away : b ≢ t). lists.listed b (sym (kept-on b away) ∙ is))
            (cases_eq b t);
      }))
      (λ (off : base.touched ≡ false).
      let longer : more ≡ touched ++ t ∷ [] = rw off at listed in
      rw longer (record {
        within = All-push (λ (x : ℕ). x < length net.times) touched t lists.within actor;
        listed = λ b is. ⊎_elim
            (λ (e : b ≡ t). rw e (number-found (touched ++ t ∷ []) t (Contains-push touched t)))
            (λ (away : b ≢ t). number-found (touched ++ t ∷ []) b (Contains-append_left touched (t ∷ []) b (has-number touched b (lists.listed b (sym (kept-on b away) ∙ is)))))
            (cases_eq b t);
      }))
      (cases_Bool base.touched)

  pub kept-more : Kept now (set now t (record base { touched = true }))
  kept-more = record {
    long = length-set now t (record base { touched = true });
    started = keeps (λ (s : ActorState). s.started) refl;
    ended = keeps (λ (s : ActorState). s.ended) refl;
    running = keeps (λ (s : ActorState). s.running) refl;
    kept = λ b off. ⊎_elim
        (λ (e : b ≡ t).
        let yes : touched_in (set now t (record base { touched = true })) b ≡ true = rw e (ap (λ (s : ActorState). s.touched) here) in
        absurd (false≢true (sym off ∙ yes)))
        (λ (away : b ≢ t). sym (kept-on b away) ∙ off)
        (cases_eq b t);
    lacking = keeps (λ (s : ActorState). s.lacking) refl;
  }

  pub touched-now : touched_in (set now t (record base { touched = true })) t ≡ true
  touched-now = ap (λ (s : ActorState). s.touched) here

  pub touches-more : (tokens channels : List ℕ) (old : List ActorState) (done : ℕ) → t ≡ (channel_at net (slice_index channels done)).target →
      TouchesSoFar net tokens channels old now touched done → TouchesSoFar net tokens channels old (set now t (record base { touched = true })) more (done + 1)
  touches-more tokens channels old done into so_far = record {
    long = kept-more.long ∙ so_far.long;
    started = λ b. kept-more.started b ∙ so_far.started b;
    ended = λ b. kept-more.ended b ∙ so_far.ended b;
    running = λ b. kept-more.running b ∙ so_far.running b;
    kept = λ b off. so_far.kept b (kept-more.kept b off);
    lacking = λ b. kept-more.lacking b ∙ so_far.lacking b;
    there = λ j h off. ⊎_elim
        (λ (before : j < done).
        rw (kept-more.lacking (channel_at net (slice_index channels j)).target, kept-more.started (channel_at net (slice_index channels j)).target)
        (so_far.there j before (kept-more.kept (channel_at net (slice_index channels j)).target off)))
        (λ (now_one : done ≤ j).
        let same : j ≡ done = omega arith in
        let target : (channel_at net (slice_index channels j)).target ≡ t = rw same (sym into) in
        absurd (false≢true (sym off ∙ rw target touched-now)))
        (cases_lt j done);
    lists = lists-more;
  }

-- an actor that is as touched as before
pub lists-kept : (net : Net) (now : List ActorState) (touched : List ℕ) (a : ℕ) (s : ActorState) → a < length now → s.touched ≡ touched_in now a → Lists net now touched → Lists net (set now a s) touched
lists-kept net now touched a s place still lists = record {
  within = lists.within;
  listed = λ b on. lists.listed b (sym (same b) ∙ on);
}
  where
    same : (b : ℕ) → touched_in (set now a s) b ≡ touched_in now b
    same b = ⊎_elim
        (λ (e : b ≡ a). rw e (ap (λ (x : ActorState). x.touched) (get_or-set_same now a s idle place) ∙ still))
        (λ (away : b ≢ a). ap (λ (x : ActorState). x.touched) (get_or-set_other now a b s idle away))
        (cases_eq b a)

-- an actor that doesn't lack tokens on its own channel isn't touched
pub itself-skip : (own : Option ℕ) (a : ℕ) (now : List ActorState) → IsOther own (lacking_in now a) → TouchesItself own a now now
itself-skip own a now other = record {
  kept = record { long = refl; started = λ b. refl; ended = λ b. refl; running = λ b. refl; kept = λ b off. off; lacking = λ b. refl };
  other = λ off. other;
}

-- it is touched
pub itself-more : (own : Option ℕ) (a : ℕ) (now new : List ActorState) → Kept now new → touched_in new a ≡ true → TouchesItself own a now new
itself-more own a now new kept on = record { kept = kept; other = λ off. absurd (false≢true (sym off ∙ on)) }

-- ---- ends of all actors

-- some of the firings of an actor that ended by a moment are off its list
pub record EndsSome (moment : ℕ) (old new : ActorState) : Type 0 where
  pub started : new.started ≡ old.started
  pub later : old.ended ≤ new.ended
  pub within : new.ended - old.ended ≤ length old.running
  pub rest : new.running ≡ drop (new.ended - old.ended) old.running
  pub past : (k : ℕ) → k < new.ended - old.ended → slice_index old.running k ≤ moment

ends-nothing : (moment : ℕ) (s : ActorState) → EndsSome moment s s
ends-nothing moment s = record {
  started = refl;
  later = omega arith;
  within = omega arith;
  rest = rw (none s.ended) refl;
  past = λ k h. absurd (omega arith);
}
  where
    none : (e : ℕ) → e - e ≡ 0
    none e = omega arith

-- more of them are
ends-join : (moment : ℕ) (s t u : ActorState) → EndsSome moment s t → EndsOne moment t u → EndsSome moment s u
ends-join moment s t u some one =
    let m : ℕ = t.ended - s.ended in
    let n : ℕ = u.ended - t.ended in
    let left : length t.running ≡ length s.running - m = ap length some.rest ∙ length-drop m s.running in
    let all : m + n ≡ u.ended - s.ended = omega (arith, some.later, one.later) in
    record {
      started = one.started ∙ some.started;
      later = omega (arith, some.later, one.later);
      within = omega (arith, some.within, one.within);
      rest = one.rest ∙ (ap (drop n) some.rest ∙ (drop-drop n m s.running ∙ ap (λ (x : ℕ). drop x s.running) all));
      past = λ k below. ⊎_elim
          (λ (before : k < m). some.past k before)
          (λ (after : m ≤ k).
          let low : slice_index t.running (k - m) ≤ moment = one.past (k - m) (omega arith) in
          let read : slice_index t.running (k - m) ≡ slice_index s.running (m + (k - m)) = ap (λ (xs : List ℕ). slice_index xs (k - m)) some.rest ∙ get_or-drop m s.running (k - m) 0 in
          let e : m + (k - m) ≡ k = omega arith in
          omega (arith, ap (slice_index s.running) e))
          (cases_lt k m);
    }

-- EndsSome reads its two states field by field
ends_some-along : (moment : ℕ) (old s t : ActorState) → s.started ≡ t.started → s.ended ≡ t.ended → s.running ≡ t.running → EndsSome moment old s → EndsSome moment old t
ends_some-along moment old s t started ended running some = record {
  started = sym started ∙ some.started;
  later = rw (← ended) some.later;
  within = rw (← ended) some.within;
  rest = rw (← ended) (sym running ∙ some.rest);
  past = rw (← ended) some.past;
}

-- an entry is past, or its actor's first end
abbrev pub Near : Net → ℕ → List ActorState → Entry → Type 0
Near net moment actors e = (e.1 < length net.times) × ((e.0.0 ≤ moment) ⊎ IsFirst actors e)

-- some firings that ended by a moment are off the lists, and those of actors whose entry is later than it all are
pub record EndsSoFar (net : Net) (moment : ℕ) (first now : List ActorState) (tokens : List ℕ) (ends : List Entry) (touched : List ℕ) : Type 0 where
  pub long : length now ≡ length first
  pub ones : (b : ℕ) → b < length net.times → EndsSome moment (slice_index_or first b idle) (slice_index_or now b idle)
  pub stand : Stand net now tokens
  pub lacking : (b : ℕ) → lacking_in now b ≡ lacking_in first b
  pub fed : (i : ℕ) → i < length net.channels → touched_in now (channel_at net i).target ≡ false → lacking_in now (channel_at net i).target ≡ i →
      (ended_in now (channel_at net i).source ≡ ended_in first (channel_at net i).source) ⊎ (slice_index tokens i < phase_entry (channel_at net i).taken (started_in now (channel_at net i).target))
  pub near : All (Near net moment now) ends
  pub whole : HasFirsts now ends
  pub lists : Lists net now touched

pub ends-none : (net : Net) (moment : ℕ) (first : List ActorState) (tokens : List ℕ) (ends : List Entry) (touched : List ℕ) → Stand net first tokens → IsEventQueue net first ends touched → EndsSoFar net moment first first tokens ends touched
ends-none net moment first tokens ends touched stand event_queue = record {
  long = refl;
  ones = λ b is. ends-nothing moment (slice_index_or first b idle);
  stand = stand;
  lacking = λ b. refl;
  fed = λ i there off lacks. inl refl;
  near = All-weaker (IsFirst first) (Near net moment first) (λ e is. (omega (arith, runs-place first e.1 is.0, stand.long), inr is)) ends event_queue.firsts;
  whole = has-firsts first ends event_queue.firsts event_queue.whole;
  lists = event_queue.lists;
}

pub kept-then : (old mid new : List ActorState) → Kept old mid → Kept mid new → Kept old new
kept-then old mid new first second = record {
  long = second.long ∙ first.long;
  started = λ b. second.started b ∙ first.started b;
  ended = λ b. second.ended b ∙ first.ended b;
  running = λ b. second.running b ∙ first.running b;
  kept = λ b off. first.kept b (second.kept b off);
  lacking = λ b. second.lacking b ∙ first.lacking b;
}

pub kept-touches : (net : Net) (tokens channels : List ℕ) (old new : List ActorState) → Touches net tokens channels old new → Kept old new
kept-touches net tokens channels old new t = record { long = t.long; started = t.started; ended = t.ended; running = t.running; kept = t.kept; lacking = t.lacking }

module _ (net : Net) (moment : ℕ) (first now : List ActorState) (tokens left : List ℕ) (t a : ℕ) (s : ActorState) (new : List ActorState) (ends mid more : List Entry) (touched longer : List ℕ) (actor : a < length net.times)
    (so_far : EndsSoFar net moment first now tokens ends touched) (taken : IsPermutation ends (entry t a ∷ mid)) (announced : Announces a s.running mid more) (lists : Lists net new longer)
    (one : EndsOne moment (slice_index_or now a idle) s) (still : s.touched ≡ touched_in now a) (noted : s.lacking ≡ lacking_in now a) (kept : Kept (set now a s) new)
    (puts : PutsTokens net a (ended_in now a) (s.ended - ended_in now a) tokens left) (long_left : length left ≡ length tokens)
    (fed : (i : ℕ) → i < length net.channels → (channel_at net i).source ≡ a → touched_in new (channel_at net i).target ≡ false → lacking_in new (channel_at net i).target ≡ i → slice_index left i < phase_entry (channel_at net i).taken (started_in new (channel_at net i).target)) where
  place : a < length now
  place = rw so_far.stand.long actor

  mid-here : slice_index_or (set now a s) a idle ≡ s
  mid-here = get_or-set_same now a s idle place

  mid-other : (b : ℕ) → b ≢ a → slice_index_or (set now a s) b idle ≡ slice_index_or now b idle
  mid-other b away = get_or-set_other now a b s idle away

  started-here : started_in new a ≡ s.started
  started-here = kept.started a ∙ ap (λ (x : ActorState). x.started) mid-here

  ended-here : ended_in new a ≡ s.ended
  ended-here = kept.ended a ∙ ap (λ (x : ActorState). x.ended) mid-here

  running-here : running_in new a ≡ s.running
  running-here = kept.running a ∙ ap (λ (x : ActorState). x.running) mid-here

  started-other : (b : ℕ) → b ≢ a → started_in new b ≡ started_in now b
  started-other b away = kept.started b ∙ ap (λ (x : ActorState). x.started) (mid-other b away)

  ended-other : (b : ℕ) → b ≢ a → ended_in new b ≡ ended_in now b
  ended-other b away = kept.ended b ∙ ap (λ (x : ActorState). x.ended) (mid-other b away)

  running-other : (b : ℕ) → b ≢ a → running_in new b ≡ running_in now b
  running-other b away = kept.running b ∙ ap (λ (x : ActorState). x.running) (mid-other b away)

  started-all : (b : ℕ) → started_in new b ≡ started_in now b
  started-all b = ⊎_elim (λ (e : b ≡ a). rw e (started-here ∙ one.started)) (λ (away : b ≢ a). started-other b away) (cases_eq b a)

  by : MoreBy a (s.ended - ended_in now a) (ended_in now) (ended_in new)
  by = record { here = ended-here ∙ omega (arith, one.later); others = ended-other }

  level : IsLevel net (started_in new) (ended_in new) left
  level =
      let moved : IsLevel net (started_in now) (ended_in new) left = level-puts net a (s.ended - ended_in now a) (started_in now) (ended_in now) (ended_in new) tokens left so_far.stand.level puts long_left by in
      record { long = moved.long; each = λ i there. rw (started-all (channel_at net i).target) (moved.each i there) }

  stand : Stand net new left
  stand = record {
    long = kept.long ∙ (length-set now a s ∙ so_far.stand.long);
    counts = λ b is. ⊎_elim
        (λ (e : b ≡ a).
        let rest : length s.running ≡ length (running_in now a) - (s.ended - ended_in now a) = ap length one.rest ∙ length-drop (s.ended - ended_in now a) (running_in now a) in
        let was : ended_in now a + length (running_in now a) ≡ started_in now a = so_far.stand.counts a actor in
        rw (e, ended-here, running-here, started-here, one.started) (omega (arith, rest, one.within, one.later)))
        (λ (away : b ≢ a). rw (ended-other b away, running-other b away, started-other b away) (so_far.stand.counts b is))
        (cases_eq b a);
    few = λ b is. rw (started-all b) (so_far.stand.few b is);
    level = level;
  }

  -- what the entries that stay say
  near-one : (e : Entry) → Near net moment now e → Near net moment new e
  near-one e (there, inl past) = (there, inl past)
  near-one e (there, inr is) = (
    there,
    ⊎_elim
        (λ (same : e.1 ≡ a).
        let some : 0 < length (running_in now a) = rw same at is.0 in
        let first_is : slice_index (running_in now a) 0 ≡ e.0.0 = rw same at is.1 in
        ⊎_elim
        (λ (ended : 0 < s.ended - ended_in now a).
        let low : slice_index (running_in now a) 0 ≤ moment = one.past 0 ended in
        inl (omega arith))
        (λ (none : s.ended - ended_in now a ≤ 0).
        let zero_n : s.ended - ended_in now a ≡ 0 = omega arith in
        let run : running_in new a ≡ running_in now a = running-here ∙ (rw zero_n at one.rest) in
        inr (rw (same, run) some, rw (same, run) first_is))
        (cases_lt 0 (s.ended - ended_in now a)))
        (λ (away : e.1 ≢ a). inr (rw (running-other e.1 away) is.0, rw (running-other e.1 away) is.1))
        (cases_eq e.1 a),
  )

  near : All (Near net moment new) more
  near = announced-all a mid more s.running (Near net moment new) announced
      (All-weaker (Near net moment now) (Near net moment new) near-one mid
      (All-tail (Near net moment now) (entry t a) mid (All-permutation (Near net moment now) ends (entry t a ∷ mid) taken so_far.near)))
      (λ some. (actor, inr (rw running-here some, rw running-here refl)))

  whole : HasFirsts new more
  whole b some = ⊎_elim
      (λ (e : b ≡ a).
      let here : 0 < length s.running = rw (e, running-here) at some in
      rw (e, running-here) (announced-there a mid more s.running announced here))
      (λ (away : b ≢ a).
      let there : 0 < length (running_in now b) = rw (running-other b away) at some in
      rw (running-other b away) (announced-kept a mid more s.running (entry (slice_index (running_in now b) 0) b) announced
      (besides ends mid (entry t a) (entry (slice_index (running_in now b) 0) b) taken away (so_far.whole b there))))
      (cases_eq b a)

  pub ends-more : EndsSoFar net moment first new left more longer
  ends-more = record {
    long = kept.long ∙ (length-set now a s ∙ so_far.long);
    ones = λ b is. ⊎_elim
        (λ (e : b ≡ a). subst (λ (x : ℕ). EndsSome moment (slice_index_or first x idle) (slice_index_or new x idle)) (sym e) mine)
        (λ (away : b ≢ a). ends_some-along moment (slice_index_or first b idle) (slice_index_or now b idle) (slice_index_or new b idle) (sym (started-other b away)) (sym (ended-other b away)) (sym (running-other b away)) (so_far.ones b is))
        (cases_eq b a);
    stand = stand;
    lacking = λ b. lacking-all b ∙ so_far.lacking b;
    fed = λ i there off lacks.
        let was_lacking : lacking_in now (channel_at net i).target ≡ i = sym (lacking-all (channel_at net i).target) ∙ lacks in
        ⊎_elim
        (λ (e : (channel_at net i).source ≡ a). inr (fed i there e off lacks))
        (λ (away : (channel_at net i).source ≢ a). ⊎_elim
        (λ (same : ended_in now (channel_at net i).source ≡ ended_in first (channel_at net i).source). inl (ended-other (channel_at net i).source away ∙ same))
        (λ (short : slice_index tokens i < phase_entry (channel_at net i).taken (started_in now (channel_at net i).target)). inr (rw (puts.others i there away, started-all (channel_at net i).target) short))
        (so_far.fed i there (untouched (channel_at net i).target off) was_lacking))
        (cases_eq (channel_at net i).source a);
    near = near;
    whole = whole;
    lists = lists;
  }
    where
      lacking-all : (b : ℕ) → lacking_in new b ≡ lacking_in now b
      lacking-all b = kept.lacking b ∙ ⊎_elim
          (λ (e : b ≡ a). rw e (ap (λ (x : ActorState). x.lacking) mid-here ∙ noted))
          (λ (away : b ≢ a). ap (λ (x : ActorState). x.lacking) (mid-other b away))
          (cases_eq b a)

      untouched : (b : ℕ) → touched_in new b ≡ false → touched_in now b ≡ false
      untouched b off = ⊎_elim
          (λ (e : b ≡ a). rw e (sym still ∙ (sym (ap (λ (x : ActorState). x.touched) mid-here) ∙ rw e at (kept.kept b off))))
          (λ (away : b ≢ a). sym (ap (λ (x : ActorState). x.touched) (mid-other b away)) ∙ kept.kept b off)
          (cases_eq b a)

      mine : EndsSome moment (slice_index_or first a idle) (slice_index_or new a idle)
      mine = ends_some-along moment (slice_index_or first a idle) s (slice_index_or new a idle) (sym started-here) (sym ended-here) (sym running-here)
          (ends-join moment (slice_index_or first a idle) (slice_index_or now a idle) s (so_far.ones a actor) one)

-- ---- no end is due any more

module _ (net : Net) (moment : ℕ) (first now : List ActorState) (tokens : List ℕ) (ends : List Entry) (touched : List ℕ) (so_far : EndsSoFar net moment first now tokens ends touched) (late : All (λ (e : Entry). moment < e.0.0) ends) where
  pub ends-all : EndsAll net moment first now
  ends-all = record {
    long = so_far.long;
    each = λ b is.
        let some = so_far.ones b is in
        let n : ℕ = ended_in now b - ended_in first b in
        record {
          started = some.started;
          later = some.later;
          within = some.within;
          rest = some.rest;
          past = some.past;
          next = λ more.
              let left : length (running_in now b) ≡ length (running_in first b) - n = ap length some.rest ∙ length-drop n (running_in first b) in
              let runs : 0 < length (running_in now b) = omega arith in
              let after : moment < slice_index (running_in now b) 0 = All-contains (λ (e : Entry). moment < e.0.0) ends (entry (slice_index (running_in now b) 0) b) late (so_far.whole b runs) in
              let read : slice_index (running_in now b) 0 ≡ slice_index (running_in first b) (n + 0) = ap (λ (xs : List ℕ). slice_index xs 0) some.rest ∙ get_or-drop n (running_in first b) 0 0 in
              let e : n + 0 ≡ n = omega arith in
              omega (arith, ap (slice_index (running_in first b)) e);
        };
    lacking = so_far.lacking;
    untouched = λ i there off lacks. ⊎_elim
        (λ (same : ended_in now (channel_at net i).source ≡ ended_in first (channel_at net i).source). inl same)
        (λ (short : slice_index tokens i < phase_entry (channel_at net i).taken (started_in now (channel_at net i).target)).
        inr (level-needs net (started_in now) (ended_in now) tokens (channel_at net i).target i so_far.stand.level (record { place = there; into = refl; short = short })))
        (so_far.fed i there off lacks);
  }

-- an entry that is taken off is that of an actor
pub due-actor : {net : Net} {moment : ℕ} {first now : List ActorState} {tokens : List ℕ} {ends mid : List Entry} {touched : List ℕ} {t a : ℕ} → EndsSoFar net moment first now tokens ends touched → IsPermutation ends (entry t a ∷ mid) → a < length net.times
due-actor {net} {moment} {first} {now} {tokens} {ends} {mid} {touched} {t} {a} so_far taken = (All-head (Near net moment now) (entry t a) mid (All-permutation (Near net moment now) ends (entry t a ∷ mid) taken so_far.near)).0

-- what still runs ends later
pub ends-late : (moment : ℕ) (old new : ActorState) → EndsOne moment old new → 0 < length new.running → moment < slice_index new.running 0
ends-late moment old new one some =
    let n : ℕ = new.ended - old.ended in
    let left : length new.running ≡ length old.running - n = ap length one.rest ∙ length-drop n old.running in
    let after : moment < slice_index old.running n = one.next (omega arith) in
    let read : slice_index new.running 0 ≡ slice_index old.running (n + 0) = ap (λ (xs : List ℕ). slice_index xs 0) one.rest ∙ get_or-drop n old.running 0 0 in
    let e : n + 0 ≡ n = omega arith in
    omega (arith, ap (slice_index old.running) e)

-- tokens are few enough to add to
pub stand-small : (net : Net) (actors : List ActorState) (tokens : List ℕ) → Lawful net → Stand net actors tokens → (i : ℕ) → i < length net.channels → slice_index tokens i ≤ 2 ^ 60
stand-small net actors tokens laws stand i there =
    let source : (channel_at net i).source < length net.times = laws.sources i there in
    let few : ended_in actors (channel_at net i).source ≤ 2 ^ 32 = omega (arith, stand.counts (channel_at net i).source source, stand.few (channel_at net i).source source) in
    let small : slice_index tokens i ≤ 2000000000 + 2 ^ 32 * 1000000 = level-small net (started_in actors) (ended_in actors) tokens (2 ^ 32) i laws stand.level there few in
    omega arith

-- an actor that lacked tokens on a channel out of another one, or on its own one, is touched, or lacks them still
pub touched-fed : (net : Net) (a : ℕ) (own : Option ℕ) (tokens channels : List ℕ) (old mid new : List ActorState) → MayOwn net a own → IsListedBut net Made a own channels → TouchesItself own a old mid → Touches net tokens channels mid new →
    (i : ℕ) → i < length net.channels → (channel_at net i).source ≡ a → touched_in new (channel_at net i).target ≡ false → lacking_in new (channel_at net i).target ≡ i →
    slice_index tokens i < phase_entry (channel_at net i).taken (started_in new (channel_at net i).target)
touched-fed net a own tokens channels old mid new may listed itself touches i there from off lacks = ⊎_elim
    (λ (is : own ≡ Some i).
    let mine : (channel_at net i).target ≡ a = (of-own (IsOwn net a) own i is may).target in
    let other : IsOther own (lacking_in mid a) = itself.other (touches.kept a (rw mine at off)) in
    let same : lacking_in mid a ≡ i = sym (touches.lacking a) ∙ rw mine at lacks in
    absurd (not-own own i is (subst (IsOther own) same other)))
    (λ (other : IsOther own i).
    let found = other-place net Made a own channels listed i there from other in
    let short : touched_in new (channel_at net i).target ≡ false → lacking_in new (channel_at net i).target ≡ i → slice_index tokens i < phase_entry (channel_at net i).taken (started_in new (channel_at net i).target) =
    subst (λ (c : ℕ). touched_in new (channel_at net c).target ≡ false → lacking_in new (channel_at net c).target ≡ c → slice_index tokens c < phase_entry (channel_at net c).taken (started_in new (channel_at net c).target)) found.2 (touches.there found.0 found.1) in
    short off lacks)
    (own-or-other own i)

-- the same over the state as it was read
pub ends-step : (net : Net) (moment : ℕ) (first now : List ActorState) (tokens left : List ℕ) (t a : ℕ) (base s : ActorState) (new : List ActorState) (ends mid more : List Entry) (touched longer : List ℕ) → base ≡ slice_index_or now a idle → a < length net.times →
    EndsSoFar net moment first now tokens ends touched → IsPermutation ends (entry t a ∷ mid) → Announces a s.running mid more → Lists net new longer →
    EndsOne moment base s → s.touched ≡ base.touched → s.lacking ≡ base.lacking → Kept (set now a s) new → PutsTokens net a base.ended (s.ended - base.ended) tokens left → length left ≡ length tokens →
    ((i : ℕ) → i < length net.channels → (channel_at net i).source ≡ a → touched_in new (channel_at net i).target ≡ false → lacking_in new (channel_at net i).target ≡ i → slice_index left i < phase_entry (channel_at net i).taken (started_in new (channel_at net i).target)) →
    EndsSoFar net moment first new left more longer
ends-step net moment first now tokens left t a base s new ends mid more touched longer was actor so_far taken announced lists one still noted kept puts long_left fed =
    ends-more net moment first now tokens left t a s new ends mid more touched longer actor so_far taken announced lists
    (subst (λ (x : ActorState). EndsOne moment x s) was one)
    (subst (λ (x : ActorState). s.touched ≡ x.touched) was still) (subst (λ (x : ActorState). s.lacking ≡ x.lacking) was noted) kept
    (subst (λ (x : ActorState). PutsTokens net a x.ended (s.ended - x.ended) tokens left) was puts) long_left
    fed
