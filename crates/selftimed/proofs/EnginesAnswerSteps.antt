-- What an engine answers.
use Rattle.std.proofs.Common.{◌≡◌, ◌≢◌, ℕ, zero, suc, ◌+◌, ◌≤◌, ◌<◌, false, List, [], length, map, replicate, inr, ⊎_elim, subst, zero-add, sym, refl, ap, ◌∙◌, arith}
use Rattle.std.specs.Prelude.{slice_index, slice_index_or}
use Rattle.std.proofs.lemmas.Bool.{cases_lt, false≢true}
use Rattle.std.proofs.lemmas.List.{get_or-map, get_or_past, get_or-replicate, length-map, length-replicate}
use Rattle.std.proofs.lemmas.List.Elements.{All-nil}
use Rattle.std.proofs.lemmas.List.FromFn.{length-range_with_len, get_or-range_with_len}
use Rattle.std.specs.List.{sum_by, range_with_len}
use Rattle.sd_base.specs.Net.{Channel, Net, nowhere, channel_at}
use Rattle.sd_base.specs.Schedules.{Lacks, count_of, HasInputs}
use Rattle.sd_base.specs.SelfTimed.{ended_by, earliest, starts_by}
use Rattle.sd_base.specs.Lawful.{Lawful}
use Rattle.sd_base.proofs.LawfulIsRegular.{regular}
use Rattle.sd_base.proofs.EndsDecideCounts.{early_at, first-counts}
use Rattle.sd_base.proofs.FiringOrdersEnd.{sum_to}
use Rattle.sd_base.proofs.SumsRepeatByTurns.{total-zero}
use Rattle.selftimed.specs.declared.actors.ActorState.{ActorState}
use Rattle.selftimed.specs.declared.engine.Stage.{Stage}
use Rattle.selftimed.specs.declared.engine.Stage.TheVariants.{Fresh, Running}
use Rattle.selftimed.specs.inside.Actors.{idle, fresh_one, started_in, ended_in, running_in, touched_in, IsFirstEnd, IsQuiet}
use Rattle.selftimed.specs.inside.EventQueues.{Entry, IsFirst, IsEventQueue}
use Rattle.selftimed.proofs.EventQueuesTellWhoRuns.{number-found, runs-place}
use Rattle.selftimed.specs.inside.Stands.{IsFresh, Stands, Begins}
use Rattle.selftimed.specs.Moves.{ComesNext, IsStuck, IsSpent, Overruns, Steps}
use Rattle.selftimed.proofs.ActorsStartAllTheyCan.{sum_to-all, sum_to-same}
use Rattle.selftimed.proofs.MovesReachNextEvent.{inputs-from, starts-sum, next-event, stuck-ended, stuck-lacks}

module _ (net : Net) (laws : Lawful net) (now most : ℕ) (actors : List ActorState) (tokens : List ℕ) (all : ℕ) (stands : Stands net now most actors tokens all) where
  pub all-starts : all ≡ starts_by net now
  all-starts =
      let long : length (earliest net (suc now)) ≡ length net.times = (early_at net (regular net laws) (inputs-from net stands.fed) (suc now)).admissible.actors in
      let e : now + 1 ≡ suc now = omega arith in
      let counts : sum_to (started_in actors) (length net.times) ≡ sum_to (count_of (earliest net (suc now))) (length net.times) = sum_to-same (count_of (earliest net (suc now))) (started_in actors) (length net.times) stands.counts in
      rw e (omega (arith, starts-sum (earliest net (suc now)) (length net.times) long, sum_to-all actors (length net.times) stands.stand.long, stands.counted.total))

  pub within-most : starts_by net now ≤ most
  within-most = omega (arith, all-starts, stands.counted.within)

  pub moved-stuck : (stage : Stage) → stage ≡ Running → IsQuiet actors → (stage ≡ stage) × (now ≡ now) × IsStuck net stage now
  moved-stuck stage runs quiet =
      let e : now + 1 ≡ suc now = omega arith in
      (refl, refl, rw (runs, e) (stuck-ended net laws now most actors tokens all stands quiet, stuck-lacks net laws now most actors tokens all stands quiet))

  -- a firing runs that hasn't ended
  pub moved-free : (t : ℕ) → IsFirstEnd actors t → (stage : Stage) → stage ≡ Running → IsStuck net stage now → ⊥
  moved-free t first stage runs stuck =
      let e : now + 1 ≡ suc now = omega arith in
      let halt : IsStuck net Running now = subst (λ (s : Stage). IsStuck net s now) runs stuck in
      let a : ℕ = first.there.0 in
      let actor : first.there.0 < length net.times = rw stands.stand.long at first.there.1 in
      let over : ended_by net now (earliest net (suc now)) first.there.0 ≡ count_of (earliest net (suc now)) first.there.0 = rw e at (halt.0 first.there.0 actor) in
      omega (arith, over, stands.counts first.there.0 actor, stands.ended first.there.0 actor, stands.stand.counts first.there.0 actor, first.there.2)

  pub moved-on : (t : ℕ) → IsFirstEnd actors t → (stage : Stage) → stage ≡ Running → ComesNext net stage now t
  moved-on t first stage runs = rw runs (next-event net laws now most actors tokens all stands t first)

pub moved-spent : (net : Net) (laws : Lawful net) (now most : ℕ) (actors : List ActorState) (tokens : List ℕ) (all : ℕ) (stands : Stands net now most actors tokens all) (t : ℕ) →
    IsFirstEnd actors t → (stage : Stage) → stage ≡ Running → Overruns net t most →
    (Stage.Spent ≡ Stage.Spent) × IsSpent net most stage now
moved-spent net laws now most actors tokens all stands t first stage runs over = (refl, inr (t, moved-on net laws now most actors tokens all stands t first stage runs, over))

pub moved-step : (net : Net) (laws : Lawful net) (now most : ℕ) (actors : List ActorState) (tokens : List ℕ) (all : ℕ) (stands : Stands net now most actors tokens all) (t : ℕ) →
    IsFirstEnd actors t → (stage : Stage) → stage ≡ Running → (new : List ActorState) (left : List ℕ) (total_now : ℕ) → Stands net t most new left total_now → Steps net most stage now Running t
moved-step net laws now most actors tokens all stands t first stage runs new left total_now then = record {
  runs = refl;
  free = moved-free net laws now most actors tokens all stands t first stage runs;
  next = moved-on net laws now most actors tokens all stands t first stage runs;
  inputs = inputs-from net stands.fed;
  within = within-most net laws t most new left total_now then;
}

-- where no actor can fire, none has a start at moment 0
pub lacking-inputs : (net : Net) → ((a : ℕ) → a < length net.times → Lacks net (λ b. 0) a 0) → HasInputs net
lacking-inputs net lacks a actor = let lack : Lacks net (λ b. 0) a 0 = lacks a actor in (lack.0, lack.1, lack.2)

pub none-counted : (net : Net) → Lawful net → ((a : ℕ) → a < length net.times → Lacks net (λ b. 0) a 0) → (a : ℕ) → a < length net.times → count_of (earliest net 1) a ≡ 0
none-counted net laws lacks a actor = sym (first-counts net (regular net laws) (lacking-inputs net lacks) (λ b. 0)
    (record { enough = λ i there. omega (arith, total-zero (channel_at net i).taken) }) lacks a actor)

pub sum_to-none : (n : ℕ) → sum_to (λ a. 0) n ≡ 0
unfolding sum_to
sum_to-none zero = refl
sum_to-none (suc n) = omega (arith, sum_to-none n)

begun-none : (net : Net) (laws : Lawful net) (most : ℕ) (new : List ActorState) (left : List ℕ) (total_now : ℕ) → Stands net 0 most new left total_now → ((a : ℕ) → a < length net.times → Lacks net (λ b. 0) a 0) → total_now ≡ 0
begun-none net laws most new left total_now stands lacks =
    let none : sum_to (started_in new) (length net.times) ≡ sum_to (λ a. 0) (length net.times) = sum_to-same (λ a. 0) (started_in new) (length net.times) (λ a actor. stands.counts a actor ∙ none-counted net laws lacks a actor) in
    omega (arith, none, sum_to-none (length net.times), sum_to-all new (length net.times) stands.stand.long, stands.counted.total)

pub begun-step : (net : Net) (laws : Lawful net) (now most : ℕ) (stage : Stage) → stage ≡ Fresh → (new : List ActorState) (left : List ℕ) (total_now : ℕ) → Begins net most new left total_now → total_now ≢ 0 → Steps net most stage now Running 0
begun-step net laws now most stage is new left total_now begins some = record {
  runs = refl;
  free = λ stuck. some (begun-none net laws most new left total_now begins.stands (subst (λ (s : Stage). IsStuck net s now) is stuck));
  next = rw is refl;
  inputs = inputs-from net begins.stands.fed;
  within = within-most net laws 0 most new left total_now begins.stands;
}

-- ---- a new engine

none-started : (n : ℕ) → sum_by (λ (s : ActorState). s.started) (replicate n fresh_one) ≡ 0
none-started zero = refl
none-started (suc n) = none-started n

pub new-fresh : (net : Net) (laws : Lawful net) (most : ℕ) (actors : List ActorState) (tokens : List ℕ) → actors ≡ replicate (length net.times) fresh_one → tokens ≡ map (λ (c : Channel). c.tokens) net.channels → IsFresh net most actors tokens 0
new-fresh net laws most actors tokens is initial = record {
  stand = record {
    long = rw is (length-replicate {A = ActorState} (length net.times) fresh_one);
    counts = λ a actor. rw (ended_in, running_in, started_in, at_actor a actor) refl;
    few = λ a actor. rw (none a actor) (omega arith);
    level = record {
      long = rw initial (length-map net.channels (λ (c : Channel). c.tokens));
      each = λ i place.
          let read : slice_index tokens i ≡ (channel_at net i).tokens = rw initial (get_or-map (λ (c : Channel). c.tokens) net.channels i nowhere 0 place) in
          let source : ended_in actors (channel_at net i).source ≡ 0 = ap (λ (x : ActorState). x.ended) (at_actor (channel_at net i).source (laws.sources i place)) in
          rw (none (channel_at net i).target (laws.targets i place), source) (omega (arith, read, total-zero (channel_at net i).taken, total-zero (channel_at net i).made));
    };
  };
  counted = record { total = rw is (sym (none-started (length net.times))); within = omega arith };
  started = none;
  lacks = λ a actor calm. absurd (false≢true (sym calm ∙ ap (λ (x : ActorState). x.touched) (at_actor a actor)));
}
  where
    at_actor : (a : ℕ) → a < length net.times → slice_index_or actors a idle ≡ fresh_one
    at_actor a actor = rw is (get_or-replicate {A = ActorState} (length net.times) a fresh_one idle actor)

    none : (a : ℕ) → a < length net.times → started_in actors a ≡ 0
    none a actor = ap (λ (x : ActorState). x.started) (at_actor a actor)

-- the event queue of a new engine lists all actors
pub new-event_queue : (net : Net) (actors : List ActorState) (ends : List Entry) (touched : List ℕ) → actors ≡ replicate (length net.times) fresh_one → ends ≡ [] → touched ≡ range_with_len 0 (length net.times) → IsEventQueue net actors ends touched
new-event_queue net actors ends touched is none all = record {
  firsts = rw none (All-nil (IsFirst actors));
  whole = λ a some.
      let place : a < length net.times = in-net a (runs-place actors a some) in
      let run : length (running_in actors a) ≡ 0 = ap (λ (x : ActorState). length x.running) (at_actor a place) in
      absurd (omega arith);
  lists = record {
    within = rw all (λ k d below.
        let inside : k < length net.times = omega (arith, length-range_with_len 0 (length net.times)) in
        rw (get_or-range_with_len 0 (length net.times) k d inside) (omega arith));
    listed = λ a on. ⊎_elim
        (λ (place : a < length net.times). rw all (number-found (range_with_len 0 (length net.times)) a (a, rw (length-range_with_len 0 (length net.times)) place, get_or-range_with_len 0 (length net.times) a a place ∙ zero-add a)))
        (λ (past : length net.times ≤ a).
        let long : length actors ≡ length net.times = rw is (length-replicate {A = ActorState} (length net.times) fresh_one) in
        let off : touched_in actors a ≡ false = ap (λ (x : ActorState). x.touched) (get_or_past actors a idle (omega arith)) in
        absurd (false≢true (sym off ∙ on)))
        (cases_lt a (length net.times));
  };
}
  where
    in-net : (a : ℕ) → a < length actors → a < length net.times
    in-net a place =
        let long : length actors ≡ length net.times = rw is (length-replicate {A = ActorState} (length net.times) fresh_one) in
        omega arith

    at_actor : (a : ℕ) → a < length net.times → slice_index_or actors a idle ≡ fresh_one
    at_actor a actor = rw is (get_or-replicate {A = ActorState} (length net.times) a fresh_one idle actor)
