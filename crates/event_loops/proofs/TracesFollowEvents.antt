-- The events and the starts that an execution leaves behind, event by event.
use Rattle.std.proofs.Common.{◌≡◌, ℕ, ◌+◌, ◌-◌, ◌≤◌, ◌<◌, ◌⊎◌, List, [], ◌∷◌, ◌++◌, length, inl, inr, ⊎_elim, sym, refl, ap, ◌∙◌, arith}
use Rattle.std.specs.Prelude.{slice_index}
use Rattle.std.proofs.lemmas.Bool.{cases_lt}
use Rattle.std.proofs.lemmas.List.{get_or_append_left, get_or_push, length_push}
use Rattle.sd_base.specs.Net.{Net}
use Rattle.sd_base.specs.Schedules.{HasInputs, count_of}
use Rattle.sd_base.specs.SelfTimed.{earliest, IsEvent, events_by, starts_by}
use Rattle.sd_base.specs.Lawful.{Lawful}
use Rattle.selftimed.specs.declared.engine.Stage.{Stage}
use Rattle.selftimed.specs.declared.engine.Stage.TheVariants.{Fresh, Running, Spent, OutOfMemory}
use Rattle.selftimed.specs.Moves.{IsNextEvent, ComesNext}
use Rattle.event_loops.specs.inside.Collecting.{HasStarts, AddsStarts}
use Rattle.event_loops.specs.inside.Tracing.{AreEvents, IsTrace, HasTrace, IsTraceBefore, IsLastOf, IsAllowed, AreAllowed}
use Rattle.event_loops.proofs.StartsAddUp.{has-rows, has-before, has-fewer, has-next}

-- the last event is the one up to which all are there
pub last-event : (net : Net) (now : ℕ) (moments : List ℕ) → AreEvents net now moments → IsEvent net now → IsLastOf moments now
last-event net now moments events event = by (events.all now event (omega arith))
  where
    by : (i : ℕ) × (i < length moments) × (slice_index moments i ≡ now) → IsLastOf moments now
    by (i, there, at) = (
      omega arith,
      ⊎_elim
          (λ (more : i < length moments - 1). absurd (omega (arith, events.rise i (length moments - 1) more (omega arith), (events.each (length moments - 1) (omega arith)).1)))
          (λ (end : length moments - 1 ≤ i). let e : length moments - 1 ≡ i = omega arith in rw e at)
          (cases_lt i (length moments - 1)),
    )

-- the first event
first-event : (net : Net) (t : ℕ) → t ≡ 0 → AreEvents net t (t ∷ [])
first-event net t first = record {
  each = λ i below. let e : i ≡ 0 = omega arith in rw e (inl first, omega arith);
  rise = λ i j less below. absurd (omega arith);
  all = λ u event low. (0, omega arith, omega arith);
}

-- and the next one after those that are there
more-events : (net : Net) (now t : ℕ) (moments : List ℕ) → AreEvents net now moments → IsNextEvent net now t → AreEvents net t (moments ++ t ∷ [])
more-events net now t moments events next = record { each = each; rise = rise; all = all }
  where
    old : (i : ℕ) → i < length moments → slice_index (moments ++ t ∷ []) i ≡ slice_index moments i
    old i below = get_or_append_left moments (t ∷ []) 0 i below

    new : (i : ℕ) → i ≡ length moments → slice_index (moments ++ t ∷ []) i ≡ t
    new i is = get_or_push moments t 0 i (sym is)

    place : (i : ℕ) → i < length (moments ++ t ∷ []) → (i < length moments) ⊎ (i ≡ length moments)
    place i below = ⊎_elim (λ (h : i < length moments). inl h) (λ (h : length moments ≤ i). inr (omega (arith, length_push moments t))) (cases_lt i (length moments))

    each : (i : ℕ) → i < length (moments ++ t ∷ []) → IsEvent net (slice_index (moments ++ t ∷ []) i) × (slice_index (moments ++ t ∷ []) i ≤ t)
    each i below = ⊎_elim
        (λ (h : i < length moments). let both = events.each i h in rw (old i h) (both.0, omega (arith, both.1, next.later)))
        (λ (h : i ≡ length moments). rw (new i h) (next.event, omega arith))
        (place i below)

    rise : (i j : ℕ) → i < j → j < length (moments ++ t ∷ []) → slice_index (moments ++ t ∷ []) i < slice_index (moments ++ t ∷ []) j
    rise i j less below = ⊎_elim
        (λ (h : j < length moments). rw (old i (omega arith)) (rw (old j h) (events.rise i j less h)))
        (λ (h : j ≡ length moments). let both = events.each i (omega arith) in rw (old i (omega arith)) (rw (new j h) (omega (arith, both.1, next.later))))
        (place j below)

    all : (u : ℕ) → IsEvent net u → u ≤ t → (i : ℕ) × (i < length (moments ++ t ∷ [])) × (slice_index (moments ++ t ∷ []) i ≡ u)
    all u event low = ⊎_elim
        (λ (past : now < u). ⊎_elim
        (λ (soon : u < t). absurd (next.quiet u past soon event))
        (λ (end : t ≤ u). (length moments, omega (arith, length_push moments t), new (length moments) refl ∙ (let e : t ≡ u = omega arith in e)))
        (cases_lt u t))
        (λ (h : u ≤ now). let found = events.all u event h in (found.0, omega (arith, length_push moments t, found.1), old found.0 found.1 ∙ found.2))
        (cases_lt now u)

module _ (net : Net) (laws : Lawful net) (fed : HasInputs net) where
  have-starts : (stage : Stage) (now : ℕ) (moments : List ℕ) (starts : List (List ℕ)) → HasTrace net stage now moments starts → HasStarts net stage now starts
  have-starts Fresh now moments starts have = have.1
  have-starts Running now moments starts have = have.collected
  have-starts Spent now moments starts have = absurd have
  have-starts OutOfMemory now moments starts have = absurd have

  events-next : (stage : Stage) (now t : ℕ) (moments : List ℕ) (starts : List (List ℕ)) → HasTrace net stage now moments starts → ComesNext net stage now t → AreEvents net t (moments ++ t ∷ [])
  events-next Fresh now t moments starts have next = rw have.0 (first-event net t next)
  events-next Running now t moments starts have next = more-events net now t moments have.events next
  events-next Spent now t moments starts have next = absurd have
  events-next OutOfMemory now t moments starts have next = absurd have

  pub before-rows : (t : ℕ) (moments : List ℕ) (starts : List (List ℕ)) → IsTraceBefore net t moments starts → length starts ≡ length net.times
  before-rows t moments starts before = has-rows net laws fed before.0 before.1 t starts (have-starts before.0 before.1 moments starts before.2) before.3

  pub before-fewer : (t : ℕ) (moments : List ℕ) (starts : List (List ℕ)) → IsTraceBefore net t moments starts → (a : ℕ) → a < length net.times → count_of starts a ≤ count_of (earliest net (t + 1)) a
  before-fewer t moments starts before = has-fewer net laws fed before.0 before.1 t starts (have-starts before.0 before.1 moments starts before.2) before.3

  pub before-counts : (t : ℕ) (moments : List ℕ) (starts : List (List ℕ)) → IsTraceBefore net t moments starts → (a : ℕ) → a < length net.times → count_of starts a ≡ count_of (earliest net t) a
  before-counts t moments starts before = has-before net laws fed before.0 before.1 t starts (have-starts before.0 before.1 moments starts before.2) before.3

  -- with the next event and its starts all is there up to it
  pub trace-next : (t : ℕ) (moments added : List ℕ) (starts filled : List (List ℕ)) → IsTraceBefore net t moments starts → added ≡ moments ++ t ∷ [] → AddsStarts net t starts filled → IsTrace net t added filled
  trace-next t moments added starts filled before push adds = record {
    events = rw push (events-next before.0 before.1 t moments starts before.2 before.3);
    collected = has-next net laws fed before.0 before.1 t starts filled (have-starts before.0 before.1 moments starts before.2) before.3 adds;
  }

-- what is there up to an event that is allowed is allowed
pub trace-allowed : (net : Net) (states now : ℕ) (moments : List ℕ) (starts : List (List ℕ)) → IsTrace net now moments starts → IsEvent net now → events_by net now ≤ states → starts_by net now ≤ 4000000 → AreAllowed net states moments starts
trace-allowed net states now moments starts trace event number few m last =
    let same : now ≡ m = sym (last-event net now moments trace.events event).1 ∙ last.1 in
    let all : IsAllowed net states now moments starts = record { trace = trace; number = number; few = few } in
    rw same at all

pub none-allowed : (net : Net) (states : ℕ) (moments : List ℕ) (starts : List (List ℕ)) → moments ≡ [] → AreAllowed net states moments starts
none-allowed net states moments starts none m last = absurd (let some : 1 ≤ length moments = last.0 in omega (arith, ap length none))

-- with the next event, or without it where it has too many starts, what is there stays allowed
pub allowed-next : (net : Net) (states t : ℕ) (moments added : List ℕ) (starts filled : List (List ℕ)) → AreAllowed net states moments starts → (starts_by net t ≤ 4000000 → IsTrace net t added filled) →
    (4000000 < starts_by net t → (added ≡ moments) × (filled ≡ starts)) → IsEvent net t → events_by net t ≤ states → AreAllowed net states added filled
allowed-next net states t moments added starts filled old few many event number = ⊎_elim
    (λ (more : 4000000 < starts_by net t). let same = many more in rw (same.0, same.1) old)
    (λ (less : starts_by net t ≤ 4000000). trace-allowed net states t added filled (few less) event number less)
    (cases_lt 4000000 (starts_by net t))
