-- What a search that keeps one shape finds.
use Rattle.std.proofs.Common.{◌≡◌, ◌≢◌, ℕ, ◌+◌, ◌-◌, ◌≤◌, ◌<◌, ◌⊎◌, inl, inr, ⊎_elim, subst, sym, ap, arith}
use Rattle.std.proofs.lemmas.Bool.{cases_lt}
use Rattle.sd_base.specs.Net.{Net}
use Rattle.sd_base.specs.Schedules.{HasInputs}
use Rattle.sd_base.specs.SelfTimed.{IsEvent, events_by, shape_at, starts_by}
use Rattle.sd_base.specs.Lawful.{Lawful}
use Rattle.selftimed.specs.Moves.{IsNextEvent}
use Rattle.loops.specs.LoopAnswers.{IsStatesSpent, IsTooManyStarts}
use Rattle.event_loops.specs.declared.search.Checkpoint.{Checkpoint}
use Rattle.event_loops.specs.inside.Searching.{NoneSince, IsPair, IsCheckpoint, IsKept, FewBefore, IsLast, NoneSoon}
use Rattle.loops.proofs.RanksRise.{rank-first, rank-orders, rank-after, starts-rise}
use Rattle.loops.proofs.ShapesRecur.{again-shape, again-event, again-back, again-starts}

-- no event follows a moment up to itself
pub none-yet : (net : Net) (now : ℕ) → NoneSince net now now
none-yet net now = λ u event after upto same. omega arith

-- a checkpoint at an event
pub kept-here : (net : Net) (now : ℕ) (c : Checkpoint) → IsCheckpoint net c → c.moment ≡ now → IsKept net (now + 1) c
kept-here net now c is here = record { is = is; before = omega (arith, here); none = λ u event after soon same. omega (arith, here) }

-- up to the next event there are no others
pub kept-on : (net : Net) (now t : ℕ) (c : Checkpoint) → IsNextEvent net now t → IsKept net (now + 1) c → IsKept net t c
kept-on net now t c next kept = record {
  is = kept.is;
  before = omega (arith, kept.before, next.later);
  none = λ u event after soon same. ⊎_elim
      (λ (new : now < u). next.quiet u new soon event)
      (λ (old : u ≤ now). kept.none u event after (omega arith) same)
      (cases_lt now u);
}

-- an event of another shape
pub kept-past : (net : Net) (t : ℕ) (c : Checkpoint) → shape_at net t ≢ shape_at net c.moment → IsKept net t c → IsKept net (t + 1) c
kept-past net t c other kept = record {
  is = kept.is;
  before = omega (arith, kept.before);
  none = λ u event after upto same. ⊎_elim
      (λ (before : u < t). kept.none u event after before same)
      (λ (last : t ≤ u). let e : u ≡ t = omega arith in other (rw e at same))
      (cases_lt u t);
}

-- one of its shape
pub kept-pair : (net : Net) (t : ℕ) (c : Checkpoint) → IsKept net t c → IsEvent net t → shape_at net t ≡ shape_at net c.moment → IsPair net (record { earlier = c.moment; later = t })
kept-pair net t c kept event same = record { order = kept.before; start = kept.is.event; end = event; same = same; first = kept.none }

module _ (net : Net) (laws : Lawful net) (fed : HasInputs net) where
  -- the next event has another shape, too
  pub none-more : (from now t : ℕ) → NoneSince net from now → IsNextEvent net now t → shape_at net t ≢ shape_at net from → NoneSince net from t
  none-more from now t none next other = λ u event after upto same. ⊎_elim
      (λ (old : u ≤ now). none u event after old same)
      (λ (new : now < u). ⊎_elim
      (λ (before : u < t). next.quiet u new before event)
      (λ (last : t ≤ u). let e : u ≡ t = omega arith in other (rw e at same))
      (cases_lt u t))
      (swap (cases_lt now u))
    where
      swap : {a b : Type 0} → a ⊎ b → b ⊎ a
      swap (inl x) = inr x
      swap (inr x) = inl x

  -- the first later event of that shape
  pub first-since : (from now t u : ℕ) → NoneSince net from now → IsNextEvent net now t → IsEvent net u → from < u → u < t → shape_at net u ≢ shape_at net from
  first-since from now t u none next event after before same = ⊎_elim
      (λ (new : now < u). next.quiet u new before event)
      (λ (old : u ≤ now). none u event after old same)
      (cases_lt now u)

  -- events before the next one are those up to now
  pub few-before : (now t : ℕ) → starts_by net now ≤ 4000000 → IsNextEvent net now t → FewBefore net t
  few-before now t few next = λ u event before. ⊎_elim
      (λ (new : now < u). absurd (next.quiet u new before event))
      (λ (old : u ≤ now). omega (arith, starts-rise net laws fed u now old))
      (cases_lt now u)

  pub few-first : (t : ℕ) → t ≡ 0 → FewBefore net t
  few-first t first = λ u event before. omega arith

  module _ (t u : ℕ) (less : t < u) (same : shape_at net t ≡ shape_at net u) where
    -- an event of which the ones before have few starts has at most twice as many
    again-few : (x : ℕ) → u < x → IsEvent net x → IsEvent net u → FewBefore net x → starts_by net x ≤ 8000000
    again-few x after event other few =
        let back : (x - (u - t)) + (u - t) ≡ x = omega arith in
        let before : IsEvent net (x - (u - t)) = again-back net laws fed t u less same (x - (u - t)) (omega arith) (subst (IsEvent net) (sym back) event) in
        let more : starts_by net x ≤ starts_by net (x - (u - t)) + starts_by net u =
        subst (λ (y : ℕ). starts_by net y ≤ starts_by net (x - (u - t)) + starts_by net u) back (again-starts net laws fed t u less same (x - (u - t)) (omega arith)) in
        omega (arith, more, few (x - (u - t)) before (omega arith), few u other after)

  -- if shapes up to an event are equal, its own comes again soon
  pub comes-soon : (t u last : ℕ) → IsEvent net u → IsEvent net last → t < u → u ≤ last → shape_at net t ≡ shape_at net u → starts_by net u ≤ 4000000 → FewBefore net last → starts_by net last ≤ 8000000 →
      NoneSoon net last 16000000 → ⊥
  comes-soon t u last other event less upto same few before bounded none =
      let more : starts_by net (last + (u - t)) ≤ starts_by net last + starts_by net u = again-starts net laws fed t u less same last (omega arith) in
      none (last + (u - t)) (again-event net laws fed t u less same last (omega arith) event) (omega arith) (omega arith) (omega arith) (omega arith)
      (again-shape net laws fed t u less same last (omega arith))

  pub last-bounded : (t u last : ℕ) → IsEvent net u → IsEvent net last → t < u → u < last → shape_at net t ≡ shape_at net u → FewBefore net last → starts_by net last ≤ 8000000
  last-bounded t u last other event less before same few = again-few t u less same last before event other few

  -- as many shapes as were allowed differ
  pub spent-last : (states last : ℕ) → IsLast net states last → NoneSoon net last 16000000 → starts_by net last ≤ 4000000 → IsStatesSpent net states
  spent-last states last is none few = record {
    last = last;
    event = is.event;
    number = is.whole few;
    differ = λ t u one other less number same.
        let upto : u ≤ last = rank-orders net laws fed u last other (omega (arith, is.whole few)) in
        comes-soon t u last other is.event less upto same (omega (arith, starts-rise net laws fed u last upto)) is.few (omega arith) none;
    few = few;
  }

  -- more starts than were allowed come at the last one
  pub many-last : (states last : ℕ) → IsLast net states last → NoneSoon net last 16000000 → 4000000 < starts_by net last → IsTooManyStarts net states
  many-last states last is none many = record {
    last = last;
    event = is.event;
    number = is.number;
    differ = λ t u one other less before same.
        comes-soon t u last other is.event less (omega arith) same (is.few u other before) is.few (last-bounded t u last other is.event less before same is.few) none;
    many = many;
  }

  -- the next event has far too many starts
  pub many-next : (states now t : ℕ) → IsNextEvent net now t → events_by net now < states → starts_by net now ≤ 4000000 → 16000000 < starts_by net t → IsTooManyStarts net states
  many-next states now t next number few many =
      let before : FewBefore net t = few-before now t few next in
      record {
        last = t;
        event = next.event;
        number = omega (arith, rank-after net laws fed now t next);
        differ = λ x y one other less soon same. omega (arith, last-bounded x y t other next.event less soon same before);
        many = omega arith;
      }

  pub many-first : (states t : ℕ) → t ≡ 0 → 1 ≤ states → 4000000 < starts_by net t → IsTooManyStarts net states
  many-first states t first some many = record {
    last = t;
    event = inl first;
    number = omega (arith, ap (events_by net) first, rank-first net);
    differ = λ x y one other less before same. omega arith;
    many = many;
  }

  -- none comes soon: the starts of the next event are too many
  pub none-spent : (from now t most : ℕ) → NoneSince net from now → IsNextEvent net now t → most < starts_by net t → NoneSoon net from most
  none-spent from now t most none next many = λ u event after twice few within same. ⊎_elim
      (λ (new : now < u). ⊎_elim
      (λ (before : u < t). next.quiet u new before event)
      (λ (past : t ≤ u). omega (arith, starts-rise net laws fed t u past))
      (cases_lt u t))
      (λ (old : u ≤ now). none u event after old same)
      (cases_lt now u)

  -- or those of this one are
  pub none-many : (from now most : ℕ) → NoneSince net from now → starts_by net from + 4000000 < starts_by net now → NoneSoon net from most
  none-many from now most none many = λ u event after twice few within same. ⊎_elim
      (λ (new : now < u). omega (arith, starts-rise net laws fed now u (omega arith)))
      (λ (old : u ≤ now). none u event after old same)
      (cases_lt now u)

  -- or twice the moment has come
  pub none-late : (from now most : ℕ) → NoneSince net from now → from + from ≤ now → NoneSoon net from most
  none-late from now most none late = λ u event after twice few within same. none u event after (omega arith) same
