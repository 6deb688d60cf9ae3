-- The first shape that comes again, found by the time to its like.
use Rattle.std.proofs.Common.{◌≡◌, ◌≢◌, ℕ, ◌+◌, ◌-◌, ◌≤◌, ◌<◌, inl, ⊎_elim, sym, refl, arith}
use Rattle.std.proofs.lemmas.Bool.{cases_lt, cases_eq}
use Rattle.std.proofs.Math.Numerals.{lt_of_le_of_ne}
use Rattle.sd_base.specs.Net.{Net}
use Rattle.sd_base.specs.Schedules.{HasInputs}
use Rattle.sd_base.specs.SelfTimed.{IsEvent, events_by, shape_at, starts_by}
use Rattle.sd_base.specs.Lawful.{Lawful}
use Rattle.selftimed.specs.declared.engine.Stage.{Stage}
use Rattle.selftimed.specs.declared.engine.Stage.TheVariants.{Fresh, Running}
use Rattle.selftimed.specs.Moves.{IsNextEvent, ComesNext}
use Rattle.loops.specs.LoopAnswers.{FirstDiffer}
use Rattle.event_loops.specs.inside.Going.{Follows, StandsAt}
use Rattle.event_loops.specs.inside.Searching.{IsPeriod, IsLikeness, IsRepeat, NoneApart}
use Rattle.loops.proofs.RanksRise.{rank-first, rank-rises, rank-grows, rank-orders}
use Rattle.loops.proofs.ShapesRecur.{apart-event, apart-same, apart-least}
use Rattle.event_loops.proofs.VisitsCountEvents.{next-visit}

pub none-apart : (net : Net) (period : ℕ) → NoneApart net period 0
none-apart net period = λ t u other few like. omega (arith, rank-first net, rank-rises net 0 u (omega arith))

module _ (net : Net) (laws : Lawful net) (fed : HasInputs net) (period : ℕ) (is : IsPeriod net period) where
  pub period-some : 1 ≤ period
  period-some = omega (arith, is.1.order)

  -- equal shapes stand so far apart, or one so far on
  pub differ-apart : (n : ℕ) → NoneApart net period n → FirstDiffer net n
  differ-apart n none t u one other less few same =
      let apart : IsEvent net (t + period) = apart-event net laws fed is.0 period period-some is.1.start is.1.end (sym is.1.same) is.1.first t u less one other same in
      let like : shape_at net t ≡ shape_at net (t + period) = apart-same net laws fed is.0 period period-some is.1.start is.1.end (sym is.1.same) is.1.first t u less one other same in
      let least : t + period ≤ u = apart-least net laws fed is.0 period period-some is.1.start is.1.end (sym is.1.same) is.1.first t u less one other same in
      none t (t + period) apart (omega (arith, rank-rises net (t + period) u least)) (record { start = one; apart = refl; same = sym like })

  -- the next event isn't like the one so far before it, or none is there
  pub apart-more : (n t : ℕ) → NoneApart net period n → IsEvent net t → events_by net t ≡ n + 1 → ((x : ℕ) → ¬ IsLikeness net period x t) → NoneApart net period (n + 1)
  apart-more n t none event number other = λ x u last few like. ⊎_elim
      (λ (here : u ≡ t). other x (rw here at like))
      (λ (away : u ≢ t).
      let order : u ≤ t = rank-orders net laws fed u t last (omega arith) in
      let before : u < t = lt_of_le_of_ne order away in
      none x u last (omega (arith, rank-grows net laws fed u t before event)) like)
      (cases_eq u t)

  -- the two engines stand at the first repeat
  pub repeat-here : (n states now entry end : ℕ) (stage : Stage) → NoneApart net period n → StandsAt net n stage now → ComesNext net stage now end → starts_by net end ≤ 4000000 → n < states →
      IsLikeness net period entry end → IsRepeat net states entry end
  repeat-here n states now entry end stage none stands next few below like =
      let event : IsEvent net end × (events_by net end ≡ n + 1) = next-visit net laws fed n stage now end stands next in
      let some : 1 ≤ period = period-some in
      let at : entry + period ≡ end = like.apart in
      let less : entry < end = omega arith in
      let back : entry + (end - entry) ≡ end = omega arith in
      let differ : FirstDiffer net n = differ-apart n none in
      record {
        later = less;
        loop = record {
          enters = like.start;
          repeats = rw back event.0;
          passes = omega arith;
          same = rw back (sym like.same);
          first = λ x y one other before soon. differ x y one other before (omega (arith, event.1, rank-grows net laws fed y end (rw back at soon) event.0));
        };
        number = omega (arith, event.1);
        few = few;
      }

-- one that follows for an event follows for a later one
pub follows-later : (net : Net) (period end later now : ℕ) → end ≤ later → Follows net period end now → Follows net period later now
follows-later net period end later now le follows = record { event = follows.event; soonest = λ u event ahead. follows.soonest u event (omega arith) }

pub follows-first : (net : Net) (period end now : ℕ) → now ≡ 0 → Follows net period end now
follows-first net period end now first = record { event = inl first; soonest = λ u event ahead. omega arith }

pub follows-next : (net : Net) (period end now t : ℕ) → Follows net period end now → now < end - period → IsNextEvent net now t → Follows net period end t
follows-next net period end now t follows behind next = record {
  event = next.event;
  soonest = λ u event ahead. ⊎_elim
      (λ (before : u < t). absurd (next.quiet u (omega arith) before event))
      (λ (h : t ≤ u). h)
      (cases_lt u t);
}

-- one that doesn't stand so far behind has no likeness there
pub follows-none : (net : Net) (period end now : ℕ) → Follows net period end now → (now + period ≡ end → ⊥) → end ≤ now + period → (x : ℕ) → ¬ IsLikeness net period x end
follows-none net period end now follows away past x like =
    let at : x + period ≡ end = like.apart in
    let le : now ≤ x = follows.soonest x like.start (omega arith) in
    away (omega arith)

-- the next event is no sooner
pub lead-later : (net : Net) (laws : Lawful net) (fed : HasInputs net) (n now t : ℕ) (stage : Stage) → StandsAt net n stage now → ComesNext net stage now t → (stage ≡ Fresh → now ≡ 0) → now ≤ t
lead-later net laws fed n now t Fresh stands next first = omega (arith, first refl)
lead-later net laws fed n now t Running stands next first = omega (arith, next.later)
lead-later net laws fed n now t Stage.Spent stands next first = absurd stands
lead-later net laws fed n now t Stage.OutOfMemory stands next first = absurd stands
