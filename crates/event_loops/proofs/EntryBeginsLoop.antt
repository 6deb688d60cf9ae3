-- The entry of a loop: the first event from which on all firings are as they are a period later.
use Rattle.std.proofs.Common.{◌≡◌, ◌≢◌, ℕ, suc, ◌+◌, ◌-◌, ◌≤◌, ◌<◌, ◌⊎◌, List, length, inl, inr, ⊎_elim, subst, sym, ap, arith}
use Rattle.std.specs.Prelude.{slice_index}
use Rattle.std.proofs.lemmas.Bool.{cases_lt}
use Rattle.sd_base.specs.Net.{Net}
use Rattle.sd_base.specs.Schedules.{HasInputs}
use Rattle.sd_base.specs.SelfTimed.{earliest, IsEvent, shape_at}
use Rattle.sd_base.specs.Lawful.{Lawful}
use Rattle.sd_base.specs.Rates.{IsLoop}
use Rattle.loops.specs.declared.alike.Pair.{Pair}
use Rattle.event_loops.specs.inside.Searching.{IsPair}
use Rattle.event_loops.specs.inside.Tracing.{AreEvents}
use Rattle.loops.specs.Settling.{IsSettled}
use Rattle.event_loops.specs.inside.Entering.{IsFirstTwice, ReachFrom}
use Rattle.loops.proofs.ShapesRecur.{apart-event, apart-same, apart-least, again-event, again-back}
use Rattle.event_loops.proofs.TracesFollowEvents.{last-event}
use Rattle.loops.proofs.SettledShapesMatch.{more, settled-same}

module _ (net : Net) (laws : Lawful net) (fed : HasInputs net) where
  pub reach-from : (pair : Pair) (moments : List ℕ) → IsPair net pair → AreEvents net pair.later moments → ReachFrom moments pair.earlier pair.later
  reach-from pair moments is events =
      let start = events.all pair.earlier is.start (omega (arith, is.order)) in
      let end = events.all pair.later is.end (omega arith) in
      record {
        rise = events.rise;
        place = start.0;
        below = first start.0 end.0 start.1 end.1 (omega (arith, start.2, end.2, is.order));
        start = start.2;
        end = (last-event net pair.later moments events is.end).1;
      }
    where
      first : (i j : ℕ) → i < length moments → j < length moments → slice_index moments i < slice_index moments j → i + 1 < length moments
      first i j one other less = ⊎_elim
          (λ (h : i + 1 < length moments). h)
          (λ (past : length moments ≤ i + 1). absurd (⊎_elim
          (λ (low : j < i). omega (arith, events.rise j i low one))
          (λ (high : i ≤ j). let e : i ≡ j = omega arith in let f : slice_index moments i ≡ slice_index moments j = ap (slice_index moments) e in omega arith)
          (cases_lt j i)))
          (cases_lt (i + 1) (length moments))

  -- the events before the first twice
  module _ (pair : Pair) (is : IsPair net pair) (moments : List ℕ) (events : AreEvents net pair.later moments) (from entry : ℕ)
      (settled : IsSettled net (earliest net (suc pair.later)) (pair.later - pair.earlier) (more net laws fed pair.earlier pair.later is.order (sym is.same)) from)
      (least : (x : ℕ) → x ≤ pair.earlier → shape_at net x ≡ shape_at net (x + (pair.later - pair.earlier)) → from ≤ x)
      (twice : IsFirstTwice moments from pair.earlier (pair.later - pair.earlier) entry) where
    abbrev p : ℕ
    p = pair.later - pair.earlier

    settled-then : IsSettled net (earliest net (suc pair.later)) (pair.later - pair.earlier) (more net laws fed pair.earlier pair.later is.order (sym is.same)) entry
    settled-then a j there = ⊎_elim
        (λ like. inl like)
        (λ over. inr (record { later = omega (arith, over.later, twice.late); earlier = λ after. omega (arith, over.earlier after, twice.late) }))
        (settled a j there)

    -- no event before it has its shape a period later
    none-before : (x : ℕ) → x < entry → IsEvent net x → IsEvent net (x + (pair.later - pair.earlier)) → shape_at net x ≡ shape_at net (x + (pair.later - pair.earlier)) → ⊥
    none-before x before event twin same =
        let low : x ≤ pair.later = omega (arith, twice.soon, is.order) in
        let place = events.all x event low in
        let below : place.0 < twice.place = index-below place.0 place.1 place.2 in
        let y_there : twice.place - 1 < length moments = omega (arith, twice.within, twice.order) in
        let y_event : IsEvent net (slice_index moments (twice.place - 1)) = (events.each (twice.place - 1) y_there).0 in
        let from_x : x ≤ slice_index moments (twice.place - 1) = at-most place.0 place.1 place.2 below in
        let on : IsEvent net (slice_index moments (twice.place - 1) + (pair.later - pair.earlier)) = by from_x y_event (cases_lt x (slice_index moments (twice.place - 1))) in
        let y_before : slice_index moments (twice.place - 1) < entry = omega (arith, events.rise (twice.place - 1) twice.place (omega arith) (omega (arith, twice.within, twice.order)), twice.here) in
        twice.stop (omega arith) (omega (arith, least x (omega (arith, twice.soon)) same)) (next-twin from_x y_before on)
      where
        index-below : (i : ℕ) → i < length moments → slice_index moments i ≡ x → i < twice.place
        index-below i there at = ⊎_elim
            (λ (h : i < twice.place). h)
            (λ (past : twice.place ≤ i). absurd (⊎_elim
            (λ (less : twice.place < i). omega (arith, events.rise twice.place i less there, twice.here))
            (λ (e : i ≤ twice.place). let one : i ≡ twice.place = omega arith in let read : slice_index moments i ≡ slice_index moments twice.place = ap (slice_index moments) one in omega (arith, twice.here))
            (cases_lt twice.place i)))
            (cases_lt i twice.place)

        at-most : (i : ℕ) → i < length moments → slice_index moments i ≡ x → i < twice.place → x ≤ slice_index moments (twice.place - 1)
        at-most i there at below = ⊎_elim
            (λ (less : i < twice.place - 1). omega (arith, events.rise i (twice.place - 1) less (omega (arith, twice.within, twice.order))))
            (λ (e : twice.place - 1 ≤ i). let one : i ≡ twice.place - 1 = omega arith in let read : slice_index moments i ≡ slice_index moments (twice.place - 1) = ap (slice_index moments) one in omega arith)
            (cases_lt i (twice.place - 1))

        ahead : x < x + (pair.later - pair.earlier)
        ahead = omega (arith, is.order)

        step : x + (pair.later - pair.earlier) - x ≡ pair.later - pair.earlier
        step = omega arith

        by : x ≤ slice_index moments (twice.place - 1) → IsEvent net (slice_index moments (twice.place - 1)) →
            (x < slice_index moments (twice.place - 1)) ⊎ (slice_index moments (twice.place - 1) ≤ x) → IsEvent net (slice_index moments (twice.place - 1) + (pair.later - pair.earlier))
        by le y_event (inl less) = subst (λ (d : ℕ). IsEvent net (slice_index moments (twice.place - 1) + d)) step (again-event net laws fed x (x + (pair.later - pair.earlier)) ahead same (slice_index moments (twice.place - 1)) less y_event)
        by le y_event (inr more_or_same) = let e : x ≡ slice_index moments (twice.place - 1) = omega arith in rw e at twin

        next-twin : x ≤ slice_index moments (twice.place - 1) → slice_index moments (twice.place - 1) < entry → IsEvent net (slice_index moments (twice.place - 1) + (pair.later - pair.earlier)) →
            slice_index moments (twice.place - 1) + (pair.later - pair.earlier) ≡ slice_index moments (twice.twin - 1)
        next-twin le y_before on =
            let within : slice_index moments (twice.place - 1) + (pair.later - pair.earlier) ≤ pair.later = omega (arith, twice.soon, is.order) in
            let found = events.all (slice_index moments (twice.place - 1) + (pair.later - pair.earlier)) on within in
            let lower : found.0 < twice.twin = lower-index found.0 found.1 (omega (arith, found.2, twice.there)) in
            last found.0 found.1 found.2 lower (cases_lt found.0 (twice.twin - 1))
          where
            lower-index : (k : ℕ) → k < length moments → slice_index moments k < slice_index moments twice.twin → k < twice.twin
            lower-index k there less = ⊎_elim
                (λ (h : k < twice.twin). h)
                (λ (past : twice.twin ≤ k). absurd (⊎_elim
                (λ (above : twice.twin < k). omega (arith, events.rise twice.twin k above there))
                (λ (e : k ≤ twice.twin). let one : k ≡ twice.twin = omega arith in let read : slice_index moments k ≡ slice_index moments twice.twin = ap (slice_index moments) one in omega arith)
                (cases_lt twice.twin k)))
                (cases_lt k twice.twin)

            between-none : (k : ℕ) → k < length moments → slice_index moments (twice.place - 1) < slice_index moments k → slice_index moments k < slice_index moments twice.place → ⊥
            between-none k there low high = ⊎_elim
                (λ (h : k < twice.place). ⊎_elim
                (λ (less : k < twice.place - 1). omega (arith, events.rise k (twice.place - 1) less (omega (arith, twice.within, twice.order))))
                (λ (e : twice.place - 1 ≤ k). let one : k ≡ twice.place - 1 = omega arith in let read : slice_index moments k ≡ slice_index moments (twice.place - 1) = ap (slice_index moments) one in omega arith)
                (cases_lt k (twice.place - 1)))
                (λ (past : twice.place ≤ k). ⊎_elim
                (λ (above : twice.place < k). omega (arith, events.rise twice.place k above there))
                (λ (e : k ≤ twice.place). let one : k ≡ twice.place = omega arith in let read : slice_index moments k ≡ slice_index moments twice.place = ap (slice_index moments) one in omega arith)
                (cases_lt twice.place k))
                (cases_lt k twice.place)

            last : (k : ℕ) → k < length moments → slice_index moments k ≡ slice_index moments (twice.place - 1) + (pair.later - pair.earlier) → k < twice.twin → (k < twice.twin - 1) ⊎ (twice.twin - 1 ≤ k) →
                slice_index moments (twice.place - 1) + (pair.later - pair.earlier) ≡ slice_index moments (twice.twin - 1)
            last k there at lower (inr same_place) = let e : k ≡ twice.twin - 1 = omega arith in let h : slice_index moments (twice.place - 1) + (pair.later - pair.earlier) ≡ slice_index moments k = sym at in rw e at h
            last k there at lower (inl between) = absurd (
                let z_there : twice.twin - 1 < length moments = omega (arith, twice.within) in
                let z_event : IsEvent net (slice_index moments (twice.twin - 1)) = (events.each (twice.twin - 1) z_there).0 in
                let above : slice_index moments k < slice_index moments (twice.twin - 1) = events.rise k (twice.twin - 1) between z_there in
                let under : slice_index moments (twice.twin - 1) < slice_index moments twice.twin = events.rise (twice.twin - 1) twice.twin (omega arith) twice.within in
                let back : (slice_index moments (twice.twin - 1) - (pair.later - pair.earlier)) + (pair.later - pair.earlier) ≡ slice_index moments (twice.twin - 1) = omega arith in
                let z_back : IsEvent net (slice_index moments (twice.twin - 1) - (pair.later - pair.earlier)) =
                again-back net laws fed x (x + (pair.later - pair.earlier)) ahead same (slice_index moments (twice.twin - 1) - (pair.later - pair.earlier)) (omega arith) (subst (λ (d : ℕ). IsEvent net (slice_index moments (twice.twin - 1) - (pair.later - pair.earlier) + d)) (sym step) (rw back z_event)) in
                let low : slice_index moments (twice.twin - 1) - (pair.later - pair.earlier) ≤ pair.later = omega (arith, twice.soon, twice.there, is.order) in
                let mid = events.all (slice_index moments (twice.twin - 1) - (pair.later - pair.earlier)) z_back low in
                between-none mid.0 mid.1 (omega (arith, mid.2)) (omega (arith, mid.2, twice.here, twice.there)))

    pub entry-loops : IsLoop net entry (pair.later - pair.earlier)
    entry-loops = record {
      enters = rw twice.here at (events.each twice.place (omega (arith, twice.within, twice.order))).0;
      repeats = rw twice.there at (events.each twice.twin twice.within).0;
      passes = omega (arith, is.order);
      same = settled-same net laws fed pair.earlier pair.later is.order (sym is.same) entry twice.soon settled-then;
      first = λ t u one other less before equal.
          let end : pair.earlier + (pair.later - pair.earlier) ≡ pair.later = omega (arith, is.order) in
          let some : 1 ≤ pair.later - pair.earlier = omega (arith, is.order) in
          let later_event : IsEvent net (pair.earlier + (pair.later - pair.earlier)) = rw end is.end in
          let later_same : shape_at net pair.earlier ≡ shape_at net (pair.earlier + (pair.later - pair.earlier)) = rw end (sym is.same) in
          let no_sooner : (x : ℕ) → IsEvent net x → pair.earlier < x → x < pair.earlier + (pair.later - pair.earlier) → shape_at net x ≢ shape_at net pair.earlier =
          λ x event after soon. is.first x event after (omega arith) in
          let twin : IsEvent net (t + (pair.later - pair.earlier)) = apart-event net laws fed pair.earlier (pair.later - pair.earlier) some is.start later_event later_same no_sooner t u less one other equal in
          let like : shape_at net t ≡ shape_at net (t + (pair.later - pair.earlier)) = apart-same net laws fed pair.earlier (pair.later - pair.earlier) some is.start later_event later_same no_sooner t u less one other equal in
          let apart : t + (pair.later - pair.earlier) ≤ u = apart-least net laws fed pair.earlier (pair.later - pair.earlier) some is.start later_event later_same no_sooner t u less one other equal in
          none-before t (omega arith) one twin like;
    }
