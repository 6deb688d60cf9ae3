-- The times, phases and rates of an ordered net are those of its plain net, by its places.
use Rattle.std.proofs.Common.{◌≡◌, ℕ, suc, ◌%◌, ◌^◌, ◌<◌, List, [], ◌∷◌, length, map, subst, sym, refl, ap, ◌∙◌, arith}
use Rattle.std.specs.Prelude.{slice_index, slice_index_or, All}
use Rattle.std.specs.List.{range_with_len}
use Rattle.std.proofs.lemmas.List.{get_or-map, length-map}
use Rattle.std.proofs.lemmas.List.FromFn.{length-map-range_with_len, get_or-map-range_with_len, fill_by_all}
use Rattle.sd_base.specs.declared.limits.TheConstants.{RATE}
use Rattle.sd_base.specs.Net.{Channel, Net, nowhere, channel_at, total}
use Rattle.sd_base.specs.Schedules.{phases_at}
use Rattle.sd_base.specs.Lawful.{Lawful}
use Rattle.sd_base.proofs.SumsRepeatByTurns.{total-bound}
use Rattle.ordered.specs.declared.places.Place.{Place}
use Rattle.ordered.specs.declared.places.Place.TheVariants.{Kept, New}
use Rattle.ordered.specs.Orders.{AreOrders}
use Rattle.ordered.specs.OrderedNets.{ordered, phases_in, rephased, unrolled}
use Rattle.ordered.specs.inside.Places.{AreTurns, IsPlaceOf, place_in, with_places}
use Rattle.ordered.proofs.UnrolledSumsAgree.{unrolled-long, unrolled-at, unrolled-total}
use Rattle.ordered.proofs.FiringsHaveEntries.{some-phases, whole-phases}

module _ (net : Net) (laws : Lawful net) (phases : List ℕ) (places : List Place) where
  pub times-at : (a : ℕ) → a < length net.times → slice_index_or (with_places net phases places).times a [] ≡ unrolled (slice_index phases a) (slice_index_or net.times a [])
  unfolding with_places
  times-at a below = get_or-map-range_with_len (λ a. unrolled (slice_index phases a) (slice_index_or net.times a [])) 0 (length net.times) a a [] below (omega arith)

  pub times-long : length (with_places net phases places).times ≡ length net.times
  unfolding with_places
  times-long = length-map-range_with_len (λ a. unrolled (slice_index phases a) (slice_index_or net.times a [])) 0 (length net.times)

  pub phases-is : (a : ℕ) → a < length (with_places net phases places).times → phases_at (with_places net phases places) a ≡ slice_index phases a
  phases-is a below = ap length (times-at a (rw times-long at below)) ∙ unrolled-long (slice_index phases a) (slice_index_or net.times a [])

  pub time-is : (a p : ℕ) → a < length (with_places net phases places).times → p < phases_at (with_places net phases places) a →
      slice_index (slice_index_or (with_places net phases places).times a []) p ≡ slice_index (slice_index_or net.times a []) (p % phases_at net a)
  time-is a p below phase =
      ap (λ (xs : List ℕ). slice_index xs p) (times-at a (rw times-long at below)) ∙ unrolled-at (slice_index phases a) (slice_index_or net.times a []) p (rw (phases-is a below) at phase)

  pub place-below : (i : ℕ) → i < length (with_places net phases places).channels → i < length places
  unfolding with_places
  place-below i below = rw (length-map places (place_in net (slice_index phases))) at below

  -- a channel of the net, at its place
  pub channel-is : (i k : ℕ) (one : Place) → i < length (with_places net phases places).channels → one ≡ slice_index_or places i one → one ≡ Kept k →
      channel_at (with_places net phases places) i ≡ rephased (slice_index phases) (channel_at net k)
  unfolding with_places
  channel-is i k one below at is =
      let there : i < length places = rw (length-map places (place_in net (slice_index phases))) at below in
      get_or-map (place_in net (slice_index phases)) places i one nowhere there ∙ ap (place_in net (slice_index phases)) (sym at ∙ is)

  -- it is one of the net
  pub kept-below : (i k : ℕ) (one : Place) → All (IsPlaceOf net) places → i < length (with_places net phases places).channels → one ≡ slice_index_or places i one → one ≡ Kept k → k < length net.channels
  unfolding with_places
  kept-below i k one over below at is =
      let there : i < length places = rw (length-map places (place_in net (slice_index phases))) at below in
      let reach = subst (IsPlaceOf net) (sym at ∙ is) (over i one there) in
      omega arith

  module _ (turns : AreTurns net phases) (i k : ℕ) (one : Place) (over : All (IsPlaceOf net) places) (below : i < length (with_places net phases places).channels) (at : one ≡ slice_index_or places i one) (is : one ≡ Kept k) where
    here : k < length net.channels
    here = kept-below i k one over below at is

    pub made-is : (p : ℕ) → p < length (channel_at (with_places net phases places) i).made → slice_index (channel_at (with_places net phases places) i).made p ≡ slice_index (channel_at net k).made (p % phases_at net (channel_at net k).source)
    made-is p phase =
        let e = channel-is i k one below at is in
        let small : p < slice_index phases (channel_at net k).source = rw (unrolled-long (slice_index phases (channel_at net k).source) (channel_at net k).made) at (subst (λ (c : Channel). p < length c.made) e phase) in
        ap (λ (c : Channel). slice_index c.made p) e ∙ (unrolled-at (slice_index phases (channel_at net k).source) (channel_at net k).made p small
        ∙ ap (λ (n : ℕ). slice_index (channel_at net k).made (p % n)) (laws.made_phases k here))

    pub taken-is : (p : ℕ) → p < length (channel_at (with_places net phases places) i).taken → slice_index (channel_at (with_places net phases places) i).taken p ≡ slice_index (channel_at net k).taken (p % phases_at net (channel_at net k).target)
    taken-is p phase =
        let e = channel-is i k one below at is in
        let small : p < slice_index phases (channel_at net k).target = rw (unrolled-long (slice_index phases (channel_at net k).target) (channel_at net k).taken) at (subst (λ (c : Channel). p < length c.taken) e phase) in
        ap (λ (c : Channel). slice_index c.taken p) e ∙ (unrolled-at (slice_index phases (channel_at net k).target) (channel_at net k).taken p small
        ∙ ap (λ (n : ℕ). slice_index (channel_at net k).taken (p % n)) (laws.taken_phases k here))

    pub made-sum : (p : ℕ) → total (channel_at net k).made p ≡ total (channel_at (with_places net phases places) i).made p
    made-sum p =
        let e = channel-is i k one below at is in
        let there = laws.sources k here in
        sym (unrolled-total (slice_index phases (channel_at net k).source) (channel_at net k).made (rw (laws.made_phases k here) (turns.whole (channel_at net k).source there)) (turns.some (channel_at net k).source there) p)
        ∙ sym (ap (λ (c : Channel). total c.made p) e)

    pub taken-sum : (p : ℕ) → total (channel_at net k).taken p ≡ total (channel_at (with_places net phases places) i).taken p
    taken-sum p =
        let e = channel-is i k one below at is in
        let there = laws.targets k here in
        sym (unrolled-total (slice_index phases (channel_at net k).target) (channel_at net k).taken (rw (laws.taken_phases k here) (turns.whole (channel_at net k).target there)) (turns.some (channel_at net k).target there) p)
        ∙ sym (ap (λ (c : Channel). total c.taken p) e)

    pub made-fits : (p r : ℕ) → p < 2 ^ 32 → r ≡ total (channel_at net k).made p → r < 2 ^ 64
    made-fits p r few is = let bound = total-bound (channel_at net k).made RATE p (λ q. laws.small_made k q here) in omega arith

    pub taken-fits : (p r : ℕ) → p < 2 ^ 32 → r ≡ total (channel_at net k).taken p → r < 2 ^ 64
    taken-fits p r few is = let bound = total-bound (channel_at net k).taken RATE p (λ q. laws.small_taken k q here) in omega arith

-- ---- the net of orders

module _ (net : Net) (laws : Lawful net) (orders : List (List ℕ)) (are : AreOrders net orders) (phases : List ℕ) (is : phases ≡ map (phases_in net orders) (range_with_len 0 (length net.times))) where
  pub phase-at : (a : ℕ) → a < length net.times → slice_index phases a ≡ phases_in net orders a
  phase-at a below = ap (λ (xs : List ℕ). slice_index xs a) is ∙ get_or-map-range_with_len (phases_in net orders) 0 (length net.times) a a 0 below (omega arith)

  pub turns-of : AreTurns net phases
  turns-of = record {
    actors = ap length is ∙ length-map-range_with_len (phases_in net orders) 0 (length net.times);
    some = λ a below. rw (phase-at a below) (some-phases net laws orders a below);
    whole = λ a below. rw (phase-at a below) (whole-phases net laws orders a below);
  }

  same-place : (p : Place) → IsPlaceOf net p → place_in net (slice_index phases) p ≡ place_in net (phases_in net orders) p
  same-place (Kept k) over =
      let below : k < length net.channels = omega arith in
      ap (λ (n : ℕ). record { source = (channel_at net k).source; target = (channel_at net k).target; made = unrolled n (channel_at net k).made; taken = unrolled (slice_index phases (channel_at net k).target) (channel_at net k).taken; tokens = (channel_at net k).tokens; size = (channel_at net k).size; role = (channel_at net k).role })
      (phase-at (channel_at net k).source (laws.sources k below))
      ∙ ap (λ (n : ℕ). record { source = (channel_at net k).source; target = (channel_at net k).target; made = unrolled (phases_in net orders (channel_at net k).source) (channel_at net k).made; taken = unrolled n (channel_at net k).taken; tokens = (channel_at net k).tokens; size = (channel_at net k).size; role = (channel_at net k).role })
      (phase-at (channel_at net k).target (laws.targets k below))
  same-place (New c) over = refl

  same-places : (places : List Place) → All (IsPlaceOf net) places → map (place_in net (slice_index phases)) places ≡ map (place_in net (phases_in net orders)) places
  same-places [] over = refl
  same-places (p ∷ places) over =
      ap (λ (c : Channel). c ∷ map (place_in net (slice_index phases)) places) (same-place p (over 0 p (omega arith)))
      ∙ ap (λ (cs : List Channel). place_in net (phases_in net orders) p ∷ cs) (same-places places (λ k d below. over (suc k) d (omega arith)))

  same-times : map (λ a. unrolled (slice_index phases a) (slice_index_or net.times a [])) (range_with_len 0 (length net.times)) ≡ map (λ a. unrolled (phases_in net orders a) (slice_index_or net.times a [])) (range_with_len 0 (length net.times))
  same-times = fill_by_all (λ a. unrolled (phases_in net orders a) (slice_index_or net.times a [])) (map (λ a. unrolled (slice_index phases a) (slice_index_or net.times a [])) (range_with_len 0 (length net.times))) (length net.times) []
      (length-map-range_with_len (λ a. unrolled (slice_index phases a) (slice_index_or net.times a [])) 0 (length net.times))
      (λ a below. get_or-map-range_with_len (λ a. unrolled (slice_index phases a) (slice_index_or net.times a [])) 0 (length net.times) a a [] below (omega arith)
      ∙ ap (λ (n : ℕ). unrolled n (slice_index_or net.times a [])) (phase-at a below))

  -- the parts are those of the ordered net
  pub parts-ordered : (places : List Place) → All (IsPlaceOf net) places → map (place_in net (phases_in net orders)) places ≡ (ordered net orders).channels → with_places net phases places ≡ ordered net orders
  unfolding with_places
  parts-ordered places over channels =
      ap (λ (ts : List (List ℕ)). record { times = ts; channels = map (place_in net (slice_index phases)) places; round = net.round }) same-times
      ∙ ap (λ (cs : List Channel). record { times = (ordered net orders).times; channels = cs; round = net.round }) (same-places places over ∙ channels)
