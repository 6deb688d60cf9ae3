-- What the line of a member shows is what the member shows.
use Rattle.std.proofs.Common.{◌≡◌, ℕ, ◌≤◌, ◌<◌, Option, Some, List, length, slice_get, sym, ap, subst, ◌∙◌, arith}
use Rattle.std.specs.Prelude.{slice_index, slice_index_or}
use Rattle.std.proofs.lemmas.List.{get_or-map, length-map}
use Rattle.std.proofs.lemmas.Option.{get_or_from_slice_get}
use Rattle.sd_base.specs.declared.numbers.Fraction.{Fraction}
use Rattle.sd_base.specs.Net.{Net}
use Rattle.sd_base.specs.Rates.{Rate}
use Rattle.cert_text.specs.declared.certificates.LinkStep.{LinkStep}
use Rattle.critical.specs.Spaces.{no_step}
use Rattle.critical.proofs.ListedSpacesRise.{chain-places}
use Rattle.storage.specs.BoundedNets.{HasNoSpaces, bound}
use Rattle.storage.specs.ShownSpaces.{ShowsSpace}
use Rattle.storage.proofs.BoundedChannels.{IsBounded, space-bounded}
use Rattle.storage.proofs.FrontsFromMembers.{positive-on}
use Rattle.evaluations.specs.declared.shown.Shown.{Shown}
use Rattle.evaluations.specs.declared.shown.Shown.TheVariants as shown
use Rattle.explore.specs.Explorations.{ShowsChannel, ShowsRate}
use Rattle.cert_text.specs.declared.certificates.LinkCycle.{LinkCycle}
use Rattle.cert_text.specs.declared.certificates.MemberShown.{MemberShown}
use Rattle.cert_text.specs.declared.certificates.MemberShown.TheVariants.{Cycle, Blocked}
use Rattle.cert_text.specs.MemberLines.{cycle_at, no_cycle}
use Rattle.cert_checker.specs.LinkCycles.{IsCycleLine}
use Rattle.cert_checker.specs.Schedules.{IsRateLine}
use Rattle.cert_checker.specs.ShownChannels as checked
use Rattle.cert_checker.specs.ShownChannels.{IsAlongSpace, no_link}
use Rattle.cert_checker.specs.StorageCertificates.{AreBlocking, HasRate, IsShownRight}
use Rattle.cert_maker.specs.Links.{link_cycle, link_step}
use Rattle.cert_maker.specs.StorageCertificates.{IsShownBy}
use Rattle.cert_maker.proofs.ValidRates.{cycle-line}

-- a channel that a member shows has a capacity
pub shows-bounded : (net : Net) → HasNoSpaces net → (ds : List (Option ℕ)) (states : ℕ) (rate : Fraction) (s : Shown) (c : ℕ) → ShowsRate net ds states rate s → ShowsChannel net ds s c → IsBounded net ds c
shows-bounded net none ds states rate (shown.Cycle cycle) c is shows =
    space-bounded net none ds (slice_index_or cycle.steps shows.0 no_step).channel c (chain-places (bound net ds) cycle.first cycle.steps is.2.holds.chain shows.0 no_step shows.1) shows.2
shows-bounded net none ds states rate (shown.Blocked counts) c is shows = record { place = shows.place; room = shows.room; has = shows.has }

module _ (net : Net) (ds : List (Option ℕ)) (states : ℕ) (rate : Fraction) (cycles : List LinkCycle) where
  cycle-there : (i : ℕ) (links : LinkCycle) → slice_get cycles i ≡ Some links → links ≡ cycle_at cycles i
  cycle-there i links at = sym (get_or_from_slice_get cycles i links no_cycle at)

  -- it is right
  pub shown-right : (s : Shown) (line : MemberShown) → Rate (bound net ds) rate.num rate.den → ShowsRate net ds states rate s → IsShownBy (bound net ds) cycles rate s line → IsShownRight (bound net ds) cycles line
  shown-right (shown.Cycle cycle) (Cycle r i) of_rate is by =
      let same = is.3 in
      let runs : 1 ≤ rate.num = positive-on cycle.rounds cycle.time rate.num rate.den is.2.holds.some_round of_rate.positive (omega (arith, same)) in
      let at : IsCycleLine (bound net ds) (rate.num, rate.den) (cycle_at cycles i) = subst (IsCycleLine (bound net ds) (rate.num, rate.den)) (cycle-there i (link_cycle (bound net ds) cycle) by.1) (cycle-line (bound net ds) (rate.num, rate.den) cycle is.2.holds is.3) in
      subst (λ (x : ℕ × ℕ). IsRateLine x × IsCycleLine (bound net ds) x (cycle_at cycles i)) (sym by.0) (record { some = runs; positive = of_rate.positive; lowest = of_rate.lowest }, at)
  shown-right (shown.Cycle cycle) (Blocked listed) of_rate is by = absurd by
  shown-right (shown.Blocked counts) (Cycle r i) of_rate is by = absurd by
  shown-right (shown.Blocked counts) (Blocked listed) of_rate is by = subst (AreBlocking (bound net ds)) (sym by) (record { actors = is.1.actors; blocks = is.1.blocks })

  -- a rate above 0 is listed
  pub shown-rate : (s : Shown) (line : MemberShown) → 1 ≤ rate.num → ShowsRate net ds states rate s → IsShownBy (bound net ds) cycles rate s line → HasRate line (rate.num, rate.den)
  shown-rate (shown.Cycle cycle) (Cycle r i) runs is by = (ap (λ (x : ℕ × ℕ). x.0) by.0, ap (λ (x : ℕ × ℕ). x.1) by.0)
  shown-rate (shown.Cycle cycle) (Blocked listed) runs is by = absurd by
  shown-rate (shown.Blocked counts) (Cycle r i) runs is by = absurd by
  shown-rate (shown.Blocked counts) (Blocked listed) runs is by = absurd (let none = is.2 in omega (arith, none, runs))

  -- and a rate that is listed is the member's
  pub listed-rate : (s : Shown) (r : ℕ × ℕ) (i : ℕ) → IsShownBy (bound net ds) cycles rate s (Cycle r i) → r ≡ (rate.num, rate.den)
  listed-rate (shown.Cycle cycle) r i by = by.0
  listed-rate (shown.Blocked counts) r i by = absurd by

  -- both show the same channels
  pub line-shows : (s : Shown) (line : MemberShown) (c : ℕ) → IsShownBy (bound net ds) cycles rate s line → checked.IsShownBy net cycles ds line c → ShowsChannel net ds s c
  line-shows (shown.Cycle cycle) (Cycle r i) c by along =
      let here : IsAlongSpace ds (link_cycle (bound net ds) cycle) c = subst (λ (links : LinkCycle). IsAlongSpace ds links c) (sym (cycle-there i (link_cycle (bound net ds) cycle) by.1)) along in
      let below : here.place < length cycle.steps = subst (λ (n : ℕ). here.place < n) (length-map cycle.steps (link_step (bound net ds))) here.step in
      (here.place, below, sym (ap (λ (l : LinkStep). l.link) (get_or-map (link_step (bound net ds)) cycle.steps here.place no_step no_link below)) ∙ here.link)
  line-shows (shown.Cycle cycle) (Blocked listed) c by full = absurd by
  line-shows (shown.Blocked counts) (Cycle r i) c by along = absurd by
  line-shows (shown.Blocked counts) (Blocked listed) c by full = subst (λ (xs : List ℕ). ShowsSpace net ds (slice_index xs) c) by full.shows

  pub shows-line : HasNoSpaces net → (s : Shown) (line : MemberShown) (c : ℕ) → ShowsRate net ds states rate s → IsShownBy (bound net ds) cycles rate s line → ShowsChannel net ds s c → checked.IsShownBy net cycles ds line c
  shows-line none (shown.Cycle cycle) (Cycle r i) c is by shows =
      let room = shows-bounded net none ds states rate (shown.Cycle cycle) c is shows in
      let below = shows.1 in
      subst (λ (links : LinkCycle). IsAlongSpace ds links c) (cycle-there i (link_cycle (bound net ds) cycle) by.1)
      (record {
        room = room.room;
        has = room.has;
        place = shows.0;
        step = subst (λ (n : ℕ). shows.0 < n) (sym (length-map cycle.steps (link_step (bound net ds)))) below;
        link = ap (λ (l : LinkStep). l.link) (get_or-map (link_step (bound net ds)) cycle.steps shows.0 no_step no_link below) ∙ shows.2;
      })
  shows-line none (shown.Cycle cycle) (Blocked listed) c is by shows = absurd by
  shows-line none (shown.Blocked counts) (Cycle r i) c is by shows = absurd by
  shows-line none (shown.Blocked counts) (Blocked listed) c is by shows =
      subst (λ (xs : List ℕ). checked.IsFull net ds xs c) (sym by) (record { actors = is.1.actors; shows = shows })
