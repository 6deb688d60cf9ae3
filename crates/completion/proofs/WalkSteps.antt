-- How a walk goes on.
use Rattle.std.proofs.Common.{◌≡◌, ℕ, ◌+◌, ◌-◌, ◌*◌, ◌^◌, ◌≤◌, ◌<◌, List, [], ◌∷◌, length, subst, sym, refl, ap, ◌∙◌, arith, mod-lt, set}
use Rattle.sd_base.specs.declared.limits.TheConstants.{ROUNDS, TIME}
use Rattle.std.proofs.lemmas.List.{length-set}
use Rattle.critical.specs.declared.cycle.FiringNo.{FiringNo}
use Rattle.critical.specs.declared.cycle.CycleStep.{CycleStep}
use Rattle.completion.specs.declared.counts.Part.{Part}
use Rattle.completion.specs.declared.timetable.Start.{Start}
use Rattle.completion.specs.declared.timetable.Timetable.{Timetable}
use Rattle.completion.specs.declared.walk.Walk.{Walk}
use Rattle.sd_base.specs.Net.{Net}
use Rattle.sd_base.proofs.LawfulIsRegular.{timed}
use Rattle.critical.specs.Cycles.{IsStep, IsChain, last_of}
use Rattle.completion.specs.Ways.{IsFirstTight, StartsAt, InRounds, firing_time, no_part, one_in, part_at, sum_along, time_in}
use Rattle.completion.specs.inside.Timetables.{IsLastOf, IsStart, IsTimetable, end_at, firing_of, moment_of, pass_of}
use Rattle.completion.specs.inside.Walks.{FitsTimes, IsSegment, IsTightNeed, IsWalkBack, IsWayTo, sum_before}
use Rattle.completion.proofs.ChainSumsAddUp.{along-last, part-le}
use Rattle.completion.proofs.FiringsStartOnce.{start-order}
use Rattle.completion.proofs.NeedsStayInRounds.{head-within}
use Rattle.completion.proofs.ChainsStartInTurn.{chain-count}
use Rattle.completion.proofs.TimetablesTellStarts.{few-counts}
use Rattle.completion.proofs.SegmentsBack.{IsWayWithSegments, way-with_segments}
use Rattle.completion.proofs.TightNeedsExist.{few-firings, starts}
use Rattle.completion.proofs.PartsCountFirings.{counted-more, more}

module _ (net : Net) (times : Timetable) (is : IsTimetable net times) where
  pub short-time : (x : FiringNo) → x.actor < length net.times → firing_time net x ≤ TIME
  short-time x actor = is.laws.short_times x.actor _ actor (mod-lt x.number (is.laws.some_phase x.actor actor))

  -- a tight need starts before the firing that has it
  pub need-sooner : (later earlier : Start) → IsTightNeed net later earlier → earlier.actor < length net.times → earlier.moment < later.moment
  need-sooner later earlier need actor = omega (arith, need.just, (timed net is.laws).some earlier.actor earlier.number actor)

  -- a firing of an actor that starts sooner has the lesser number
  pub numbers-order : (here kept : Start) → IsStart net times here → IsStart net times kept → here.moment < kept.moment → kept.actor ≡ here.actor → here.number < kept.number
  numbers-order here kept start start_kept less same =
      start-order net is.laws is.inputs here.actor here.number kept.number here.moment kept.moment (starts net times is here start)
      (subst (λ (b : ℕ). StartsAt net b kept.number kept.moment) same (starts net times is kept start_kept)) less

  -- a segment of no firing
  pub fresh-segment : (here : Start) (segment : List Part) → length segment ≡ length net.times → ((a : ℕ) → a < length net.times → part_at segment a ≡ no_part) → IsSegment net here here segment
  fresh-segment here segment actors none = record {
    steps = [];
    chain = tt;
    ends = refl;
    tight = tt;
    time = omega arith;
    actors = actors;
    firings = λ a actor. ap (λ (p : Part). p.firings) (none a actor);
    times = λ a actor. ap (λ (p : Part). p.time) (none a actor);
  }

  -- ---- bounds along a way

  module _ (n : ℕ) (few : n ≤ ROUNDS) (last : Start) (is_last : IsLastOf net times n last) where
    pub last-within : InRounds net n last.actor last.number
    last-within = (is_last.start.actor, omega (arith, is_last.number))

    -- an actor has few firings on a chain that leads there
    pub chain-few : (here : Start) (steps : List CycleStep) → IsStart net times here → IsChain net (firing_of here) steps → last_of (firing_of here) steps ≡ firing_of last → (a : ℕ) → a < length net.times →
        sum_along (one_in a) (firing_of here) steps ≤ 8000000000000
    chain-few here steps start chain ends a actor =
        let at_last : StartsAt net last.actor last.number last.moment = starts net times is last is_last.start in
        let count = chain-count net is.laws is.inputs a (firing_of here) steps chain here.moment last.moment (starts net times is here start) (subst (λ (x : FiringNo). StartsAt net x.actor x.number last.moment) (sym ends) at_last) in
        omega (arith, count, few-counts net times is n last.actor a last.number last.moment is_last.start.actor actor few at_last last-within.1)

    -- the first firing of it is one of the rounds
    pub chain-head : (here : Start) (steps : List CycleStep) → IsChain net (firing_of here) steps → last_of (firing_of here) steps ≡ firing_of last → InRounds net n here.actor here.number
    chain-head here steps chain ends = head-within net is.laws n (firing_of here) steps chain (subst (λ (x : FiringNo). InRounds net n x.actor x.number) (sym ends) last-within)

    pub chain-soon : (here : Start) (steps : List CycleStep) → here.moment + sum_along (firing_time net) (firing_of here) steps ≡ end_at net last → (a : ℕ) → sum_along (time_in net a) (firing_of here) steps ≤ end_at net last
    chain-soon here steps time a = omega (arith, part-le net a (firing_of here) steps)

    pub way-within : (here : Start) (parts : List Part) → IsWayTo net last here parts → InRounds net n here.actor here.number
    way-within here parts way = chain-head here way.steps way.chain way.ends

    -- no firing of it starts later than the last
    pub way-since : (here : Start) (parts : List Part) → IsWayTo net last here parts → here.moment ≤ last.moment
    way-since here parts way =
        let split : sum_along (firing_time net) (firing_of here) way.steps ≡ sum_before (firing_time net) (firing_of here) way.steps + firing_time net (last_of (firing_of here) way.steps) = along-last (firing_time net) (firing_of here) way.steps in
        let same : firing_time net (last_of (firing_of here) way.steps) ≡ firing_time net (firing_of last) = ap (firing_time net) way.ends in
        omega (arith, way.time)

    pub way-few : (here : Start) (parts : List Part) → IsStart net times here → IsWayTo net last here parts → (a : ℕ) → a < length net.times → (part_at parts a).firings ≤ 8000000000000
    way-few here parts start way a actor = rw (way.counted.firings a actor) (chain-few here way.steps start way.chain way.ends a actor)

    pub way-soon : (here : Start) (parts : List Part) → IsWayTo net last here parts → (a : ℕ) → a < length net.times → (part_at parts a).time ≤ end_at net last
    way-soon here parts way a actor = rw (way.counted.time a actor) (chain-soon here way.steps way.time a)

  -- a way of one firing
  pub way-first : (last : Start) (parts : List Part) → last.actor < length parts → length parts ≡ length net.times → ((a : ℕ) → a < length net.times → part_at parts a ≡ no_part) →
      IsWayTo net last last (set parts last.actor (more net parts (firing_of last)))
  way-first last parts place actors none = record {
    steps = [];
    chain = tt;
    ends = refl;
    tight = tt;
    time = refl;
    counted = record {
      actors = length-set parts last.actor (more net parts (firing_of last)) ∙ actors;
      firings = λ a actor.
          let nothing : (part_at parts a).firings ≡ 0 = ap (λ (p : Part). p.firings) (none a actor) in
          omega (arith, (counted-more net parts (firing_of last) place a).0);
      time = λ a actor.
          let nothing : (part_at parts a).time ≡ 0 = ap (λ (p : Part). p.time) (none a actor) in
          omega (arith, (counted-more net parts (firing_of last) place a).1);
    };
  }

  -- ---- a step back

  module _ (here needed : Start) (need : IsTightNeed net here needed) (first : IsFirstTight net need.channel (firing_of here) (firing_of needed)) where
    steps-on : IsStep net (firing_of needed) (record { channel = need.channel; to = firing_of here })
    steps-on = record { place = need.place; source = need.source; target = need.target; last = need.last }

    pub way-more : (last : Start) (parts : List Part) → needed.actor < length net.times → IsWayTo net last here parts → IsWayTo net last needed (set parts needed.actor (more net parts (firing_of needed)))
    way-more last parts actor way =
        let place : needed.actor < length parts = omega (arith, way.counted.actors) in
        record {
          steps = record { channel = need.channel; to = firing_of here } ∷ way.steps;
          chain = (steps-on, way.chain);
          ends = way.ends;
          tight = (first, way.tight);
          time = omega (arith, way.time, need.just);
          counted = record {
            actors = length-set parts needed.actor (more net parts (firing_of needed)) ∙ way.counted.actors;
            firings = λ a is_actor. omega (arith, (counted-more net parts (firing_of needed) place a).0, way.counted.firings a is_actor);
            time = λ a is_actor. omega (arith, (counted-more net parts (firing_of needed) place a).1, way.counted.time a is_actor);
          };
        }

    pub segment-more : (kept : Start) (segment : List Part) → needed.actor < length net.times → IsSegment net here kept segment → IsSegment net needed kept (set segment needed.actor (more net segment (firing_of needed)))
    segment-more kept segment actor turn =
        let place : needed.actor < length segment = omega (arith, turn.actors) in
        record {
          steps = record { channel = need.channel; to = firing_of here } ∷ turn.steps;
          chain = (steps-on, turn.chain);
          ends = turn.ends;
          tight = (first, turn.tight);
          time = omega (arith, turn.time, need.just);
          actors = length-set segment needed.actor (more net segment (firing_of needed)) ∙ turn.actors;
          firings = λ a is_actor. omega (arith, (counted-more net segment (firing_of needed) place a).0, turn.firings a is_actor);
          times = λ a is_actor. omega (arith, (counted-more net segment (firing_of needed) place a).1, turn.times a is_actor);
        }

  -- the firings of a segment are no more than there are up to the last of the rounds
  pub segment-few : (walk : Walk) → IsWalkBack net times walk → (a : ℕ) → a < length net.times → (part_at walk.segment.items a).firings ≤ 8000000000000
  segment-few walk w a actor =
      let turn = w.segment in
      let at_kept : StartsAt net walk.kept.actor walk.kept.number walk.kept.moment = starts net times is walk.kept w.kept in
      let count = chain-count net is.laws is.inputs a (firing_of walk.here) turn.steps turn.chain walk.here.moment walk.kept.moment (starts net times is walk.here w.here) (subst (λ (x : FiringNo). StartsAt net x.actor x.number walk.kept.moment) (sym turn.ends) at_kept) in
      let split : sum_along (one_in a) (firing_of walk.here) turn.steps ≡ sum_before (one_in a) (firing_of walk.here) turn.steps + one_in a (last_of (firing_of walk.here) turn.steps) = along-last (one_in a) (firing_of walk.here) turn.steps in
      let rise = Rattle.sd_base.proofs.EqualShapesRepeat.count-rises net (Rattle.sd_base.proofs.LawfulIsRegular.regular net is.laws) is.inputs (walk.kept.moment + 1) (walk.last.moment + 1) (omega (arith, w.since)) a in
      let most = few-counts net times is w.rounds walk.last.actor a walk.last.number walk.last.moment w.last.start.actor actor w.few (starts net times is walk.last w.last.start) (omega (arith, w.last.number)) in
      omega (arith, turn.firings a actor, count, rise, most)

  pub segment-soon : (walk : Walk) → IsWalkBack net times walk → (a : ℕ) → a < length net.times → (part_at walk.segment.items a).time ≤ walk.last.moment
  segment-soon walk w a actor =
      let turn = w.segment in
      let part : sum_along (time_in net a) (firing_of walk.here) turn.steps ≤ sum_along (firing_time net) (firing_of walk.here) turn.steps = part-le net a (firing_of walk.here) turn.steps in
      omega (arith, turn.times a actor, before-le a (firing_of walk.here) turn.steps, turn.time, w.since)
    where
      before-le : (a : ℕ) (from : FiringNo) (steps : List CycleStep) → sum_before (time_in net a) from steps ≤ sum_before (firing_time net) from steps
      before-le a from [] = omega arith
      before-le a from (s ∷ rest) = omega (arith, Rattle.completion.proofs.ChainSumsAddUp.one-part-le net a from, before-le a s.to rest)

  -- the firing here is kept
  pub kept-walk : (last here : Start) (parts : List Part) (n : ℕ) → n ≤ ROUNDS → IsLastOf net times n last → last.moment ≤ 2 ^ 105 → IsStart net times here → IsWayTo net last here parts →
      (new : Walk) → new.last ≡ last → new.here ≡ here → new.parts.items ≡ parts → new.kept ≡ here → length new.segment.items ≡ length net.times → ((a : ℕ) → a < length net.times → part_at new.segment.items a ≡ no_part) → IsWalkBack net times new
  kept-walk last here parts n few is_last soon start way new same_last same_here same_parts same_kept actors none = record {
    rounds = n;
    few = few;
    last = subst (IsLastOf net times n) (sym same_last) is_last;
    soon = subst (λ (x : Start). x.moment ≤ 2 ^ 105) (sym same_last) soon;
    here = subst (IsStart net times) (sym same_here) start;
    kept = subst (IsStart net times) (sym same_kept) start;
    since = subst (λ (x : Start). x.moment ≤ new.last.moment) (sym same_kept) (subst (λ (x : Start). here.moment ≤ x.moment) (sym same_last) (way-since n few last is_last here parts way));
    way = subst (λ (x : Start). IsWayTo net x new.here new.parts.items) (sym same_last) (subst (λ (x : Start). IsWayTo net last x new.parts.items) (sym same_here) (subst (IsWayTo net last here) (sym same_parts) way));
    segment = subst (λ (x : Start). IsSegment net x new.kept new.segment.items) (sym same_here) (subst (λ (x : Start). IsSegment net here x new.segment.items) (sym same_kept) (fresh-segment here new.segment.items actors none));
  }

  pub jump-number : (walk : Walk) → IsWalkBack net times walk → walk.here.number ≤ 1099511627776
  jump-number walk w =
      let within = way-within w.rounds w.few walk.last w.last walk.here walk.parts.items w.way in
      omega (arith, within.1, few-firings net is.laws w.rounds walk.here.actor w.few)

  -- ---- a jump

  module _ (walk : Walk) (w : IsWalkBack net times walk) (segments : ℕ) (fits : FitsTimes times walk.here walk.kept segments) where
    -- the firing so many segments before the one here, and the way from it
    abbrev earlier : Start
    earlier = record { actor = walk.here.actor; number = walk.here.number - segments * (fits.passes * pass_of times walk.here.actor); moment = moment_of times walk.here.actor (walk.here.number - segments * (fits.passes * pass_of times walk.here.actor)) }

    longer : IsWayWithSegments net walk.last earlier walk.here segments w.segment.steps w.way.steps
    longer = way-with_segments net times is walk.last walk.here walk.kept earlier segments walk.parts.items walk.segment.items w.here w.kept w.way w.segment fits refl refl (record { actor = w.here.actor; moment = refl })

    pub jump-few : (a : ℕ) → a < length net.times → (part_at walk.parts.items a).firings + segments * (part_at walk.segment.items a).firings ≤ 8000000000000
    jump-few a actor =
        let few = chain-few w.rounds w.few walk.last w.last earlier longer.steps (record { actor = w.here.actor; moment = refl }) longer.chain longer.ends a actor in
        let segment : segments * (part_at walk.segment.items a).firings ≡ segments * sum_before (one_in a) (firing_of walk.here) w.segment.steps = ap (λ (x : ℕ). segments * x) (w.segment.firings a actor) in
        omega (arith, few, longer.counts a, w.way.counted.firings a actor)

    pub jump-soon : (a : ℕ) → a < length net.times → (part_at walk.parts.items a).time + segments * (part_at walk.segment.items a).time < 2 ^ 106
    jump-soon a actor =
        let soon = chain-soon w.rounds w.few walk.last w.last earlier longer.steps longer.time a in
        let segment : segments * (part_at walk.segment.items a).time ≡ segments * sum_before (time_in net a) (firing_of walk.here) w.segment.steps = ap (λ (x : ℕ). segments * x) (w.segment.times a actor) in
        let short : firing_time net (firing_of walk.last) ≤ TIME = short-time (firing_of walk.last) w.last.start.actor in
        omega (arith, soon, longer.times a, w.way.counted.time a actor, w.soon)

    module _ (new : Start) (actor : new.actor ≡ walk.here.actor) (number : new.number ≡ walk.here.number - segments * (walk.kept.number - walk.here.number)) (moment : new.moment ≡ moment_of times walk.here.actor (walk.here.number - segments * (walk.kept.number - walk.here.number))) where
      number-is : new.number ≡ walk.here.number - segments * (fits.passes * pass_of times walk.here.actor)
      number-is =
          let apart : walk.kept.number - walk.here.number ≡ fits.passes * pass_of times walk.here.actor = omega (arith, fits.apart) in
          number ∙ ap (λ (x : ℕ). walk.here.number - segments * x) apart

      pub jump-start : IsStart net times new
      jump-start = record {
        actor = subst (λ (a : ℕ). a < length net.times) (sym actor) w.here.actor;
        moment = moment ∙ (ap (λ (a : ℕ). moment_of times a (walk.here.number - segments * (walk.kept.number - walk.here.number))) (sym actor) ∙ ap (moment_of times new.actor) (sym number));
      }

      with_segments : IsWayWithSegments net walk.last new walk.here segments w.segment.steps w.way.steps
      with_segments = way-with_segments net times is walk.last walk.here walk.kept new segments walk.parts.items walk.segment.items w.here w.kept w.way w.segment fits actor number-is jump-start

      pub jump-way : (parts : List Part) → length parts ≡ length walk.parts.items → ((a : ℕ) → a < length walk.parts.items → (part_at parts a).firings ≡ (part_at walk.parts.items a).firings + segments * (part_at walk.segment.items a).firings) →
          ((a : ℕ) → a < length walk.parts.items → (part_at parts a).time ≡ (part_at walk.parts.items a).time + segments * (part_at walk.segment.items a).time) → IsWayTo net walk.last new parts
      jump-way parts long firings time = record {
        steps = with_segments.steps;
        chain = with_segments.chain;
        ends = with_segments.ends;
        tight = with_segments.tight;
        time = with_segments.time;
        counted = record {
          actors = long ∙ w.way.counted.actors;
          firings = λ a is_actor.
              let segment : segments * (part_at walk.segment.items a).firings ≡ segments * sum_before (one_in a) (firing_of walk.here) w.segment.steps = ap (λ (x : ℕ). segments * x) (w.segment.firings a is_actor) in
              omega (arith, firings a (omega (arith, w.way.counted.actors)), with_segments.counts a, w.way.counted.firings a is_actor);
          time = λ a is_actor.
              let segment : segments * (part_at walk.segment.items a).time ≡ segments * sum_before (time_in net a) (firing_of walk.here) w.segment.steps = ap (λ (x : ℕ). segments * x) (w.segment.times a is_actor) in
              omega (arith, time a (omega (arith, w.way.counted.actors)), with_segments.times a, w.way.counted.time a is_actor);
        };
      }

      pub jump-moment : new.moment ≤ walk.here.moment
      jump-moment =
          omega (arith, with_segments.time, with_segments.all, w.way.time)
