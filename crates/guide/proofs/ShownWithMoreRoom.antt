-- What an evaluation shows holds back each distribution that has no less room anywhere, and just as much on what it shows: that
-- one has the same rate, and what is shown is in its guide.
use Rattle.std.proofs.Common.{◌≡◌, ℕ, ◌*◌, ◌≤◌, ◌<◌, Option, List, length, inl, inr, ⊎_elim, subst, sym, ap, ◌∙◌, arith, mul-le-mul}
use Rattle.std.specs.Prelude.{Contains, slice_index, slice_index_or}
use Rattle.std.proofs.Math.Nat.{eq_of_mul-eq-mul_left}
use Rattle.sd_base.specs.declared.numbers.Fraction.{Fraction}
use Rattle.sd_base.specs.Net.{Channel, Net, channel_at}
use Rattle.sd_base.specs.Lawful.{Lawful}
use Rattle.sd_base.specs.Rates.{IsLoop, Rate}
use Rattle.sd_base.specs.Untimed.{none_fired, Blocks, IsEnd, IsLive}
use Rattle.sd_base.proofs.FiringOrdersEnd.{live_or_blocked}
use Rattle.firing.specs.declared.table.LoopTable.{LoopTable}
use Rattle.critical.specs.declared.cycle.NeedCycle.{NeedCycle}
use Rattle.critical.specs.Cycles.{HoldsOn}
use Rattle.critical.specs.Spaces.{no_step, IsSpaceAt}
use Rattle.critical.specs.CriticalCycles.{AreTight}
use Rattle.critical.proofs.ListedSpacesRise.{cycle-places, number-place}
use Rattle.critical.proofs.TightCycles.{cycle-tight}
use Rattle.storage.specs.BoundedNets.{bound}
use Rattle.storage.specs.ClosedLists.{AgreesOn}
use Rattle.storage.specs.Distributions.{AtMost, capacity_at}
use Rattle.storage.specs.ShownSpaces.{ShowsSpace}
use Rattle.storage.proofs.BlockedRates.{blocked-rate}
use Rattle.storage.proofs.NeedCyclesHold.{channel-stays, holds-still}
use Rattle.storage.proofs.EasingKeepsSchedules.{eases-fires}
use Rattle.storage.proofs.BlockingStays.{blocks-still}
use Rattle.storage.proofs.SpacesJoinEnds.{bound-strong}
use Rattle.guide.specs.declared.rating.Evaluation.{Evaluation}
use Rattle.guide.specs.declared.rating.Outcome.{Outcome}
use Rattle.guide.specs.declared.rating.Outcome.TheVariants.{Live, Blocked}
use Rattle.guide.specs.Evaluations.{Bounds, IsBlockedOutcome, IsEvaluable, IsEvaluated, IsLiveOutcome, IsOutcome}
use Rattle.guide.specs.Guides.{IsInGuide}
use Rattle.guide.proofs.BoundsBelow.{rates-rise}
use Rattle.guide.proofs.MoreRoom.{more-room}
use Rattle.guide.proofs.RatesExist.{evaluable-lawful, live-loop, looped, looped-rate, looped-table}
use Rattle.guide.proofs.EnlargedAreInGuide.{chain-shows}

-- the same room on what counts show that block the first
blocked-guide : (net : Net) (ds es : List (Option ℕ)) (rate : Fraction) (enlarge counts : List ℕ) (lacks : List (Option ℕ)) → AtMost ds es → AgreesOn enlarge ds es → IsBlockedOutcome net ds rate enlarge counts lacks → (c : ℕ) → Contains enlarge c → IsInGuide net es c
blocked-guide net ds es rate enlarge counts lacks most agrees is c has = inl (slice_index counts, ends, blocks, shown)
  where
    same : (d : ℕ) → ShowsSpace net ds (slice_index counts) d → capacity_at es d ≡ capacity_at ds d
    same d shows = let at = number-place enlarge d ((is.channels d).1 shows) in subst (λ (x : ℕ). capacity_at es x ≡ capacity_at ds x) at.2 (sym (agrees at.0 at.1))

    blocks : Blocks (bound net es) (slice_index counts)
    blocks = blocks-still net ds es (slice_index counts) same is.blocked.blocks

    ends : IsEnd (bound net es) (slice_index counts)
    ends = record {
      order = is.blocked.ends.order;
      fires = eases-fires (bound net ds) (bound net es) (more-room net ds es most) is.blocked.ends.order none_fired is.blocked.ends.fires;
      counts = is.blocked.ends.counts;
      closed = blocks.closed;
    }

    shown : ShowsSpace net es (slice_index counts) c
    shown =
        let shows : ShowsSpace net ds (slice_index counts) c = (is.channels c).0 has in
        record { place = shows.place; room = shows.room; has = same c shows ∙ shows.has; short = shows.short; fed = shows.fed; full = shows.full }

module _ (net : Net) (laws : Lawful net) (ds es : List (Option ℕ)) (other : IsEvaluable net es) (most : AtMost ds es) where
  lawful : Lawful (bound net es)
  lawful = evaluable-lawful net laws es other

  module _ (rate : Fraction) (enlarge : List ℕ) (own : Rate (bound net ds) rate.num rate.den) (bounds : Bounds net ds rate enlarge) (agrees : AgreesOn enlarge ds es) where
    same-rate : (x y : ℕ) → Rate (bound net es) x y → x * rate.den ≡ rate.num * y
    same-rate x y found =
        let down : x * rate.den ≤ rate.num * y = bounds es x y most agrees lawful found in
        let up : rate.num * y ≤ x * rate.den = rates-rise net ds es rate.num rate.den x y laws most own found in
        omega arith

    -- the critical cycle of the first is one of the second's loop, with tight needs alone
    module _ (states : ℕ) (table : LoopTable) (cycle : NeedCycle) (is : IsLiveOutcome net ds states rate enlarge table cycle) where
      live : IsLive (bound net es)
      live = ⊎_elim
          (λ (h : IsLive (bound net es)). h)
          (λ (blocked : (v : ℕ → ℕ) × IsEnd (bound net es) v × Blocks (bound net es) v). absurd (
          let none : Rate (bound net es) 0 1 = blocked-rate (bound net es) lawful other.inputs (bound-strong net es other.distribution other.connected) blocked.0 blocked.2 in
          let kept : 0 * rate.den ≡ rate.num * 1 = same-rate 0 1 none in
          let zero_here : rate.num ≡ 0 = omega arith in
          let nothing : rate.num * cycle.time ≡ 0 * cycle.time = ap (λ (x : ℕ). x * cycle.time) zero_here in
          let some : 1 * 1 ≤ cycle.rounds * rate.den = mul-le-mul is.critical.holds.some_round own.positive in
          omega (arith, is.same)))
          (live_or_blocked (bound net es))

      same : (c i : ℕ) → i < length cycle.steps → IsSpaceAt (bound net ds) cycle.steps i c → capacity_at ds c ≡ capacity_at es c
      same c i below space = let at = number-place enlarge c (is.channels.all i c below space) in subst (λ (x : ℕ). capacity_at ds x ≡ capacity_at es x) at.2 (agrees at.0 at.1)

      holds : HoldsOn (bound net es) cycle
      holds = holds-still net ds es most cycle enlarge is.critical.holds is.channels agrees

      space-stays : (i c : ℕ) → i < length cycle.steps → IsSpaceAt (bound net ds) cycle.steps i c → IsSpaceAt (bound net es) cycle.steps i c
      space-stays i c below space =
          let k : ℕ = (slice_index_or cycle.steps i no_step).channel in
          let place : k < length (bound net ds).channels = cycle-places (bound net ds) cycle is.critical.holds i no_step below in
          let stays : channel_at (bound net ds) k ≡ channel_at (bound net es) k = channel-stays net ds es most k place (λ d role. same d i below role) in
          sym (ap (λ (x : Channel). x.role) stays) ∙ space

      module _ (entry period : ℕ) (loop : IsLoop (bound net es) entry period) where
        turns : cycle.rounds * period ≡ (looped net laws es other entry period loop).rounds * cycle.time
        turns =
            let rounds : ℕ = (looped net laws es other entry period loop).rounds in
            let (g, p, q, by_rounds, by_period, found) = looped-rate net laws es other entry period loop in
            let kept : p * rate.den ≡ rate.num * q = same-rate p q found in
            let scaled : g * (p * rate.den) ≡ g * (rate.num * q) = ap (λ (x : ℕ). g * x) kept in
            let left : rounds * rate.den ≡ g * p * rate.den = ap (λ (x : ℕ). x * rate.den) by_rounds in
            let right : rate.num * period ≡ rate.num * (g * q) = ap (λ (x : ℕ). rate.num * x) by_period in
            let loop_rate : rounds * rate.den ≡ rate.num * period = omega arith in
            let one : period * (cycle.rounds * rate.den) ≡ period * (rate.num * cycle.time) = ap (λ (x : ℕ). period * x) is.same in
            let two : cycle.time * (rounds * rate.den) ≡ cycle.time * (rate.num * period) = ap (λ (x : ℕ). cycle.time * x) loop_rate in
            let both : rate.den * (cycle.rounds * period) ≡ rate.den * (rounds * cycle.time) = omega arith in
            eq_of_mul-eq-mul_left rate.den own.positive (cycle.rounds * period) (rounds * cycle.time) both

        tight : AreTight (bound net es) entry period (looped net laws es other entry period loop).rounds cycle.first cycle.steps
        tight = cycle-tight (bound net es) lawful other.inputs (looped net laws es other entry period loop) (looped-table net laws es other entry period loop) cycle holds turns

      live-guide : (c : ℕ) → Contains enlarge c → IsInGuide net es c
      live-guide c has =
          let number = number-place enlarge c has in
          let at = is.channels.there number.0 number.1 in
          let space : IsSpaceAt (bound net ds) cycle.steps at.0 c = subst (IsSpaceAt (bound net ds) cycle.steps at.0) number.2 at.2 in
          let (entry, period, loop) = live-loop net laws es other live in
          inr (entry, period, loop, chain-shows (bound net es) entry period (looped net laws es other entry period loop).rounds cycle.first cycle.steps holds.chain (tight entry period loop) at.0 c at.1 (space-stays at.0 c at.1 space))

    outcome-guide : (states : ℕ) (outcome : Outcome) → IsOutcome net ds states rate enlarge outcome → (c : ℕ) → Contains enlarge c → IsInGuide net es c
    outcome-guide states (Live table cycle) is c has = live-guide states table cycle is c has
    outcome-guide states (Blocked counts lacks) is c has = blocked-guide net ds es rate enlarge counts lacks most agrees is c has

  module _ (states : ℕ) (e : Evaluation) (is : IsEvaluated net ds states e) (agrees : AgreesOn e.enlarge ds es) where
    pub evaluation-guides : (c : ℕ) → Contains e.enlarge c → IsInGuide net es c
    evaluation-guides c has = outcome-guide e.rate e.enlarge is.rate is.bounds agrees states e.outcome is.outcome c has

    pub evaluation-rates : (x y : ℕ) → Rate (bound net es) x y → x * e.rate.den ≡ e.rate.num * y
    evaluation-rates x y found = same-rate e.rate e.enlarge is.rate is.bounds agrees x y found
