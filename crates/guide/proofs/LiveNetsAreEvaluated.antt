-- The loop of a live bounded net and its critical cycle are what is promised of its distribution.
use Rattle.std.proofs.Common.{◌≡◌, ℕ, ◌*◌, ◌≤◌, ◌<◌, Option, Some, List, [], ◌∷◌, length, inl, inr, ⊎_elim, subst, ap, arith, mul-le-mul_left}
use Rattle.std.specs.Prelude.{slice_get}
use Rattle.std.proofs.Math.Nat.{eq_of_mul-eq-mul_left, le_of_mul-le-mul_left}
use Rattle.std.proofs.lemmas.Bool.{cases_lt}
use Rattle.sd_base.specs.declared.numbers.Fraction.{Fraction}
use Rattle.sd_base.specs.Net.{Channel, Net, channel_at}
use Rattle.sd_base.specs.Connection.{IsWalk, IsConnected, ends_of}
use Rattle.sd_base.proofs.PathsAreWalks.{IsChannel, channel-of, pair-of}
use Rattle.firing.specs.declared.table.LoopTable.{LoopTable}
use Rattle.lasso.specs.LoopAnswers.{IsFound}
use Rattle.critical.specs.declared.cycle.NeedCycle.{NeedCycle}
use Rattle.critical.specs.CriticalCycles.{IsCriticalCycleOf}
use Rattle.critical.specs.Spaces.{AreSpaces}
use Rattle.storage.specs.BoundedNets.{bound}
use Rattle.storage.proofs.SpaceChannels.{bound-front, bound-long}
use Rattle.guide.specs.declared.rating.Outcome.TheVariants.{Live}
use Rattle.storage.specs.RoomElsewhere.{CyclesBoundRoomierNets}
use Rattle.guide.specs.Evaluations.{IsEvaluated, Bounds}

-- a walk of the net is one of the bounded net
walk-on : (net : Net) (ds : List (Option ℕ)) (a : ℕ) (walk : List ℕ) (b : ℕ) → IsWalk (ends_of net) a walk b → IsWalk (ends_of (bound net ds)) a walk b
walk-on net ds a [] b same = same
walk-on net ds a (k ∷ walk) b (e, is, step) = (e, pair, ⊎_elim (λ (on : (a ≡ e.0) × IsWalk (ends_of net) e.1 walk b). inl (on.0, walk-on net ds e.1 walk b on.1)) (λ (back : (a ≡ e.1) × IsWalk (ends_of net) e.0 walk b). inr (back.0, walk-on net ds e.0 walk b back.1)) step)
  where
    pair : slice_get (ends_of (bound net ds)) k ≡ Some e
    pair =
        let at : IsChannel net k e = channel-of net k e is in
        let there = pair-of (bound net ds) k (omega (arith, at.place, bound-long net ds)) in
        let front : slice_get (ends_of (bound net ds)) k ≡ Some ((channel_at net k).source, (channel_at net k).target) = subst (λ (c : Channel). slice_get (ends_of (bound net ds)) k ≡ Some (c.source, c.target)) (bound-front net ds k at.place) there in
        let source : slice_get (ends_of (bound net ds)) k ≡ Some (e.0, (channel_at net k).target) = subst (λ (x : ℕ). slice_get (ends_of (bound net ds)) k ≡ Some (x, (channel_at net k).target)) at.source front in
        subst (λ (x : ℕ). slice_get (ends_of (bound net ds)) k ≡ Some (e.0, x)) at.target source

pub bound-connected : (net : Net) (ds : List (Option ℕ)) → IsConnected net → IsConnected (bound net ds)
bound-connected net ds connected a actor = let way = connected a actor in (way.0, walk-on net ds 0 way.0 a way.1)

module _ (net : Net) (ds : List (Option ℕ)) (states : ℕ) (table : LoopTable) (cycle : NeedCycle) (rate : Fraction) (enlarge : List ℕ) (found : IsFound (bound net ds) states table) (critical : IsCriticalCycleOf (bound net ds) table cycle) (factor : (g : ℕ) × (table.rounds ≡ g * rate.num) × (table.period ≡ g * rate.den)) (spaces : AreSpaces (bound net ds) cycle.steps (length cycle.steps) enlarge) (facts : CyclesBoundRoomierNets) where
  some-factor : 1 ≤ factor.0
  some-factor = ⊎_elim (λ (none : factor.0 < 1). absurd (let zero_here : factor.0 ≡ 0 = omega arith in let nothing : factor.0 * rate.num ≡ 0 * rate.num = ap (λ (x : ℕ). x * rate.num) zero_here in omega (arith, factor.1, found.loop.turns))) (λ (h : 1 ≤ factor.0). h) (cases_lt factor.0 1)

  same : cycle.rounds * rate.den ≡ rate.num * cycle.time
  same =
      let left : cycle.rounds * table.period ≡ cycle.rounds * (factor.0 * rate.den) = ap (λ (x : ℕ). cycle.rounds * x) factor.2 in
      let right : table.rounds * cycle.time ≡ (factor.0 * rate.num) * cycle.time = ap (λ (x : ℕ). x * cycle.time) factor.1 in
      let both : factor.0 * (cycle.rounds * rate.den) ≡ factor.0 * (rate.num * cycle.time) = omega (arith, critical.rate) in
      eq_of_mul-eq-mul_left factor.0 some-factor (cycle.rounds * rate.den) (rate.num * cycle.time) both

  bounds : Bounds net ds rate enlarge
  bounds es p q most agrees laws other =
      let bound_by : p * cycle.time ≤ cycle.rounds * q = facts net ds es cycle enlarge p q most critical.holds spaces agrees laws other in
      let up : rate.num * (p * cycle.time) ≤ rate.num * (cycle.rounds * q) = mul-le-mul_left rate.num bound_by in
      let turned : p * (cycle.rounds * rate.den) ≡ p * (rate.num * cycle.time) = ap (λ (x : ℕ). p * x) same in
      let scaled : cycle.rounds * (p * rate.den) ≤ cycle.rounds * (rate.num * q) = omega arith in
      le_of_mul-le-mul_left scaled critical.holds.some_round

  pub live-evaluated : IsEvaluated net ds states (record { rate = rate; enlarge = enlarge; outcome = Live table cycle })
  live-evaluated = record {
    rate = found.rate rate.num rate.den factor.0 factor.1 factor.2 rate.lowest;
    outcome = record { found = found; critical = critical; same = same; channels = spaces };
    bounds = bounds;
  }
