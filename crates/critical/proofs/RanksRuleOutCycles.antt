-- Where what firings need on no free space ranks below them, no need cycle on no free space has the loop's rounds per time: each
-- of its firings would rank above the one before, lap after lap, and whole passes later it is the same.
use Rattle.std.proofs.Common.{◌≡◌, ℕ, zero, suc, ◌+◌, ◌*◌, ◌≤◌, ◌<◌, List, [], ◌∷◌, length, subst, sym, refl, ap, ◌∙◌, arith}
use Rattle.std.specs.Prelude.{slice_index}
use Rattle.firing.specs.declared.table.LoopTable.{LoopTable}
use Rattle.critical.specs.declared.cycle.FiringNo.{FiringNo}
use Rattle.critical.specs.declared.cycle.CycleStep.{CycleStep}
use Rattle.critical.specs.declared.cycle.NeedCycle.{NeedCycle}
use Rattle.critical.specs.declared.tight.ReadNeed.{ReadNeed}
use Rattle.sd_base.specs.Net.{Net, channel_at}
use Rattle.sd_base.specs.Schedules.{count_of, start_of, end_of}
use Rattle.sd_base.specs.SelfTimed.{earliest}
use Rattle.critical.specs.Cycles.{IsStep, IsChain, last_of, HoldsOn}
use Rattle.critical.specs.CriticalCycles.{pass_of, IsTight, AreTight}
use Rattle.critical.specs.LaterCycles.{later_firing, later_steps, later_cycle}
use Rattle.critical.specs.Spaces.{IsSpaceAt}
use Rattle.critical.specs.Unspaced.{HasNoUnspaced}
use Rattle.critical.specs.inside.Trails.{IsShortLoop, IsSecond, IsReadFrom, IsTightNeed, second_of, class_at}
use Rattle.critical.specs.inside.Searches.{IsNoSpace, HasRanks}
use Rattle.critical.proofs.PlacesTellFirings.{firing-same}
use Rattle.critical.proofs.PassesRepeat.{up_to, actors-same, counts-at, listed-many, second-from}
use Rattle.critical.proofs.TightNeeds.{just-read, tight-read}
use Rattle.critical.proofs.TightCycles.{cycle-tight}
use Rattle.critical.proofs.LaterCycles.{holds-later}
use Rattle.critical.proofs.FiringsStandApart.{first-actor}
use Rattle.critical.proofs.ReadingsAreOne.{read_in, read-is, read-passes, need-read}

abbrev AreUnspaced : Net → List CycleStep → Type 0
AreUnspaced net [] = Unit {0}
AreUnspaced net (step ∷ steps) = IsNoSpace net step.channel × AreUnspaced net steps

unspaced-steps : (net : Net) (steps : List CycleStep) → ((i c : ℕ) → i < length steps → ¬ IsSpaceAt net steps i c) → AreUnspaced net steps
unspaced-steps net [] none = tt
unspaced-steps net (step ∷ steps) none = (λ c role. none 0 c (omega arith) role, unspaced-steps net steps (λ i c below role. none (suc i) c (omega arith) role))

later-unspaced : (net : Net) (n : ℕ) (steps : List CycleStep) → AreUnspaced net steps → AreUnspaced net (later_steps net n steps)
later-unspaced net n [] unspaced = tt
later-unspaced net n (step ∷ steps) unspaced = (unspaced.0, later-unspaced net n steps unspaced.1)

module _ (net : Net) (table : LoopTable) (loop : IsShortLoop net table) where
  second-between : (b k : ℕ) → b < length net.times → count_of (earliest net (table.entry + table.period + 1)) b ≤ k → k < count_of (earliest net (table.entry + 2 * table.period + 1)) b →
      IsSecond table (record { actor = b; number = k })
  second-between b k actor started within =
      let first : table.entry + table.period + 1 ≡ table.entry + 1 * table.period + 1 = omega arith in
      let from : count_of (up_to net table 1) b ≤ k = subst (λ (t : ℕ). count_of (earliest net t) b ≤ k) first started in
      let begins : count_of (up_to net table 1) b ≡ second_of table b = second-from net loop.laws loop.inputs table loop.loop b actor in
      let many : count_of table.starts b ≡ pass_of net table.rounds b = listed-many net loop.laws loop.inputs table loop.loop b actor in
      record {
        actor = omega (arith, actors-same net loop.laws loop.inputs table loop.loop);
        from = omega arith;
        below = omega (arith, counts-at net loop.laws loop.inputs table loop.loop 2 b, counts-at net loop.laws loop.inputs table loop.loop 1 b);
      }

  module _ (ranks : HasRanks net table) where
    abbrev rank_of : FiringNo → ℕ
    rank_of x = ranks.rank (class_at table (read_in table x))

    -- the firing of a step ranks above the one that it needs
    step-rises : (from : FiringNo) (step : CycleStep) → IsStep net from step → IsTight net table.entry table.period table.rounds from step → IsNoSpace net step.channel → rank_of from < rank_of step.to
    step-rises from step is tight unspaced =
        let i : ℕ = step.channel in
        let b : ℕ = step.to.actor in
        let target : b < length net.times = subst (λ (c : ℕ). c < length net.times) is.target (loop.laws.targets i is.place) in
        let later : FiringNo = record { actor = b; number = tight.later } in
        let second : IsSecond table later = second-between b tight.later target tight.started tight.within in
        let found = need-read net table loop later second i tight.need is.place is.target tight.last in
        let need : ReadNeed = found.0 in
        let read : IsReadFrom net table i tight.need need = found.1 in
        let ends : end_of net (up_to net table 2) (channel_at net i).source tight.need ≡ start_of (up_to net table 2) b tight.later =
        subst (λ (c : ℕ). end_of net (up_to net table 2) c tight.need ≡ start_of (up_to net table 2) b tight.later) (sym is.source) tight.just in
        let edge : IsTightNeed net table later need = tight-read net loop.laws table loop later second i tight.need need is.place is.target tight.last read
        (just-read net loop.laws table loop later second i tight.need need is.place is.target tight.last read ends) in
        let falls : ranks.rank (class_at table need.firing) < ranks.rank (class_at table later) = ranks.falls later need second (record { tight = edge; unspaced = subst (IsNoSpace net) (sym read.channel) unspaced }) in
        let many : count_of table.starts b ≡ pass_of net table.rounds b = listed-many net loop.laws loop.inputs table loop.loop b target in
        let to : read_in table step.to ≡ later = read-is table later step.to second tight.down tight.up refl
        (subst (λ (v : ℕ). tight.later + tight.down * v ≡ step.to.number + tight.up * v) (sym many) tight.at_step) in
        let actors : from.actor ≡ need.firing.actor = sym is.source ∙ read.source in
        let source : need.firing.actor < length net.times = subst (λ (c : ℕ). c < length net.times) read.source (loop.laws.sources i is.place) in
        let listed : count_of table.starts need.firing.actor ≡ pass_of net table.rounds need.firing.actor = listed-many net loop.laws loop.inputs table loop.loop need.firing.actor source in
        let at_need : tight.need + tight.down * count_of table.starts need.firing.actor ≡ from.number + tight.up * count_of table.starts need.firing.actor =
        subst (λ (v : ℕ). tight.need + tight.down * v ≡ from.number + tight.up * v) (sym listed)
        (subst (λ (c : ℕ). tight.need + tight.down * pass_of net table.rounds c ≡ from.number + tight.up * pass_of net table.rounds c) actors tight.at_need) in
        let back : read_in table from ≡ need.firing = read-is table need.firing from read.second tight.down (tight.up + need.passes) actors (omega (arith, read.read, at_need)) in
        subst (λ (x : FiringNo). ranks.rank (class_at table x) < rank_of step.to) (sym back) (subst (λ (x : FiringNo). ranks.rank (class_at table need.firing) < ranks.rank (class_at table x)) (sym to) falls)

    chain-rises : (from : FiringNo) (steps : List CycleStep) → IsChain net from steps → AreTight net table.entry table.period table.rounds from steps → AreUnspaced net steps →
        rank_of from + length steps ≤ rank_of (last_of from steps)
    chain-rises from [] chain tight unspaced = omega arith
    chain-rises from (step ∷ steps) chain tight unspaced =
        let one : rank_of from < rank_of step.to = step-rises from step chain.0 tight.0 unspaced.0 in
        let rest : rank_of step.to + length steps ≤ rank_of (last_of step.to steps) = chain-rises step.to steps chain.1 tight.1 unspaced.1 in
        omega arith

    module _ (cycle : NeedCycle) (holds : HoldsOn net cycle) (same : cycle.rounds * table.period ≡ table.rounds * cycle.time) (unspaced : AreUnspaced net cycle.steps) where
      lap-rises : (n : ℕ) → rank_of (later_firing net n cycle.first) < rank_of (later_firing net (n + cycle.rounds) cycle.first)
      lap-rises n =
          let later : NeedCycle = later_cycle net n cycle in
          let on : HoldsOn net later = holds-later net loop.laws n cycle holds in
          let tight : AreTight net table.entry table.period table.rounds later.first later.steps = cycle-tight net loop.laws loop.inputs table loop.loop later on same in
          let rises : rank_of later.first + length later.steps ≤ rank_of (last_of later.first later.steps) = chain-rises later.first later.steps on.chain tight (later-unspaced net n cycle.steps unspaced) in
          let number : (last_of later.first later.steps).number ≡ cycle.first.number + (n + cycle.rounds) * slice_index net.round cycle.first.actor = on.number ∙ omega arith in
          let last : last_of later.first later.steps ≡ later_firing net (n + cycle.rounds) cycle.first = firing-same (last_of later.first later.steps) (later_firing net (n + cycle.rounds) cycle.first) on.actor number in
          let there : rank_of later.first + length later.steps ≤ rank_of (later_firing net (n + cycle.rounds) cycle.first) = subst (λ (x : FiringNo). rank_of later.first + length later.steps ≤ rank_of x) last rises in
          let some : 1 ≤ length later.steps = on.some_step in
          omega arith

      laps-rise : (k : ℕ) → rank_of (later_firing net 0 cycle.first) + k ≤ rank_of (later_firing net (k * cycle.rounds) cycle.first)
      laps-rise zero =
          let e : 0 ≡ 0 * cycle.rounds = omega arith in
          subst (λ (m : ℕ). rank_of (later_firing net 0 cycle.first) + 0 ≤ rank_of (later_firing net m cycle.first)) e (omega arith)
      laps-rise (suc k) =
          let e : k * cycle.rounds + cycle.rounds ≡ suc k * cycle.rounds = omega arith in
          let so_far : rank_of (later_firing net 0 cycle.first) + k ≤ rank_of (later_firing net (k * cycle.rounds) cycle.first) = laps-rise k in
          let next : rank_of (later_firing net (k * cycle.rounds) cycle.first) < rank_of (later_firing net (k * cycle.rounds + cycle.rounds) cycle.first) = lap-rises (k * cycle.rounds) in
          subst (λ (m : ℕ). rank_of (later_firing net 0 cycle.first) + suc k ≤ rank_of (later_firing net m cycle.first)) e (omega arith)

      no-cycle : ⊥
      no-cycle =
          let a : ℕ = cycle.first.actor in
          let actor : a < length net.times = first-actor net loop.laws cycle.first cycle.steps holds.some_step holds.chain in
          let many : count_of table.starts a ≡ pass_of net table.rounds a = listed-many net loop.laws loop.inputs table loop.loop a actor in
          let scaled : cycle.rounds * count_of table.starts a ≡ cycle.rounds * pass_of net table.rounds a = ap (λ (v : ℕ). cycle.rounds * v) many in
          let all : rank_of (later_firing net 0 cycle.first) + table.rounds ≤ rank_of (later_firing net (table.rounds * cycle.rounds) cycle.first) = laps-rise table.rounds in
          let back : read_in table (later_firing net (table.rounds * cycle.rounds) cycle.first) ≡ read_in table (later_firing net 0 cycle.first) =
          read-passes table (later_firing net (table.rounds * cycle.rounds) cycle.first) (later_firing net 0 cycle.first) cycle.rounds refl (omega arith) in
          let same_rank : rank_of (later_firing net (table.rounds * cycle.rounds) cycle.first) ≡ rank_of (later_firing net 0 cycle.first) = ap (λ (x : FiringNo). ranks.rank (class_at table x)) back in
          let turns : 1 ≤ table.rounds = loop.loop.turns in
          absurd (omega arith)

    pub none-unspaced : HasNoUnspaced net table.period table.rounds
    none-unspaced = λ cycle is same. no-cycle cycle is.holds same (unspaced-steps net cycle.steps is.none)
