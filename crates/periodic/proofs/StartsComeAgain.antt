-- Starts that come again every period: they move by whole periods, and rise where the listed ones do.
use Rattle.std.proofs.Common.{◌≡◌, ℕ, zero, suc, ◌+◌, ◌-◌, ◌*◌, ◌/◌, ◌%◌, ◌≤◌, ◌<◌, List, length, ⊎_elim, subst, arith, mod-lt, div-add-mod', mul-le-mul}
use Rattle.std.proofs.Math.Nat.{add-mul-mod_self_right, add-mul-div_right, mod-eq_of_lt, div-eq_of_lt}
use Rattle.std.proofs.lemmas.Bool.{cases_lt}
use Rattle.std.specs.Prelude.{slice_index}
use Rattle.sd_base.specs.Net.{Net, channel_at}
use Rattle.sd_base.specs.Schedules.{count_of}
use Rattle.sd_base.proofs.LawfulIsRegular.{Wired, Balanced}
use Rattle.sd_base.proofs.RoundsKeepTokens.{Whole, whole-rounds}
use Rattle.periodic.specs.Periods.{start_in, HasRounds}
use Rattle.periodic.specs.ScheduleLines.{Rises}

-- q turns on, a firing starts q periods later
pub start-later : (period : ℕ) (row : List ℕ) (k q : ℕ) → 0 < length row → start_in period row (k + q * length row) ≡ start_in period row k + q * period
start-later period row k q some =
    let place : (k + q * length row) % length row ≡ k % length row = add-mul-mod_self_right k q (length row) in
    let turn : (k + q * length row) / length row ≡ k / length row + q = add-mul-div_right k q some in
    rw (place, turn) (omega arith)

-- the first ones are the listed ones
pub start-listed : (period : ℕ) (row : List ℕ) (k : ℕ) → k < length row → start_in period row k ≡ slice_index row k
start-listed period row k below =
    let place : k % length row ≡ k = mod-eq_of_lt below in
    let turn : k / length row ≡ 0 = div-eq_of_lt below in
    rw (place, turn) (omega arith)

module _ (period : ℕ) (row : List ℕ) (some : 0 < length row) where
  rise-at : Rises period row → (r q : ℕ) → r < length row → start_in period row (r + q * length row) ≤ start_in period row (r + q * length row + 1)
  rise-at rises r q below =
      let here : start_in period row (r + q * length row) ≡ start_in period row r + q * period = start-later period row r q some in
      let listed : start_in period row r ≡ slice_index row r = start-listed period row r below in
      ⊎_elim
      (λ (inner : r + 1 < length row).
      let e : r + q * length row + 1 ≡ (r + 1) + q * length row = omega arith in
      let next : start_in period row ((r + 1) + q * length row) ≡ start_in period row (r + 1) + q * period = start-later period row (r + 1) q some in
      let next_listed : start_in period row (r + 1) ≡ slice_index row (r + 1) = start-listed period row (r + 1) inner in
      let le : slice_index row r ≤ slice_index row (r + 1) = rises.within r inner in
      rw e (omega arith))
      (λ (last : length row ≤ r + 1).
      let e : r + q * length row + 1 ≡ 0 + (q + 1) * length row = omega arith in
      let next : start_in period row (0 + (q + 1) * length row) ≡ start_in period row 0 + (q + 1) * period = start-later period row 0 (q + 1) some in
      let next_listed : start_in period row 0 ≡ slice_index row 0 = start-listed period row 0 some in
      let at_last : length row - 1 ≡ r = omega arith in
      let le : slice_index row r ≤ slice_index row 0 + period = rw at_last at rises.over in
      rw e (omega arith))
      (cases_lt (r + 1) (length row))

  -- where the listed starts don't fall, none do
  pub all-rise : Rises period row → (k : ℕ) → start_in period row k ≤ start_in period row (k + 1)
  all-rise rises k =
      let e : k % length row + k / length row * length row ≡ k = omega (arith, div-add-mod' k (length row)) in
      subst (λ (x : ℕ). start_in period row x ≤ start_in period row (x + 1)) e (rise-at rises (k % length row) (k / length row) (mod-lt k some))

  -- and back
  pub listed-rise : ((k : ℕ) → start_in period row k ≤ start_in period row (k + 1)) → Rises period row
  listed-rise rise = record {
    within = λ k inner.
        let here : start_in period row k ≡ slice_index row k = start-listed period row k (omega arith) in
        let next : start_in period row (k + 1) ≡ slice_index row (k + 1) = start-listed period row (k + 1) inner in
        omega (arith, rise k);
    over =
        let here : start_in period row (length row - 1) ≡ slice_index row (length row - 1) = start-listed period row (length row - 1) (omega arith) in
        let e : length row - 1 + 1 ≡ 0 + 1 * length row = omega arith in
        let le : start_in period row (length row - 1) ≤ start_in period row (0 + 1 * length row) = rw e at (rise (length row - 1)) in
        let next : start_in period row (0 + 1 * length row) ≡ start_in period row 0 + 1 * period = start-later period row 0 1 some in
        let first : start_in period row 0 ≡ slice_index row 0 = start-listed period row 0 some in
        omega arith;
  }

  rise-on : ((k : ℕ) → start_in period row k ≤ start_in period row (k + 1)) → (k d : ℕ) → start_in period row k ≤ start_in period row (d + k)
  rise-on rise k zero = let e : 0 + k ≡ k = omega arith in rw e (omega arith)
  rise-on rise k (suc d) = let e : suc d + k ≡ (d + k) + 1 = omega arith in rw e (omega (arith, rise-on rise k d, rise (d + k)))

  pub starts-in_order : ((k : ℕ) → start_in period row k ≤ start_in period row (k + 1)) → (j k : ℕ) → j ≤ k → start_in period row j ≤ start_in period row k
  starts-in_order rise j k h =
      let e : (k - j) + j ≡ k = omega arith in
      subst (λ (x : ℕ). start_in period row j ≤ start_in period row x) e (rise-on rise j (k - j))

-- ---- the lists as whole rounds

module _ (net : Net) (wired : Wired net) (bal : Balanced net) (rounds : ℕ) (starts : List (List ℕ)) (turns : 1 ≤ rounds) (listed : HasRounds net rounds starts) where
  pub some-turn : (a : ℕ) → a < length net.times → 0 < count_of starts a
  some-turn a actor =
      let le : 1 * 1 ≤ rounds * slice_index net.round a = mul-le-mul turns (bal.fires a actor) in
      rw (listed.whole a actor) (omega arith)

  pub whole-starts : Whole net (count_of starts)
  whole-starts =
      let whole : Whole net (λ a. rounds * slice_index net.round a) = whole-rounds net rounds wired bal in
      record {
        kept = λ i place. rw (listed.whole (channel_at net i).source (wired.sources i place), listed.whole (channel_at net i).target (wired.targets i place)) (whole.kept i place);
        made = λ i place. rw (listed.whole (channel_at net i).source (wired.sources i place)) (whole.made i place);
        taken = λ i place. rw (listed.whole (channel_at net i).target (wired.targets i place)) (whole.taken i place);
        times = λ a actor. rw (listed.whole a actor) (whole.times a actor);
      }
