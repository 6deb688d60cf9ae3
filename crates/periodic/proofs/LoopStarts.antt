-- The starts of a pass, moved back, are the schedule of the loop; and a loop has one schedule.
use Rattle.std.proofs.Common.{◌≡◌, ℕ, ◌+◌, ◌-◌, ◌*◌, ◌^◌, ◌≤◌, ◌<◌, List, [], length, map, sum, ⊎_elim, sym, ap, ◌∙◌, arith, mul-le-mul_right}
use Rattle.std.proofs.lemmas.Bool.{cases_lt}
use Rattle.std.proofs.lemmas.List.{get_or-map, get_or_past, length-map, ext_get_or}
use Rattle.std.proofs.lemmas.List.Sums.{get_or-le-sum_by}
use Rattle.std.specs.Prelude.{slice_index, slice_index_or}
use Rattle.sd_base.specs.Net.{Net}
use Rattle.sd_base.specs.Schedules.{count_of, start_of, HasInputs}
use Rattle.sd_base.specs.SelfTimed.{earliest, starts_by}
use Rattle.sd_base.specs.Lawful.{Lawful}
use Rattle.sd_base.specs.Rates.{IsLoopTable}
use Rattle.sd_base.proofs.LawfulIsRegular.{regular}
use Rattle.sd_base.proofs.EndsDecideCounts.{early_at}
use Rattle.firing.specs.declared.table.LoopTable.{LoopTable}
use Rattle.periodic.specs.LoopSchedules.{IsLoopSchedule, OneLoopSchedule}
use Rattle.periodic.specs.inside.Passes.{turns_back, back_start, back_at, HasPasses, IsMoved, AreMovedBack}
use Rattle.periodic.proofs.MovedBack.{InPass, in-pass, one-turn, turns-within}
use Rattle.sd_base.proofs.LoopPasses as passes

back-read : (period before : ℕ) (pass : List ℕ) (up k p : ℕ) → turns_back before (length pass) k ≡ p → p * period ≤ up →
    back_start period before pass up k + p * period ≡ slice_index pass (p * length pass + k - before) + up
unfolding back_start
back-read period before pass up k p turns within = rw turns (omega arith)

count-within : (s : List (List ℕ)) (a : ℕ) → a < length s → count_of s a ≤ sum (map length s)
count-within s a below =
    let read : slice_index (map length s) a ≡ count_of s a = get_or-map length s a [] 0 below in
    let part : slice_index (map length s) a ≤ sum (map length s) = get_or-le-sum_by (λ (x : ℕ). x) (map length s) a 0 (omega (arith, length-map s length)) in
    omega arith

module _ (net : Net) (laws : Lawful net) (inputs : HasInputs net) (table : LoopTable) (loop : IsLoopTable net table.entry table.period table.rounds table.before table.starts) where
  known : (a : ℕ) → a < length table.starts → a < length net.times
  known a below = omega (arith, loop.rows)

  pub has-passes : starts_by net (table.entry + table.period) ≤ 4000000 → HasPasses table
  has-passes few = record {
    actors = loop.actors ∙ sym loop.rows;
    some_actor = omega (arith, loop.rows, laws.some_actor);
    some_start = λ a below.
        omega (arith, loop.whole a (known a below), passes.some-pass net laws inputs table.entry table.period table.rounds table.before table.starts loop a (known a below));
    few = λ a below.
        let early = early_at net (regular net laws) inputs (table.entry + table.period + 1) in
        let all : count_of (earliest net (table.entry + table.period + 1)) a ≡ slice_index table.before a + count_of table.starts a = loop.all a (known a below) in
        let part : count_of (earliest net (table.entry + table.period + 1)) a ≤ starts_by net (table.entry + table.period) = count-within (earliest net (table.entry + table.period + 1)) a (omega (arith, known a below, early.admissible.actors)) in
        omega arith;
  }

  module _ (rows : List (List ℕ)) (back : AreMovedBack table rows) where
    -- a listed start is that of the firing of the table's pass, moved
    read-pass : (a k p : ℕ) → a < length net.times → k < count_of table.starts a → slice_index table.before a ≤ p * count_of table.starts a + k → p * count_of table.starts a + k < slice_index table.before a + count_of table.starts a →
        start_of rows a k + p * table.period + back.down ≡ start_of table.starts a (p * count_of table.starts a + k - slice_index table.before a) + back.most * table.period
    read-pass a k p actor below from under =
        let here : a < length table.starts = omega (arith, loop.rows) in
        let moved : start_of rows a k + back.down ≡ back_at table (back.most * table.period) a k = (back.each a here).moved k below in
        let turns : turns_back (slice_index table.before a) (count_of table.starts a) k ≡ p = one-turn (slice_index table.before a) (count_of table.starts a) k p below from under in
        let within : p * table.period ≤ back.most * table.period =
        turns-within (slice_index table.before a) (count_of table.starts a) k table.period (back.most * table.period) p below (sym turns) (mul-le-mul_right table.period (back.turns a here)) in
        let read : back_at table (back.most * table.period) a k + p * table.period ≡ start_of table.starts a (p * count_of table.starts a + k - slice_index table.before a) + back.most * table.period =
        back-read table.period (slice_index table.before a) (slice_index_or table.starts a []) (back.most * table.period) k p turns within in
        omega arith

    -- the firing of the second pass starts a period after that of the table's pass
    second-pass : (a n : ℕ) → a < length net.times → slice_index table.before a ≤ n → n < slice_index table.before a + count_of table.starts a →
        start_of (earliest net (table.entry + 2 * table.period + 1)) a (n + table.rounds * slice_index net.round a) ≡ start_of table.starts a (n - slice_index table.before a) + table.period
    second-pass a n actor from under =
        let e : table.entry + 1 * table.period + 1 ≡ table.entry + table.period + 1 = omega arith in
        let place : slice_index table.before a + (n - slice_index table.before a) ≡ n = omega arith in
        let listed : start_of table.starts a (n - slice_index table.before a) ≡ start_of (earliest net (table.entry + table.period + 1)) a (slice_index table.before a + (n - slice_index table.before a)) =
        loop.moments a (n - slice_index table.before a) actor (omega arith) in
        let there : n < count_of (earliest net (table.entry + 1 * table.period + 1)) a = rw e (omega (arith, loop.all a actor)) in
        let step : start_of (earliest net (table.entry + 2 * table.period + 1)) a (n + table.rounds * slice_index net.round a) ≡ start_of (earliest net (table.entry + 1 * table.period + 1)) a n + table.period =
        passes.step-on net laws inputs table.entry table.period table.rounds table.before table.starts loop 1 a n there (passes.ends-after net laws inputs table.entry table.period table.rounds table.before table.starts loop (table.entry + 1 * table.period + 1) a n (omega (arith, loop.earlier a actor)) there) in
        let here : start_of table.starts a (n - slice_index table.before a) ≡ start_of (earliest net (table.entry + table.period + 1)) a n = rw place at listed in
        let there_too : start_of (earliest net (table.entry + 2 * table.period + 1)) a (n + table.rounds * slice_index net.round a) ≡ start_of (earliest net (table.entry + table.period + 1)) a n + table.period = rw e at step in
        omega arith

    moved : (a k q : ℕ) → a < length net.times → k < table.rounds * slice_index net.round a →
        count_of (earliest net (table.entry + table.period + 1)) a ≤ k + q * (table.rounds * slice_index net.round a) →
        k + q * (table.rounds * slice_index net.round a) < count_of (earliest net (table.entry + 2 * table.period + 1)) a →
        start_of rows a k + q * table.period + back.down ≡ start_of (earliest net (table.entry + 2 * table.period + 1)) a (k + q * (table.rounds * slice_index net.round a)) + back.most * table.period
    moved a k q actor below from under =
        let v : ℕ = table.rounds * slice_index net.round a in
        let long : count_of table.starts a ≡ table.rounds * slice_index net.round a = loop.whole a actor in
        let first : count_of (earliest net (table.entry + table.period + 1)) a ≡ slice_index table.before a + count_of table.starts a = loop.all a actor in
        let two : count_of (earliest net (table.entry + 2 * table.period + 1)) a ≡ count_of (earliest net (table.entry + 1)) a + 2 * (table.rounds * slice_index net.round a) =
        passes.counts-at net laws inputs table.entry table.period table.rounds table.before table.starts loop 2 a in
        let early : slice_index table.before a ≡ count_of (earliest net (table.entry + 1)) a = loop.earlier a actor in
        let more : 1 ≤ q = ⊎_elim
        (λ (none : q < 1). absurd (let nothing : q * (table.rounds * slice_index net.round a) ≤ 0 * (table.rounds * slice_index net.round a) = mul-le-mul_right (table.rounds * slice_index net.round a) (omega arith) in omega arith))
        (λ (h : 1 ≤ q). h) (cases_lt q 1) in
        let e : q ≡ (q - 1) + 1 = omega arith in
        let turns : q * (table.rounds * slice_index net.round a) ≡ (q - 1) * (table.rounds * slice_index net.round a) + table.rounds * slice_index net.round a = ap (λ (x : ℕ). x * (table.rounds * slice_index net.round a)) e ∙ omega arith in
        let periods : q * table.period ≡ (q - 1) * table.period + table.period = ap (λ (x : ℕ). x * table.period) e ∙ omega arith in
        let counted : (q - 1) * count_of table.starts a ≡ (q - 1) * (table.rounds * slice_index net.round a) = ap (λ (x : ℕ). (q - 1) * x) long in
        let n : ℕ = (q - 1) * count_of table.starts a + k in
        let place : n + table.rounds * slice_index net.round a ≡ k + q * (table.rounds * slice_index net.round a) = omega arith in
        let low : slice_index table.before a ≤ n = omega arith in
        let high : n < slice_index table.before a + count_of table.starts a = omega arith in
        let read : start_of rows a k + (q - 1) * table.period + back.down ≡ start_of table.starts a (n - slice_index table.before a) + back.most * table.period = read-pass a k (q - 1) actor (omega arith) low high in
        let second : start_of (earliest net (table.entry + 2 * table.period + 1)) a (n + table.rounds * slice_index net.round a) ≡ start_of table.starts a (n - slice_index table.before a) + table.period = second-pass a n actor low high in
        let there : start_of (earliest net (table.entry + 2 * table.period + 1)) a (k + q * (table.rounds * slice_index net.round a)) ≡ start_of table.starts a (n - slice_index table.before a) + table.period = rw place at second in
        omega arith

    pub loop-schedule : IsLoopSchedule net table.entry table.period table.rounds rows
    loop-schedule = record {
      listed = record {
        actors = back.actors ∙ loop.rows;
        whole = λ a actor. (back.each a (omega (arith, loop.rows))).count ∙ loop.whole a actor;
      };
      up = back.most * table.period;
      down = back.down;
      moved = moved;
      least =
          let a : ℕ = back.least.actor in
          let k : ℕ = back.least.place in
          let each : IsMoved table (back.most * table.period) back.down back.least.actor (slice_index_or rows back.least.actor []) = back.each back.least.actor back.least.known in
          (a, k, known a back.least.known, omega (arith, each.count, back.least.within), omega (arith, each.moved back.least.place back.least.within, back.least.there));
    }

    pub moved-small : (a k : ℕ) → start_of rows a k ≤ 2 ^ 100
    moved-small a k = ⊎_elim
        (λ (below : a < length table.starts). (back.each a below).small k)
        (λ (past : length table.starts ≤ a).
        let none : slice_index_or rows a [] ≡ [] = get_or_past rows a [] (omega (arith, back.actors)) in
        rw none (omega arith))
        (cases_lt a (length table.starts))

-- ---- a loop has one schedule

module _ (net : Net) (laws : Lawful net) (inputs : HasInputs net) (entry period rounds : ℕ) (before : List ℕ) (starts : List (List ℕ))
    (table : IsLoopTable net entry period rounds before starts) where
  -- two schedules of the loop list the same start, but for a constant
  but-constant : (rows others : List (List ℕ)) (one : IsLoopSchedule net entry period rounds rows) (other : IsLoopSchedule net entry period rounds others) →
      (a k : ℕ) → a < length net.times → k < count_of rows a → start_of rows a k + (one.down + other.up) ≡ start_of others a k + (other.down + one.up)
  but-constant rows others one other a k actor below =
      let turn : ℕ = rounds * slice_index net.round a in
      let from : ℕ = count_of (earliest net (entry + period + 1)) a in
      let small : k < turn = omega (arith, one.listed.whole a actor) in
      let at : InPass from turn k = in-pass from turn k small in
      let q : ℕ = turns_back from turn k in
      let e : entry + 1 * period + 1 ≡ entry + period + 1 = omega arith in
      let first : count_of (earliest net (entry + period + 1)) a ≡ count_of (earliest net (entry + 1)) a + 1 * (rounds * slice_index net.round a) = rw e at (passes.counts-at net laws inputs entry period rounds before starts table 1 a) in
      let second : count_of (earliest net (entry + 2 * period + 1)) a ≡ count_of (earliest net (entry + 1)) a + 2 * (rounds * slice_index net.round a) = passes.counts-at net laws inputs entry period rounds before starts table 2 a in
      let low : from ≤ k + q * turn = omega (arith, at.from) in
      let high : k + q * turn < count_of (earliest net (entry + 2 * period + 1)) a = omega (arith, at.below) in
      omega (arith, one.moved a k q actor small low high, other.moved a k q actor small low high)

  no-later : (rows others : List (List ℕ)) (one : IsLoopSchedule net entry period rounds rows) (other : IsLoopSchedule net entry period rounds others) → other.down + one.up ≤ one.down + other.up
  no-later rows others one other =
      let (a, k, actor, below, none) = one.least in
      omega (arith, but-constant rows others one other a k actor below)

  pub one-schedule : (rows others : List (List ℕ)) → IsLoopSchedule net entry period rounds rows → IsLoopSchedule net entry period rounds others → rows ≡ others
  one-schedule rows others one other =
      ext_get_or [] rows others (one.listed.actors ∙ sym other.listed.actors)
      (λ a below.
      let actor : a < length net.times = omega (arith, one.listed.actors) in
      ext_get_or 0 (slice_index_or rows a []) (slice_index_or others a []) (one.listed.whole a actor ∙ sym (other.listed.whole a actor))
      (λ k there. omega (arith, but-constant rows others one other a k actor there, no-later rows others one other, no-later others rows other one)))

pub one_schedule : OneLoopSchedule
one_schedule net entry period rounds before starts rows others laws inputs table one other = one-schedule net laws inputs entry period rounds before starts table rows others one other
