-- The periodic schedule of a loop holds: far enough on it is the earliest schedule, but for a constant.
use Rattle.std.proofs.Common.{◌≡◌, ℕ, ◌+◌, ◌-◌, ◌*◌, ◌/◌, ◌%◌, ◌≤◌, ◌<◌, List, [], length, sym, ap, ◌∙◌, arith, mod-lt, div-add-mod'}
use Rattle.std.specs.Prelude.{slice_index, slice_index_or}
use Rattle.sd_base.specs.Net.{Net, channel_at}
use Rattle.sd_base.specs.Schedules.{time_of, Needs, count_of, start_of, end_of, Earliest, HasInputs}
use Rattle.sd_base.specs.SelfTimed.{earliest}
use Rattle.sd_base.specs.Lawful.{Lawful}
use Rattle.sd_base.specs.Rates.{IsLoopTable}
use Rattle.sd_base.proofs.LawfulIsRegular.{wired, balanced}
use Rattle.sd_base.proofs.RoundsKeepTokens.{Whole, whole-rounds, whole-times, time-shift, needs-shift}
use Rattle.sd_base.proofs.LoopPasses as passes
use Rattle.periodic.specs.Periods.{start_at, Holds}
use Rattle.periodic.specs.LoopSchedules.{IsLoopSchedule, LoopHolds}
use Rattle.periodic.proofs.StartsComeAgain.{start-later, start-listed}
use Rattle.periodic.proofs.NeedsEndInTime.{AllFed}
use Rattle.periodic.proofs.TestsDecide.{fed-hold}

module _ (net : Net) (laws : Lawful net) (inputs : HasInputs net) (entry period rounds : ℕ) (before : List ℕ) (starts : List (List ℕ))
    (table : IsLoopTable net entry period rounds before starts) where
  early : (t : ℕ) → Earliest net t (earliest net t)
  early = passes.early net laws inputs entry period rounds before starts table

  some : (a : ℕ) → a < length net.times → 0 < rounds * slice_index net.round a
  some = passes.some-pass net laws inputs entry period rounds before starts table

  counts-at : (q a : ℕ) → count_of (earliest net (entry + q * period + 1)) a ≡ count_of (earliest net (entry + 1)) a + q * (rounds * slice_index net.round a)
  counts-at = passes.counts-at net laws inputs entry period rounds before starts table

  -- a firing after those up to the entry, p passes further on
  pass-on : (p q a k : ℕ) → count_of (earliest net (entry + 1)) a ≤ k → k < count_of (earliest net (entry + q * period + 1)) a →
      start_of (earliest net (entry + (p + q) * period + 1)) a (k + p * (rounds * slice_index net.round a)) ≡ start_of (earliest net (entry + q * period + 1)) a k + p * period
  pass-on p q a k from there = passes.pass-on net laws inputs entry period rounds before starts table p q a k there (passes.ends-after net laws inputs entry period rounds before starts table (entry + q * period + 1) a k from there)

  module _ (rows : List (List ℕ)) (loop : IsLoopSchedule net entry period rounds rows) where
    row-later : (a k q : ℕ) → a < length net.times → start_at period rows a (k + q * (rounds * slice_index net.round a)) ≡ start_at period rows a k + q * period
    row-later a k q actor =
        let long : count_of rows a ≡ rounds * slice_index net.round a = loop.listed.whole a actor in
        let filled : 0 < count_of rows a = rw long (some a actor) in
        let later : start_at period rows a (k + q * count_of rows a) ≡ start_at period rows a k + q * period = start-later period (slice_index_or rows a []) k q filled in
        let place : k + q * (rounds * slice_index net.round a) ≡ k + q * count_of rows a = ap (λ (n : ℕ). k + q * n) (sym long) in
        ap (start_at period rows a) place ∙ later

    row-listed : (a k : ℕ) → a < length net.times → k < rounds * slice_index net.round a → start_at period rows a k ≡ start_of rows a k
    row-listed a k actor below = start-listed period (slice_index_or rows a []) k (rw (loop.listed.whole a actor) below)

    -- the schedule of the loop is the earliest one from the entry on, but for the constant
    from-entry : (q a k : ℕ) → a < length net.times → count_of (earliest net (entry + 1)) a ≤ k → k < count_of (earliest net (entry + q * period + 1)) a →
        start_at period rows a k + loop.down ≡ start_of (earliest net (entry + q * period + 1)) a k + loop.up
    from-entry q a k actor from there =
        let v : ℕ = rounds * slice_index net.round a in
        let c : ℕ = count_of (earliest net (entry + 1)) a in
        let r : ℕ = k % v in
        let x : ℕ = k / v in
        let y : ℕ = (c + 2 * v - 1 - r) / v in
        let n : ℕ = r + y * v in
        let filled : 0 < v = some a actor in
        let small : r < v = mod-lt k filled in
        let split : r + x * v ≡ k = omega (arith, div-add-mod' k v) in
        let cut : y * v + (c + 2 * v - 1 - r) % v ≡ c + 2 * v - 1 - r = div-add-mod' (c + 2 * v - 1 - r) v in
        let rest : (c + 2 * v - 1 - r) % v < v = mod-lt (c + 2 * v - 1 - r) filled in
        let second : entry + period + 1 ≡ entry + 1 * period + 1 = omega arith in
        let lower : count_of (earliest net (entry + period + 1)) a ≤ n = rw second (omega (arith, counts-at 1 a)) in
        let upper : n < count_of (earliest net (entry + 2 * period + 1)) a = omega (arith, counts-at 2 a) in
        let read : start_of rows a r + y * period + loop.down ≡ start_of (earliest net (entry + 2 * period + 1)) a n + loop.up = loop.moved a r y actor small lower upper in
        let at_n : start_at period rows a n ≡ start_at period rows a r + y * period = row-later a r y actor in
        let at_r : start_at period rows a r ≡ start_of rows a r = row-listed a r actor small in
        let meet : n + x * v ≡ k + y * v = omega arith in
        let row_n : start_at period rows a (n + x * v) ≡ start_at period rows a n + x * period = row-later a n x actor in
        let row_k : start_at period rows a (k + y * v) ≡ start_at period rows a k + y * period = row-later a k y actor in
        let row_both : start_at period rows a (n + x * v) ≡ start_at period rows a (k + y * v) = ap (start_at period rows a) meet in
        let on_n : start_of (earliest net (entry + (x + 2) * period + 1)) a (n + x * v) ≡ start_of (earliest net (entry + 2 * period + 1)) a n + x * period = pass-on x 2 a n (omega (arith, counts-at 1 a, lower)) upper in
        let on_k : start_of (earliest net (entry + (y + q) * period + 1)) a (k + y * v) ≡ start_of (earliest net (entry + q * period + 1)) a k + y * period = pass-on y q a k from there in
        let far_n : n + x * v < count_of (earliest net (entry + (x + 2) * period + 1)) a = omega (arith, counts-at (x + 2) a, counts-at 2 a) in
        let far_k : k + y * v < count_of (earliest net (entry + (y + q) * period + 1)) a = omega (arith, counts-at (y + q) a, counts-at q a) in
        let same : start_of (earliest net (entry + (x + 2) * period + 1)) a (n + x * v) ≡ start_of (earliest net (entry + (y + q) * period + 1)) a (n + x * v) = passes.agree-at net laws inputs entry period rounds before starts table (x + 2) (y + q) a (n + x * v) far_n (rw meet far_k) in
        let swap : start_of (earliest net (entry + (y + q) * period + 1)) a (n + x * v) ≡ start_of (earliest net (entry + (y + q) * period + 1)) a (k + y * v) = ap (start_of (earliest net (entry + (y + q) * period + 1)) a) meet in
        omega arith

    loop-rise : (a k : ℕ) → a < length net.times → start_at period rows a k ≤ start_at period rows a (k + 1)
    loop-rise a k actor =
        let c : ℕ = count_of (earliest net (entry + 1)) a in
        let v : ℕ = rounds * slice_index net.round a in
        let j : ℕ = k + c * v in
        let q : ℕ = j + 1 + 1 in
        let there : j + 1 < count_of (earliest net (entry + q * period + 1)) a = passes.enough-passes net laws inputs entry period rounds before starts table a (j + 1) actor in
        let far : c ≤ j = omega (arith, passes.grows net laws inputs entry period rounds before starts table a c actor) in
        let e : (k + 1) + c * v ≡ j + 1 = omega arith in
        let rise : start_of (earliest net (entry + q * period + 1)) a j ≤ start_of (earliest net (entry + q * period + 1)) a (j + 1) = (early (entry + q * period + 1)).admissible.rising a j there in
        let next : start_at period rows a (j + 1) ≡ start_at period rows a (k + 1) + c * period = rw e at (row-later a (k + 1) c actor) in
        omega (arith, row-later a k c actor, from-entry q a j actor far (omega arith), from-entry q a (j + 1) actor (omega arith) there)

    loop-fed : AllFed net period rows
    loop-fed i j m place need =
        let source : ℕ = (channel_at net i).source in
        let target : ℕ = (channel_at net i).target in
        let from : source < length net.times = laws.sources i place in
        let to : target < length net.times = laws.targets i place in
        let c : ℕ = count_of (earliest net (entry + 1)) source + count_of (earliest net (entry + 1)) target in
        let whole : Whole net (λ a. c * (rounds * slice_index net.round a)) = whole-times net (λ a. rounds * slice_index net.round a) c (whole-rounds net rounds (wired net laws) (balanced net laws)) in
        let far_j : ℕ = j + c * (rounds * slice_index net.round target) in
        let far_m : ℕ = m + c * (rounds * slice_index net.round source) in
        let far_need : Needs (channel_at net i) far_j far_m = needs-shift net (λ a. c * (rounds * slice_index net.round a)) whole i place j m need in
        let q : ℕ = far_j + 1 in
        let there : far_j < count_of (earliest net (entry + q * period + 1)) target = passes.enough-passes net laws inputs entry period rounds before starts table target far_j to in
        let fed = (early (entry + q * period + 1)).admissible.fed i far_j far_m place there far_need in
        let started : far_m < count_of (earliest net (entry + q * period + 1)) source = fed.0 in
        let ended : end_of net (earliest net (entry + q * period + 1)) source far_m ≤ start_of (earliest net (entry + q * period + 1)) target far_j = fed.1 in
        let time : time_of net source far_m ≡ time_of net source m = time-shift net (λ a. c * (rounds * slice_index net.round a)) whole source m from in
        let late_j : count_of (earliest net (entry + 1)) target ≤ far_j = omega (arith, passes.grows net laws inputs entry period rounds before starts table target c to) in
        let late_m : count_of (earliest net (entry + 1)) source ≤ far_m = omega (arith, passes.grows net laws inputs entry period rounds before starts table source c from) in
        omega (arith, row-later source m c from, row-later target j c to, from-entry q source far_m from late_m started, from-entry q target far_j to late_j there)

    loop-holds : Holds net period rounds rows
    loop-holds = fed-hold net laws period rounds rows table.loop.passes table.turns loop.listed loop-rise loop-fed

pub loop_holds : LoopHolds
loop_holds net entry period rounds before starts rows laws inputs table loop = loop-holds net laws inputs entry period rounds before starts table rows loop
