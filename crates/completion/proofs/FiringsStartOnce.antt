-- Firings of self-timed execution start once, in their order, and after what they need.
use Rattle.std.proofs.Common.{◌≡◌, ℕ, suc, ◌+◌, ◌≤◌, ◌<◌, length, ⊎_elim, refl, arith}
use Rattle.std.proofs.lemmas.Bool.{cases_lt}
use Rattle.completion.specs.Ways.{StartsAt}
use Rattle.sd_base.specs.Net.{Net, channel_at}
use Rattle.sd_base.specs.Schedules.{HasInputs, LastNeed, Earliest, count_of, end_of, start_of, time_of}
use Rattle.sd_base.specs.SelfTimed.{earliest}
use Rattle.sd_base.specs.Lawful.{Lawful}
use Rattle.sd_base.proofs.LawfulIsRegular.{regular}
use Rattle.sd_base.proofs.EndsDecideCounts.{early_at}
use Rattle.sd_base.proofs.FiringsKeepOrder.{starts-le}
use Rattle.sd_base.proofs.StartsMeetEnds.{earliest-within}

module _ (net : Net) (laws : Lawful net) (inputs : HasInputs net) where
  pub early : (t : ℕ) → Earliest net t (earliest net t)
  early t = early_at net (regular net laws) inputs t

  pub one-start : (a k m l : ℕ) → StartsAt net a k m → StartsAt net a k l → m ≡ l
  one-start a k m l one other =
      let up : ℕ = one.by + other.by in
      let left : start_of (earliest net up) a k ≡ start_of (earliest net one.by) a k = (earliest-within net one.by up (earliest net one.by) (earliest net up) (early one.by) (early up) (omega arith) a k one.there).1 in
      let right : start_of (earliest net up) a k ≡ start_of (earliest net other.by) a k = (earliest-within net other.by up (earliest net other.by) (earliest net up) (early other.by) (early up) (omega arith) a k other.there).1 in
      omega (arith, one.at, other.at)

  -- a firing is in each earliest schedule that goes past its start
  pub start-there : (a k m t : ℕ) → StartsAt net a k m → m < t → k < count_of (earliest net t) a
  start-there a k m t one past =
      let soon : start_of (earliest net one.by) a k < t = omega (arith, one.at) in
      ((early t).least (earliest net one.by) (early one.by).admissible a k one.there soon).0

  pub start-is : (a k m t : ℕ) → StartsAt net a k m → k < count_of (earliest net t) a → start_of (earliest net t) a k ≡ m
  start-is a k m t one there = one-start a k (start_of (earliest net t) a k) m (record { by = t; there = there; at = refl }) one

  -- what starts sooner has the lesser number
  pub start-order : (a j k l m : ℕ) → StartsAt net a j l → StartsAt net a k m → l < m → j < k
  start-order a j k l m one other less = ⊎_elim (λ (h : j < k). h)
      (λ (back : k ≤ j). absurd (
      let t : ℕ = suc m in
      let there : j < count_of (earliest net (suc m)) a = start-there a j l (suc m) one (omega arith) in
      let rise : start_of (earliest net (suc m)) a k ≤ start_of (earliest net (suc m)) a j = starts-le net (earliest net (suc m)) (early (suc m)).admissible a k j back there in
      let here : start_of (earliest net (suc m)) a j ≡ l = start-is a j l (suc m) one there in
      let later : start_of (earliest net (suc m)) a k ≡ m = start-is a k m (suc m) other (omega arith) in
      omega arith))
      (cases_lt j k)

  -- before its start a firing hasn't been counted
  pub start-late : (a k m : ℕ) → StartsAt net a k m → count_of (earliest net m) a ≤ k
  start-late a k m one = ⊎_elim
      (λ (there : k < count_of (earliest net m) a). absurd (
      let before : start_of (earliest net m) a k < m = (early m).before a k there in
      let here : start_of (earliest net m) a k ≡ m = start-is a k m m one there in
      omega arith))
      (λ (h : count_of (earliest net m) a ≤ k). h)
      (cases_lt k (count_of (earliest net m) a))

  -- a needed firing starts early enough to end by then
  pub starts-fed : (i j p m : ℕ) → i < length net.channels → StartsAt net (channel_at net i).target j m → LastNeed (channel_at net i) j p →
      (l : ℕ) × StartsAt net (channel_at net i).source p l × (l + time_of net (channel_at net i).source p ≤ m)
  starts-fed i j p m place one last =
      let fed = (early one.by).admissible.fed i j p place one.there last.needed in
      let ended : end_of net (earliest net one.by) (channel_at net i).source p ≤ start_of (earliest net one.by) (channel_at net i).target j = fed.1 in
      (start_of (earliest net one.by) (channel_at net i).source p, record { by = one.by; there = fed.0; at = refl }, omega (arith, one.at))
