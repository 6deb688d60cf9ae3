-- Whole rounds later the same firings take tokens of the same firings, and none takes of a later round.
use Rattle.std.proofs.Common.{◌≡◌, ℕ, ◌+◌, ◌-◌, ◌*◌, ◌≤◌, ◌<◌, ◌⊎◌, length, subst, ap, arith, ⊎_elim}
use Rattle.std.specs.Prelude.{slice_index}
use Rattle.std.proofs.lemmas.Bool.{cases_lt}
use Rattle.sd_base.specs.Net.{Net, channel_at, total}
use Rattle.sd_base.proofs.SumsRepeatByTurns.{total-le}
use Rattle.sd_base.proofs.LawfulIsRegular.{Wired, Balanced}
use Rattle.sd_base.proofs.RoundsKeepTokens.{whole-rounds, made-shift, taken-shift}
use Rattle.single_rate.specs.Firings.{TakesOf}

module _ (net : Net) (wired : Wired net) (bal : Balanced net) (x : ℕ) (place : x < length net.channels) where
  made_by : (h m : ℕ) → total (channel_at net x).made (m + h * slice_index net.round (channel_at net x).source) ≡ total (channel_at net x).made m + total (channel_at net x).made (h * slice_index net.round (channel_at net x).source)
  made_by h m = made-shift net (λ a. h * slice_index net.round a) (whole-rounds net h wired bal) x place m

  taken_by : (h j : ℕ) → total (channel_at net x).taken (j + h * slice_index net.round (channel_at net x).target) ≡ total (channel_at net x).taken j + total (channel_at net x).taken (h * slice_index net.round (channel_at net x).target)
  taken_by h j = taken-shift net (λ a. h * slice_index net.round a) (whole-rounds net h wired bal) x place j

  same_by : (h : ℕ) → total (channel_at net x).made (h * slice_index net.round (channel_at net x).source) ≡ total (channel_at net x).taken (h * slice_index net.round (channel_at net x).target)
  same_by h = (whole-rounds net h wired bal).kept x place

  -- whole rounds later the same firings take of the same
  pub takes-later : (h j n : ℕ) → TakesOf (channel_at net x) j n → TakesOf (channel_at net x) (j + h * slice_index net.round (channel_at net x).target) (n + h * slice_index net.round (channel_at net x).source)
  takes-later h j n takes =
      let after : j + h * slice_index net.round (channel_at net x).target + 1 ≡ (j + 1) + h * slice_index net.round (channel_at net x).target = omega arith in
      let next : n + h * slice_index net.round (channel_at net x).source + 1 ≡ (n + 1) + h * slice_index net.round (channel_at net x).source = omega arith in
      record {
        takes = rw after (omega (arith, taken_by h j, taken_by h (j + 1), takes.takes));
        makes = rw next (omega (arith, made_by h n, made_by h (n + 1), takes.makes));
        not_after = rw next (omega (arith, taken_by h j, made_by h (n + 1), same_by h, takes.not_after));
        not_before = rw after (omega (arith, made_by h n, taken_by h (j + 1), same_by h, takes.not_before));
      }

  pub takes-earlier : (h j n : ℕ) → TakesOf (channel_at net x) (j + h * slice_index net.round (channel_at net x).target) (n + h * slice_index net.round (channel_at net x).source) → TakesOf (channel_at net x) j n
  takes-earlier h j n takes =
      let after : j + h * slice_index net.round (channel_at net x).target + 1 ≡ (j + 1) + h * slice_index net.round (channel_at net x).target = omega arith in
      let next : n + h * slice_index net.round (channel_at net x).source + 1 ≡ (n + 1) + h * slice_index net.round (channel_at net x).source = omega arith in
      record {
        takes = omega (arith, taken_by h j, taken_by h (j + 1), rw after at takes.takes);
        makes = omega (arith, made_by h n, made_by h (n + 1), rw next at takes.makes);
        not_after = omega (arith, taken_by h j, made_by h (n + 1), same_by h, rw next at takes.not_after);
        not_before = omega (arith, made_by h n, taken_by h (j + 1), same_by h, rw after at takes.not_before);
      }

  -- a firing of round m takes of no later round
  pub takes-within : (k m i n : ℕ) → k < slice_index net.round (channel_at net x).target → TakesOf (channel_at net x) (k + m * slice_index net.round (channel_at net x).target) (i + n * slice_index net.round (channel_at net x).source) → n ≤ m
  takes-within k m i n below takes = ⊎_elim (λ (late : m < n). absurd (never late)) (λ (h : n ≤ m). h) (cases_lt m n)
    where
      never : m < n → ⊥
      never late =
          let e : i + n * slice_index net.round (channel_at net x).source ≡ (i + (n - m) * slice_index net.round (channel_at net x).source) + m * slice_index net.round (channel_at net x).source =
          (let split : n ≡ (n - m) + m = omega arith in
          let times : n * slice_index net.round (channel_at net x).source ≡ ((n - m) + m) * slice_index net.round (channel_at net x).source = ap (λ (y : ℕ). y * slice_index net.round (channel_at net x).source) split in omega arith) in
          let here : TakesOf (channel_at net x) k (i + (n - m) * slice_index net.round (channel_at net x).source) =
          takes-earlier m k (i + (n - m) * slice_index net.round (channel_at net x).source) (subst (λ (y : ℕ). TakesOf (channel_at net x) (k + m * slice_index net.round (channel_at net x).target) y) e takes) in
          let some : 1 * slice_index net.round (channel_at net x).source ≤ (n - m) * slice_index net.round (channel_at net x).source = Rattle.std.proofs.Common.mul-le-mul_right (slice_index net.round (channel_at net x).source) (omega arith) in
          let made : total (channel_at net x).made (slice_index net.round (channel_at net x).source) ≤ total (channel_at net x).made (i + (n - m) * slice_index net.round (channel_at net x).source) = total-le (channel_at net x).made (omega arith) in
          let taken : total (channel_at net x).taken (k + 1) ≤ total (channel_at net x).taken (slice_index net.round (channel_at net x).target) = total-le (channel_at net x).taken (omega arith) in
          omega (arith, bal.kept x place, here.not_before)
