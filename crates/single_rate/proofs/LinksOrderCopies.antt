-- Copies that a link joins run one after the other: the one has ended when the other one starts.
use Rattle.std.proofs.Common.{◌≡◌, ℕ, ◌+◌, ◌-◌, ◌*◌, ◌≤◌, ◌<◌, length, sum, subst, ap, arith}
use Rattle.std.specs.Prelude.{slice_index}
use Rattle.sd_base.specs.Net.{Net, channel_at}
use Rattle.sd_base.specs.Schedules.{time_of, Needs, Schedule, Admissible, count_of, start_of, end_of}
use Rattle.sd_base.proofs.LawfulIsRegular.{Wired, Balanced}
use Rattle.single_rate.specs.Expansions.{first_copy}
use Rattle.single_rate.specs.Firings.{TakesOf}
use Rattle.single_rate.proofs.TakesRepeat.{takes-earlier, takes-within}

-- channel n of the large net joins copy i of the source of channel x to copy k of its target, with d tokens
pub record Joins (net big : Net) (n x k i d : ℕ) : Type 0 where
  pub place : n < length big.channels
  pub source : (channel_at big n).source ≡ first_copy net (channel_at net x).source + i
  pub target : (channel_at big n).target ≡ first_copy net (channel_at net x).target + k
  pub needs : (j m : ℕ) → Needs (channel_at big n) j m → m + d ≤ j
  pub needed : (j m : ℕ) → m + d ≤ j → Needs (channel_at big n) j m

-- a channel that joins copies of which one takes of the other
pub record Link (net big : Net) (n : ℕ) : Type 0 where
  pub x : ℕ
  pub k : ℕ
  pub i : ℕ
  pub d : ℕ
  pub place : x < length net.channels
  pub firing : k < slice_index net.round (channel_at net x).target
  pub copy : i < slice_index net.round (channel_at net x).source
  pub joins : Joins net big n x k i d
  pub takes : TakesOf (channel_at net x) (k + d * slice_index net.round (channel_at net x).target) i

pub record Unrolled (net big : Net) : Type 0 where
  pub copies : length big.times ≡ sum net.round
  pub ones : (y : ℕ) → y < length big.times → slice_index big.round y ≡ 1
  pub times : (a k m : ℕ) → a < length net.times → k < slice_index net.round a → time_of big (first_copy net a + k) m ≡ time_of net a (k + m * slice_index net.round a)
  pub are : (n : ℕ) → n < length big.channels → Link net big n
  pub all : (x k i d : ℕ) → x < length net.channels → k < slice_index net.round (channel_at net x).target → i < slice_index net.round (channel_at net x).source →
      TakesOf (channel_at net x) (k + d * slice_index net.round (channel_at net x).target) i → (n : ℕ) × (e : ℕ) × (e ≤ d) × Joins net big n x k i e

module _ (net big : Net) (un : Unrolled net big) (wired : Wired net) (bal : Balanced net) where
  -- where a firing takes of another one, a channel of the large net says so of the copies
  pub joined-by : (x k m i n : ℕ) → x < length net.channels → k < slice_index net.round (channel_at net x).target → i < slice_index net.round (channel_at net x).source →
      TakesOf (channel_at net x) (k + m * slice_index net.round (channel_at net x).target) (i + n * slice_index net.round (channel_at net x).source) →
      (y : ℕ) × (e : ℕ) × Joins net big y x k i e × (n + e ≤ m)
  joined-by x k m i n place firing copy takes =
      let within : n ≤ m = takes-within net wired bal x place k m i n firing takes in
      let e : k + m * slice_index net.round (channel_at net x).target ≡ (k + (m - n) * slice_index net.round (channel_at net x).target) + n * slice_index net.round (channel_at net x).target =
      (let split : m ≡ (m - n) + n = omega arith in
      let times : m * slice_index net.round (channel_at net x).target ≡ ((m - n) + n) * slice_index net.round (channel_at net x).target = ap (λ (y : ℕ). y * slice_index net.round (channel_at net x).target) split in omega arith) in
      let here : TakesOf (channel_at net x) (k + (m - n) * slice_index net.round (channel_at net x).target) i =
      takes-earlier net wired bal x place n (k + (m - n) * slice_index net.round (channel_at net x).target) i
      (subst (λ (y : ℕ). TakesOf (channel_at net x) y (i + n * slice_index net.round (channel_at net x).source)) e takes) in
      let found = un.all x k i (m - n) place firing copy here in
      (found.0, found.1, found.3, omega (arith, found.2))

  -- so the one has ended when the other one starts
  pub fed-by : (u : Schedule) → Admissible big u → (x k m i n : ℕ) → x < length net.channels → k < slice_index net.round (channel_at net x).target → i < slice_index net.round (channel_at net x).source →
      TakesOf (channel_at net x) (k + m * slice_index net.round (channel_at net x).target) (i + n * slice_index net.round (channel_at net x).source) →
      m < count_of u (first_copy net (channel_at net x).target + k) →
      (n < count_of u (first_copy net (channel_at net x).source + i))
      × (start_of u (first_copy net (channel_at net x).source + i) n + time_of net (channel_at net x).source (i + n * slice_index net.round (channel_at net x).source) ≤ start_of u (first_copy net (channel_at net x).target + k) m)
  fed-by u good x k m i n place firing copy takes there =
      let join = joined-by x k m i n place firing copy takes in
      let y : ℕ = join.0 in
      let is : Joins net big y x k i join.1 = join.2 in
      let fed : (n < count_of u (channel_at big y).source) × (end_of big u (channel_at big y).source n ≤ start_of u (channel_at big y).target m) =
      good.fed y m n is.place (rw is.target there) (is.needed m n join.3) in
      let time : time_of big (first_copy net (channel_at net x).source + i) n ≡ time_of net (channel_at net x).source (i + n * slice_index net.round (channel_at net x).source) = un.times (channel_at net x).source i n (wired.sources x place) copy in
      let named : (n < count_of u (first_copy net (channel_at net x).source + i)) × (end_of big u (first_copy net (channel_at net x).source + i) n ≤ start_of u (first_copy net (channel_at net x).target + k) m) =
      (rw (is.source, is.target) at fed) in
      (named.0, rw (← time) named.1)
