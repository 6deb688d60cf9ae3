-- An admissible schedule of the net, split, is one of its expansion.
use Rattle.std.proofs.Common.{◌≡◌, ℕ, zero, suc, ◌+◌, ◌-◌, ◌*◌, ◌/◌, ◌%◌, ◌≤◌, ◌<◌, ◌⊎◌, inl, inr, List, [], length, sum, subst, sym, refl, ap, ◌∙◌, arith}
use Rattle.std.specs.Prelude.{slice_index}
use Rattle.sd_base.specs.Net.{Net, channel_at}
use Rattle.sd_base.specs.Schedules.{time_of, Needs, Schedule, Admissible, count_of, start_of, end_of}
use Rattle.sd_base.proofs.SumsRepeatByTurns.{fewer-needed}
use Rattle.sd_base.proofs.LawfulIsRegular.{Wired, Balanced}
use Rattle.sd_base.proofs.FiringsKeepOrder.{starts-le, no_actor}
use Rattle.single_rate.specs.Expansions.{first_copy}
use Rattle.single_rate.specs.Firings.{TakesOf}
use Rattle.single_rate.proofs.CopyNumbers.{copy-of}
use Rattle.single_rate.proofs.TakesRepeat.{takes-later}
use Rattle.single_rate.proofs.LinksOrderCopies.{Unrolled, Link}

-- the same firings with the same starts
pub record IsSplit (net : Net) (s u : Schedule) : Type 0 where
  pub actors : length u ≡ sum net.round
  pub there : (a k m : ℕ) → a < length net.times → k < slice_index net.round a → m < count_of u (first_copy net a + k) → k + m * slice_index net.round a < count_of s a
  pub all : (a k m : ℕ) → a < length net.times → k < slice_index net.round a → k + m * slice_index net.round a < count_of s a → m < count_of u (first_copy net a + k)
  pub starts : (a k m : ℕ) → a < length net.times → k < slice_index net.round a → m < count_of u (first_copy net a + k) → start_of u (first_copy net a + k) m ≡ start_of s a (k + m * slice_index net.round a)

module _ (net big : Net) (un : Unrolled net big) (wired : Wired net) (bal : Balanced net) (s u : Schedule) (good : Admissible net s) (is : IsSplit net s u) where
  rises : (a k m : ℕ) → a < length net.times → k < slice_index net.round a → m + 1 < count_of u (first_copy net a + k) → start_of u (first_copy net a + k) m ≤ start_of u (first_copy net a + k) (m + 1)
  rises a k m actor copy more =
      let before : m < count_of u (first_copy net a + k) = omega arith in
      let later : k + (m + 1) * slice_index net.round a < count_of s a = is.there a k (m + 1) actor copy more in
      let le : k + m * slice_index net.round a ≤ k + (m + 1) * slice_index net.round a = omega arith in
      rw (is.starts a k m actor copy before, is.starts a k (m + 1) actor copy more) (starts-le net s good a _ _ le later)

  rising : (y m : ℕ) → m + 1 < count_of u y → start_of u y m ≤ start_of u y (m + 1)
  rising y m more =
      let below : y < length u = no_actor u y (m + 1) more in
      let copy = copy-of net y (rw is.actors at below) in
      let actor : copy.0 < length net.times = omega (arith, copy.2, bal.actors) in
      let here : m + 1 < count_of u (first_copy net copy.0 + copy.1) = rw copy.4 at more in
      rw copy.4 (rises copy.0 copy.1 m actor copy.3 here)

  fed : (n j m : ℕ) → n < length big.channels → j < count_of u (channel_at big n).target → Needs (channel_at big n) j m →
      (m < count_of u (channel_at big n).source) × (end_of big u (channel_at big n).source m ≤ start_of u (channel_at big n).target j)
  fed n j m place below need =
      let l : Link net big n = un.are n place in
      let t : ℕ = (channel_at net l.x).target in
      let a : ℕ = (channel_at net l.x).source in
      let into : t < length net.times = wired.targets l.x l.place in
      let from : a < length net.times = wired.sources l.x l.place in
      let within : m + l.d ≤ j = l.joins.needs j m need in
      let here : j < count_of u (first_copy net t + l.k) = rw l.joins.target at below in
      let firing : l.k + j * slice_index net.round t < count_of s t = is.there t l.k j into l.firing here in
      let later : TakesOf (channel_at net l.x) ((l.k + l.d * slice_index net.round t) + (j - l.d) * slice_index net.round t) (l.i + (j - l.d) * slice_index net.round a) =
      takes-later net wired bal l.x l.place (j - l.d) (l.k + l.d * slice_index net.round t) l.i l.takes in
      let e : (l.k + l.d * slice_index net.round t) + (j - l.d) * slice_index net.round t ≡ l.k + j * slice_index net.round t =
      (let split : l.d + (j - l.d) ≡ j = omega arith in
      let times : (l.d + (j - l.d)) * slice_index net.round t ≡ j * slice_index net.round t = ap (λ (y : ℕ). y * slice_index net.round t) split in omega arith) in
      let needed : Needs (channel_at net l.x) (l.k + j * slice_index net.round t) (l.i + (j - l.d) * slice_index net.round a) = rw e at later.not_before in
      let le : m * slice_index net.round a ≤ (j - l.d) * slice_index net.round a = Rattle.std.proofs.Common.mul-le-mul_right (slice_index net.round a) (omega arith) in
      let sooner : Needs (channel_at net l.x) (l.k + j * slice_index net.round t) (l.i + m * slice_index net.round a) = fewer-needed (channel_at net l.x) _ (l.i + m * slice_index net.round a) (l.i + (j - l.d) * slice_index net.round a) (omega arith) needed in
      let done = good.fed l.x (l.k + j * slice_index net.round t) (l.i + m * slice_index net.round a) l.place firing sooner in
      let mine : m < count_of u (first_copy net a + l.i) = is.all a l.i m from l.copy done.0 in
      let ended : start_of u (first_copy net a + l.i) m + time_of big (first_copy net a + l.i) m ≤ start_of u (first_copy net t + l.k) j =
      rw (is.starts a l.i m from l.copy mine, is.starts t l.k j into l.firing here, un.times a l.i m from l.copy) done.1 in
      rw (l.joins.source, l.joins.target) (mine, ended)

  pub split-admissible : Admissible big u
  split-admissible = record { actors = is.actors ∙ sym un.copies; rising = rising; fed = fed }
