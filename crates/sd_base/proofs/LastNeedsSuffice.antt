-- A schedule is admissible where the last firing that each firing needs has ended when it starts.
use Rattle.std.proofs.Common.{◌≡◌, ℕ, zero, suc, ◌+◌, ◌-◌, ◌*◌, ◌≤◌, ◌<◌, ◌⊎◌, [], length, inl, inr, subst, arith}
use Rattle.std.specs.Prelude.{slice_index_or}
use Rattle.sd_base.specs.Net.{Channel, Net, channel_at, total}
use Rattle.sd_base.specs.Schedules.{time_of, phases_at, Needs, LastNeed, IsNeed, Schedule, count_of, start_of, end_of, Admissible, AdmissibleByLast}
use Rattle.sd_base.proofs.SumsRepeatByTurns.{total-le, total-grows, fewer-needed}
use Rattle.sd_base.proofs.LawfulIsRegular.{IsOwn, OneByOne, Wired}
use Rattle.sd_base.proofs.FiringsKeepOrder.{no_actor, one_time}
use Rattle.sd_base.proofs.StartsMeetEnds.{last_need}

-- the last need is the firing before the least number with which there are tokens enough
pub last-is_need : (c : Channel) (j m : ℕ) → LastNeed c j m → IsNeed c j (m + 1)
last-is_need c j m last = record { enough = last.enough; least = λ k below. fewer-needed c j k m (omega arith) last.needed }

pub need-is_last : (c : Channel) (j m : ℕ) → IsNeed c j (m + 1) → LastNeed c j m
need-is_last c j m need = record { needed = need.least m (omega arith); enough = need.enough }

pub to-last : (net : Net) (s : Schedule) → Admissible net s → AdmissibleByLast net s
to-last net s good = record { actors = good.actors; rising = good.rising; fed = λ i j m place there last. good.fed i j m place there last.needed }

module _ (net : Net) (own : OneByOne net) (wired : Wired net) (s : Schedule) (good : AdmissibleByLast net s) where
  ends-next : (a k : ℕ) → k + 1 < count_of s a → end_of net s a k ≤ end_of net s a (k + 1)
  ends-next a k below = each (own.own a (rw (good.actors) at (no_actor s a (k + 1) below)))
    where
      each : (phases_at net a ≤ 1) ⊎ ((i : ℕ) × IsOwn net a i) → end_of net s a k ≤ end_of net s a (k + 1)
      each (inl few) =
          let same : phase_of k ≡ phase_of (k + 1) = one_time (slice_index_or net.times a []) k (k + 1) few in
          omega (arith, good.rising a k below)
        where
          phase_of : ℕ → ℕ
          phase_of n = time_of net a n
      each (inr found) =
          let mine = found.1 in
          let there : k + 1 < count_of s (channel_at net found.0).target = rw mine.target below in
          let ended = (good.fed found.0 (k + 1) k mine.place there (mine.last k)).1 in
          let at_source : end_of net s a k ≤ start_of s (channel_at net found.0).target (k + 1) = subst (λ (b : ℕ). end_of net s b k ≤ start_of s (channel_at net found.0).target (k + 1)) mine.source ended in
          let at_target : end_of net s a k ≤ start_of s a (k + 1) = subst (λ (b : ℕ). end_of net s a k ≤ start_of s b (k + 1)) mine.target at_source in
          omega arith

  ends-on : (a k d : ℕ) → d + k < count_of s a → end_of net s a k ≤ end_of net s a (d + k)
  ends-on a k zero below = let e : 0 + k ≡ k = omega arith in rw e (omega arith)
  ends-on a k (suc d) below =
      let e : suc d + k ≡ (d + k) + 1 = omega arith in
      rw e (omega (arith, ends-on a k d (omega arith), ends-next a (d + k) (omega arith)))

  fed-all : (i j m : ℕ) → i < length net.channels → j < count_of s (channel_at net i).target → Needs (channel_at net i) j m →
      (m < count_of s (channel_at net i).source) × (end_of net s (channel_at net i).source m ≤ start_of s (channel_at net i).target j)
  fed-all i j m place there need =
      let want : ℕ = total (channel_at net i).taken (j + 1) in
      let far : ℕ = want * length (channel_at net i).made in
      let grows : want ≤ total (channel_at net i).made far = total-grows (channel_at net i).made want (wired.some_made i place) in
      let never : Needs (channel_at net i) j (m + far) → ⊥ = λ late.
      let le : total (channel_at net i).made far ≤ total (channel_at net i).made (m + far) = total-le (channel_at net i).made (omega arith) in omega arith in
      let last = last_need (channel_at net i) j far m need never in
      let n : ℕ = last.0 in
      let fed = good.fed i j n place there last.2 in
      let started : n < count_of s (channel_at net i).source = fed.0 in
      let ended : end_of net s (channel_at net i).source n ≤ start_of s (channel_at net i).target j = fed.1 in
      let e : (n - m) + m ≡ n = omega (arith, last.1) in
      let rise : end_of net s (channel_at net i).source m ≤ end_of net s (channel_at net i).source n =
      subst (λ (x : ℕ). end_of net s (channel_at net i).source m ≤ end_of net s (channel_at net i).source x) e (ends-on (channel_at net i).source m (n - m) (omega arith)) in
      (omega (arith, last.1), omega arith)

  pub from-last : Admissible net s
  from-last = record { actors = good.actors; rising = good.rising; fed = fed-all }
