-- A circular wait of a bounded net stands where there is no more room on the channels whose free space is on it.
use Rattle.std.proofs.Common.{◌≡◌, ℕ, ◌+◌, ◌-◌, ◌≤◌, ◌<◌, Option, Some, List, length, ⊎_elim, subst, sym, ap, ◌∙◌, arith}
use Rattle.std.specs.Prelude.{slice_index}
use Rattle.std.proofs.lemmas.Bool.{cases_lt}
use Rattle.sd_base.specs.declared.role.Role.TheVariants.{Space}
use Rattle.sd_base.specs.Net.{Channel, Net, channel_at, total}
use Rattle.sd_base.specs.Schedules.{Needs}
use Rattle.sd_base.specs.Lawful.{Lawful}
use Rattle.sd_base.specs.Rates.{Rate}
use Rattle.sd_base.proofs.LawfulIsRegular.{timed, wired, balanced}
use Rattle.storage.specs.Distributions.{capacity_at}
use Rattle.storage.specs.BoundedNets.{space_of, bound}
use Rattle.storage.proofs.SpaceChannels.{SpaceAt, bound-front, bound-long, bound-space, bound-back}
use Rattle.circular_waits.specs.CircularWaits.{IsWaitingOn, IsCircularWait, WaitsForSpace, waiting_at}
use Rattle.circular_waits.proofs.WaitsStopFirings.{WaitsForOne, wait-next, waits-zero}

-- a capacity of channel c in es that is at most k
abbrev pub HasAtMost : List (Option ℕ) → ℕ → ℕ → Type 0
HasAtMost es c k = (n : ℕ) × (capacity_at es c ≡ Some n) × (n ≤ k)

fewer-tokens : (p : ℕ) (c : Channel) (k n x y : ℕ) → n ≤ k → Needs (space_of p c k) x y → Needs (space_of p c n) x y
fewer-tokens p c k n x y few need = let h : k - c.tokens + total c.taken y < total c.made (x + 1) = need in let g : n - c.tokens + total c.taken y < total c.made (x + 1) = omega arith in g

module _ (net : Net) (ds es : List (Option ℕ)) (v : ℕ → ℕ) where
  -- actor a waits in the other net too, and for the same actor
  pub record StillWaits (a i : ℕ) : Type 0 where
    pub channel : ℕ
    pub waits : IsWaitingOn (bound net es) v a channel
    pub same : (channel_at (bound net es) channel).source ≡ (channel_at (bound net ds) i).source

  waits-own : (a i : ℕ) → i < length net.channels → IsWaitingOn (bound net ds) v a i → StillWaits a i
  waits-own a i here on =
      let same : channel_at (bound net ds) i ≡ channel_at (bound net es) i = bound-front net ds i here ∙ sym (bound-front net es i here) in
      record {
        channel = i;
        waits = record {
          actor = on.actor;
          short = on.short;
          place = omega (arith, bound-long net es);
          into = subst (λ (c : Channel). c.target ≡ a) same on.into;
          lacks = subst (λ (c : Channel). Needs c (v a) (v c.source)) same on.lacks;
        };
        same = sym (ap (λ (c : Channel). c.source) same);
      }

  waits-space : (a i : ℕ) → length net.channels ≤ i → IsWaitingOn (bound net ds) v a i →
      ((c k : ℕ) → (channel_at (bound net ds) i).role ≡ Space c → capacity_at ds c ≡ Some k → HasAtMost es c k) → StillWaits a i
  waits-space a i later on room =
      let at : SpaceAt 0 net.channels ds (channel_at (bound net ds) i) = bound-back net ds i later on.place in
      let e : 0 + at.place ≡ at.place = omega arith in
      let is : channel_at (bound net ds) i ≡ space_of at.place (channel_at net at.place) at.room = rw e at at.is in
      let less = room at.place at.room (ap (λ (c : Channel). c.role) is) at.has in
      let there = bound-space net es at.place less.0 at.below less.1 in
      let into : (channel_at net at.place).source ≡ a = sym (ap (λ (c : Channel). c.target) is) ∙ on.into in
      let need : Needs (space_of at.place (channel_at net at.place) at.room) (v a) (v (channel_at net at.place).target) = subst (λ (c : Channel). Needs c (v a) (v c.source)) is on.lacks in
      let more : Needs (space_of at.place (channel_at net at.place) less.0) (v a) (v (channel_at net at.place).target) = fewer-tokens at.place (channel_at net at.place) at.room less.0 (v a) (v (channel_at net at.place).target) less.2 need in
      record {
        channel = there.0;
        waits = record {
          actor = on.actor;
          short = on.short;
          place = there.1;
          into = ap (λ (c : Channel). c.target) there.2 ∙ into;
          lacks = subst (λ (c : Channel). Needs c (v a) (v c.source)) (sym there.2) more;
        };
        same = ap (λ (c : Channel). c.source) there.2 ∙ sym (ap (λ (c : Channel). c.source) is);
      }

  still-waits : (a i : ℕ) → IsWaitingOn (bound net ds) v a i →
      ((c k : ℕ) → (channel_at (bound net ds) i).role ≡ Space c → capacity_at ds c ≡ Some k → HasAtMost es c k) → StillWaits a i
  still-waits a i on room = ⊎_elim (λ (here : i < length net.channels). waits-own a i here on) (λ (later : length net.channels ≤ i). waits-space a i later on room) (cases_lt i (length net.channels))

  pub roomless-zero : (channels : List ℕ) (x y : ℕ) → Lawful (bound net es) → IsCircularWait (bound net ds) v channels →
      ((c k : ℕ) → WaitsForSpace (bound net ds) channels c → capacity_at ds c ≡ Some k → HasAtMost es c k) → Rate (bound net es) x y → x ≡ 0
  roomless-zero channels x y laws wait room rate =
      waits-zero (bound net es) v (timed (bound net es) laws) (wired (bound net es) laws) (balanced (bound net es) laws) (length channels) (waiting_at (bound net ds) channels) wait.some each x y rate
    where
      each : (j : ℕ) → j < length channels → WaitsForOne (bound net es) v (length channels) (waiting_at (bound net ds) channels) (waiting_at (bound net ds) channels j)
      each j below =
          let on = wait-next (bound net ds) v channels wait j below in
          let still = still-waits (waiting_at (bound net ds) channels j) (slice_index channels j) (wait.waits j below) (λ c k role has. room c k (j, below, role) has) in
          record { channel = still.channel; waits = still.waits; other = on.0; below = on.1; source = still.same ∙ on.2 }
