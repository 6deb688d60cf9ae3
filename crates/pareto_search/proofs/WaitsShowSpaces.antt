-- A channel whose free space is on a circular wait of first lacking channels is one that the counts show.
use Rattle.std.proofs.Common.{◌≡◌, ℕ, ◌+◌, ◌≤◌, ◌<◌, Option, List, length, ⊎_elim, subst, sym, ap, ◌∙◌, arith}
use Rattle.std.specs.Prelude.{All, slice_index}
use Rattle.std.proofs.lemmas.Bool.{cases_lt, true≢false}
use Rattle.std.proofs.lemmas.List.{ext_get_or}
use Rattle.std.proofs.lemmas.List.Elements.{All-contains, Contains-get_or}
use Rattle.sd_base.specs.declared.role.Role.TheVariants.{Space}
use Rattle.sd_base.specs.Net.{Channel, Net, channel_at, total}
use Rattle.sd_base.specs.Lawful.{is_space_role}
use Rattle.sd_base.specs.Schedules.{Needs}
use Rattle.sd_base.specs.Untimed.{CanFire, IsBlockedBy, IsFirstLacking}
use Rattle.sd_base.proofs.ClosedCountsBoundRuns.{one_end}
use Rattle.sd_base.proofs.LawfulIsRegular.{Wired}
use Rattle.storage.specs.BoundedNets.{HasNoSpaces, bound, space_of}
use Rattle.storage.specs.ShownSpaces.{ShowsSpace}
use Rattle.storage.proofs.SpaceChannels.{SpaceAt, bound-back, bound-front}
use Rattle.circular_waits.specs.CircularWaits.{IsCircularWait, IsWaitingOn, WaitsForSpace}

-- counts at which a net is blocked are the same ones wherever its firings began
pub one-blocked : (net : Net) → Wired net → (xs ys : List ℕ) (ls ms : List (Option ℕ)) → IsBlockedBy net xs ls → IsBlockedBy net ys ms → xs ≡ ys
one-blocked net wires xs ys ls ms one other =
    ext_get_or 0 xs ys (one.actors ∙ sym other.actors) (λ a below. one_end net wires (slice_index xs) (slice_index ys) one.ends other.ends a (omega (arith, below, one.actors)))

module _ (net : Net) (plain : HasNoSpaces net) (ds : List (Option ℕ)) (v : ℕ → ℕ) where
  -- the channels that a net has itself come before its free spaces
  past : (i c : ℕ) → (channel_at (bound net ds) i).role ≡ Space c → length net.channels ≤ i
  past i c role = ⊎_elim
      (λ (own : i < length net.channels).
      let same : (channel_at net i).role ≡ Space c = sym (ap (λ (d : Channel). d.role) (bound-front net ds i own)) ∙ role in
      absurd (true≢false (sym (ap is_space_role same) ∙ plain i own)))
      (λ (later : length net.channels ≤ i). later)
      (cases_lt i (length net.channels))

  module _ (i c : ℕ) (on : IsWaitingOn (bound net ds) v (channel_at (bound net ds) i).target i) (first : IsFirstLacking (bound net ds) v (channel_at (bound net ds) i).target i) (role : (channel_at (bound net ds) i).role ≡ Space c) where
    at : SpaceAt 0 net.channels ds (channel_at (bound net ds) i)
    at = bound-back net ds i (past i c role) on.place

    is : channel_at (bound net ds) i ≡ space_of at.place (channel_at net at.place) at.room
    is = let e : 0 + at.place ≡ at.place = omega arith in rw e at at.is

    waits : (channel_at (bound net ds) i).target ≡ (channel_at net at.place).source
    waits = ap (λ (d : Channel). d.target) is

    place-is : at.place ≡ c
    place-is = let same : Space at.place ≡ Space c = sym (ap (λ (d : Channel). d.role) is) ∙ role in cc

    fed : CanFire net v (channel_at net at.place).source
    fed k here into = ⊎_elim
        (λ (less : (channel_at net k).tokens + total (channel_at net k).made (v (channel_at net k).source) < total (channel_at net k).taken (v (channel_at net at.place).source + 1)).
        let need : Needs (channel_at net k) (v (channel_at net at.place).source) (v (channel_at net k).source) = less in
        let mine : Needs (channel_at net k) (v (channel_at (bound net ds) i).target) (v (channel_at net k).source) = subst (λ (a : ℕ). Needs (channel_at net k) (v a) (v (channel_at net k).source)) (sym waits) need in
        absurd (first.first k (omega (arith, here, past i c role)) (ap (λ (d : Channel). d.target) (bound-front net ds k here) ∙ (into ∙ sym waits))
        (subst (λ (d : Channel). Needs d (v (channel_at (bound net ds) i).target) (v d.source)) (sym (bound-front net ds k here)) mine)))
        (λ (enough : total (channel_at net k).taken (v (channel_at net at.place).source + 1) ≤ (channel_at net k).tokens + total (channel_at net k).made (v (channel_at net k).source)). enough)
        (cases_lt ((channel_at net k).tokens + total (channel_at net k).made (v (channel_at net k).source)) (total (channel_at net k).taken (v (channel_at net at.place).source + 1)))

    space-shown : ShowsSpace net ds v c
    space-shown = subst (ShowsSpace net ds v) place-is (record {
      place = at.below;
      room = at.room;
      has = at.has;
      short = subst (λ (a : ℕ). v a < slice_index net.round a) waits on.short;
      fed = fed;
      full = subst (λ (d : Channel). Needs d (v d.target) (v d.source)) is on.lacks;
    })

  pub wait-shows : (channels : List ℕ) → IsCircularWait (bound net ds) v channels → All (λ (i : ℕ). IsFirstLacking (bound net ds) v (channel_at (bound net ds) i).target i) channels → (c : ℕ) → WaitsForSpace (bound net ds) channels c → ShowsSpace net ds v c
  wait-shows channels wait first c (j, below, role) =
      space-shown (slice_index channels j) c (wait.waits j below)
      (All-contains (λ (i : ℕ). IsFirstLacking (bound net ds) v (channel_at (bound net ds) i).target i) channels (slice_index channels j) first (Contains-get_or channels j 0 below))
      role
