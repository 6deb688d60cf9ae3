-- Rounds and blocking counts of nets that differ in initial tokens, and what a live net's capacities cover.
use Rattle.std.proofs.Common.{◌≡◌, ℕ, ◌+◌, ◌*◌, ◌≤◌, ◌<◌, List, length, ⊎_elim, subst, sym, ap, ◌∙◌, refl, arith}
use Rattle.std.specs.Prelude.{slice_index}
use Rattle.sd_base.specs.Net.{Net, Channel, channel_at, total}
use Rattle.sd_base.specs.Schedules.{Needs}
use Rattle.sd_base.specs.Untimed.{none_fired, counts_after, IsLive, Blocks}
use Rattle.sd_base.proofs.LawfulIsRegular.{Wired}
use Rattle.sd_base.proofs.ClosedCountsBoundRuns.{live-unblocked}
use Rattle.sd_base.proofs.FiringOrdersEnd.{live_or_blocked}
use Rattle.sd_base.proofs.SumsRepeatByTurns.{total-zero}
use Rattle.storage.proofs.SumsStayWhole.{whole-total}
use Rattle.bounded_scenarios.proofs.TokenMaps.{SameNets, SameRates, HasSpare}
use Rattle.storage.proofs.TokensStayNonnegative.{IsBefore, before-firing, none-paid}

-- counts block another net too, if each actor below its round lacks tokens there on some channel
pub blocks-on : (net other : Net) (v : ℕ → ℕ) → SameNets net other → Blocks net v →
    ((a : ℕ) → a < length net.times → v a < slice_index net.round a →
    (i : ℕ) × (i < length net.channels) × ((channel_at net i).target ≡ a) × Needs (channel_at other i) (v a) (v (channel_at net i).source)) → Blocks other v
blocks-on net other v same blocks lacks = record {
  within = λ a actor. subst (λ (r : List ℕ). v a ≤ slice_index r a) same.round (blocks.within a (there a actor));
  short = (
    blocks.short.0,
    subst (λ (ts : List (List ℕ)). blocks.short.0 < length ts) same.times blocks.short.1,
    subst
        (λ (r : List ℕ). v blocks.short.0 < slice_index r blocks.short.0) same.round blocks.short.2,
  );
  closed = λ a actor less. (
      let l = lacks a (there a actor) (subst (λ (r : List ℕ). v a < slice_index r a) (sym same.round) less) in
      let one : SameRates (channel_at net l.0) (channel_at other l.0) = same.each l.0 l.1 in
      (l.0, subst (λ (n : ℕ). l.0 < n) same.many l.1, sym one.target ∙ l.2, subst (λ (b : ℕ). Needs (channel_at other l.0) (v a) (v b)) one.source l.3));
}
  where
    there : (a : ℕ) → a < length other.times → a < length net.times
    there a actor = subst (λ (ts : List (List ℕ)). a < length ts) (sym same.times) actor

-- spare tokens feed no need
pub spare-needs : (net other : Net) (step spare : ℕ → ℕ) → HasSpare net other step spare → (i j m : ℕ) → i < length net.channels → Needs (channel_at net i) j m → Needs (channel_at other i) j m
spare-needs net other step spare has i j m below need =
    let a = whole-total (step i) (channel_at net i).made (has.made i below) m in
    let b = whole-total (step i) (channel_at net i).taken (has.taken i below) (j + 1) in
    let u = has.whole i below in
    let one : SameRates (channel_at net i) (channel_at other i) = has.same.each i below in
    let made : total (channel_at net i).made m ≡ total (channel_at other i).made m = ap (λ (xs : List ℕ). total xs m) one.made in
    let taken : total (channel_at net i).taken (j + 1) ≡ total (channel_at other i).taken (j + 1) = ap (λ (xs : List ℕ). total xs (j + 1)) one.taken in
    let less : (u.0 + a.0) * step i < b.0 * step i = omega (arith, need, u.1, a.1, b.1) in
    let up : (u.0 + a.0) * step i + spare i < b.0 * step i = Rattle.bounded_scenarios.proofs.WayMaps.spare-under (step i) (spare i) (u.0 + a.0) b.0 (has.small i below) less in
    (let f : (channel_at other i).tokens + total (channel_at other i).made m < total (channel_at other i).taken (j + 1) = omega (arith, has.tokens i below, u.1, a.1, b.1) in f)

-- what runs with spare tokens runs without them
pub spare-live : (net other : Net) (step spare : ℕ → ℕ) → HasSpare net other step spare → Wired other → IsLive other → IsLive net
spare-live net other step spare has wired live = ⊎_elim
    (λ (runs : IsLive net). runs)
    (λ (blocked : (v : ℕ → ℕ) × Rattle.sd_base.specs.Untimed.IsEnd net v × Blocks net v). absurd (live-unblocked other wired live blocked.0 (
    blocks-on net other blocked.0 has.same blocked.2
    (λ a actor less. (let l = blocked.2.closed a actor less in (l.0, l.1, l.2, spare-needs net other step spare has l.0 (blocked.0 a) (blocked.0 (channel_at net l.0).source) l.1 l.3))))))
    (live_or_blocked net)

-- ---- a channel and its free space hold enough for each rate

-- channel s is the free space of channel c
pub record IsSpaceOf (c s : Channel) : Type 0 where
  pub source : s.source ≡ c.target
  pub target : s.target ≡ c.source
  pub made : s.made ≡ c.taken
  pub taken : s.taken ≡ c.made

module _ (net : Net) (live : IsLive net) (fires : (a : ℕ) → a < length net.times → 1 ≤ slice_index net.round a) (c s : ℕ) (here : c < length net.channels) (there : s < length net.channels)
    (is : IsSpaceOf (channel_at net c) (channel_at net s)) where
  first-of : (a : ℕ) → a < length net.times → IsBefore net a 0
  first-of a actor = (let whole : counts_after none_fired live.0 a ≡ slice_index net.round a = live.1.whole a actor in let some : 1 ≤ slice_index net.round a = fires a actor in
      before-firing net live.0 none_fired a 0 live.1.fires (none-paid net) (omega arith) (omega arith))

  pub made-covered : (channel_at net c).source < length net.times → total (channel_at net c).made 1 ≤ (channel_at net c).tokens + (channel_at net s).tokens
  made-covered actor =
      let b = first-of (channel_at net c).source actor in
      let can : total (channel_at net s).taken (b.counts (channel_at net c).source + 1) ≤ (channel_at net s).tokens + total (channel_at net s).made (b.counts (channel_at net s).source) =
      b.can s there is.target in
      let paid : total (channel_at net c).taken (b.counts (channel_at net c).target) ≤ (channel_at net c).tokens + total (channel_at net c).made (b.counts (channel_at net c).source) =
      b.paid.each c here in
      let none : total (channel_at net c).made (b.counts (channel_at net c).source) ≡ 0 = ap (λ (n : ℕ). total (channel_at net c).made n) b.next ∙ total-zero (channel_at net c).made in
      let one : total (channel_at net s).taken (b.counts (channel_at net c).source + 1) ≡ total (channel_at net c).made 1 =
      ap (λ (n : ℕ). total (channel_at net s).taken (n + 1)) b.next ∙ ap (λ (xs : List ℕ). total xs 1) is.taken in
      let back : total (channel_at net s).made (b.counts (channel_at net s).source) ≡ total (channel_at net c).taken (b.counts (channel_at net c).target) =
      ap (λ (n : ℕ). total (channel_at net s).made (b.counts n)) is.source ∙ ap (λ (xs : List ℕ). total xs (b.counts (channel_at net c).target)) is.made in
      omega arith

  pub taken-covered : (channel_at net c).target < length net.times → total (channel_at net c).taken 1 ≤ (channel_at net c).tokens + (channel_at net s).tokens
  taken-covered actor =
      let b = first-of (channel_at net c).target actor in
      let can : total (channel_at net c).taken (b.counts (channel_at net c).target + 1) ≤ (channel_at net c).tokens + total (channel_at net c).made (b.counts (channel_at net c).source) =
      b.can c here refl in
      let paid : total (channel_at net s).taken (b.counts (channel_at net s).target) ≤ (channel_at net s).tokens + total (channel_at net s).made (b.counts (channel_at net s).source) =
      b.paid.each s there in
      let one : total (channel_at net c).taken (b.counts (channel_at net c).target + 1) ≡ total (channel_at net c).taken 1 = ap (λ (n : ℕ). total (channel_at net c).taken (n + 1)) b.next in
      let back : total (channel_at net s).taken (b.counts (channel_at net s).target) ≡ total (channel_at net c).made (b.counts (channel_at net c).source) =
      ap (λ (n : ℕ). total (channel_at net s).taken (b.counts n)) is.target ∙ ap (λ (xs : List ℕ). total xs (b.counts (channel_at net c).source)) is.taken in
      let none : total (channel_at net s).made (b.counts (channel_at net s).source) ≡ 0 =
      ap (λ (n : ℕ). total (channel_at net s).made (b.counts n)) is.source ∙ (ap (λ (n : ℕ). total (channel_at net s).made n) b.next ∙ total-zero (channel_at net s).made) in
      omega arith
