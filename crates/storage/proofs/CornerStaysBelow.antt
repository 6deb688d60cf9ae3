-- Rounding keeps distributions, and a live distribution rounded down is at least the corner.
use Rattle.std.proofs.Common.{◌≡◌, ℕ, zero, suc, ◌+◌, ◌-◌, ◌/◌, ◌%◌, ◌≤◌, ◌<◌, true, false, Option, None, Some, List, [], ◌∷◌, length, ⊎_elim, subst, sym, refl, ap, ◌∙◌, arith, div-mul-le_self}
use Rattle.std.specs.Prelude.{slice_index, slice_index_or}
use Rattle.std.proofs.Math.Nat.{mod-eq_of_lt}
use Rattle.std.proofs.lemmas.Bool.{cases_lt}
use Rattle.std.proofs.lemmas.List.{get_or_past}
use Rattle.sd_base.specs.Net.{Channel, Net, nowhere, channel_at, phase_entry, total}
use Rattle.sd_base.specs.Schedules.{phases_at}
use Rattle.sd_base.specs.Lawful.{Lawful}
use Rattle.sd_base.specs.Untimed.{none_fired, counts_after, IsLive}
use Rattle.sd_base.proofs.SumsRepeatByTurns.{total-more}
use Rattle.sd_base.proofs.LawfulIsRegular.{balanced}
use Rattle.storage.specs.Distributions.{capacity_at, IsDistribution, AtMost}
use Rattle.storage.specs.BoundedNets.{bound}
use Rattle.storage.specs.Steps.{step_of, IsOnStep, IsOnGrid, CoversRates, IsCornerAt, IsCorner, rounded_at, rounded}
use Rattle.storage.specs.inside.Easing.{Eases}
use Rattle.storage.proofs.SpaceChannels.{bound-front, bound-space}
use Rattle.storage.proofs.RoundingKeepsNeeds.{bound-eases, rounding-eases}
use Rattle.storage.proofs.EasingKeepsSchedules.{eases-live}
use Rattle.storage.proofs.TokensStayNonnegative.{IsBefore, none-paid, before-firing}

pub tokens-at : (cs : List Channel) (ds : List (Option ℕ)) (p k : ℕ) → IsDistribution cs ds → capacity_at ds p ≡ Some k → (slice_index_or cs p nowhere).tokens ≤ k
tokens-at [] [] p k dist has = cc
tokens-at [] (d ∷ ds) p k dist has = absurd dist
tokens-at (c ∷ cs) [] p k dist has = cc
tokens-at (c ∷ cs) (None ∷ ds) zero k dist has = cc
tokens-at (c ∷ cs) (None ∷ ds) (suc p) k dist has = tokens-at cs ds p k dist.2 has
tokens-at (c ∷ cs) (Some x ∷ ds) zero k dist has = let same : x ≡ k = cc in omega (arith, dist.2)
tokens-at (c ∷ cs) (Some x ∷ ds) (suc p) k dist has = tokens-at cs ds p k dist.3 has

rounded-covers : (c : Channel) (k : ℕ) → c.tokens ≤ rounded_at c k
unfolding rounded_at
rounded-covers c k = omega arith

rounded-le : (c : Channel) (k : ℕ) → c.tokens ≤ k → rounded_at c k ≤ k
unfolding rounded_at
rounded-le c k covers = omega (arith, div-mul-le_self (k - c.tokens) (step_of c))

rounded-step : (c : Channel) (k : ℕ) → IsOnStep c (rounded_at c k)
unfolding rounded_at
rounded-step c k = ((k - c.tokens) / step_of c, refl)

pub rounded-dist : (cs : List Channel) (ds : List (Option ℕ)) → IsDistribution cs ds → IsDistribution cs (rounded cs ds)
rounded-dist [] [] dist = tt
rounded-dist [] (d ∷ ds) dist = absurd dist
rounded-dist (c ∷ cs) [] dist = dist
rounded-dist (c ∷ cs) (None ∷ ds) dist = (dist.0, dist.1, rounded-dist cs ds dist.2)
rounded-dist (c ∷ cs) (Some k ∷ ds) dist = (dist.0, dist.1, rounded-covers c k, rounded-dist cs ds dist.3)

pub rounded-grid : (cs : List Channel) (ds : List (Option ℕ)) → IsDistribution cs ds → IsOnGrid cs (rounded cs ds)
rounded-grid [] [] dist = tt
rounded-grid [] (d ∷ ds) dist = absurd dist
rounded-grid (c ∷ cs) [] dist = tt
rounded-grid (c ∷ cs) (None ∷ ds) dist = rounded-grid cs ds dist.2
rounded-grid (c ∷ cs) (Some k ∷ ds) dist = (rounded-step c k, rounded-grid cs ds dist.3)

pub rounded-most : (cs : List Channel) (ds : List (Option ℕ)) → IsDistribution cs ds → AtMost (rounded cs ds) ds
rounded-most [] [] dist = tt
rounded-most [] (d ∷ ds) dist = absurd dist
rounded-most (c ∷ cs) [] dist = tt
rounded-most (c ∷ cs) (None ∷ ds) dist = rounded-most cs ds dist.2
rounded-most (c ∷ cs) (Some k ∷ ds) dist = (rounded-le c k dist.2, rounded-most cs ds dist.3)

phases-few : (net : Net) → Lawful net → (a : ℕ) → a < length net.times → phases_at net a ≤ slice_index net.round a
phases-few net laws a actor = ⊎_elim (λ (less : slice_index net.round a < phases_at net a). absurd (let rest : slice_index net.round a % phases_at net a ≡ slice_index net.round a = mod-eq_of_lt less in let turns : slice_index net.round a % phases_at net a ≡ 0 = (balanced net laws).cycles a actor in let fires : 1 ≤ slice_index net.round a = (balanced net laws).fires a actor in omega arith)) (λ (h : phases_at net a ≤ slice_index net.round a). h) (cases_lt (slice_index net.round a) (phases_at net a))

entry-is : (xs : List ℕ) (p : ℕ) → p < length xs → phase_entry xs p ≡ slice_index xs p
entry-is xs p below = ap (slice_index xs) (mod-eq_of_lt below)

module _ (net : Net) (laws : Lawful net) (ds : List (Option ℕ)) (dist : IsDistribution net.channels ds) (live : IsLive (bound net ds)) where
  before : (a p : ℕ) → a < length net.times → p < slice_index net.round a → IsBefore (bound net ds) a p
  before a p actor below = let whole : counts_after none_fired live.0 a ≡ slice_index net.round a = live.1.whole a actor in before-firing (bound net ds) live.0 none_fired a p live.1.fires (none-paid (bound net ds)) (omega arith) (omega arith)

  module _ (c k : ℕ) (below : c < length net.channels) (has : capacity_at ds c ≡ Some k) where
    covers : (channel_at net c).tokens ≤ k
    covers = tokens-at net.channels ds c k dist has

    here : c < length (bound net ds).channels
    here = omega (arith, Rattle.storage.proofs.SpaceChannels.bound-long net ds)

    front : channel_at (bound net ds) c ≡ channel_at net c
    front = bound-front net ds c below

    made-fits : (p : ℕ) → slice_index (channel_at net c).made p ≤ k
    made-fits p = ⊎_elim (λ (phase : p < length (channel_at net c).made). let long : length (channel_at net c).made ≡ phases_at net (channel_at net c).source = laws.made_phases c below in let few : phases_at net (channel_at net c).source ≤ slice_index net.round (channel_at net c).source = phases-few net laws (channel_at net c).source (laws.sources c below) in let b : IsBefore (bound net ds) (channel_at net c).source p = before (channel_at net c).source p (laws.sources c below) (omega arith) in let space = bound-space net ds c k below has in let into : (channel_at (bound net ds) space.0).target ≡ (channel_at net c).source = ap (λ (x : Channel). x.target) space.2 in
        let can : total (channel_at net c).made (b.counts (channel_at net c).source + 1) ≤ (k - (channel_at net c).tokens) + total (channel_at net c).taken (b.counts (channel_at net c).target) = subst (λ (x : Channel). total x.taken (b.counts (channel_at net c).source + 1) ≤ x.tokens + total x.made (b.counts x.source)) space.2 (b.can space.0 space.1 into) in let paid : total (channel_at net c).taken (b.counts (channel_at net c).target) ≤ (channel_at net c).tokens + total (channel_at net c).made (b.counts (channel_at net c).source) = subst (λ (x : Channel). total x.taken (b.counts x.target) ≤ x.tokens + total x.made (b.counts x.source)) front (b.paid.each c here) in
        let more : total (channel_at net c).made (p + 1) ≡ total (channel_at net c).made p + phase_entry (channel_at net c).made p = total-more (channel_at net c).made p in let can_p : total (channel_at net c).made (p + 1) ≤ (k - (channel_at net c).tokens) + total (channel_at net c).taken (b.counts (channel_at net c).target) = rw (b.next) at can in let paid_p : total (channel_at net c).taken (b.counts (channel_at net c).target) ≤ (channel_at net c).tokens + total (channel_at net c).made p = rw (b.next) at paid in omega (arith, covers, entry-is (channel_at net c).made p phase)) (λ (past : length (channel_at net c).made ≤ p). rw (get_or_past (channel_at net c).made p 0 past) (omega arith)) (cases_lt p (length (channel_at net c).made))

    taken-fits : (p : ℕ) → slice_index (channel_at net c).taken p ≤ k
    taken-fits p = ⊎_elim (λ (phase : p < length (channel_at net c).taken). let long : length (channel_at net c).taken ≡ phases_at net (channel_at net c).target = laws.taken_phases c below in let few : phases_at net (channel_at net c).target ≤ slice_index net.round (channel_at net c).target = phases-few net laws (channel_at net c).target (laws.targets c below) in let b : IsBefore (bound net ds) (channel_at net c).target p = before (channel_at net c).target p (laws.targets c below) (omega arith) in let space = bound-space net ds c k below has in let into : (channel_at (bound net ds) c).target ≡ (channel_at net c).target = ap (λ (x : Channel). x.target) front in
        let can : total (channel_at net c).taken (b.counts (channel_at net c).target + 1) ≤ (channel_at net c).tokens + total (channel_at net c).made (b.counts (channel_at net c).source) = subst (λ (x : Channel). total x.taken (b.counts (channel_at net c).target + 1) ≤ x.tokens + total x.made (b.counts x.source)) front (b.can c here into) in let paid : total (channel_at net c).made (b.counts (channel_at net c).source) ≤ (k - (channel_at net c).tokens) + total (channel_at net c).taken (b.counts (channel_at net c).target) = subst (λ (x : Channel). total x.taken (b.counts x.target) ≤ x.tokens + total x.made (b.counts x.source)) space.2 (b.paid.each space.0 space.1) in
        let more : total (channel_at net c).taken (p + 1) ≡ total (channel_at net c).taken p + phase_entry (channel_at net c).taken p = total-more (channel_at net c).taken p in let can_p : total (channel_at net c).taken (p + 1) ≤ (channel_at net c).tokens + total (channel_at net c).made (b.counts (channel_at net c).source) = rw (b.next) at can in let paid_p : total (channel_at net c).made (b.counts (channel_at net c).source) ≤ (k - (channel_at net c).tokens) + total (channel_at net c).taken p = rw (b.next) at paid in omega (arith, covers, entry-is (channel_at net c).taken p phase)) (λ (past : length (channel_at net c).taken ≤ p). rw (get_or_past (channel_at net c).taken p 0 past) (omega arith)) (cases_lt p (length (channel_at net c).taken))

    pub live-covers : CoversRates (channel_at net c) k
    live-covers = record { made = made-fits; taken = taken-fits }

pub rounded-entry : (cs : List Channel) (ds : List (Option ℕ)) (p k : ℕ) → p < length cs → capacity_at ds p ≡ Some k → capacity_at (rounded cs ds) p ≡ Some (rounded_at (slice_index_or cs p nowhere) k)
rounded-entry [] ds p k below has = absurd (omega arith)
rounded-entry (c ∷ cs) [] p k below has = cc
rounded-entry (c ∷ cs) (None ∷ ds) zero k below has = cc
rounded-entry (c ∷ cs) (None ∷ ds) (suc p) k below has = rounded-entry cs ds p k (omega arith) has
rounded-entry (c ∷ cs) (Some x ∷ ds) zero k below has = let same : x ≡ k = cc in rw same refl
rounded-entry (c ∷ cs) (Some x ∷ ds) (suc p) k below has = rounded-entry cs ds p k (omega arith) has

corner-least : (c : Channel) (e k : ℕ) → IsCornerAt c e → CoversRates c (rounded_at c k) → e ≤ rounded_at c k
unfolding rounded_at
corner-least c e k corner covers = corner.least ((k - c.tokens) / step_of c) covers

pub corner-below : (cs : List Channel) (es ds : List (Option ℕ)) → IsCorner cs es → IsDistribution cs ds → ((p k : ℕ) → p < length cs → capacity_at ds p ≡ Some k → CoversRates (slice_index_or cs p nowhere) (rounded_at (slice_index_or cs p nowhere) k)) → AtMost es (rounded cs ds)
corner-below [] [] [] corner dist covers = tt
corner-below [] [] (d ∷ ds) corner dist covers = absurd dist
corner-below [] (e ∷ es) ds corner dist covers = absurd corner
corner-below (c ∷ cs) [] [] corner dist covers = tt
corner-below (c ∷ cs) [] (None ∷ ds) corner dist covers = absurd (let no : true ≡ false = sym dist.0 ∙ corner.0 in cc)
corner-below (c ∷ cs) [] (Some k ∷ ds) corner dist covers = absurd (let no : true ≡ false = sym dist.0 ∙ corner.0 in cc)
corner-below (c ∷ cs) (None ∷ es) [] corner dist covers = absurd (let no : true ≡ false = sym corner.0 ∙ dist.0 in cc)
corner-below (c ∷ cs) (Some e ∷ es) [] corner dist covers = absurd (let no : true ≡ false = sym corner.0 ∙ dist.0 in cc)
corner-below (c ∷ cs) (None ∷ es) (None ∷ ds) corner dist covers = corner-below cs es ds corner.2 dist.2 (λ p k below has. covers (suc p) k (omega arith) has)
corner-below (c ∷ cs) (None ∷ es) (Some k ∷ ds) corner dist covers = absurd (dist.1 corner.1)
corner-below (c ∷ cs) (Some e ∷ es) (None ∷ ds) corner dist covers = absurd (corner.1 dist.1)
corner-below (c ∷ cs) (Some e ∷ es) (Some k ∷ ds) corner dist covers = (corner-least c e k corner.2 (covers 0 k (omega arith) refl), corner-below cs es ds corner.3 dist.3 (λ p l below has. covers (suc p) l (omega arith) has))

pub rounded-above : (net : Net) → Lawful net → ((i : ℕ) → i < length net.channels → 1 ≤ step_of (channel_at net i)) → (ds corner : List (Option ℕ)) → IsDistribution net.channels ds → IsLive (bound net ds) → IsCorner net.channels corner → AtMost corner (rounded net.channels ds)
rounded-above net laws steps ds corner dist live is_corner = let pairs = rounding-eases 0 net.channels ds steps in let eases : Eases (bound net ds) (bound net (rounded net.channels ds)) = bound-eases net ds (rounded net.channels ds) pairs.0 in let alive : IsLive (bound net (rounded net.channels ds)) = eases-live (bound net ds) (bound net (rounded net.channels ds)) eases live in corner-below net.channels corner ds is_corner dist (λ p k below has. live-covers net laws (rounded net.channels ds) (rounded-dist net.channels ds dist) alive p (rounded_at (channel_at net p) k) below (rounded-entry net.channels ds p k below has))
