-- The space channels of a bounded net, and where each stands.
use Rattle.std.proofs.Common.{◌≡◌, ℕ, zero, suc, ◌+◌, ◌-◌, ◌≤◌, ◌<◌, Option, None, Some, List, [], ◌∷◌, length, ⊎_elim, subst, sym, refl, ap, ◌∙◌, arith}
use Rattle.std.specs.Prelude.{◌≢◌, slice_index_or}
use Rattle.sd_base.specs.declared.limits.TheConstants.{NET_TOKENS}
use Rattle.sd_base.specs.declared.role.Role.TheVariants.{Space}
use Rattle.std.proofs.lemmas.Bool.{cases_lt}
use Rattle.std.proofs.lemmas.List.{length-append, get_or_append_left, get_or-append_right, get_or-append-add}
use Rattle.sd_base.specs.Net.{Channel, Net, nowhere, channel_at}
use Rattle.storage.specs.Distributions.{capacity_at, CanHold}
use Rattle.storage.specs.BoundedNets.{space_of, spaces_from, bound}

pub record SpaceAt (n : ℕ) (cs : List Channel) (ds : List (Option ℕ)) (x : Channel) : Type 0 where
  pub place : ℕ
  pub below : place < length cs
  pub room : ℕ
  pub has : capacity_at ds place ≡ Some room
  pub is : x ≡ space_of (n + place) (slice_index_or cs place nowhere) room

space-later : (n : ℕ) (c : Channel) (cs : List Channel) (d : Option ℕ) (ds : List (Option ℕ)) (x : Channel) → SpaceAt (suc n) cs ds x → SpaceAt n (c ∷ cs) (d ∷ ds) x
space-later n c cs d ds x at = record {
  place = suc at.place;
  below = omega (arith, at.below);
  room = at.room;
  has = at.has;
  is = let e : n + suc at.place ≡ suc n + at.place = omega arith in rw e at.is;
}

-- there are no more spaces than channels
pub few-spaces : (n : ℕ) (cs : List Channel) (ds : List (Option ℕ)) → length (spaces_from n cs ds) ≤ length cs
few-spaces n [] ds = omega arith
few-spaces n (c ∷ cs) [] = omega arith
few-spaces n (c ∷ cs) (None ∷ ds) = let later = few-spaces (suc n) cs ds in omega (arith, later)
few-spaces n (c ∷ cs) (Some k ∷ ds) = let later = few-spaces (suc n) cs ds in omega (arith, later)

pub spaces-tell : (n : ℕ) (cs : List Channel) (ds : List (Option ℕ)) (i : ℕ) → i < length (spaces_from n cs ds) → SpaceAt n cs ds (slice_index_or (spaces_from n cs ds) i nowhere)
spaces-tell n [] ds i below = absurd (omega arith)
spaces-tell n (c ∷ cs) [] i below = absurd (omega arith)
spaces-tell n (c ∷ cs) (None ∷ ds) i below = space-later n c cs None ds _ (spaces-tell (suc n) cs ds i below)
spaces-tell n (c ∷ cs) (Some k ∷ ds) zero below = record { place = 0; below = omega arith; room = k; has = refl; is = let e : n + 0 ≡ n = omega arith in rw e refl }
spaces-tell n (c ∷ cs) (Some k ∷ ds) (suc i) below = space-later n c cs (Some k) ds _ (spaces-tell (suc n) cs ds i (omega arith))

pub spaces-there : (n : ℕ) (cs : List Channel) (ds : List (Option ℕ)) (p k : ℕ) → p < length cs → capacity_at ds p ≡ Some k → (i : ℕ) × (i < length (spaces_from n cs ds)) × (slice_index_or (spaces_from n cs ds) i nowhere ≡ space_of (n + p) (slice_index_or cs p nowhere) k)
spaces-there n [] ds p k below has = absurd (omega arith)
spaces-there n (c ∷ cs) [] p k below has = cc
spaces-there n (c ∷ cs) (None ∷ ds) zero k below has = cc
spaces-there n (c ∷ cs) (None ∷ ds) (suc p) k below has = let found = spaces-there (suc n) cs ds p k (omega arith) has in let e : n + suc p ≡ suc n + p = omega arith in (found.0, found.1, rw e found.2)
spaces-there n (c ∷ cs) (Some x ∷ ds) zero k below has = let same : x ≡ k = cc in let e : n + 0 ≡ n = omega arith in (0, omega arith, rw (e, same) refl)
spaces-there n (c ∷ cs) (Some x ∷ ds) (suc p) k below has = let found = spaces-there (suc n) cs ds p k (omega arith) has in let e : n + suc p ≡ suc n + p = omega arith in (suc found.0, omega (arith, found.1), rw e found.2)

pub holds-at : (cs : List Channel) (ds : List (Option ℕ)) (p k : ℕ) → CanHold cs ds → capacity_at ds p ≡ Some k → ((slice_index_or cs p nowhere).source ≢ (slice_index_or cs p nowhere).target) × ((slice_index_or cs p nowhere).tokens ≤ k) × (k ≤ NET_TOKENS)
holds-at [] [] p k can has = cc
holds-at [] (d ∷ ds) p k can has = absurd can
holds-at (c ∷ cs) [] p k can has = cc
holds-at (c ∷ cs) (None ∷ ds) zero k can has = cc
holds-at (c ∷ cs) (None ∷ ds) (suc p) k can has = holds-at cs ds p k can has
holds-at (c ∷ cs) (Some x ∷ ds) zero k can has = let same : x ≡ k = cc in (can.0, rw (same) at can.1, rw (same) at can.2)
holds-at (c ∷ cs) (Some x ∷ ds) (suc p) k can has = holds-at cs ds p k can.3 has

role-is : (n : ℕ) (cs : List Channel) (ds : List (Option ℕ)) (x : Channel) (at : SpaceAt n cs ds x) → x.role ≡ Space (n + at.place)
role-is n cs ds x at = ap (λ (c : Channel). c.role) at.is

later-role : (n : ℕ) (cs : List Channel) (ds : List (Option ℕ)) (i : ℕ) → i < length (spaces_from (suc n) cs ds) → (slice_index_or (spaces_from (suc n) cs ds) i nowhere).role ≡ Space n → ⊥
later-role n cs ds i below same = let at = spaces-tell (suc n) cs ds i below in differs (suc n + at.place) (sym (role-is (suc n) cs ds _ at) ∙ same) (omega arith)
  where
    differs : (x : ℕ) → Space x ≡ Space n → n < x → ⊥
    differs x e less = let e' : x ≡ n = cc in omega arith

pub spaces-one : (n : ℕ) (cs : List Channel) (ds : List (Option ℕ)) (i j : ℕ) → i < length (spaces_from n cs ds) → j < length (spaces_from n cs ds) → (slice_index_or (spaces_from n cs ds) i nowhere).role ≡ (slice_index_or (spaces_from n cs ds) j nowhere).role → i ≡ j
spaces-one n [] ds i j below there same = absurd (omega arith)
spaces-one n (c ∷ cs) [] i j below there same = absurd (omega arith)
spaces-one n (c ∷ cs) (None ∷ ds) i j below there same = spaces-one (suc n) cs ds i j below there same
spaces-one n (c ∷ cs) (Some k ∷ ds) zero zero below there same = refl
spaces-one n (c ∷ cs) (Some k ∷ ds) zero (suc j) below there same = absurd (later-role n cs ds j (omega arith) (sym same))
spaces-one n (c ∷ cs) (Some k ∷ ds) (suc i) zero below there same = absurd (later-role n cs ds i (omega arith) same)
spaces-one n (c ∷ cs) (Some k ∷ ds) (suc i) (suc j) below there same = ap suc (spaces-one (suc n) cs ds i j (omega arith) (omega arith) same)

pub bound-front : (net : Net) (ds : List (Option ℕ)) (i : ℕ) → i < length net.channels → channel_at (bound net ds) i ≡ channel_at net i
bound-front net ds i below = get_or_append_left net.channels (spaces_from 0 net.channels ds) nowhere i below

pub bound-long : (net : Net) (ds : List (Option ℕ)) → length (bound net ds).channels ≡ length net.channels + length (spaces_from 0 net.channels ds)
bound-long net ds = length-append net.channels (spaces_from 0 net.channels ds)

pub bound-space : (net : Net) (ds : List (Option ℕ)) (c k : ℕ) → c < length net.channels → capacity_at ds c ≡ Some k → (i : ℕ) × (i < length (bound net ds).channels) × (channel_at (bound net ds) i ≡ space_of c (channel_at net c) k)
bound-space net ds c k below has = let found = spaces-there 0 net.channels ds c k below has in let e : 0 + c ≡ c = omega arith in let is : slice_index_or (spaces_from 0 net.channels ds) found.0 nowhere ≡ space_of c (channel_at net c) k = rw e at found.2 in (length net.channels + found.0, omega (arith, bound-long net ds, found.1), get_or-append-add net.channels (spaces_from 0 net.channels ds) found.0 nowhere ∙ is)

pub bound-past : (net : Net) (ds : List (Option ℕ)) (i : ℕ) → length net.channels ≤ i → channel_at (bound net ds) i ≡ slice_index_or (spaces_from 0 net.channels ds) (i - length net.channels) nowhere
bound-past net ds i later = get_or-append_right net.channels (spaces_from 0 net.channels ds) (length net.channels) i nowhere refl later

pub bound-back : (net : Net) (ds : List (Option ℕ)) (i : ℕ) → length net.channels ≤ i → i < length (bound net ds).channels → SpaceAt 0 net.channels ds (channel_at (bound net ds) i)
bound-back net ds i later below = let at : SpaceAt 0 net.channels ds (slice_index_or (spaces_from 0 net.channels ds) (i - length net.channels) nowhere) = spaces-tell 0 net.channels ds (i - length net.channels) (omega (arith, bound-long net ds)) in subst (SpaceAt 0 net.channels ds) (sym (bound-past net ds i later)) at

pub each-bound : (net : Net) (ds : List (Option ℕ)) (P : Channel → Type 0) → ((i : ℕ) → i < length net.channels → P (channel_at net i)) → ((i k : ℕ) → i < length net.channels → capacity_at ds i ≡ Some k → P (space_of i (channel_at net i) k)) → (i : ℕ) → i < length (bound net ds).channels → P (channel_at (bound net ds) i)
each-bound net ds P front back i below = ⊎_elim (λ (here : i < length net.channels). subst P (sym (bound-front net ds i here)) (front i here)) (λ (later : length net.channels ≤ i). let at : SpaceAt 0 net.channels ds (channel_at (bound net ds) i) = bound-back net ds i later below in let e : 0 + at.place ≡ at.place = omega arith in let is : channel_at (bound net ds) i ≡ space_of at.place (channel_at net at.place) at.room = rw e at at.is in subst P (sym is) (back at.place at.room at.below at.has)) (cases_lt i (length net.channels))
