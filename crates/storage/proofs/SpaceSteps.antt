-- One more capacity adds its space channel at the end.
use Rattle.std.proofs.Common.{◌≡◌, ℕ, zero, suc, ◌+◌, ◌-◌, ◌<◌, Option, None, Some, List, [], ◌∷◌, ◌++◌, length, map, take, sym, refl, ap, ◌∙◌, arith, add-one}
use Rattle.std.specs.Prelude.{slice_index_or}
use Rattle.std.proofs.lemmas.List.{map-append}
use Rattle.std.proofs.lemmas.List.Elements.{All-push}
use Rattle.sd_base.specs.Net.{Channel, Net, nowhere, channel_at}
use Rattle.storage.specs.declared.bounded.Space.{Space}
use Rattle.storage.specs.Distributions.{capacity_at, CanHold}
use Rattle.storage.specs.BoundedNets.{space_of, spaces_from}
use Rattle.storage.specs.inside.SpaceLists.{space_in, AreSpacesOf}

pub holds-below : (cs : List Channel) (ds : List (Option ℕ)) (p k : ℕ) → CanHold cs ds → capacity_at ds p ≡ Some k → p < length cs
holds-below [] [] p k can has = cc
holds-below [] (d ∷ ds) p k can has = absurd can
holds-below (c ∷ cs) [] p k can has = cc
holds-below (c ∷ cs) (d ∷ ds) zero k can has = omega arith
holds-below (c ∷ cs) (None ∷ ds) (suc p) k can has = omega (arith, holds-below cs ds p k can has)
holds-below (c ∷ cs) (Some x ∷ ds) (suc p) k can has = omega (arith, holds-below cs ds p k can.3 has)

pub spaces-empty : (n : ℕ) (cs : List Channel) → spaces_from n cs [] ≡ []
spaces-empty n [] = refl
spaces-empty n (c ∷ cs) = refl

spaces-none : (n : ℕ) (cs : List Channel) (ds : List (Option ℕ)) (i : ℕ) → i < length ds → capacity_at ds i ≡ None → spaces_from n cs (take (suc i) ds) ≡ spaces_from n cs (take i ds)
spaces-none n [] ds i below has = refl
spaces-none n (c ∷ cs) [] i below has = absurd (omega arith)
spaces-none n (c ∷ cs) (None ∷ ds) zero below has = spaces-empty (suc n) cs
spaces-none n (c ∷ cs) (None ∷ ds) (suc i) below has = spaces-none (suc n) cs ds i (omega arith) has
spaces-none n (c ∷ cs) (Some x ∷ ds) zero below has = cc
spaces-none n (c ∷ cs) (Some x ∷ ds) (suc i) below has = ap (λ (xs : List Channel). space_of n c x ∷ xs) (spaces-none (suc n) cs ds i (omega arith) has)

spaces-some : (n : ℕ) (cs : List Channel) (ds : List (Option ℕ)) (i k : ℕ) → i < length cs → capacity_at ds i ≡ Some k →
    spaces_from n cs (take (suc i) ds) ≡ spaces_from n cs (take i ds) ++ space_of (n + i) (slice_index_or cs i nowhere) k ∷ []
spaces-some n [] ds i k below has = absurd (omega arith)
spaces-some n (c ∷ cs) [] i k below has = cc
spaces-some n (c ∷ cs) (None ∷ ds) zero k below has = cc
spaces-some n (c ∷ cs) (None ∷ ds) (suc i) k below has = let e : n + suc i ≡ suc n + i = omega arith in rw e (spaces-some (suc n) cs ds i k (omega arith) has)
spaces-some n (c ∷ cs) (Some x ∷ ds) zero k below has =
    let same : x ≡ k = cc in
    let e : n + 0 ≡ n = omega arith in
    rw (e, same, spaces-empty (suc n) cs) refl
spaces-some n (c ∷ cs) (Some x ∷ ds) (suc i) k below has =
    let e : n + suc i ≡ suc n + i = omega arith in
    rw e (ap (λ (xs : List Channel). space_of n c x ∷ xs) (spaces-some (suc n) cs ds i k (omega arith) has))

pub no-space : (net : Net) (spaces : List Space) (ds : List (Option ℕ)) (i : ℕ) → i < length ds → capacity_at ds i ≡ None →
    map (space_in net) spaces ≡ spaces_from 0 net.channels (take i ds) → map (space_in net) spaces ≡ spaces_from 0 net.channels (take (i + 1) ds)
no-space net spaces ds i below has so_far = rw add-one (so_far ∙ sym (spaces-none 0 net.channels ds i below has))

pub one-space : (net : Net) (spaces : List Space) (ds : List (Option ℕ)) (i k : ℕ) → i < length net.channels → capacity_at ds i ≡ Some k →
    map (space_in net) spaces ≡ spaces_from 0 net.channels (take i ds) →
    map (space_in net) (spaces ++ record { channel = i; tokens = k - (channel_at net i).tokens } ∷ []) ≡ spaces_from 0 net.channels (take (i + 1) ds)
one-space net spaces ds i k below has so_far =
    let s : Space = record { channel = i; tokens = k - (channel_at net i).tokens } in
    let e : 0 + i ≡ i = omega arith in
    let more : spaces_from 0 net.channels (take (suc i) ds) ≡ spaces_from 0 net.channels (take i ds) ++ space_of i (channel_at net i) k ∷ [] = rw e at (spaces-some 0 net.channels ds i k below has) in
    rw add-one (map-append (space_in net) spaces (record { channel = i; tokens = k - (channel_at net i).tokens } ∷ []) ∙ (ap (λ (xs : List Channel). xs ++ space_of i (channel_at net i) k ∷ []) so_far ∙ sym more))

pub spaces-push : (net : Net) (spaces : List Space) (s : Space) → AreSpacesOf net spaces → s.channel < length net.channels → AreSpacesOf net (spaces ++ s ∷ [])
spaces-push net spaces s are below = All-push (λ (x : Space). x.channel < length net.channels) spaces s are below
