-- A bounded net of a connected one leads from each actor to each.
use Rattle.std.proofs.Common.{◌≡◌, ℕ, zero, suc, ◌<◌, Option, None, Some, List, [], ◌∷◌, ◌++◌, length, inl, inr, ⊎_elim, subst, sym, refl, ap, arith}
use Rattle.std.specs.Prelude.{slice_index_or}
use Rattle.std.proofs.lemmas.Bool.{cases_eq}
use Rattle.sd_base.specs.Net.{Channel, Net, nowhere, channel_at}
use Rattle.sd_base.specs.Connection.{IsPath, IsWalk, Reaches, IsConnected, IsStronglyConnected, ends_of}
use Rattle.sd_base.proofs.PathsAreWalks.{IsChannel, channel-of, pair-of}
use Rattle.storage.specs.Distributions.{capacity_at, IsDistribution}
use Rattle.storage.specs.BoundedNets.{bound}
use Rattle.storage.proofs.SpaceChannels.{bound-front, bound-long, bound-space}

pub capacity-there : (cs : List Channel) (ds : List (Option ℕ)) (p : ℕ) → IsDistribution cs ds → p < length cs → ((slice_index_or cs p nowhere).source ≡ (slice_index_or cs p nowhere).target → ⊥) → (k : ℕ) × (capacity_at ds p ≡ Some k)
capacity-there [] ds p dist below apart = absurd (omega arith)
capacity-there (c ∷ cs) [] zero dist below apart = absurd (apart dist.1)
capacity-there (c ∷ cs) [] (suc p) dist below apart = let found = capacity-there cs [] p dist.2 (omega arith) apart in (found.0, found.1)
capacity-there (c ∷ cs) (None ∷ ds) zero dist below apart = absurd (apart dist.1)
capacity-there (c ∷ cs) (None ∷ ds) (suc p) dist below apart = capacity-there cs ds p dist.2 (omega arith) apart
capacity-there (c ∷ cs) (Some k ∷ ds) zero dist below apart = (k, refl)
capacity-there (c ∷ cs) (Some k ∷ ds) (suc p) dist below apart = capacity-there cs ds p dist.3 (omega arith) apart

path-append : (ends : List (ℕ × ℕ)) (a : ℕ) (path : List ℕ) (b : ℕ) (more : List ℕ) (c : ℕ) → IsPath ends a path b → IsPath ends b more c → IsPath ends a (path ++ more) c
path-append ends a [] b more c same rest = subst (λ (x : ℕ). IsPath ends x more c) (sym same) rest
path-append ends a (k ∷ path) b more c (e, is, from, on) rest = (e, is, from, path-append ends e.1 path b more c on rest)

-- a path leads each way
abbrev Joined : Net → ℕ → ℕ → Type 0
Joined net a b = Reaches (ends_of net) a b × Reaches (ends_of net) b a

joined-trans : (net : Net) (a b c : ℕ) → Joined net a b → Joined net b c → Joined net a c
joined-trans net a b c one other = (
  (one.0.0 ++ other.0.0, path-append (ends_of net) a one.0.0 b other.0.0 c one.0.1 other.0.1),
  (other.1.0 ++ one.1.0, path-append (ends_of net) c other.1.0 b one.1.0 a other.1.1 one.1.1),
)

joined-back : (net : Net) (a b : ℕ) → Joined net a b → Joined net b a
joined-back net a b one = (one.1, one.0)

joined-same : (net : Net) (a b : ℕ) → a ≡ b → Joined net a b
joined-same net a b same = (([], same), ([], sym same))

along : (net : Net) (i a b : ℕ) → i < length net.channels → (channel_at net i).source ≡ a → (channel_at net i).target ≡ b → Reaches (ends_of net) a b
along net i a b place source target = (i ∷ [], (((channel_at net i).source, (channel_at net i).target), pair-of net i place, sym source, target))

module _ (net : Net) (ds : List (Option ℕ)) (dist : IsDistribution net.channels ds) where
  ends-joined : (i : ℕ) → i < length net.channels → Joined (bound net ds) (channel_at net i).source (channel_at net i).target
  ends-joined i below = ⊎_elim (joined-same (bound net ds) (channel_at net i).source (channel_at net i).target) apart (cases_eq (channel_at net i).source (channel_at net i).target)
    where
      apart : ((channel_at net i).source ≡ (channel_at net i).target → ⊥) → Joined (bound net ds) (channel_at net i).source (channel_at net i).target
      apart differ =
          let has = capacity-there net.channels ds i dist below differ in
          let space = bound-space net ds i has.0 below has.1 in
          let front : channel_at (bound net ds) i ≡ channel_at net i = bound-front net ds i below in (
            along (bound net ds) i (channel_at net i).source (channel_at net i).target (omega (arith, bound-long net ds)) (ap (λ (c : Channel). c.source) front) (ap (λ (c : Channel). c.target) front),
            along (bound net ds) space.0 (channel_at net i).target (channel_at net i).source space.1 (ap (λ (c : Channel). c.source) space.2) (ap (λ (c : Channel). c.target) space.2),
          )

  pair-joined : (k : ℕ) (e : ℕ × ℕ) → IsChannel net k e → Joined (bound net ds) e.0 e.1
  pair-joined k e is = subst (λ (x : ℕ). Joined (bound net ds) x e.1) is.source (subst (λ (x : ℕ). Joined (bound net ds) (channel_at net k).source x) is.target (ends-joined k is.place))

  walk-joined : (walk : List ℕ) (a b : ℕ) → IsWalk (ends_of net) a walk b → Joined (bound net ds) a b
  walk-joined [] a b same = joined-same (bound net ds) a b same
  walk-joined (k ∷ walk) a b (e, is, inl (at, rest)) = subst (λ (x : ℕ). Joined (bound net ds) x b) (sym at) (joined-trans (bound net ds) e.0 e.1 b (pair-joined k e (channel-of net k e is)) (walk-joined walk e.1 b rest))
  walk-joined (k ∷ walk) a b (e, is, inr (at, rest)) = subst (λ (x : ℕ). Joined (bound net ds) x b) (sym at) (joined-trans (bound net ds) e.1 e.0 b (joined-back (bound net ds) e.0 e.1 (pair-joined k e (channel-of net k e is))) (walk-joined walk e.0 b rest))

  pub bound-strong : IsConnected net → IsStronglyConnected (bound net ds)
  bound-strong connected a b actor other =
      let to_a = connected a actor in
      let to_b = connected b other in
      (joined-trans (bound net ds) a 0 b (joined-back (bound net ds) 0 a (walk-joined to_a.0 0 a to_a.1)) (walk-joined to_b.0 0 b to_b.1)).0
