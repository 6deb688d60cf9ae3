-- A net whose neighbouring actors are joined is connected, and each actor has an incident channel.
use Rattle.std.proofs.Common.{◌≡◌, ℕ, zero, suc, ◌≤◌, ◌<◌, ◌⊎◌, List, [], ◌∷◌, ◌++◌, length, inl, inr, refl, sym, arith}
use Rattle.sd_base.specs.Net.{Net, channel_at}
use Rattle.sd_base.specs.Connection.{IsConnected, IsWalk, ends_of}
use Rattle.sd_base.proofs.PathsAreWalks.{pair-of, walk-append}
use Rattle.storage.specs.IncidentActors.{AreIncident}
use Rattle.test_explore.specs.Neighbours.{AreJoined, NeighboursAreJoined}

step : (net : Net) (a b : ℕ) → AreJoined net a b → (ks : List ℕ) × IsWalk (ends_of net) a ks b
step net a b (i, place, inl (source, target)) = (i ∷ [], (((channel_at net i).source, (channel_at net i).target), pair-of net i place, inl (sym source, target)))
step net a b (i, place, inr (source, target)) = (i ∷ [], (((channel_at net i).source, (channel_at net i).target), pair-of net i place, inr (sym target, source)))

pub joined-connected : (net : Net) → NeighboursAreJoined net → IsConnected net
joined-connected net joined zero actor = ([], refl)
joined-connected net joined (suc a) actor =
    let to = joined-connected net joined a (omega arith) in
    let on = step net a (suc a) (joined a actor) in
    (to.0 ++ on.0, walk-append (ends_of net) to.0 on.0 0 a (suc a) to.1 on.1)

pub joined-incident : (net : Net) → 2 ≤ length net.times → NeighboursAreJoined net → AreIncident net
joined-incident net two joined zero actor = at (joined 0 (omega arith))
  where
    at : AreJoined net 0 1 → (i : ℕ) × (i < length net.channels) × (((channel_at net i).source ≡ 0) ⊎ ((channel_at net i).target ≡ 0))
    at (i, place, inl (source, target)) = (i, place, inl source)
    at (i, place, inr (source, target)) = (i, place, inr target)
joined-incident net two joined (suc a) actor = at (joined a actor)
  where
    at : AreJoined net a (suc a) → (i : ℕ) × (i < length net.channels) × (((channel_at net i).source ≡ suc a) ⊎ ((channel_at net i).target ≡ suc a))
    at (i, place, inl (source, target)) = (i, place, inr target)
    at (i, place, inr (source, target)) = (i, place, inl source)
