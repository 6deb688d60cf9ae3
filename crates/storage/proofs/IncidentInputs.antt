-- Where channels begin or end at all actors, each has an input in a bounded net.
use Rattle.std.proofs.Common.{◌≡◌, ℕ, ◌<◌, ◌⊎◌, inl, inr, Option, List, length, ⊎_elim, sym, ap, ◌∙◌, arith}
use Rattle.std.proofs.lemmas.Bool.{cases_eq}
use Rattle.sd_base.specs.Net.{Channel, Net, channel_at}
use Rattle.sd_base.specs.Schedules.{HasInputs}
use Rattle.storage.specs.BoundedNets.{bound}
use Rattle.storage.specs.Distributions.{IsDistribution}
use Rattle.storage.specs.IncidentActors.{AreIncident, IsIncident}
use Rattle.storage.proofs.SpaceChannels.{bound-front, bound-long, bound-space, each-bound}
use Rattle.storage.proofs.SpacesJoinEnds.{capacity-there}

pub incident-inputs : (net : Net) → AreIncident net → (ds : List (Option ℕ)) → IsDistribution net.channels ds → HasInputs (bound net ds)
incident-inputs net incident ds dist a actor = at (incident a actor)
  where
    into : (i : ℕ) → i < length net.channels → (channel_at net i).target ≡ a → (j : ℕ) × (j < length (bound net ds).channels) × ((channel_at (bound net ds) j).target ≡ a)
    into i place target = (i, omega (arith, bound-long net ds), ap (λ (c : Channel). c.target) (bound-front net ds i place) ∙ target)

    back : (i : ℕ) → i < length net.channels → (channel_at net i).source ≡ a → (j : ℕ) × (j < length (bound net ds).channels) × ((channel_at (bound net ds) j).target ≡ a)
    back i place source =
        ⊎_elim
        (λ (same : (channel_at net i).source ≡ (channel_at net i).target). into i place (sym same ∙ source))
        (λ (apart : (channel_at net i).source ≡ (channel_at net i).target → ⊥).
        let room = capacity-there net.channels ds i dist place apart in
        let space = bound-space net ds i room.0 place room.1 in
        (space.0, space.1, ap (λ (c : Channel). c.target) space.2 ∙ source))
        (cases_eq (channel_at net i).source (channel_at net i).target)

    at : (i : ℕ) × (i < length net.channels) × (((channel_at net i).source ≡ a) ⊎ ((channel_at net i).target ≡ a)) → (j : ℕ) × (j < length (bound net ds).channels) × ((channel_at (bound net ds) j).target ≡ a)
    at (i, place, ends) = ⊎_elim (λ (h : (channel_at net i).source ≡ a). back i place h) (λ (h : (channel_at net i).target ≡ a). into i place h) ends

-- and the target of a channel of a bounded net is an actor at which one of the net begins or ends
pub inputs-incident : (net : Net) (ds : List (Option ℕ)) (a i : ℕ) → i < length (bound net ds).channels → (channel_at (bound net ds) i).target ≡ a → IsIncident net a
inputs-incident net ds a i below into =
    each-bound net ds (λ (c : Channel). c.target ≡ a → IsIncident net a)
    (λ k place ends. (k, place, inr ends))
    (λ k room place has begins. (k, place, inl begins))
    i below into
