-- The space channels of a bounded net are those of channels with a capacity.
use Rattle.std.proofs.Common.{◌≡◌, ℕ, ◌+◌, ◌≤◌, ◌<◌, Option, Some, List, length, ⊎_elim, sym, ap, ◌∙◌, subst, arith}
use Rattle.std.proofs.lemmas.Bool.{cases_lt, true≢false}
use Rattle.sd_base.specs.declared.role.Role.TheVariants.{Space}
use Rattle.sd_base.specs.Net.{Channel, Net, channel_at}
use Rattle.storage.specs.BoundedNets.{HasNoSpaces, bound}
use Rattle.sd_base.specs.Lawful.{is_space_role}
use Rattle.storage.specs.Distributions.{capacity_at}
use Rattle.storage.proofs.SpaceChannels.{SpaceAt, bound-back, bound-front}

-- a channel with a capacity
pub record IsBounded (net : Net) (ds : List (Option ℕ)) (c : ℕ) : Type 0 where
  pub place : c < length net.channels
  pub room : ℕ
  pub has : capacity_at ds c ≡ Some room

pub space-bounded : (net : Net) → HasNoSpaces net → (ds : List (Option ℕ)) (i c : ℕ) → i < length (bound net ds).channels → (channel_at (bound net ds) i).role ≡ Space c → IsBounded net ds c
space-bounded net none ds i c below role =
    ⊎_elim
    (λ (here : i < length net.channels). absurd (true≢false (sym (ap is_space_role role) ∙ (ap (λ (x : Channel). is_space_role x.role) (bound-front net ds i here) ∙ none i here))))
    (λ (later : length net.channels ≤ i).
    let at : SpaceAt 0 net.channels ds (channel_at (bound net ds) i) = bound-back net ds i later below in
    let e : 0 + at.place ≡ at.place = omega arith in
    let same : Space at.place ≡ Space c = ap Space (sym e) ∙ (sym (ap (λ (x : Channel). x.role) at.is) ∙ role) in
    let place : at.place ≡ c = cc in
    record { place = subst (λ (x : ℕ). x < length net.channels) place at.below; room = at.room; has = subst (λ (x : ℕ). capacity_at ds x ≡ Some at.room) place at.has })
    (cases_lt i (length net.channels))
