-- The place at which a telling of a kind was found, or that there is none.
use Rattle.std.proofs.Common.{◌≡◌, ℕ, ◌<◌, Option, None, Some, List, length, refl, sym, subst}
use Rattle.std.specs.Prelude.{Contains, IfSome, MatchOption, slice_get, slice_index_or}
use Rattle.std.proofs.lemmas.Option.{get_or_from_slice_get, slice_get_within}
use Rattle.sd_base.proofs.ContainedHavePlaces.{contains-get}
use Rattle.sd_base.proofs.ElementsKeepPlaces.{get-there}
use Rattle.walks.specs.declared.telling.Telling.{Telling}

pub place-found : (Is : Telling → Type 0) (tellings : List Telling) (found : Option ℕ) → IfSome found (λ (i : ℕ). i < length tellings) → ((i : ℕ) (d : Telling) → found ≡ Some i → Is (slice_index_or tellings i d)) → (found ≡ None → (i : ℕ) (d : Telling) → i < length tellings → Is (slice_index_or tellings i d) → ⊥) →
    MatchOption found (((t : Telling) × Contains tellings t × Is t) → ⊥) (λ (i : ℕ). (t : Telling) × (slice_get tellings i ≡ Some t) × Is t)
place-found Is tellings None within some none = λ has.
    let at = contains-get tellings has.0 has.1 in
    none refl at.0 has.0 (slice_get_within tellings at.0 has.0 at.1) (subst Is (sym (get_or_from_slice_get tellings at.0 has.0 has.0 at.1)) has.2)
place-found Is tellings (Some i) within some none =
    let at = get-there tellings i within in
    (at.0, at.1, subst Is (get_or_from_slice_get tellings i at.0 at.0 at.1) (some i at.0 refl))
