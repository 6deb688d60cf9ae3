-- What the entries show are visits, and each distribution that is visited is that of an entry.
use Rattle.std.proofs.Common.{◌≡◌, ℕ, suc, List, [], ◌∷◌, ◌++◌, Option, Contains, ⊎_elim, arith}
use Rattle.std.proofs.lemmas.List.{map-append}
use Rattle.storage.specs.ClosedLists.{Entry, HasEntry}
use Rattle.levels.specs.Visits.{led_by, visited, visits_of}
use Rattle.sd_base.proofs.ContainedHavePlaces.{contains-cases, contains-none}

pub visits-more : (es : List Entry) (e : Entry) → visits_of (es ++ e ∷ []) ≡ visits_of es ++ led_by e.capacities e.shown ∷ []
visits-more es e = map-append (λ (x : Entry). led_by x.capacities x.shown) es (e ∷ [])

-- a distribution that is visited is that of an entry
pub has-entry : (es : List Entry) (ds : List (Option ℕ)) → Contains (visited (visits_of es)) ds → HasEntry es ds
has-entry [] ds one = absurd (contains-none ds one)
has-entry (e ∷ es) ds one =
    ⊎_elim
    (λ (same : e.capacities ≡ ds). (0, omega arith, same))
    (λ (later : Contains (visited (visits_of es)) ds). let found = has-entry es ds later in (suc found.0, omega (arith, found.1), found.2))
    (contains-cases e.capacities (visited (visits_of es)) ds one)
