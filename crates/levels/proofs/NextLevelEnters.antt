-- A level more has entered.
use Rattle.std.proofs.Common.{◌≡◌, ℕ, suc, ◌+◌, ◌<◌, Option, List, [], ◌∷◌, ◌++◌, append_assoc, length, refl, sym, subst, arith}
use Rattle.std.specs.Prelude.{All}
use Rattle.std.proofs.lemmas.Bool.{eq-eqb, ne_eqb}
use Rattle.std.proofs.lemmas.List.{append-nil}
use Rattle.sd_base.specs.Net.{Channel}
use Rattle.storage.specs.Distributions.{storage_of}
use Rattle.levels.specs.Entrances.{EnterAfter, EnterByLevels, many_with}

many-more : (cs : List Channel) (storage : ℕ) (dss : List (List (Option ℕ))) (ds : List (Option ℕ)) → storage_of cs ds ≡ storage → many_with cs storage (dss ++ ds ∷ []) ≡ many_with cs storage dss + 1
many-more cs storage [] ds is = rw (eq-eqb (storage_of cs ds) storage is) refl
many-more cs storage (e ∷ es) ds is = let later = many-more cs storage es ds is in omega (arith, later)

many-none : (cs : List Channel) (storage : ℕ) (dss : List (List (Option ℕ))) → All (λ (ds : List (Option ℕ)). storage_of cs ds < storage) dss → many_with cs storage dss ≡ 0
many-none cs storage [] low = refl
many-none cs storage (ds ∷ dss) low =
    let here : storage_of cs ds < storage = low 0 ds (omega arith) in
    let later = many-none cs storage dss (λ k d below. low (suc k) d (omega (arith, below))) in
    rw (ne_eqb (storage_of cs ds) storage (λ same. omega (arith, here, same)), later) refl

-- distributions of one storage, whose numbers go on from those before them
enter-level : (cs : List Channel) (entered : ℕ → ℕ → Type 0) (storage : ℕ) (earlier level : List (List (Option ℕ))) → All (λ (ds : List (Option ℕ)). storage_of cs ds ≡ storage) level
    → ((k : ℕ) → k < length level → entered storage (many_with cs storage earlier + k)) → EnterAfter cs entered earlier level
enter-level cs entered storage earlier [] totals each = tt
enter-level cs entered storage earlier (ds ∷ dss) totals each =
    let here : storage_of cs ds ≡ storage = totals 0 ds (omega arith) in
    let first : many_with cs storage earlier + 0 ≡ many_with cs storage earlier = omega arith in (
      subst (λ (n : ℕ). entered n (many_with cs n earlier)) (sym here) (subst (entered storage) first (each 0 (omega arith))),
      enter-level cs entered storage (earlier ++ ds ∷ []) dss (λ k d below. totals (suc k) d (omega (arith, below)))
          (λ k below.
          let next : many_with cs storage earlier + suc k ≡ many_with cs storage (earlier ++ ds ∷ []) + k = omega (arith, many-more cs storage earlier ds here) in
          subst (entered storage) next (each (suc k) (omega (arith, below)))),
    )

enter-more : (cs : List Channel) (entered : ℕ → ℕ → Type 0) (earlier xs ys : List (List (Option ℕ))) → EnterAfter cs entered earlier xs → EnterAfter cs entered (earlier ++ xs) ys → EnterAfter cs entered earlier (xs ++ ys)
enter-more cs entered earlier [] ys one rest = subst (λ (es : List (List (Option ℕ))). EnterAfter cs entered es ys) (append-nil earlier) rest
enter-more cs entered earlier (x ∷ xs) ys one rest =
    (one.0, enter-more cs entered (earlier ++ x ∷ []) xs ys one.1 (subst (λ (es : List (List (Option ℕ))). EnterAfter cs entered es ys) (sym (append_assoc earlier (x ∷ []) xs)) rest))

-- a level of more storage than all before it, each of whose numbers entered
pub level-entered : (cs : List Channel) (entered : ℕ → ℕ → Type 0) (storage : ℕ) (old level : List (List (Option ℕ))) → All (λ (ds : List (Option ℕ)). storage_of cs ds < storage) old
    → All (λ (ds : List (Option ℕ)). storage_of cs ds ≡ storage) level → ((k : ℕ) → k < length level → entered storage k) → EnterByLevels cs entered old → EnterByLevels cs entered (old ++ level)
level-entered cs entered storage old level low totals each before =
    enter-more cs entered [] old level before
    (enter-level cs entered storage old level totals
    (λ k below.
    let place : k ≡ many_with cs storage old + k = omega (arith, many-none cs storage old low) in
    subst (entered storage) place (each k below)))
