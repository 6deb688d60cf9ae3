-- Stops in order and of one storage, and one more of them.
use Rattle.std.proofs.Common.{◌≡◌, ℕ, zero, suc, ◌+◌, ◌≤◌, ◌<◌, ◌⊎◌, inl, inr, ⊎_elim, Some, List, [], ◌∷◌, length, refl, sym, ap, ◌∙◌, subst, arith}
use Rattle.std.specs.Prelude.{All, Contains, slice_get, slice_index_or}
use Rattle.std.specs.List.{insert}
use Rattle.std.specs.declared.cmp.Ordering.TheVariants.{Less, Equal, Greater}
use Rattle.std.specs.Ordering.{nat_cmp, ordering_reverse}
use Rattle.std.specs.Cmp.Lexicographic.{slice_cmp}
use Rattle.std.proofs.lemmas.Bool.{cases_lt}
use Rattle.std.proofs.lemmas.Cmp.{nat_list_cmp_total, ranked}
use Rattle.std.proofs.lemmas.List.Elements.{All-cons, All-head, All-nil, All-tail, Contains-get_or}
use Rattle.std.proofs.lemmas.Map.Lookups.{exact_bytes, exact_unsigned}
use Rattle.std.proofs.lemmas.Option.{get_or_from_slice_get, slice_get_within}
use Rattle.sd_base.proofs.ContainedHavePlaces.{contains-here, contains-none}
use Rattle.pareto_search.specs.declared.stops.Stop.{Stop}
use Rattle.pareto_search.specs.inside.Stops.{AreAscending, AreLevel, HasStop, IsBefore, IsPlace, IsTakenIn, against}

-- ---- put at its place

all-insert : (P : Stop → Type 0) (stops : List Stop) (i : ℕ) (s : Stop) → All P stops → P s → All P (insert stops i s)
all-insert P [] zero s all one = All-cons P s [] one all
all-insert P [] (suc i) s all one = All-cons P s [] one all
all-insert P (x ∷ stops) zero s all one = All-cons P s (x ∷ stops) one all
all-insert P (x ∷ stops) (suc i) s all one = All-cons P x (insert stops i s) (All-head P x stops all) (all-insert P stops i s (All-tail P x stops all) one)

before-trans : (s t u : Stop) → IsBefore s t → IsBefore t u → IsBefore s u
before-trans s t u one other = nat_list_cmp_total.trans s.capacities t.capacities u.capacities one other

pub put-ascending : (stops : List Stop) (i : ℕ) (s : Stop) → AreAscending stops → IsPlace stops s.capacities i → AreAscending (insert stops i s)
put-ascending [] zero s ascending place = (All-nil (IsBefore s), tt)
put-ascending [] (suc i) s ascending place = absurd (omega (arith, place.within))
put-ascending (x ∷ stops) zero s ascending place =
    let after : IsBefore s x = place.after x refl in
    (All-cons (IsBefore s) x stops after (λ j d below. before-trans s x (slice_index_or stops j d) after (ascending.0 j d below)), ascending)
put-ascending (x ∷ stops) (suc i) s ascending place =
    let later : IsPlace stops s.capacities i = record { within = omega (arith, place.within); before = λ j t below at. place.before (suc j) t (omega arith) at; after = place.after } in
    (all-insert (IsBefore x) stops i s ascending.0 (place.before 0 x (omega arith) refl), put-ascending stops i s ascending.1 later)

-- ---- its place

-- the stops before the place come before the capacities
abbrev pub AllBefore : List Stop → List ℕ → ℕ → Type 0
AllBefore stops ks i = (j : ℕ) (s : Stop) → j < i → slice_get stops j ≡ Some s → slice_cmp nat_cmp s.capacities ks ≡ Less

pub before-more : (stops : List Stop) (ks : List ℕ) (i : ℕ) (x : Stop) → x ≡ slice_index_or stops i x → slice_cmp nat_cmp x.capacities ks ≡ Less → AllBefore stops ks i → AllBefore stops ks (i + 1)
before-more stops ks i x is less before = λ j s below at.
    ⊎_elim
    (λ (earlier : j < i). before j s earlier at)
    (λ (here : i ≤ j).
    let same : j ≡ i = omega arith in
    let there : x ≡ s = is ∙ get_or_from_slice_get stops i s x (subst (λ (n : ℕ). slice_get stops n ≡ Some s) same at) in
    subst (λ (t : Stop). slice_cmp nat_cmp t.capacities ks ≡ Less) there less)
    (cases_lt j i)

pub place-here : (stops : List Stop) (ks : List ℕ) (i : ℕ) (x : Stop) → i < length stops → x ≡ slice_index_or stops i x → slice_cmp nat_cmp x.capacities ks ≡ Greater → AllBefore stops ks i → IsPlace stops ks i
place-here stops ks i x below is more before = record {
  within = omega arith;
  before = before;
  after = λ s at.
      let there : x ≡ s = is ∙ get_or_from_slice_get stops i s x at in
      let past : slice_cmp nat_cmp s.capacities ks ≡ Greater = subst (λ (t : Stop). slice_cmp nat_cmp t.capacities ks ≡ Greater) there more in
      nat_list_cmp_total.antisymm ks s.capacities ∙ ap ordering_reverse past;
}

pub place-last : (stops : List Stop) (ks : List ℕ) (i n : ℕ) → n ≡ length stops → length stops ≤ i → AllBefore stops ks i → IsPlace stops ks n
place-last stops ks i n is past before = record {
  within = omega arith;
  before = λ j s below at. before j s (omega (arith, is, past)) at;
  after = λ s at. absurd (let within : n < length stops = slice_get_within stops n s at in omega arith);
}

pub has-here : (stops : List Stop) (ks : List ℕ) (i : ℕ) (x : Stop) → i < length stops → x ≡ slice_index_or stops i x → slice_cmp nat_cmp x.capacities ks ≡ Equal → HasStop stops ks
has-here stops ks i x below is equal = (x, subst (Contains stops) (sym is) (Contains-get_or stops i x below), exact_bytes x.capacities ks equal)

-- ---- those of one storage

level-storage : (stops : List Stop) (s t : Stop) → AreLevel stops → against s.storage stops ≡ Equal → Contains stops t → t.storage ≡ s.storage
level-storage [] s t level equal has = absurd (contains-none t has)
level-storage (x ∷ stops) s t level equal has = level.needed t x has (contains-here x stops) ∙ sym (exact_unsigned s.storage x.storage equal)

pub level-put : (stops new : List Stop) (s : Stop) → AreLevel stops → against s.storage stops ≡ Equal → ((t : Stop) → Contains new t → (t ≡ s) ⊎ Contains stops t) → AreAscending new → AreLevel new
level-put stops new s level equal from ascending = record { needed = λ t u one other. at t (from t one) ∙ sym (at u (from u other)); ascending = ascending }
  where
    at : (t : Stop) → (t ≡ s) ⊎ Contains stops t → t.storage ≡ s.storage
    at t (inl same) = ap (λ (u : Stop). u.storage) same
    at t (inr old) = level-storage stops s t level equal old

pub level-none : (stops : List Stop) → stops ≡ [] → AreLevel stops
level-none stops none = subst AreLevel (sym none) (record { needed = λ s t one other. absurd (contains-none s one); ascending = tt })

-- ---- which are taken in

-- the one that was put
pub taken-put : (stops new : List Stop) (s : Stop) → AreLevel stops → against s.storage stops ≡ Equal → ((t : Stop) → Contains new t → (t ≡ s) ⊎ Contains stops t) → HasStop new s.capacities → IsTakenIn new s
taken-put stops new s level equal from (t, has, same) = (t, has, inr (same, at (from t has)))
  where
    at : (t ≡ s) ⊎ Contains stops t → t.storage ≡ s.storage
    at (inl own) = ap (λ (u : Stop). u.storage) own
    at (inr old) = level-storage stops s t level equal old

-- one that needs more
pub taken-more : (stops : List Stop) (s : Stop) → against s.storage stops ≡ Greater → IsTakenIn stops s
taken-more [] s more = cc
taken-more (x ∷ stops) s more = let less : x.storage < s.storage = ranked s.storage x.storage Greater (sym more) in (x, contains-here x stops, inl less)

needs-less : (stops : List Stop) (s t : Stop) → AreLevel stops → against s.storage stops ≡ Less → Contains stops t → s.storage < t.storage
needs-less [] s t level less has = absurd (contains-none t has)
needs-less (x ∷ stops) s t level less has =
    let first : s.storage < x.storage = ranked s.storage x.storage Less (sym less) in
    omega (arith, first, level.needed t x has (contains-here x stops))

-- those that were, where one took their place that needs less
pub still-less : (stops new : List Stop) (s x : Stop) → AreLevel stops → against s.storage stops ≡ Less → IsTakenIn new s → IsTakenIn stops x → IsTakenIn new x
still-less stops new s x level less (u, there, own) (t, has, is) = (u, there, inl (along u.storage s.storage t.storage x.storage (most u s own) (needs-less stops s t level less has) (most t x is)))
  where
    most : (a b : Stop) → (a.storage < b.storage) ⊎ ((a.capacities ≡ b.capacities) × (a.storage ≡ b.storage)) → a.storage ≤ b.storage
    most a b (inl below) = omega arith
    most a b (inr same) = omega (arith, same.1)

    along : (a b c d : ℕ) → a ≤ b → b < c → c ≤ d → a < d
    along a b c d first second last = omega arith
