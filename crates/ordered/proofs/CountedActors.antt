-- Which actor is refused for its count.
use Rattle.std.proofs.Common.{◌≡◌, ℕ, zero, suc, ◌+◌, ◌<◌, Bool, true, false, List, [], ◌∷◌, ◌++◌, length, Option, Some, None, ◌⊎◌, inl, inr, ⊎_elim, arith}
use Rattle.std.specs.Prelude.{not, ◌&&◌, nat_lt, slice_index, if◌then◌else◌, ◌==◌}
use Rattle.std.specs.Option.{option_or}
use Rattle.sd_base.specs.declared.limits.TheConstants.{ORDER_PAIRS}
use Rattle.sd_base.specs.declared.tables.ActorRow.{ActorRow}
use Rattle.ordered.specs.declared.orders.OrderError.{OrderError}
use Rattle.ordered.specs.declared.orders.OrderError.TheVariants.{Unknown, Elsewhere, Count, TooManyPairs}
use Rattle.ordered.specs.NamedOrders.{actor_named, count_fault, entries_fault, entry_fault, first_fault, lists_of, order_fault, order_of, pairs_fault, standing}
use Rattle.ordered.specs.OrderedNets.{is_named, order_channels}

either : (f g : Option OrderError) (e : OrderError) → option_or f g ≡ Some e → (f ≡ Some e) ⊎ (g ≡ Some e)
either None g e is = inr is
either (Some x) g e is = inl is

entry-no-count : (actors : List ActorRow) (others : ℕ → Bool) (name : List ℕ) (a n : ℕ) → entry_fault actors others name ≡ Some (Count a n) → ⊥
unfolding entry_fault
entry-no-count actors others name a n is = at (nat_lt (actor_named actors name) (length actors)) (others (actor_named actors name)) is
  where
    at : (b c : Bool) → (if not b then Some (Unknown name) else (if c then Some (Elsewhere name) else None)) ≡ Some (Count a n) → ⊥
    at true true e = absurd (cc)
    at true false e = absurd (cc)
    at false c e = absurd (cc)

order-no-count : (actors : List ActorRow) (others : ℕ → Bool) (names : List (List ℕ)) (a n : ℕ) → order_fault actors others names ≡ Some (Count a n) → ⊥
unfolding order_fault
order-no-count actors others [] a n is = absurd (cc)
order-no-count actors others (name ∷ names) a n is = ⊎_elim
    (λ (h : entry_fault actors others name ≡ Some (Count a n)). entry-no-count actors others name a n h)
    (λ (h : order_fault actors others names ≡ Some (Count a n)). order-no-count actors others names a n h)
    (either (entry_fault actors others name) (order_fault actors others names) (Count a n) is)

entries-no-count : (actors : List ActorRow) (earlier : List (List ℕ)) (lists : List (List (List ℕ))) (a n : ℕ) → entries_fault actors earlier lists ≡ Some (Count a n) → ⊥
unfolding entries_fault
entries-no-count actors earlier [] a n is = absurd (cc)
entries-no-count actors earlier (list ∷ lists) a n is = ⊎_elim
    (λ (h : order_fault actors (is_named earlier) list ≡ Some (Count a n)). order-no-count actors (is_named earlier) list a n h)
    (λ (h : entries_fault actors (earlier ++ order_of actors list ∷ []) lists ≡ Some (Count a n)). entries-no-count actors (earlier ++ order_of actors list ∷ []) lists a n h)
    (either (order_fault actors (is_named earlier) list) (entries_fault actors (earlier ++ order_of actors list ∷ []) lists) (Count a n) is)

pairs-no-count : (orders : List (List ℕ)) (a n : ℕ) → pairs_fault orders ≡ Some (Count a n) → ⊥
unfolding pairs_fault
pairs-no-count orders a n is = at (nat_lt ORDER_PAIRS (length (order_channels orders))) is
  where
    at : (b : Bool) → (if b then Some TooManyPairs else None) ≡ Some (Count a n) → ⊥
    at true e = absurd (cc)
    at false e = absurd (cc)

-- it is one of the n actors from some one on
counted-below : (orders : List (List ℕ)) (gamma : List ℕ) (from n a found : ℕ) → count_fault orders gamma from n ≡ Some (Count a found) → a < from + n
unfolding count_fault
counted-below orders gamma from zero a found is = absurd (cc)
counted-below orders gamma from (suc n) a found is = at (is_named orders from && not (standing orders from == slice_index gamma from)) is (λ e. counted-below orders gamma (suc from) n a found e)
  where
    at : (b : Bool) → (if b then Some (Count from (standing orders from)) else count_fault orders gamma (suc from) n) ≡ Some (Count a found) → (count_fault orders gamma (suc from) n ≡ Some (Count a found) → a < suc from + n) → a < from + suc n
    at true e rest = let same : from ≡ a = cc in omega (arith, same)
    at false e rest = omega (arith, rest e)

-- an actor that is refused for its count is one of the graph
pub count-below : (actors : List ActorRow) (gamma : List ℕ) (lists : List (List (List ℕ))) (a found : ℕ) → first_fault actors gamma lists ≡ Some (Count a found) → a < length actors
count-below actors gamma lists a found is = ⊎_elim
    (λ (h : entries_fault actors [] lists ≡ Some (Count a found)). absurd (entries-no-count actors [] lists a found h))
    (λ (later : option_or (count_fault (lists_of actors lists) gamma 0 (length actors)) (pairs_fault (lists_of actors lists)) ≡ Some (Count a found)). ⊎_elim
    (λ (h : count_fault (lists_of actors lists) gamma 0 (length actors) ≡ Some (Count a found)). omega (arith, counted-below (lists_of actors lists) gamma 0 (length actors) a found h))
    (λ (h : pairs_fault (lists_of actors lists) ≡ Some (Count a found)). absurd (pairs-no-count (lists_of actors lists) a found h))
    (either (count_fault (lists_of actors lists) gamma 0 (length actors)) (pairs_fault (lists_of actors lists)) (Count a found) later))
    (either (entries_fault actors [] lists) (option_or (count_fault (lists_of actors lists) gamma 0 (length actors)) (pairs_fault (lists_of actors lists))) (Count a found) is)
