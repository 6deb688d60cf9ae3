-- Orders by the names of actors, and what is wrong with them.
use Rattle.std.specs.Prelude.{◌≡◌, ℕ, zero, suc, ◌+◌, Bool, not, ◌&&◌, ◌==◌, nat_lt, List, [], ◌∷◌, ◌++◌, length, map, slice_index, Option, Some, None, if◌then◌else◌, count_by}
use Rattle.std.specs.List.{list_any, position_or_len}
use Rattle.std.specs.Option.{option_or}
use Rattle.std.specs.Str.{bytes_eq}
use Rattle.sd_base.specs.declared.tables.ActorRow.{ActorRow}
use Rattle.ordered.specs.declared.orders.OrderError.{OrderError}
use Rattle.ordered.specs.declared.orders.OrderError.TheVariants.{Unknown, Elsewhere, Count, TooManyPairs, NoMemory}
use Rattle.sd_base.specs.declared.limits.TheConstants.{ORDER_PAIRS}
use Rattle.ordered.specs.OrderedNets.{is_named, order_channels}

-- the number of the actor of a name, or that of all actors where none has it
abbrev pub actor_named : List ActorRow → List ℕ → ℕ
actor_named actors name = position_or_len (λ (a : ActorRow). bytes_eq a.name name) actors

-- an order by the numbers of its actors
abbrev pub order_of : List ActorRow → List (List ℕ) → List ℕ
order_of actors names = map (actor_named actors) names

-- so each order
abbrev pub lists_of : List ActorRow → List (List (List ℕ)) → List (List ℕ)
lists_of actors lists = map (order_of actors) lists

-- what is wrong with an entry: no actor has its name; or the actor is one of those of other orders
unfoldable pub entry_fault : List ActorRow → (ℕ → Bool) → List ℕ → Option OrderError
entry_fault actors others name =
    if not (nat_lt (actor_named actors name) (length actors)) then Some (Unknown name)
    else if others (actor_named actors name) then Some (Elsewhere name)
    else None

-- the first fault of the entries of an order
unfoldable pub order_fault : List ActorRow → (ℕ → Bool) → List (List ℕ) → Option OrderError
order_fault actors others [] = None
order_fault actors others (name ∷ names) = option_or (entry_fault actors others name) (order_fault actors others names)

-- the first fault of the entries of orders that come after these
unfoldable pub entries_fault : List ActorRow → List (List ℕ) → List (List (List ℕ)) → Option OrderError
entries_fault actors earlier [] = None
entries_fault actors earlier (list ∷ lists) =
    option_or (order_fault actors (is_named earlier) list) (entries_fault actors (earlier ++ order_of actors list ∷ []) lists)

-- how many entries of the first order that has actor a are of a
abbrev pub standing : List (List ℕ) → ℕ → ℕ
standing [] a = 0
standing (order ∷ orders) a = if list_any (λ b. b == a) order then count_by (λ b. b == a) order else standing orders a

-- of n actors from a on the first one that stands in its order, but not as often as it fires in a round
unfoldable pub count_fault : List (List ℕ) → List ℕ → ℕ → ℕ → Option OrderError
count_fault orders gamma a zero = None
count_fault orders gamma a (suc n) =
    if is_named orders a && not (standing orders a == slice_index gamma a) then Some (Count a (standing orders a)) else count_fault orders gamma (suc a) n

-- more pairs of neighbours than orders may have
unfoldable pub pairs_fault : List (List ℕ) → Option OrderError
pairs_fault orders = if nat_lt ORDER_PAIRS (length (order_channels orders)) then Some TooManyPairs else None

-- the first fault of orders: that of an entry, that of an actor, or too many pairs
abbrev pub first_fault : List ActorRow → List ℕ → List (List (List ℕ)) → Option OrderError
first_fault actors gamma lists =
    option_or (entries_fault actors [] lists)
    (option_or (count_fault (lists_of actors lists) gamma 0 (length actors)) (pairs_fault (lists_of actors lists)))

-- a refusal is the fault that is meant, unless memory ran out
abbrev pub Tells : OrderError → Option OrderError → Type 0
Tells NoMemory meant = Unit {0}
Tells e meant = meant ≡ Some e
