-- Orders by name that have no fault are orders of each net of the graph, and add few channels.
use Rattle.std.proofs.Common.{◌≡◌, ℕ, zero, suc, ◌+◌, ◌≤◌, ◌<◌, Bool, true, false, List, [], ◌∷◌, ◌++◌, length, map, take, Option, Some, None, ⊎_elim, subst, sym, refl, ap, ◌∙◌, arith, eq-eqb, eqb-true}
use Rattle.std.specs.Prelude.{not, slice_index, slice_index_or, ◌==◌, ◌&&◌, ◌||◌, nat_lt, count_by, if◌then◌else◌}
use Rattle.std.specs.List.{list_any}
use Rattle.std.specs.Option.{option_or}
use Rattle.std.proofs.lemmas.Bool.{cases_lt, ltb-true}
use Rattle.std.proofs.lemmas.List.{length-append, length-map, get_or-map, take_all}
use Rattle.std.proofs.lemmas.List.Folds.{list_any_at, list_any-append}
use Rattle.std.proofs.lemmas.List.Sums.{count_by_more_no, count_by_more_yes}
use Rattle.sd_base.specs.declared.limits.TheConstants.{ORDER_PAIRS}
use Rattle.sd_base.specs.declared.tables.ActorRow.{ActorRow}
use Rattle.sd_base.specs.Net.{Channel, Net, nowhere}
use Rattle.sd_base.specs.FileNet.{own_channel}
use Rattle.sd_base.specs.Lawful.{Lawful, is_own_role, is_token_role, is_space_role}
use Rattle.ordered.specs.declared.orders.OrderError.{OrderError}
use Rattle.ordered.specs.declared.orders.OrderError.TheVariants.{Unknown, Elsewhere, Count, TooManyPairs}
use Rattle.ordered.specs.Orders.{entry_at, fired, one_if, AreOrders}
use Rattle.ordered.specs.OrderedNets.{is_named, order_channels, ordered, own_or_new, owns_from, phases_in, rephased, with_role}
use Rattle.ordered.specs.NamedOrders.{actor_named, count_fault, entries_fault, entry_fault, first_fault, lists_of, order_fault, order_of, pairs_fault, standing}
use Rattle.ordered.proofs.CountsRepeatByTurns.{many-zero, many-suc}
use Rattle.ordered.proofs.FiringsHaveEntries.{entry-here}
use Rattle.ordered.proofs.ChannelsAreKeptOrNew.{Kept, kept-from, at-place}
use Rattle.ordered.proofs.RolesApart.{Apart, kept-apart, own-role}

none-first : (f g : Option OrderError) → option_or f g ≡ None → f ≡ None
none-first None g e = refl
none-first (Some x) g e = absurd (cc)

none-second : (f g : Option OrderError) → option_or f g ≡ None → g ≡ None
none-second None g e = e
none-second (Some x) g e = absurd (cc)

entry-good : (actors : List ActorRow) (others : ℕ → Bool) (name : List ℕ) → entry_fault actors others name ≡ None → (actor_named actors name < length actors) × (others (actor_named actors name) ≡ false)
unfolding entry_fault
entry-good actors others name none = at (nat_lt (actor_named actors name) (length actors)) (others (actor_named actors name)) refl refl none
  where
    at : (b c : Bool) → nat_lt (actor_named actors name) (length actors) ≡ b → others (actor_named actors name) ≡ c
        → (if not b then Some (Unknown name) else (if c then Some (Elsewhere name) else None)) ≡ None → (actor_named actors name < length actors) × (others (actor_named actors name) ≡ false)
    at true false is other e = (ltb-true (actor_named actors name) (length actors) is, other)
    at true true is other e = absurd (cc)
    at false c is other e = absurd (cc)

order-good : (actors : List ActorRow) (others : ℕ → Bool) (names : List (List ℕ)) (p : ℕ) → order_fault actors others names ≡ None → p < length (order_of actors names)
    → (slice_index (order_of actors names) p < length actors) × (others (slice_index (order_of actors names) p) ≡ false)
unfolding order_fault
order-good actors others [] p none below = absurd (omega arith)
order-good actors others (name ∷ names) zero none below = entry-good actors others name (none-first (entry_fault actors others name) (order_fault actors others names) none)
order-good actors others (name ∷ names) (suc p) none below = order-good actors others names p (none-second (entry_fault actors others name) (order_fault actors others names) none) (omega arith)

or-false : (a b : Bool) → (a || (b || false)) ≡ false → (a ≡ false) × (b ≡ false)
or-false false false e = (refl, refl)
or-false false true e = absurd (cc)
or-false true b e = absurd (cc)

not-earlier : (earlier : List (List ℕ)) (order : List ℕ) (a : ℕ) → is_named (earlier ++ order ∷ []) a ≡ false → (is_named earlier a ≡ false) × (list_any (λ b. b == a) order ≡ false)
not-earlier earlier order a none = or-false (is_named earlier a) (list_any (λ b. b == a) order) (sym (list_any-append (λ (o : List ℕ). list_any (λ b. b == a) o) earlier (order ∷ [])) ∙ none)

not-in : (order : List ℕ) (a q : ℕ) → list_any (λ b. b == a) order ≡ false → q < length order → slice_index order q ≡ a → ⊥
not-in order a q none below is = let no : true ≡ false = sym (list_any_at (λ b. b == a) order q 0 below (eq-eqb (slice_index order q) a is)) ∙ none in cc

in-none : (order : List ℕ) (a : ℕ) → ((q : ℕ) → q < length order → slice_index order q ≡ a → ⊥) → list_any (λ b. b == a) order ≡ false
in-none [] a none = refl
in-none (x ∷ order) a none = at (x == a) refl (in-none order a (λ q below is. none (suc q) (omega arith) is))
  where
    at : (b : Bool) → (x == a) ≡ b → list_any (λ b. b == a) order ≡ false → (b || list_any (λ b. b == a) order) ≡ false
    at true is rest = absurd (none 0 (omega arith) (eqb-true x a is))
    at false is rest = rest

-- an entry is an actor that no earlier order has
record Good (actors : List ActorRow) (earlier orders : List (List ℕ)) (l a : ℕ) : Type 0 where
  actor : a < length actors
  unnamed : is_named earlier a ≡ false
  first : (k q : ℕ) → k < l → q < length (slice_index_or orders k []) → slice_index (slice_index_or orders k []) q ≡ a → ⊥

lists-good : (actors : List ActorRow) (earlier : List (List ℕ)) (lists : List (List (List ℕ))) (l p : ℕ) → entries_fault actors earlier lists ≡ None → l < length (lists_of actors lists) → p < length (slice_index_or (lists_of actors lists) l [])
    → Good actors earlier (lists_of actors lists) l (slice_index (slice_index_or (lists_of actors lists) l []) p)
unfolding entries_fault
lists-good actors earlier [] l p none listed below = absurd (omega arith)
lists-good actors earlier (list ∷ lists) zero p none listed below =
    let g = order-good actors (is_named earlier) list p (none-first (order_fault actors (is_named earlier) list) (entries_fault actors (earlier ++ order_of actors list ∷ []) lists) none) below in
    record { actor = g.0; unnamed = g.1; first = λ k q small there is. absurd (omega arith) }
lists-good actors earlier (list ∷ lists) (suc l) p none listed below =
    let g = lists-good actors (earlier ++ order_of actors list ∷ []) lists l p (none-second (order_fault actors (is_named earlier) list) (entries_fault actors (earlier ++ order_of actors list ∷ []) lists) none) (omega arith) below in
    let n = not-earlier earlier (order_of actors list) (slice_index (slice_index_or (lists_of actors lists) l []) p) g.unnamed in
    record { actor = g.actor; unnamed = n.0; first = before (slice_index (slice_index_or (lists_of actors lists) l []) p) n.1 g.first }
  where
    before : (a : ℕ) → list_any (λ b. b == a) (order_of actors list) ≡ false → ((k q : ℕ) → k < l → q < length (slice_index_or (lists_of actors lists) k []) → slice_index (slice_index_or (lists_of actors lists) k []) q ≡ a → ⊥)
        → (k q : ℕ) → k < suc l → q < length (slice_index_or (lists_of actors (list ∷ lists)) k []) → slice_index (slice_index_or (lists_of actors (list ∷ lists)) k []) q ≡ a → ⊥
    before a none first zero q small there is = not-in (order_of actors list) a q none there is
    before a none first (suc k) q small there is = first k q (omega arith) there is

-- ---- counts

counts-good : (orders : List (List ℕ)) (gamma : List ℕ) (start n a : ℕ) → count_fault orders gamma start n ≡ None → start ≤ a → a < start + n → is_named orders a ≡ true → standing orders a ≡ slice_index gamma a
unfolding count_fault
counts-good orders gamma start zero a none from below named = absurd (omega arith)
counts-good orders gamma start (suc n) a none from below named = at (is_named orders start && not (standing orders start == slice_index gamma start)) refl none (λ e h. counts-good orders gamma (suc start) n a e h (omega arith) named)
  where
    here : start ≡ a → (is_named orders start && not (standing orders start == slice_index gamma start)) ≡ false → standing orders a ≡ slice_index gamma a
    here e right = same (standing orders a == slice_index gamma a) refl (sym (ap (λ (b : Bool). b && not (standing orders a == slice_index gamma a)) named) ∙ (ap (λ (x : ℕ). is_named orders x && not (standing orders x == slice_index gamma x)) (sym e) ∙ right))
      where
        same : (b : Bool) → (standing orders a == slice_index gamma a) ≡ b → not b ≡ false → standing orders a ≡ slice_index gamma a
        same true is none = eqb-true (standing orders a) (slice_index gamma a) is
        same false is none = absurd (cc)

    at : (b : Bool) → (is_named orders start && not (standing orders start == slice_index gamma start)) ≡ b → (if b then Some (Count start (standing orders start)) else count_fault orders gamma (suc start) n) ≡ None
        → (count_fault orders gamma (suc start) n ≡ None → suc start ≤ a → standing orders a ≡ slice_index gamma a) → standing orders a ≡ slice_index gamma a
    at true is e rest = absurd (cc)
    at false is e rest = ⊎_elim
        (λ (h : start < a). rest e h)
        (λ (h : a ≤ start). here (omega arith) is)
        (cases_lt start a)

standing-of : (orders : List (List ℕ)) (l a : ℕ) → l < length orders → list_any (λ b. b == a) (slice_index_or orders l []) ≡ true → ((k : ℕ) → k < l → list_any (λ b. b == a) (slice_index_or orders k []) ≡ false)
    → standing orders a ≡ count_by (λ b. b == a) (slice_index_or orders l [])
standing-of [] l a listed has others = absurd (omega arith)
standing-of (order ∷ orders) zero a listed has others = ap (λ (b : Bool). if b then count_by (λ b. b == a) order else standing orders a) has
standing-of (order ∷ orders) (suc l) a listed has others =
    ap (λ (b : Bool). if b then count_by (λ b. b == a) order else standing orders a) (others 0 (omega arith)) ∙ standing-of orders l a (omega arith) has (λ k small. others (suc k) (omega arith))

fired-count : (order : List ℕ) (a m : ℕ) → m ≤ length order → fired order a m ≡ count_by (λ b. b == a) (take m order)
fired-count order a zero few = many-zero (λ k. entry_at order k == a)
fired-count order a (suc m) few =
    many-suc (λ k. entry_at order k == a) m ∙ (ap (λ (n : ℕ). n + one_if (entry_at order m == a)) (fired-count order a m (omega arith)) ∙ (ap (λ (n : ℕ). count_by (λ b. b == a) (take m order) + n) here
    ∙ at (slice_index order m == a) refl))
  where
    f : suc m ≡ m + 1
    f = omega arith

    below : m < length order
    below = omega arith

    here : one_if (entry_at order m == a) ≡ one_if (slice_index order m == a)
    here = ap (λ (x : ℕ). one_if (x == a)) (entry-here order m below)

    at : (b : Bool) → (slice_index order m == a) ≡ b → count_by (λ b. b == a) (take m order) + one_if (slice_index order m == a) ≡ count_by (λ b. b == a) (take (suc m) order)
    at true is = ap (λ (b : Bool). count_by (λ b. b == a) (take m order) + one_if b) is ∙ sym (ap (λ (n : ℕ). count_by (λ b. b == a) (take n order)) f ∙ count_by_more_yes (λ b. b == a) order m 0 below is)
    at false is = ap (λ (b : Bool). count_by (λ b. b == a) (take m order) + one_if b) is ∙ (let z : count_by (λ b. b == a) (take m order) + 0 ≡ count_by (λ b. b == a) (take m order) = omega arith in z ∙ sym (ap (λ (n : ℕ). count_by (λ b. b == a) (take n order)) f ∙ count_by_more_no (λ b. b == a) order m 0 below is))

module _ (net : Net) (actors : List ActorRow) (gamma : List ℕ) (lists : List (List (List ℕ))) (many : length net.times ≡ length actors) (round : net.round ≡ gamma) (none : first_fault actors gamma lists ≡ None) where
  entries-none : entries_fault actors [] lists ≡ None
  entries-none = none-first (entries_fault actors [] lists) (option_or (count_fault (lists_of actors lists) gamma 0 (length actors)) (pairs_fault (lists_of actors lists))) none

  counts-none : count_fault (lists_of actors lists) gamma 0 (length actors) ≡ None
  counts-none = none-first (count_fault (lists_of actors lists) gamma 0 (length actors)) (pairs_fault (lists_of actors lists))
      (none-second (entries_fault actors [] lists) (option_or (count_fault (lists_of actors lists) gamma 0 (length actors)) (pairs_fault (lists_of actors lists))) none)

  good-at : (l p : ℕ) → l < length (lists_of actors lists) → p < length (slice_index_or (lists_of actors lists) l []) → Good actors [] (lists_of actors lists) l (slice_index (slice_index_or (lists_of actors lists) l []) p)
  good-at l p listed below = lists-good actors [] lists l p entries-none listed below

  one-order : (l k p q : ℕ) → l < length (lists_of actors lists) → k < length (lists_of actors lists) → p < length (slice_index_or (lists_of actors lists) l []) → q < length (slice_index_or (lists_of actors lists) k [])
      → slice_index (slice_index_or (lists_of actors lists) l []) p ≡ slice_index (slice_index_or (lists_of actors lists) k []) q → l ≡ k
  one-order l k p q listed also below there same = ⊎_elim
      (λ (h : l < k). absurd ((good-at k q also there).first l p h below same))
      (λ (h : k ≤ l). ⊎_elim (λ (g : k < l). absurd ((good-at l p listed below).first k q g there (sym same))) (λ (g : l ≤ k). omega arith) (cases_lt k l))
      (cases_lt l k)

  whole-at : (l p : ℕ) → l < length (lists_of actors lists) → p < length (slice_index_or (lists_of actors lists) l [])
      → fired (slice_index_or (lists_of actors lists) l []) (slice_index (slice_index_or (lists_of actors lists) l []) p) (length (slice_index_or (lists_of actors lists) l [])) ≡ slice_index net.round (slice_index (slice_index_or (lists_of actors lists) l []) p)
  whole-at l p listed below =
      let orders = lists_of actors lists in
      let a = slice_index (slice_index_or (lists_of actors lists) l []) p in
      let g = good-at l p listed below in
      let has : list_any (λ b. b == a) (slice_index_or orders l []) ≡ true = list_any_at (λ b. b == a) (slice_index_or orders l []) p 0 below (eq-eqb a a refl) in
      let others : (k : ℕ) → k < l → list_any (λ b. b == a) (slice_index_or orders k []) ≡ false = λ k small. in-none (slice_index_or orders k []) a (λ q there is. g.first k q small there is) in
      let named : is_named orders a ≡ true = list_any_at (λ (o : List ℕ). list_any (λ b. b == a) o) orders l [] listed has in
      let count = counts-good orders gamma 0 (length actors) a counts-none (omega arith) (omega (arith, g.actor)) named in
      fired-count (slice_index_or orders l []) a (length (slice_index_or orders l [])) (omega arith)
      ∙ (ap (count_by (λ b. b == a)) (take_all (length (slice_index_or orders l [])) (slice_index_or orders l []) (omega arith))
      ∙ (sym (standing-of orders l a listed has others) ∙ (count ∙ ap (λ (v : List ℕ). slice_index v a) (sym round))))

  pub named-orders : AreOrders net (lists_of actors lists)
  named-orders = record {
    actors = λ l p listed below. omega (arith, (good-at l p listed below).actor, many);
    whole = whole-at;
    apart = one-order;
  }

-- ---- channels

one-own : (net : Net) → Lawful net → (phases : ℕ → ℕ) (a : ℕ) → length (map (rephased phases) (with_role (is_own_role a) net.channels)) ≤ 1
one-own net laws phases a = ⊎_elim
    (λ (h : 1 < length (map (rephased phases) (with_role (is_own_role a) net.channels))).
    let same : (slice_index_or (map (rephased phases) (with_role (is_own_role a) net.channels)) 0 nowhere).role ≡ (slice_index_or (map (rephased phases) (with_role (is_own_role a) net.channels)) 1 nowhere).role = role 0 (omega arith) ∙ sym (role 1 h) in
    let e : 0 ≡ 1 = kept-apart phases (is_own_role a) net.channels laws.roles_differ 0 1 (omega arith) h same in absurd (omega arith))
    (λ (h : length (map (rephased phases) (with_role (is_own_role a) net.channels)) ≤ 1). h)
    (cases_lt 1 (length (map (rephased phases) (with_role (is_own_role a) net.channels))))
  where
    role : (i : ℕ) → i < length (map (rephased phases) (with_role (is_own_role a) net.channels)) → (slice_index_or (map (rephased phases) (with_role (is_own_role a) net.channels)) i nowhere).role ≡ Rattle.sd_base.specs.declared.role.Role.TheVariants.Own a
    role i below =
        let k : Kept (rephased phases) (is_own_role a) net.channels (slice_index_or (map (rephased phases) (with_role (is_own_role a) net.channels)) i nowhere)
        = kept-from (rephased phases) (is_own_role a) net.channels (slice_index_or (map (rephased phases) (with_role (is_own_role a) net.channels)) i nowhere) (at-place (map (rephased phases) (with_role (is_own_role a) net.channels)) i below) in
        ap (λ (c : Channel). c.role) k.is ∙ own-role a k.from.role k.role

own-few : (cs : List Channel) (b : Bool) (new : Channel) → length cs ≤ 1 → length (own_or_new cs b new) ≤ 1
own-few [] true new few = omega arith
own-few [] false new few = omega arith
own-few (c ∷ cs) b new few = few

owns-few : (net : Net) → Lawful net → (orders : List (List ℕ)) (a n : ℕ) → length (owns_from net orders a n) ≤ n
owns-few net laws orders a zero = omega arith
owns-few net laws orders a (suc n) = omega (
  arith,
  owns-few net laws orders (suc a) n,
  own-few (map (rephased (phases_in net orders)) (with_role (is_own_role a) net.channels)) (is_named orders a) (own_channel a (slice_index net.round a)) (one-own net laws (phases_in net orders) a),
  length-append (own_or_new (map (rephased (phases_in net orders)) (with_role (is_own_role a) net.channels)) (is_named orders a) (own_channel a (slice_index net.round a))) (owns_from net orders (suc a) n),
)

-- a net gets no more channels than an own one an actor, and those of the orders
pub few-channels : (net : Net) → Lawful net → (orders : List (List ℕ)) → length (ordered net orders).channels ≤ length (with_role is_token_role net.channels) + (length net.times + (length (with_role is_space_role net.channels) + length (order_channels orders)))
few-channels net laws orders =
    let phases = phases_in net orders in
    omega (
      arith,
      owns-few net laws orders 0 (length net.times),
      length-map (with_role is_token_role net.channels) (rephased (phases_in net orders)),
      length-map (with_role is_space_role net.channels) (rephased (phases_in net orders)),
      length-append (map (rephased (phases_in net orders)) (with_role is_token_role net.channels)) (owns_from net orders 0 (length net.times) ++ (map (rephased (phases_in net orders)) (with_role is_space_role net.channels) ++ order_channels orders)),
      length-append (owns_from net orders 0 (length net.times)) (map (rephased (phases_in net orders)) (with_role is_space_role net.channels) ++ order_channels orders),
      length-append (map (rephased (phases_in net orders)) (with_role is_space_role net.channels)) (order_channels orders),
    )

pub pairs-within : (orders : List (List ℕ)) → pairs_fault orders ≡ None → length (order_channels orders) ≤ ORDER_PAIRS
unfolding pairs_fault
pairs-within orders none = ⊎_elim
    (λ (h : ORDER_PAIRS < length (order_channels orders)). absurd (let is = Rattle.std.proofs.Common.lt-ltb ORDER_PAIRS (length (order_channels orders)) h in let no : Some TooManyPairs ≡ None = sym (ap (λ (b : Bool). if b then Some TooManyPairs else None) is) ∙ none in cc))
    (λ (h : length (order_channels orders) ≤ ORDER_PAIRS). h)
    (cases_lt ORDER_PAIRS (length (order_channels orders)))

pub no-pairs-fault : (actors : List ActorRow) (gamma : List ℕ) (lists : List (List (List ℕ))) → first_fault actors gamma lists ≡ None → pairs_fault (lists_of actors lists) ≡ None
no-pairs-fault actors gamma lists none = none-second (count_fault (lists_of actors lists) gamma 0 (length actors)) (pairs_fault (lists_of actors lists))
    (none-second (entries_fault actors [] lists) (option_or (count_fault (lists_of actors lists) gamma 0 (length actors)) (pairs_fault (lists_of actors lists))) none)
