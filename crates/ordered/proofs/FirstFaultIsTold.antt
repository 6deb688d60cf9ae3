-- Of orders by name, tested from the first entry to the last one, the first fault is told.
use Rattle.std.proofs.Common.{◌≡◌, ℕ, zero, suc, ◌+◌, ◌-◌, ◌≤◌, ◌<◌, Bool, true, false, List, [], ◌∷◌, ◌++◌, length, take, drop, Option, Some, None, subst, sym, refl, ap, ◌∙◌, arith, add-one, eqb-true, eq-eqb, lt-ltb}
use Rattle.std.specs.Prelude.{◌≢◌, ◌||◌, not, slice_set, slice_index, slice_index_or, ◌==◌, ◌&&◌, nat_lt, count_by, if◌then◌else◌}
use Rattle.std.specs.List.{list_any}
use Rattle.std.specs.Option.{option_or}
use Rattle.std.specs.Str.{bytes_eq}
use Rattle.std.proofs.lemmas.List.Sums.{position_or_len_is}
use Rattle.std.proofs.Math.Seq.{drop-cons}
use Rattle.std.proofs.lemmas.Bool.{ltb-true}
use Rattle.std.proofs.lemmas.List.{at_drop_all, take_more, map-append, length-append, get_or_default, get_or-set_same, get_or-set_other, length-map}
use Rattle.std.proofs.lemmas.List.Folds.{list_any-append}
use Rattle.sd_base.specs.declared.limits.TheConstants.{ORDER_PAIRS}
use Rattle.sd_base.specs.declared.tables.ActorRow.{ActorRow}
use Rattle.sd_base.proofs.ByteTestsDecide.{or-none}
use Rattle.ordered.specs.declared.orders.OrderError.{OrderError}
use Rattle.ordered.specs.declared.orders.OrderError.TheVariants.{Unknown, Elsewhere, Count, TooManyPairs, NoMemory}
use Rattle.ordered.specs.OrderedNets.{is_named, order_channel, order_channels, order_channels_from}
use Rattle.ordered.specs.NamedOrders.{Tells, actor_named, count_fault, entries_fault, entry_fault, lists_of, order_fault, order_of, pairs_fault, standing}
use Rattle.ordered.proofs.PlacesHoldChannels.{orders-more}
use Rattle.ordered.proofs.PairsAreNeighbours.{channels-of-pairs}
use Rattle.ordered.specs.inside.Marks.{is_marked}
use Rattle.ordered.specs.inside.Steps.{pairs_from}

-- a fault that is told is the first one before any other
pub tells-first : (e : OrderError) (f g : Option OrderError) → Tells e f → Tells e (option_or f g)
tells-first NoMemory f g tells = tt
tells-first (Unknown n) f g tells = ap (λ (x : Option OrderError). option_or x g) tells
tells-first (Elsewhere n) f g tells = ap (λ (x : Option OrderError). option_or x g) tells
tells-first (Count a n) f g tells = ap (λ (x : Option OrderError). option_or x g) tells
tells-first TooManyPairs f g tells = ap (λ (x : Option OrderError). option_or x g) tells

cons : {X : Type 0} (xs : List X) (i : ℕ) (x : X) → i < length xs → x ≡ slice_index_or xs i x → drop i xs ≡ x ∷ drop (i + 1) xs
cons xs i x below is = rw add-one (drop-cons xs i x below) ∙ ap (λ y. y ∷ drop (i + 1) xs) (sym is)

-- ---- entries of an order

module _ (actors : List ActorRow) (others : ℕ → Bool) (names : List (List ℕ)) (i : ℕ) where
  entry-next : (name : List ℕ) → i < length names → name ≡ slice_index_or names i name → order_fault actors others (drop i names) ≡ option_or (entry_fault actors others name) (order_fault actors others (drop (i + 1) names))
  unfolding order_fault
  entry-next name below is = ap (order_fault actors others) (cons names i name below is)

  pub entry-whole : (name : List ℕ) → i < length names → name ≡ slice_index_or names i name → entry_fault actors others name ≡ None → order_fault actors others (drop (i + 1) names) ≡ order_fault actors others (drop i names)
  entry-whole name below is none = sym (entry-next name below is ∙ ap (λ (f : Option OrderError). option_or f (order_fault actors others (drop (i + 1) names))) none)

  pub entry-faulty : (e : OrderError) (name : List ℕ) → i < length names → name ≡ slice_index_or names i name → Tells e (entry_fault actors others name) → Tells e (order_fault actors others (drop i names))
  entry-faulty e name below is tells = subst (Tells e) (sym (entry-next name below is)) (tells-first e (entry_fault actors others name) (order_fault actors others (drop (i + 1) names)) tells)

  pub entries-over : length names ≤ i → order_fault actors others (drop i names) ≡ None
  unfolding order_fault
  entries-over past = at_drop_all (order_fault actors others) names i past

  pub entry-pushed : (order : List ℕ) (name : List ℕ) (a : ℕ) → i < length names → name ≡ slice_index_or names i name → a ≡ actor_named actors name → order ≡ order_of actors (take i names) → order ++ a ∷ [] ≡ order_of actors (take (i + 1) names)
  entry-pushed order name a below is number so =
      ap (λ (xs : List ℕ). xs ++ a ∷ []) so ∙ (ap (λ (n : ℕ). order_of actors (take i names) ++ n ∷ []) number
      ∙ sym (ap (order_of actors) (take_more names i name below ∙ ap (λ (n : List ℕ). take i names ++ n ∷ []) (sym is)) ∙ map-append (actor_named actors) (take i names) (name ∷ [])))

-- orders whose actors are marked alike have the same faults
module _ (actors : List ActorRow) (others marks : ℕ → Bool) (alike : (a : ℕ) → a < length actors → marks a ≡ others a) where
  entry_fault-alike : (name : List ℕ) → entry_fault actors marks name ≡ entry_fault actors others name
  unfolding entry_fault
  entry_fault-alike name = at (nat_lt (actor_named actors name) (length actors)) refl
    where
      at : (b : Bool) → nat_lt (actor_named actors name) (length actors) ≡ b →
          (if not b then Some (Unknown name) else (if marks (actor_named actors name) then Some (Elsewhere name) else None))
          ≡ (if not b then Some (Unknown name) else (if others (actor_named actors name) then Some (Elsewhere name) else None))
      at true is = ap (λ (m : Bool). if m then Some (Elsewhere name) else None) (alike (actor_named actors name) (ltb-true (actor_named actors name) (length actors) is))
      at false is = refl

  pub order_fault-alike : (names : List (List ℕ)) → order_fault actors marks names ≡ order_fault actors others names
  unfolding order_fault
  order_fault-alike [] = refl
  order_fault-alike (name ∷ names) =
      ap (λ (f : Option OrderError). option_or f (order_fault actors marks names)) (entry_fault-alike name)
      ∙ ap (option_or (entry_fault actors others name)) (order_fault-alike names)

-- ---- orders

module _ (actors : List ActorRow) (lists : List (List (List ℕ))) (i : ℕ) where
  list-next : (earlier : List (List ℕ)) (list : List (List ℕ)) → i < length lists → list ≡ slice_index_or lists i list
      → entries_fault actors earlier (drop i lists) ≡ option_or (order_fault actors (is_named earlier) list) (entries_fault actors (earlier ++ order_of actors list ∷ []) (drop (i + 1) lists))
  unfolding entries_fault
  list-next earlier list below is = ap (entries_fault actors earlier) (cons lists i list below is)

  pub list-whole : (earlier : List (List ℕ)) (list : List (List ℕ)) (order : List ℕ) → i < length lists → list ≡ slice_index_or lists i list → order ≡ order_of actors list → order_fault actors (is_named earlier) list ≡ None
      → entries_fault actors (earlier ++ order ∷ []) (drop (i + 1) lists) ≡ entries_fault actors earlier (drop i lists)
  list-whole earlier list order below is so none =
      ap (λ (o : List ℕ). entries_fault actors (earlier ++ o ∷ []) (drop (i + 1) lists)) so
      ∙ sym (list-next earlier list below is ∙ ap (λ (f : Option OrderError). option_or f (entries_fault actors (earlier ++ order_of actors list ∷ []) (drop (i + 1) lists))) none)

  pub list-faulty : (e : OrderError) (earlier : List (List ℕ)) (list : List (List ℕ)) → i < length lists → list ≡ slice_index_or lists i list → Tells e (order_fault actors (is_named earlier) list) → Tells e (entries_fault actors earlier (drop i lists))
  list-faulty e earlier list below is tells =
      subst (Tells e) (sym (list-next earlier list below is)) (tells-first e (order_fault actors (is_named earlier) list) (entries_fault actors (earlier ++ order_of actors list ∷ []) (drop (i + 1) lists)) tells)

  pub lists-over : (earlier : List (List ℕ)) → length lists ≤ i → entries_fault actors earlier (drop i lists) ≡ None
  unfolding entries_fault
  lists-over earlier past = at_drop_all (entries_fault actors earlier) lists i past

  pub list-pushed : (orders : List (List ℕ)) (list : List (List ℕ)) (order : List ℕ) → i < length lists → list ≡ slice_index_or lists i list → order ≡ order_of actors list → orders ≡ lists_of actors (take i lists) → orders ++ order ∷ [] ≡ lists_of actors (take (i + 1) lists)
  list-pushed orders list order below is named so =
      ap (λ (xs : List (List ℕ)). xs ++ order ∷ []) so ∙ (ap (λ (o : List ℕ). lists_of actors (take i lists) ++ o ∷ []) named
      ∙ sym (ap (lists_of actors) (take_more lists i list below ∙ ap (λ (l : List (List ℕ)). take i lists ++ l ∷ []) (sym is)) ∙ map-append (order_of actors) (take i lists) (list ∷ [])))

-- ---- marks

or-true : (b c : Bool) → (b || (c || true)) ≡ true
or-true true c = refl
or-true false true = refl
or-true false false = refl

-- one order more names its actors
pub named-more : (orders : List (List ℕ)) (order : List ℕ) (a : ℕ) → is_named (orders ++ order ∷ []) a ≡ (is_named orders a || list_any (λ b. b == a) order)
named-more orders order a =
    list_any-append (λ (o : List ℕ). list_any (λ b. b == a) o) orders (order ∷ [])
    ∙ ap (λ (b : Bool). is_named orders a || b) (or-none (list_any (λ b. b == a) order))

-- where the actors of one order more are marked, those of all orders are
pub marks-more : (old now new : List Bool) (orders lists : List (List ℕ)) (order entries : List ℕ) (a : ℕ) → now ≡ old → entries ≡ order → lists ≡ orders ++ order ∷ [] →
    is_marked old a ≡ is_named orders a → is_marked new a ≡ (is_marked now a || list_any (λ b. b == a) entries) → is_marked new a ≡ is_named lists a
marks-more old now new orders lists order entries a same listed all so marked =
    marked ∙ (ap (λ (ms : List Bool). is_marked ms a || list_any (λ b. b == a) entries) same
    ∙ (ap (λ (xs : List ℕ). is_marked old a || list_any (λ b. b == a) xs) listed
    ∙ (ap (λ (b : Bool). b || list_any (λ b. b == a) order) so ∙ (sym (named-more orders order a) ∙ sym (ap (λ (os : List (List ℕ)). is_named os a) all)))))

-- one entry more is marked
pub mark-more : (first marks : List Bool) (order : List ℕ) (i x a : ℕ) → i < length order → x ≡ slice_index order i → x < length marks →
    is_marked marks a ≡ (is_marked first a || list_any (λ b. b == a) (take i order)) →
    is_marked (slice_set marks x true) a ≡ (is_marked first a || list_any (λ b. b == a) (take (i + 1) order))
mark-more first marks order i x a below is inside so =
    at (x == a) refl ∙ sym (ap (λ (b : Bool). is_marked first a || b) more)
  where
    more : list_any (λ b. b == a) (take (i + 1) order) ≡ (list_any (λ b. b == a) (take i order) || (x == a))
    more =
        ap (list_any (λ b. b == a)) (take_more order i 0 below ∙ ap (λ (y : ℕ). take i order ++ y ∷ []) (sym is))
        ∙ (list_any-append (λ b. b == a) (take i order) (x ∷ []) ∙ ap (λ (b : Bool). list_any (λ b. b == a) (take i order) || b) (or-none (x == a)))

    other : (x == a) ≡ false → a ≢ x
    other differs same = let e : (x == a) ≡ true = eq-eqb x a (sym same) in let clash : true ≡ false = sym e ∙ differs in cc

    at : (b : Bool) → (x == a) ≡ b → is_marked (slice_set marks x true) a ≡ (is_marked first a || (list_any (λ b. b == a) (take i order) || (x == a)))
    at true hit =
        let same : x ≡ a = eqb-true x a hit in
        ap (is_marked (slice_set marks x true)) (sym same) ∙ (get_or-set_same marks x true false inside
        ∙ sym (ap (λ (b : Bool). is_marked first a || (list_any (λ b. b == a) (take i order) || b)) hit ∙ or-true (is_marked first a) (list_any (λ b. b == a) (take i order))))
    at false miss =
        get_or-set_other marks x a true false (other miss) ∙ (so
        ∙ sym (ap (λ (b : Bool). is_marked first a || (list_any (λ b. b == a) (take i order) || b)) miss ∙ ap (λ (b : Bool). is_marked first a || b) (or-none (list_any (λ b. b == a) (take i order)))))

-- ---- counts

module _ (orders : List (List ℕ)) (a i : ℕ) (order : List ℕ) (below : i < length orders) (is : order ≡ slice_index_or orders i order) where
  pub standing-here : list_any (λ b. b == a) order ≡ true → standing (drop i orders) a ≡ count_by (λ b. b == a) order
  standing-here has = ap (λ (os : List (List ℕ)). standing os a) (cons orders i order below is) ∙ ap (λ (b : Bool). if b then count_by (λ b. b == a) order else standing (drop (i + 1) orders) a) has

  pub standing-next : list_any (λ b. b == a) order ≡ false → standing (drop (i + 1) orders) a ≡ standing (drop i orders) a
  standing-next none = sym (ap (λ (os : List (List ℕ)). standing os a) (cons orders i order below is) ∙ ap (λ (b : Bool). if b then count_by (λ b. b == a) order else standing (drop (i + 1) orders) a) none)

module _ (orders : List (List ℕ)) (gamma : List ℕ) (a : ℕ) (below : a < length gamma) where
  count-step : count_fault orders gamma a (length gamma - a) ≡ (if is_named orders a && not (standing orders a == slice_index gamma a) then Some (Count a (standing orders a)) else count_fault orders gamma (a + 1) (length gamma - (a + 1)))
  unfolding count_fault
  count-step =
      let e : length gamma - a ≡ suc (length gamma - (a + 1)) = omega arith in
      rw e (ap (λ (n : ℕ). if is_named orders a && not (standing orders a == slice_index gamma a) then Some (Count a (standing orders a)) else count_fault orders gamma n (length gamma - (a + 1))) (let f : suc a ≡ a + 1 = omega arith in f))

  pub count-whole : (is_named orders a && not (standing orders a == slice_index gamma a)) ≡ false → count_fault orders gamma (a + 1) (length gamma - (a + 1)) ≡ count_fault orders gamma a (length gamma - a)
  count-whole right = sym (count-step ∙ ap (λ (b : Bool). if b then Some (Count a (standing orders a)) else count_fault orders gamma (a + 1) (length gamma - (a + 1))) right)

  pub count-faulty : (is_named orders a && not (standing orders a == slice_index gamma a)) ≡ true → count_fault orders gamma a (length gamma - a) ≡ Some (Count a (standing orders a))
  count-faulty wrong = count-step ∙ ap (λ (b : Bool). if b then Some (Count a (standing orders a)) else count_fault orders gamma (a + 1) (length gamma - (a + 1))) wrong

pub counts-over : (orders : List (List ℕ)) (gamma : List ℕ) (a : ℕ) → length gamma ≤ a → count_fault orders gamma a (length gamma - a) ≡ None
unfolding count_fault
counts-over orders gamma a past = let e : length gamma - a ≡ 0 = omega arith in rw e refl

-- ---- names

pub named-at : (actors : List ActorRow) (name : List ℕ) (i : ℕ) (row : ActorRow) → i < length actors → ((k : ℕ) (d : ActorRow) → k < i → bytes_eq (slice_index_or actors k d).name name ≡ false)
    → row ≡ slice_index_or actors i row → bytes_eq row.name name ≡ true → i ≡ actor_named actors name
named-at actors name i row below others is hit =
    sym (position_or_len_is (λ (a : ActorRow). bytes_eq a.name name) actors i row (omega arith) (λ k small. others k row small) (λ there. ap (λ (a : ActorRow). bytes_eq a.name name) (sym is) ∙ hit))

pub named-none : (actors : List ActorRow) (name : List ℕ) (i : ℕ) → i ≡ length actors → ((k : ℕ) (d : ActorRow) → k < i → bytes_eq (slice_index_or actors k d).name name ≡ false) → i ≡ actor_named actors name
named-none actors name i all others =
    sym (position_or_len_is (λ (a : ActorRow). bytes_eq a.name name) actors i (record { name = []; phases = 0; times = [] }) (omega arith) (λ k small. others k (record { name = []; phases = 0; times = [] }) small) (λ there. absurd (omega arith)))

-- ---- pairs

pub pairs-counted : (orders : List (List ℕ)) (i : ℕ) → i < length orders → length (order_channels (take (i + 1) orders)) ≡ length (order_channels (take i orders)) + length (order_channels_from (slice_index_or orders i []) 0 (length (slice_index_or orders i [])))
pairs-counted orders i below = ap length (orders-more orders i below) ∙ length-append (order_channels (take i orders)) (order_channels_from (slice_index_or orders i []) 0 (length (slice_index_or orders i [])))

-- those of some orders are no more than those of all
pub pairs-grow : (orders : List (List ℕ)) (i : ℕ) → length (order_channels (take i orders)) ≤ length (order_channels orders)
pairs-grow [] zero = omega arith
pairs-grow [] (suc i) = omega arith
pairs-grow (order ∷ orders) zero = omega arith
pairs-grow (order ∷ orders) (suc i) = omega (arith, pairs-grow orders i, length-append (order_channels_from order 0 (length order)) (order_channels (take i orders)), length-append (order_channels_from order 0 (length order)) (order_channels orders))

pub pairs-few : (orders : List (List ℕ)) → length (order_channels orders) ≤ ORDER_PAIRS → pairs_fault orders ≡ None
unfolding pairs_fault
pairs-few orders few = at (nat_lt ORDER_PAIRS (length (order_channels orders))) refl
  where
    at : (b : Bool) → nat_lt ORDER_PAIRS (length (order_channels orders)) ≡ b → (if b then Some TooManyPairs else None) ≡ None
    at true is = absurd (let less = ltb-true ORDER_PAIRS (length (order_channels orders)) is in omega arith)
    at false is = refl

pub pairs-many : (orders : List (List ℕ)) → ORDER_PAIRS < length (order_channels orders) → pairs_fault orders ≡ Some TooManyPairs
unfolding pairs_fault
pairs-many orders many = ap (λ (b : Bool). if b then Some TooManyPairs else None) (lt-ltb ORDER_PAIRS (length (order_channels orders)) many)

-- the pairs of one order more
pub pairs-listed : (orders items : List (List ℕ)) (i : ℕ) (one now : List ℕ) (pairs : List (ℕ × ℕ)) → items ≡ orders → i < length items → one ≡ slice_index_or items i one → now ≡ one → pairs ≡ pairs_from now 0 (length now)
    → length (order_channels (take (i + 1) orders)) ≡ length (order_channels (take i orders)) + length pairs
pairs-listed orders items i one now pairs all below is same listed =
    let here : now ≡ slice_index_or orders i [] = same ∙ (is ∙ (get_or_default items i one [] below ∙ ap (λ (os : List (List ℕ)). slice_index_or os i []) all)) in
    let long : length (order_channels_from (slice_index_or orders i []) 0 (length (slice_index_or orders i []))) ≡ length pairs
    = ap length (channels-of-pairs (slice_index_or orders i []) 0 (length (slice_index_or orders i []))) ∙ (length-map (pairs_from (slice_index_or orders i []) 0 (length (slice_index_or orders i []))) (λ (p : ℕ × ℕ). order_channel (slice_index_or orders i []) p.0 p.1)
    ∙ sym (ap length (listed ∙ ap (λ (o : List ℕ). pairs_from o 0 (length o)) here))) in
    pairs-counted orders i (subst (λ (os : List (List ℕ)). i < length os) all below) ∙ ap (λ (n : ℕ). length (order_channels (take i orders)) + n) long
