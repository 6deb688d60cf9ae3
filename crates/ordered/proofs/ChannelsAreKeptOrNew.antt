-- Each channel of an ordered net is one of the net, a new own channel or an order channel, and all of these are there.
use Rattle.std.proofs.Common.{◌≡◌, ℕ, zero, suc, ◌+◌, ◌-◌, ◌≤◌, ◌<◌, ◌⊎◌, Bool, true, false, List, [], ◌∷◌, ◌++◌, length, map, inl, inr, ⊎_elim, subst, sym, refl, ap, ◌∙◌, arith, eq-eqb, eqb-true}
use Rattle.std.specs.Cmp.{first_so, second_so}
use Rattle.std.specs.Prelude.{slice_index, slice_index_or, ◌==◌, if◌then◌else◌}
use Rattle.std.proofs.lemmas.Bool.{cases_lt}
use Rattle.std.proofs.lemmas.List.{length-append, get_or_append_left, get_or-append_right, get_or-append-add}
use Rattle.sd_base.specs.declared.role.Role.{Role}
use Rattle.sd_base.specs.declared.role.Role.TheVariants.{Token, Own, Space, Order}
use Rattle.sd_base.specs.Net.{Channel, Net, nowhere, channel_at}
use Rattle.sd_base.specs.FileNet.{own_channel}
use Rattle.sd_base.specs.Lawful.{is_token_role, is_own_role, is_space_role, is_order_role}
use Rattle.ordered.specs.Orders.{entry_at}
use Rattle.ordered.proofs.CountsRepeatByTurns.{many-miss}
use Rattle.ordered.specs.OrderedNets.{CanBeOrdered, is_named, phases_in, rephased, with_role, leads, led, order_channel, order_channels_from, order_channels, own_or_new, owns_from, ordered}

-- a channel of a list
pub record Among (cs : List Channel) (c : Channel) : Type 0 where
  pub place : ℕ
  pub below : place < length cs
  pub is : slice_index_or cs place nowhere ≡ c

pub at-place : (cs : List Channel) (i : ℕ) → i < length cs → Among cs (slice_index_or cs i nowhere)
at-place cs i below = record { place = i; below = below; is = refl }

pub among-head : (c : Channel) (cs : List Channel) → Among (c ∷ cs) c
among-head c cs = record { place = 0; below = omega arith; is = refl }

pub among-tail : (d : Channel) (cs : List Channel) (c : Channel) → Among cs c → Among (d ∷ cs) c
among-tail d cs c a = record { place = suc a.place; below = omega (arith, a.below); is = a.is }

pub among-left : (xs ys : List Channel) (c : Channel) → Among xs c → Among (xs ++ ys) c
among-left xs ys c a = record { place = a.place; below = omega (arith, a.below, length-append xs ys); is = get_or_append_left xs ys nowhere a.place a.below ∙ a.is }

pub among-right : (xs ys : List Channel) (c : Channel) → Among ys c → Among (xs ++ ys) c
among-right xs ys c a = record { place = length xs + a.place; below = omega (arith, a.below, length-append xs ys); is = get_or-append-add xs ys a.place nowhere ∙ a.is }

pub among-either : (xs ys : List Channel) (c : Channel) → Among (xs ++ ys) c → Among xs c ⊎ Among ys c
among-either xs ys c a = ⊎_elim
    (λ (here : a.place < length xs). inl (record { place = a.place; below = here; is = sym (get_or_append_left xs ys nowhere a.place here) ∙ a.is }))
    (λ (later : length xs ≤ a.place). inr (record { place = a.place - length xs; below = omega (arith, a.below, length-append xs ys); is = sym (get_or-append_right xs ys (length xs) a.place nowhere refl later) ∙ a.is }))
    (cases_lt a.place (length xs))

pub among-none : (c : Channel) → Among [] c → ⊥
among-none c a = let b = a.below in omega arith

-- the first one, or one of the others
pub among-cases : (d : Channel) (cs : List Channel) (c : Channel) → Among (d ∷ cs) c → (d ≡ c) ⊎ Among cs c
among-cases d cs c a = at a.place a.below a.is
  where
    at : (i : ℕ) → i < length (d ∷ cs) → slice_index_or (d ∷ cs) i nowhere ≡ c → (d ≡ c) ⊎ Among cs c
    at zero below is = inl is
    at (suc i) below is = inr (record { place = i; below = omega arith; is = is })

-- ---- channels of a role

-- a channel of a list, changed, whose role passes a test
pub record Kept (f : Channel → Channel) (test : Role → Bool) (cs : List Channel) (c : Channel) : Type 0 where
  pub from : Channel
  pub among : Among cs from
  pub role : test from.role ≡ true
  pub is : c ≡ f from

module _ (f : Channel → Channel) (test : Role → Bool) where
  pub kept-there : (cs : List Channel) (d : Channel) → Among cs d → test d.role ≡ true → Among (map f (with_role test cs)) (f d)
  kept-there [] d a role = absurd (among-none d a)
  kept-there (c ∷ cs) d a role = step (test c.role) refl (among-cases c cs d a) (λ b. kept-there cs d b role)
    where
      step : (b : Bool) → test c.role ≡ b → (c ≡ d) ⊎ Among cs d → (Among cs d → Among (map f (with_role test cs)) (f d)) → Among (map f (if b then c ∷ with_role test cs else with_role test cs)) (f d)
      step true is (inl e) rest = subst (λ (x : Channel). Among (f c ∷ map f (with_role test cs)) (f x)) e (among-head (f c) (map f (with_role test cs)))
      step true is (inr b) rest = among-tail (f c) (map f (with_role test cs)) (f d) (rest b)
      step false is (inl e) rest = absurd (let no : true ≡ false = sym role ∙ (ap (λ (x : Channel). test x.role) (sym e) ∙ is) in cc)
      step false is (inr b) rest = rest b

  pub kept-from : (cs : List Channel) (c : Channel) → Among (map f (with_role test cs)) c → Kept f test cs c
  kept-from [] c a = absurd (among-none c a)
  kept-from (d ∷ cs) c a = step (test d.role) refl a (kept-from cs c)
    where
      later : Kept f test cs c → Kept f test (d ∷ cs) c
      later k = record { from = k.from; among = among-tail d cs k.from k.among; role = k.role; is = k.is }

      step : (b : Bool) → test d.role ≡ b → Among (map f (if b then d ∷ with_role test cs else with_role test cs)) c → (Among (map f (with_role test cs)) c → Kept f test cs c) → Kept f test (d ∷ cs) c
      step true is b rest = ⊎_elim
          (λ (e : f d ≡ c). record { from = d; among = among-head d cs; role = is; is = sym e })
          (λ (t : Among (map f (with_role test cs)) c). later (rest t))
          (among-cases (f d) (map f (with_role test cs)) c b)
      step false is b rest = later (rest b)

-- ---- order channels

-- an order channel for two entries that follow each other, the first such ones from m on
pub record OrderAt (order : List ℕ) (m n : ℕ) (c : Channel) : Type 0 where
  pub place : ℕ
  pub from : m ≤ place
  pub below : place < m + n
  pub first : led order (entry_at order place) (entry_at order (suc place)) place ≡ 0
  pub is : c ≡ order_channel order (entry_at order place) (entry_at order (suc place))

order-later : (order : List ℕ) (m n : ℕ) (c : Channel) → OrderAt order (suc m) n c → OrderAt order m (suc n) c
order-later order m n c o = record { place = o.place; from = omega (arith, o.from); below = omega (arith, o.below); first = o.first; is = o.is }

pub order-from : (order : List ℕ) (m n : ℕ) (c : Channel) → Among (order_channels_from order m n) c → OrderAt order m n c
order-from order m zero c a = absurd (among-none c a)
order-from order m (suc n) c a = step (led order (entry_at order m) (entry_at order (suc m)) m == 0) refl a (λ b. order-later order m n c (order-from order (suc m) n c b))
  where
    step : (b : Bool) → (led order (entry_at order m) (entry_at order (suc m)) m == 0) ≡ b
        → Among (if b then order_channel order (entry_at order m) (entry_at order (suc m)) ∷ order_channels_from order (suc m) n else order_channels_from order (suc m) n) c
        → (Among (order_channels_from order (suc m) n) c → OrderAt order m (suc n) c) → OrderAt order m (suc n) c
    step true is b rest = ⊎_elim
        (λ (e : order_channel order (entry_at order m) (entry_at order (suc m)) ≡ c). record { place = m; from = omega arith; below = omega arith; first = eqb-true (led order (entry_at order m) (entry_at order (suc m)) m) 0 is; is = sym e })
        (λ (t : Among (order_channels_from order (suc m) n) c). rest t)
        (among-cases (order_channel order (entry_at order m) (entry_at order (suc m))) (order_channels_from order (suc m) n) c b)
    step false is b rest = rest b

-- two entries that follow each other, and don't before m, have their channel
pub order-there : (order : List ℕ) (x y m n r : ℕ) → led order x y m ≡ 0 → r < n → entry_at order (m + r) ≡ x → entry_at order (suc (m + r)) ≡ y
    → Among (order_channels_from order m n) (order_channel order x y)
order-there order x y m zero r none below one other = absurd (omega arith)
order-there order x y m (suc n) r none below one other = step r (leads order x y m) refl below one other (order-there order x y (suc m) n)
  where
    here : entry_at order m ≡ x → entry_at order (suc m) ≡ y → Among (order_channels_from order m (suc n)) (order_channel order x y)
    here p q =
        let zero' : (led order x y m == 0) ≡ true = eq-eqb (led order x y m) 0 none in
        let head : Among (if led order x y m == 0 then order_channel order x y ∷ order_channels_from order (suc m) n else order_channels_from order (suc m) n) (order_channel order x y)
        = rw zero' (among-head (order_channel order x y) (order_channels_from order (suc m) n)) in
        rw (p, q) head

    past : Among (order_channels_from order (suc m) n) (order_channel order x y) → Among (order_channels_from order m (suc n)) (order_channel order x y)
    past a = at (led order (entry_at order m) (entry_at order (suc m)) m == 0)
      where
        at : (b : Bool) → Among (if b then order_channel order (entry_at order m) (entry_at order (suc m)) ∷ order_channels_from order (suc m) n else order_channels_from order (suc m) n) (order_channel order x y)
        at true = among-tail (order_channel order (entry_at order m) (entry_at order (suc m))) (order_channels_from order (suc m) n) (order_channel order x y) a
        at false = a

    step : (r : ℕ) (b : Bool) → leads order x y m ≡ b → r < suc n → entry_at order (m + r) ≡ x → entry_at order (suc (m + r)) ≡ y
        → ((r : ℕ) → led order x y (suc m) ≡ 0 → r < n → entry_at order (suc m + r) ≡ x → entry_at order (suc (suc m + r)) ≡ y → Among (order_channels_from order (suc m) n) (order_channel order x y))
        → Among (order_channels_from order m (suc n)) (order_channel order x y)
    step r true is below one other rest = here (eqb-true (entry_at order m) x (first_so (entry_at order m == x) (entry_at order (suc m) == y) is)) (eqb-true (entry_at order (suc m)) y (second_so (entry_at order m == x) (entry_at order (suc m) == y) is))
    step zero false is below one other rest =
        let e : m + 0 ≡ m = omega arith in
        here (rw e at one) (rw e at other)
    step (suc r) false is below one other rest =
        let e : m + suc r ≡ suc m + r = omega arith in
        past (rest r (many-miss (leads order x y) m is ∙ none) (omega arith) (rw e at one) (rw e at other))

-- an order of the list that has the channel
pub record OrderIn (orders : List (List ℕ)) (c : Channel) : Type 0 where
  pub order : ℕ
  pub listed : order < length orders
  pub among : Among (order_channels_from (slice_index_or orders order []) 0 (length (slice_index_or orders order []))) c

pub orders-from : (orders : List (List ℕ)) (c : Channel) → Among (order_channels orders) c → OrderIn orders c
orders-from [] c a = absurd (among-none c a)
orders-from (order ∷ orders) c a = ⊎_elim
    (λ (here : Among (order_channels_from order 0 (length order)) c). record { order = 0; listed = omega arith; among = here })
    (λ (later : Among (order_channels orders) c). let o = orders-from orders c later in record { order = suc o.order; listed = omega (arith, o.listed); among = o.among })
    (among-either (order_channels_from order 0 (length order)) (order_channels orders) c a)

pub orders-there : (orders : List (List ℕ)) (l : ℕ) (c : Channel) → l < length orders
    → Among (order_channels_from (slice_index_or orders l []) 0 (length (slice_index_or orders l []))) c → Among (order_channels orders) c
orders-there [] l c below a = absurd (omega arith)
orders-there (order ∷ orders) zero c below a = among-left (order_channels_from order 0 (length order)) (order_channels orders) c a
orders-there (order ∷ orders) (suc l) c below a = among-right (order_channels_from order 0 (length order)) (order_channels orders) c (orders-there orders l c (omega arith) a)

-- ---- own channels

module _ (net : Net) (orders : List (List ℕ)) where
  -- an own channel of the net, or one that a named actor gets
  pub record OwnIn (a n : ℕ) (c : Channel) : Type 0 where
    pub actor : ℕ
    pub from : a ≤ actor
    pub below : actor < a + n
    pub is : Kept (rephased (phases_in net orders)) (is_own_role actor) net.channels c ⊎ ((is_named orders actor ≡ true) × (c ≡ own_channel actor (slice_index net.round actor)))

  new-from : (xs : List Channel) (b : Bool) (d c : Channel) → Among (own_or_new xs b d) c → Among xs c ⊎ ((b ≡ true) × (c ≡ d))
  new-from [] true d c a = ⊎_elim (λ (e : d ≡ c). inr (refl, sym e)) (λ (t : Among [] c). absurd (among-none c t)) (among-cases d [] c a)
  new-from [] false d c a = absurd (among-none c a)
  new-from (x ∷ xs) b d c a = inl a

  new-there : (xs : List Channel) (b : Bool) (d c : Channel) → Among xs c → Among (own_or_new xs b d) c
  new-there [] b d c a = absurd (among-none c a)
  new-there (x ∷ xs) b d c a = a

  pub owns-of : (a n : ℕ) (c : Channel) → Among (owns_from net orders a n) c → OwnIn a n c
  owns-of a zero c among = absurd (among-none c among)
  owns-of a (suc n) c among = ⊎_elim here (λ (rest : Among (owns_from net orders (suc a) n) c). later (owns-of (suc a) n c rest))
      (among-either (own_or_new (map (rephased (phases_in net orders)) (with_role (is_own_role a) net.channels)) (is_named orders a) (own_channel a (slice_index net.round a))) (owns_from net orders (suc a) n) c among)
    where
      here : Among (own_or_new (map (rephased (phases_in net orders)) (with_role (is_own_role a) net.channels)) (is_named orders a) (own_channel a (slice_index net.round a))) c → OwnIn a (suc n) c
      here one = record {
        actor = a;
        from = omega arith;
        below = omega arith;
        is = ⊎_elim
            (λ (m : Among (map (rephased (phases_in net orders)) (with_role (is_own_role a) net.channels)) c). inl (kept-from (rephased (phases_in net orders)) (is_own_role a) net.channels c m))
            (λ (m : (is_named orders a ≡ true) × (c ≡ own_channel a (slice_index net.round a))). inr m)
            (new-from (map (rephased (phases_in net orders)) (with_role (is_own_role a) net.channels)) (is_named orders a) (own_channel a (slice_index net.round a)) c one);
      }

      later : OwnIn (suc a) n c → OwnIn a (suc n) c
      later o = record { actor = o.actor; from = omega (arith, o.from); below = omega (arith, o.below); is = o.is }

  -- the own channels of an actor are among those of all
  pub owns-here : (a n b : ℕ) (c : Channel) → a ≤ b → b < a + n
      → Among (own_or_new (map (rephased (phases_in net orders)) (with_role (is_own_role b) net.channels)) (is_named orders b) (own_channel b (slice_index net.round b))) c
      → Among (owns_from net orders a n) c
  owns-here a zero b c from below one = absurd (omega arith)
  owns-here a (suc n) b c from below one = ⊎_elim
      (λ (h : a < b). among-right (mine a) (owns_from net orders (suc a) n) c (owns-here (suc a) n b c (omega arith) (omega arith) one))
      (λ (h : b ≤ a). let e : b ≡ a = omega arith in among-left (mine a) (owns_from net orders (suc a) n) c (subst (λ (x : ℕ). Among (mine x) c) e one))
      (cases_lt a b)
    where
      mine : ℕ → List Channel
      mine x = own_or_new (map (rephased (phases_in net orders)) (with_role (is_own_role x) net.channels)) (is_named orders x) (own_channel x (slice_index net.round x))

  pub owns-kept : (n b : ℕ) (d : Channel) → b < n → Among net.channels d → is_own_role b d.role ≡ true → Among (owns_from net orders 0 n) (rephased (phases_in net orders) d)
  owns-kept n b d below among role = owns-here 0 n b (rephased (phases_in net orders) d) (omega arith) (omega arith)
      (new-there (map (rephased (phases_in net orders)) (with_role (is_own_role b) net.channels)) (is_named orders b) (own_channel b (slice_index net.round b)) (rephased (phases_in net orders) d)
      (kept-there (rephased (phases_in net orders)) (is_own_role b) net.channels d among role))

  -- ---- all of them

  tokens : List Channel
  tokens = map (rephased (phases_in net orders)) (with_role is_token_role net.channels)

  owns : List Channel
  owns = owns_from net orders 0 (length net.times)

  spaces : List Channel
  spaces = map (rephased (phases_in net orders)) (with_role is_space_role net.channels)

  -- a channel of the net, by the phases of its ends; a new own channel; or an order channel
  pub data Origin (c : Channel) : Type 0 where
    kept : (d : Channel) → Among net.channels d → c ≡ rephased (phases_in net orders) d → Origin c
    new : (a : ℕ) → a < length net.times → is_named orders a ≡ true → c ≡ own_channel a (slice_index net.round a) → Origin c
    step : OrderIn orders c → Origin c

  pub origin : (c : Channel) → Among (ordered net orders).channels c → Origin c
  unfolding tokens owns spaces
  origin c among = ⊎_elim
      (λ (t : Among tokens c). old is_token_role t)
      (λ (rest : Among (owns ++ (spaces ++ order_channels orders)) c). ⊎_elim
      (λ (o : Among owns c). own (owns-of 0 (length net.times) c o))
      (λ (more : Among (spaces ++ order_channels orders) c). ⊎_elim
      (λ (s : Among spaces c). old is_space_role s)
      (λ (s : Among (order_channels orders) c). step (orders-from orders c s))
      (among-either spaces (order_channels orders) c more))
      (among-either owns (spaces ++ order_channels orders) c rest))
      (among-either tokens (owns ++ (spaces ++ order_channels orders)) c among)
    where
      old : (test : Role → Bool) → Among (map (rephased (phases_in net orders)) (with_role test net.channels)) c → Origin c
      old test a = let k = kept-from (rephased (phases_in net orders)) test net.channels c a in kept k.from k.among k.is

      own : OwnIn 0 (length net.times) c → Origin c
      own o = ⊎_elim
          (λ (k : Kept (rephased (phases_in net orders)) (is_own_role o.actor) net.channels c). kept k.from k.among k.is)
          (λ (k : (is_named orders o.actor ≡ true) × (c ≡ own_channel o.actor (slice_index net.round o.actor))). new o.actor (omega (arith, o.below)) k.0 k.1)
          o.is

  -- each channel of the net is there
  pub kept-in : CanBeOrdered net → (i : ℕ) → i < length net.channels → Among (ordered net orders).channels (rephased (phases_in net orders) (channel_at net i))
  unfolding tokens owns spaces
  kept-in can i below = at (channel_at net i).role refl
    where
      d : Channel
      d = rephased (phases_in net orders) (channel_at net i)

      there : Among net.channels (channel_at net i)
      there = at-place net.channels i below

      at : (r : Role) → (channel_at net i).role ≡ r → Among (ordered net orders).channels (rephased (phases_in net orders) (channel_at net i))
      at (Token c) is = among-left tokens (owns ++ (spaces ++ order_channels orders)) (rephased (phases_in net orders) (channel_at net i)) (kept-there (rephased (phases_in net orders)) is_token_role net.channels (channel_at net i) there (ap is_token_role is))
      at (Own a) is = among-right tokens (owns ++ (spaces ++ order_channels orders)) (rephased (phases_in net orders) (channel_at net i)) (among-left owns (spaces ++ order_channels orders) (rephased (phases_in net orders) (channel_at net i))
          (owns-kept (length net.times) a (channel_at net i) (can.owns i a below is).0 there (ap (is_own_role a) is ∙ eq-eqb a a refl)))
      at (Space c) is = among-right tokens (owns ++ (spaces ++ order_channels orders)) (rephased (phases_in net orders) (channel_at net i)) (among-right owns (spaces ++ order_channels orders) (rephased (phases_in net orders) (channel_at net i))
          (among-left spaces (order_channels orders) (rephased (phases_in net orders) (channel_at net i)) (kept-there (rephased (phases_in net orders)) is_space_role net.channels (channel_at net i) there (ap is_space_role is))))
      at (Order x y) is = absurd (let no : true ≡ false = sym (ap is_order_role is) ∙ can.orderless i below in cc)

  -- each order channel is there
  pub step-in : (l : ℕ) (c : Channel) → l < length orders → Among (order_channels_from (slice_index_or orders l []) 0 (length (slice_index_or orders l []))) c → Among (ordered net orders).channels c
  unfolding tokens owns spaces
  step-in l c below a = among-right tokens (owns ++ (spaces ++ order_channels orders)) c (among-right owns (spaces ++ order_channels orders) c (among-right spaces (order_channels orders) c (orders-there orders l c below a)))
