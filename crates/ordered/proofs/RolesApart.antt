-- The roles of the channels of an ordered net differ.
use Rattle.std.proofs.Common.{◌≡◌, ℕ, zero, suc, ◌+◌, ◌-◌, ◌≤◌, ◌<◌, ◌⊎◌, Bool, true, false, List, [], ◌∷◌, ◌++◌, length, map, inl, inr, ⊎_elim, subst, sym, refl, ap, ◌∙◌, arith, eq-eqb, eqb-true}
use Rattle.std.specs.Prelude.{slice_index, slice_index_or, ◌==◌, if◌then◌else◌}
use Rattle.std.proofs.lemmas.Bool.{cases_lt, and_from}
use Rattle.std.proofs.lemmas.List.{length-append, get_or_append_left, get_or-append_right}
use Rattle.sd_base.specs.declared.role.Role.{Role}
use Rattle.sd_base.specs.declared.role.Role.TheVariants.{Token, Own, Space, Order}
use Rattle.sd_base.specs.Net.{Channel, Net, nowhere, channel_at}
use Rattle.sd_base.specs.FileNet.{own_channel}
use Rattle.sd_base.specs.Lawful.{is_token_role, is_own_role, Lawful, is_space_role}
use Rattle.ordered.specs.Orders.{entry_at, AreOrders}
use Rattle.ordered.specs.OrderedNets.{is_named, phases_in, rephased, with_role, leads, led, order_channel, order_channels_from, order_channels, own_or_new, owns_from, ordered}
use Rattle.ordered.proofs.CountsRepeatByTurns.{many-hit, many-le}
use Rattle.ordered.proofs.ChannelsAreKeptOrNew.{Among, at-place, among-none, among-either, Kept, kept-from, OrderAt, order-from, OrderIn, orders-from, OwnIn, owns-of}

-- no two channels of a list have the same role
abbrev pub Apart : List Channel → Type 0
Apart cs = (i j : ℕ) → i < length cs → j < length cs → (slice_index_or cs i nowhere).role ≡ (slice_index_or cs j nowhere).role → i ≡ j

-- no channel of the one list has the role of one of the other
abbrev pub Distinct : List Channel → List Channel → Type 0
Distinct xs ys = (c d : Channel) → Among xs c → Among ys d → c.role ≡ d.role → ⊥

apart-none : Apart []
apart-none i j below there same = absurd (omega arith)

apart-cons : (c : Channel) (cs : List Channel) → ((d : Channel) → Among cs d → c.role ≡ d.role → ⊥) → Apart cs → Apart (c ∷ cs)
apart-cons c cs other rest zero zero below there same = refl
apart-cons c cs other rest zero (suc j) below there same = absurd (other (slice_index_or cs j nowhere) (at-place cs j (omega arith)) same)
apart-cons c cs other rest (suc i) zero below there same = absurd (other (slice_index_or cs i nowhere) (at-place cs i (omega arith)) (sym same))
apart-cons c cs other rest (suc i) (suc j) below there same = ap suc (rest i j (omega arith) (omega arith) same)

apart-tail : (c : Channel) (cs : List Channel) → Apart (c ∷ cs) → Apart cs
apart-tail c cs apart i j below there same = let e : suc i ≡ suc j = apart (suc i) (suc j) (omega arith) (omega arith) same in omega arith

apart-head : (c : Channel) (cs : List Channel) → Apart (c ∷ cs) → (d : Channel) → Among cs d → c.role ≡ d.role → ⊥
apart-head c cs apart d among same =
    let role : c.role ≡ (slice_index_or cs among.place nowhere).role = same ∙ ap (λ (x : Channel). x.role) (sym among.is) in
    let e : 0 ≡ suc among.place = apart 0 (suc among.place) (omega arith) (omega (arith, among.below)) role in omega arith

apart-append : (xs ys : List Channel) → Apart xs → Apart ys → Distinct xs ys → Apart (xs ++ ys)
apart-append [] ys one other distinct = other
apart-append (x ∷ xs) ys one other distinct = apart-cons x (xs ++ ys)
    (λ d among same. ⊎_elim (λ (a : Among xs d). apart-head x xs one d a same) (λ (a : Among ys d). distinct x d (Rattle.ordered.proofs.ChannelsAreKeptOrNew.among-head x xs) a same) (among-either xs ys d among))
    (apart-append xs ys (apart-tail x xs one) other (λ c d a b same. distinct c d (Rattle.ordered.proofs.ChannelsAreKeptOrNew.among-tail x xs c a) b same))

distinct-append : (xs ys zs : List Channel) → Distinct xs ys → Distinct xs zs → Distinct xs (ys ++ zs)
distinct-append xs ys zs one other c d a b same = ⊎_elim (λ (l : Among ys d). one c d a l same) (λ (r : Among zs d). other c d a r same) (among-either ys zs d b)

pub own-role : (a : ℕ) (r : Role) → is_own_role a r ≡ true → r ≡ Own a
own-role a (Token c) is = absurd (cc)
own-role a (Own b) is = ap Own (eqb-true b a is)
own-role a (Space c) is = absurd (cc)
own-role a (Order x y) is = absurd (cc)

order-parts : (x y a b : ℕ) → Order x y ≡ Order a b → (x ≡ a) × (y ≡ b)
order-parts x y a b same = (cc, cc)

own-part : (a b : ℕ) → Own a ≡ Own b → a ≡ b
own-part a b same = cc

module _ (phases : ℕ → ℕ) (test : Role → Bool) where
  pub kept-apart : (cs : List Channel) → Apart cs → Apart (map (rephased phases) (with_role test cs))
  kept-apart [] apart = apart-none
  kept-apart (c ∷ cs) apart = at (test c.role) (kept-apart cs (apart-tail c cs apart))
    where
      at : (b : Bool) → Apart (map (rephased phases) (with_role test cs)) → Apart (map (rephased phases) (if b then c ∷ with_role test cs else with_role test cs))
      at true rest = apart-cons (rephased phases c) (map (rephased phases) (with_role test cs))
          (λ d among same.
          let k : Kept (rephased phases) test cs d = kept-from (rephased phases) test cs d among in
          apart-head c cs apart k.from k.among (same ∙ ap (λ (x : Channel). x.role) k.is)) rest
      at false rest = rest

-- ---- order channels

module _ (order : List ℕ) where
  orders-apart-from : (m n : ℕ) → Apart (order_channels_from order m n)
  orders-apart-from m zero = apart-none
  orders-apart-from m (suc n) = at (led order (entry_at order m) (entry_at order (suc m)) m == 0) (orders-apart-from (suc m) n)
    where
      later : (d : Channel) → Among (order_channels_from order (suc m) n) d → Order (entry_at order m) (entry_at order (suc m)) ≡ d.role → ⊥
      later d among same =
          let o : OrderAt order (suc m) n d = order-from order (suc m) n d among in
          let p = order-parts (entry_at order m) (entry_at order (suc m)) (entry_at order o.place) (entry_at order (suc o.place)) (same ∙ ap (λ (x : Channel). x.role) o.is) in
          let hit : leads order (entry_at order o.place) (entry_at order (suc o.place)) m ≡ true = and_from (entry_at order m == entry_at order o.place) (entry_at order (suc m) == entry_at order (suc o.place))
          (eq-eqb (entry_at order m) (entry_at order o.place) p.0) (eq-eqb (entry_at order (suc m)) (entry_at order (suc o.place)) p.1) in
          let more = many-hit (leads order (entry_at order o.place) (entry_at order (suc o.place))) m hit in
          let le = many-le (leads order (entry_at order o.place) (entry_at order (suc o.place))) (suc m) o.place o.from in
          let first = o.first in
          omega arith

      at : (b : Bool) → Apart (order_channels_from order (suc m) n) → Apart (if b then order_channel order (entry_at order m) (entry_at order (suc m)) ∷ order_channels_from order (suc m) n else order_channels_from order (suc m) n)
      at true rest = apart-cons (order_channel order (entry_at order m) (entry_at order (suc m))) (order_channels_from order (suc m) n) later rest
      at false rest = rest

-- an entry stands in one order
abbrev pub InOne : List (List ℕ) → Type 0
InOne orders = (l k p q : ℕ) → l < length orders → k < length orders → p < length (slice_index_or orders l []) → q < length (slice_index_or orders k []) →
    slice_index (slice_index_or orders l []) p ≡ slice_index (slice_index_or orders k []) q → l ≡ k

-- where an order channel begins
pub starts-at : (order : List ℕ) (c : Channel) → Among (order_channels_from order 0 (length order)) c → (p : ℕ) × (p < length order) × (q : ℕ) × (c.role ≡ Order (slice_index order p) q)
starts-at order c among =
    let o : OrderAt order 0 (length order) c = order-from order 0 (length order) c among in
    let small : o.place < length order = omega (arith, o.below) in
    (o.place, small, entry_at order (suc o.place), ap (λ (x : Channel). x.role) o.is ∙ ap (λ (a : ℕ). Order a (entry_at order (suc o.place))) (Rattle.ordered.proofs.FiringsHaveEntries.entry-here order o.place small))

orders-apart : (orders : List (List ℕ)) → InOne orders → Apart (order_channels orders)
orders-apart [] one = apart-none
orders-apart (order ∷ orders) one = apart-append (order_channels_from order 0 (length order)) (order_channels orders) (orders-apart-from order 0 (length order))
    (orders-apart orders (λ l k p q below there small also same. let e : suc l ≡ suc k = one (suc l) (suc k) p q (omega arith) (omega arith) small also same in omega arith)) across
  where
    across : Distinct (order_channels_from order 0 (length order)) (order_channels orders)
    across c d a b same =
        let here = starts-at order c a in
        let o : OrderIn orders d = orders-from orders d b in
        let other = starts-at (slice_index_or orders o.order []) d o.among in
        let p = order-parts (slice_index order here.0) here.2 (slice_index (slice_index_or orders o.order []) other.0) other.2 (sym here.3 ∙ (same ∙ other.3)) in
        let e : 0 ≡ suc o.order = one 0 (suc o.order) here.0 other.0 (omega arith) (omega (arith, o.listed)) here.1 other.1 p.0 in omega arith

-- ---- all channels

module _ (net : Net) (laws : Lawful net) (orders : List (List ℕ)) (are : AreOrders net orders) where
  pub new-role : (a n : ℕ) (c : Channel) → Among (owns_from net orders a n) c → (b : ℕ) × (a ≤ b) × (c.role ≡ Own b)
  new-role a n c among =
      let o : OwnIn net orders a n c = owns-of net orders a n c among in (
        o.actor,
        o.from,
        ⊎_elim
            (λ (k : Kept (rephased (phases_in net orders)) (is_own_role o.actor) net.channels c). ap (λ (x : Channel). x.role) k.is ∙ own-role o.actor k.from.role k.role)
            (λ (k : (is_named orders o.actor ≡ true) × (c ≡ own_channel o.actor (slice_index net.round o.actor))). ap (λ (x : Channel). x.role) k.1) o.is,
      )

  owns-apart : (a n : ℕ) → Apart (owns_from net orders a n)
  owns-apart a zero = apart-none
  owns-apart a (suc n) = apart-append (own_or_new mine (is_named orders a) new) (owns_from net orders (suc a) n) (one mine (is_named orders a) (kept-apart (phases_in net orders) (is_own_role a) net.channels laws.roles_differ)) (owns-apart (suc a) n) across
    where
      mine : List Channel
      mine = map (rephased (phases_in net orders)) (with_role (is_own_role a) net.channels)

      new : Channel
      new = own_channel a (slice_index net.round a)

      one : (xs : List Channel) (b : Bool) → Apart xs → Apart (own_or_new xs b new)
      one [] true apart = apart-cons new [] (λ d among same. among-none d among) apart-none
      one [] false apart = apart-none
      one (x ∷ xs) b apart = apart

      role : (xs : List Channel) (b : Bool) (c : Channel) → ((c : Channel) → Among xs c → c.role ≡ Own a) → Among (own_or_new xs b new) c → c.role ≡ Own a
      role [] true c each among = ⊎_elim (λ (e : new ≡ c). ap (λ (x : Channel). x.role) (sym e)) (λ (t : Among [] c). absurd (among-none c t)) (Rattle.ordered.proofs.ChannelsAreKeptOrNew.among-cases new [] c among)
      role [] false c each among = absurd (among-none c among)
      role (x ∷ xs) b c each among = each c among

      across : Distinct (own_or_new mine (is_named orders a) new) (owns_from net orders (suc a) n)
      across c d x y same =
          let here : c.role ≡ Own a = role mine (is_named orders a) c (λ e among. let k : Kept (rephased (phases_in net orders)) (is_own_role a) net.channels e = kept-from (rephased (phases_in net orders)) (is_own_role a) net.channels e among in
          ap (λ (x : Channel). x.role) k.is ∙ own-role a k.from.role k.role) x in
          let other = new-role (suc a) n d y in
          let e : a ≡ other.0 = own-part a other.0 (sym here ∙ (same ∙ other.2)) in
          omega (arith, other.1)

  -- the role of a kept channel passes the test
  pub kept-role : (test : Role → Bool) (c : Channel) → Among (map (rephased (phases_in net orders)) (with_role test net.channels)) c → test c.role ≡ true
  kept-role test c among = let k : Kept (rephased (phases_in net orders)) test net.channels c = kept-from (rephased (phases_in net orders)) test net.channels c among in
      ap (λ (x : Channel). test x.role) k.is ∙ k.role

  pub order-role : (c : Channel) → Among (order_channels orders) c → (x : ℕ) × (y : ℕ) × (c.role ≡ Order x y)
  order-role c among =
      let o : OrderIn orders c = orders-from orders c among in
      let s = starts-at (slice_index_or orders o.order []) c o.among in
      (slice_index (slice_index_or orders o.order []) s.0, s.2, s.3)

  pub roles-apart : Apart (ordered net orders).channels
  roles-apart = apart-append tokens (owns ++ (spaces ++ steps)) (kept-apart (phases_in net orders) is_token_role net.channels laws.roles_differ)
      (apart-append owns (spaces ++ steps) (owns-apart 0 (length net.times))
      (apart-append spaces steps (kept-apart (phases_in net orders) is_space_role net.channels laws.roles_differ) (orders-apart orders are.apart) space-order)
      (distinct-append owns spaces steps own-space own-order))
      (distinct-append tokens owns (spaces ++ steps) token-own (distinct-append tokens spaces steps token-space token-order))
    where
      tokens : List Channel
      tokens = map (rephased (phases_in net orders)) (with_role is_token_role net.channels)

      owns : List Channel
      owns = owns_from net orders 0 (length net.times)

      spaces : List Channel
      spaces = map (rephased (phases_in net orders)) (with_role is_space_role net.channels)

      steps : List Channel
      steps = order_channels orders

      token-own : Distinct tokens owns
      token-own c d a b same = let o = new-role 0 (length net.times) d b in let no : true ≡ false = sym (kept-role is_token_role c a) ∙ ap is_token_role (same ∙ o.2) in cc

      token-space : Distinct tokens spaces
      token-space c d a b same = clash c.role (kept-role is_token_role c a) (ap is_space_role same ∙ kept-role is_space_role d b)
        where
          clash : (r : Role) → is_token_role r ≡ true → is_space_role r ≡ true → ⊥
          clash (Token x) one two = cc
          clash (Own x) one two = cc
          clash (Space x) one two = cc
          clash (Order x y) one two = cc

      token-order : Distinct tokens steps
      token-order c d a b same = let o = order-role d b in let no : true ≡ false = sym (kept-role is_token_role c a) ∙ ap is_token_role (same ∙ o.2) in cc

      own-space : Distinct owns spaces
      own-space c d a b same = let o = new-role 0 (length net.times) c a in let no : true ≡ false = sym (kept-role is_space_role d b) ∙ ap is_space_role (sym same ∙ o.2) in cc

      own-order : Distinct owns steps
      own-order c d a b same = let o = new-role 0 (length net.times) c a in let p = order-role d b in differs o.0 p.0 p.1 (sym o.2 ∙ (same ∙ p.2))
        where
          differs : (a x y : ℕ) → Own a ≡ Order x y → ⊥
          differs a x y e = cc

      space-order : Distinct spaces steps
      space-order c d a b same = let o = order-role d b in let no : true ≡ false = sym (kept-role is_space_role c a) ∙ ap is_space_role (same ∙ o.2) in cc
