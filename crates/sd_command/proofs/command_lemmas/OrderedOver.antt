-- The ordered net of a graph stands over the graph, can be ordered, and has room.
use Rattle.std.proofs.Common.{◌≡◌, ℕ, zero, suc, ◌+◌, ◌-◌, ◌%◌, ◌≤◌, ◌<◌, Bool, true, false, List, [], ◌∷◌, ◌++◌, length, Option, None, Some, ⊎_elim, subst, sym, refl, ap, ◌∙◌, arith, eq-eqb}
use Rattle.std.proofs.Math.Nat.{mod-lt}
use Rattle.std.specs.Prelude.{slice_index_or, if◌then◌else◌}
use Rattle.std.proofs.lemmas.Bool.{cases_lt}
use Rattle.std.proofs.lemmas.List.{length-append, get_or_append_left, get_or-append_right, length-map}
use Rattle.sd_base.specs.declared.limits.TheConstants.{NET_CHANNELS, ORDER_PAIRS}
use Rattle.sd_base.specs.declared.role.Role.{Role}
use Rattle.sd_base.specs.declared.role.Role.TheVariants.{Own}
use Rattle.sd_base.specs.declared.tables.GraphFile.{GraphFile}
use Rattle.sd_base.specs.declared.tables.ActorRow.{ActorRow}
use Rattle.sd_base.specs.declared.tables.ChannelRow.{ChannelRow}
use Rattle.sd_base.specs.Tables.{KeepsRules}
use Rattle.sd_base.specs.Net.{Channel, Net, channel_at, nowhere, file_channels, file_channels_from}
use Rattle.sd_base.specs.FileNet.{net_of, own_channels_from, own_channel, gets_own}
use Rattle.sd_base.specs.Lawful.{Lawful, is_order_role, is_own, is_space_role, is_token_role}
use Rattle.sd_base.proofs.FileNets.{file-length}
use Rattle.sd_base.proofs.ElementsKeepPlaces.{ones-all}
use Rattle.storage.specs.BoundedNets.{bound, spaces_from}
use Rattle.storage.proofs.NamedCapacities.{spaces-few}
use Rattle.storage.proofs.SpaceChannels.{SpaceAt, bound-front, bound-back}
use Rattle.report.specs.LinkTexts.{IsNamed, IsRoleIn}
use Rattle.ordered.specs.Orders.{AreOrders}
use Rattle.ordered.specs.OrderedNets.{CanBeOrdered, order_channels, ordered, with_role}
use Rattle.ordered.proofs.ChannelsAreKeptOrNew.{at-place, OrderAt, order-from, Origin, kept, new, step, origin}
use Rattle.ordered.proofs.FiringsHaveEntries.{times-many}

-- ---- names

pub ordered-over : (g : GraphFile) (net : Net) (orders : List (List ℕ)) → Lawful net → AreOrders net orders → IsNamed g net → IsNamed g (ordered net orders)
ordered-over g net orders laws are named = record { actors = times-many net laws orders ∙ named.actors; roles = roles }
  where
    role : (c : Channel) → Origin net orders c → IsRoleIn g c.role
    role c (kept d among e) = subst (λ (x : Channel). IsRoleIn g x.role) (sym e) (subst (λ (x : Channel). IsRoleIn g x.role) among.is (named.roles among.place among.below))
    role c (new a below is e) = subst (λ (x : Channel). IsRoleIn g x.role) (sym e) (omega (arith, below, named.actors))
    role c (step o) =
        let p : OrderAt (slice_index_or orders o.order []) 0 (length (slice_index_or orders o.order [])) c = order-from (slice_index_or orders o.order []) 0 (length (slice_index_or orders o.order [])) c o.among in
        let some : p.place < length (slice_index_or orders o.order []) = omega (arith, p.below) in
        let one = are.actors o.order (p.place % length (slice_index_or orders o.order [])) o.listed (mod-lt p.place (omega arith)) in
        let other = are.actors o.order (suc p.place % length (slice_index_or orders o.order [])) o.listed (mod-lt (suc p.place) (omega arith)) in
        subst (λ (x : Channel). IsRoleIn g x.role) (sym p.is) (omega (arith, one, named.actors), omega (arith, other, named.actors))

    roles : (i : ℕ) → i < length (ordered net orders).channels → IsRoleIn g (channel_at (ordered net orders) i).role
    roles i below = role (channel_at (ordered net orders) i) (origin net orders (channel_at (ordered net orders) i) (at-place (ordered net orders).channels i below))

-- ---- a net of a graph file can be ordered

-- a channel that no order needs to change
record Proper (actors : ℕ) (c : Channel) : Type 0 where
  orderless : is_order_role c.role ≡ false
  owns : (a : ℕ) → c.role ≡ Own a → (a < actors) × (is_own a c ≡ true)

abbrev AllProper : ℕ → List Channel → Type 0
AllProper actors cs = (i : ℕ) → i < length cs → Proper actors (slice_index_or cs i nowhere)

own-proper : (actors a n : ℕ) → a < actors → Proper actors (own_channel a n)
own-proper actors a n below = record { orderless = refl; owns = λ b is. let e : a ≡ b = cc in (subst (λ (x : ℕ). x < actors) e below, subst (λ (x : ℕ). is_own x (own_channel a n) ≡ true) e (rw (eq-eqb a a refl, ones-all n) refl)) }

files-proper : (actors n : ℕ) (rows : List ChannelRow) → AllProper actors (file_channels_from n rows)
files-proper actors n [] i below = absurd (omega arith)
files-proper actors n (r ∷ rows) zero below = record { orderless = refl; owns = λ a is. absurd (cc) }
files-proper actors n (r ∷ rows) (suc i) below = files-proper actors (n + 1) rows i (omega arith)

owns-proper : (actors : ℕ) (apart : Bool) (channels : List ChannelRow) (a : ℕ) (rows : List ActorRow) → a + length rows ≤ actors → AllProper actors (own_channels_from apart channels a rows)
owns-proper actors apart channels a [] fits i below = absurd (omega arith)
owns-proper actors apart channels a (r ∷ rows) fits i below = at (gets_own apart channels a r.phases) i below (owns-proper actors apart channels (suc a) rows (omega arith))
  where
    at : (b : Bool) (i : ℕ) → i < length (if b then own_channel a r.phases ∷ own_channels_from apart channels (suc a) rows else own_channels_from apart channels (suc a) rows) → AllProper actors (own_channels_from apart channels (suc a) rows)
        → Proper actors (slice_index_or (if b then own_channel a r.phases ∷ own_channels_from apart channels (suc a) rows else own_channels_from apart channels (suc a) rows) i nowhere)
    at true zero below rest = own-proper actors a r.phases (omega arith)
    at true (suc i) below rest = rest i (omega arith)
    at false i below rest = rest i below

net-proper : (g : GraphFile) (gamma : List ℕ) (apart : Bool) → AllProper (length g.actors) (net_of g gamma apart).channels
net-proper g gamma apart i below = ⊎_elim
    (λ (here : i < length (file_channels g)). subst (Proper (length g.actors)) (sym (get_or_append_left (file_channels g) (own_channels_from apart g.channels 0 g.actors) nowhere i here)) (files-proper (length g.actors) 0 g.channels i here))
    (λ (later : length (file_channels g) ≤ i). subst (Proper (length g.actors)) (sym (get_or-append_right (file_channels g) (own_channels_from apart g.channels 0 g.actors) (length (file_channels g)) i nowhere refl later))
    (owns-proper (length g.actors) apart g.channels 0 g.actors (omega arith) (i - length (file_channels g)) (omega (arith, length-append (file_channels g) (own_channels_from apart g.channels 0 g.actors)))))
    (cases_lt i (length (file_channels g)))

pub bound-can : (g : GraphFile) (gamma : List ℕ) (apart : Bool) (ds : List (Option ℕ)) → CanBeOrdered (bound (net_of g gamma apart) ds)
bound-can g gamma apart ds = record { orderless = λ i below. (proper i below).orderless; owns = λ i a below is. let p = (proper i below).owns a is in (omega (arith, p.0, length-map g.actors (λ (r : ActorRow). r.times)), p.1) }
  where
    proper : (i : ℕ) → i < length (bound (net_of g gamma apart) ds).channels → Proper (length g.actors) (channel_at (bound (net_of g gamma apart) ds) i)
    proper i below = ⊎_elim
        (λ (here : i < length (net_of g gamma apart).channels). subst (Proper (length g.actors)) (sym (bound-front (net_of g gamma apart) ds i here)) (net-proper g gamma apart i here))
        (λ (later : length (net_of g gamma apart).channels ≤ i).
        let at : SpaceAt 0 (net_of g gamma apart).channels ds (channel_at (bound (net_of g gamma apart) ds) i) = bound-back (net_of g gamma apart) ds i later below in
        subst (Proper (length g.actors)) (sym at.is) (record { orderless = refl; owns = λ a is. absurd (cc) }))
        (cases_lt i (length (net_of g gamma apart).channels))

-- ---- room

with-append : (test : Role → Bool) (xs ys : List Channel) → length (with_role test (xs ++ ys)) ≡ length (with_role test xs) + length (with_role test ys)
with-append test [] ys = omega arith
with-append test (x ∷ xs) ys = at (test x.role) (with-append test xs ys)
  where
    at : (b : Bool) → length (with_role test (xs ++ ys)) ≡ length (with_role test xs) + length (with_role test ys)
        → length (if b then x ∷ with_role test (xs ++ ys) else with_role test (xs ++ ys)) ≡ length (if b then x ∷ with_role test xs else with_role test xs) + length (with_role test ys)
    at true e = omega arith
    at false e = e

with-few : (test : Role → Bool) (cs : List Channel) → length (with_role test cs) ≤ length cs
with-few test [] = omega arith
with-few test (c ∷ cs) = at (test c.role) (with-few test cs)
  where
    at : (b : Bool) → length (with_role test cs) ≤ length cs → length (if b then c ∷ with_role test cs else with_role test cs) ≤ suc (length cs)
    at true le = omega arith
    at false le = omega arith

files-spaceless : (n : ℕ) (rows : List ChannelRow) → length (with_role is_space_role (file_channels_from n rows)) ≡ 0
files-spaceless n [] = refl
files-spaceless n (r ∷ rows) = files-spaceless (n + 1) rows

owns-plain : (test : Role → Bool) → ((a : ℕ) → test (Own a) ≡ false) → (apart : Bool) (channels : List ChannelRow) (a : ℕ) (rows : List ActorRow) → length (with_role test (own_channels_from apart channels a rows)) ≡ 0
owns-plain test other apart channels a [] = refl
owns-plain test other apart channels a (r ∷ rows) = at (gets_own apart channels a r.phases) (owns-plain test other apart channels (suc a) rows)
  where
    at : (b : Bool) → length (with_role test (own_channels_from apart channels (suc a) rows)) ≡ 0 → length (with_role test (if b then own_channel a r.phases ∷ own_channels_from apart channels (suc a) rows else own_channels_from apart channels (suc a) rows)) ≡ 0
    at true none = ap (λ (c : Bool). length (if c then own_channel a r.phases ∷ with_role test (own_channels_from apart channels (suc a) rows) else with_role test (own_channels_from apart channels (suc a) rows))) (other a) ∙ none
    at false none = none

spaces-tokenless : (n : ℕ) (cs : List Channel) (ds : List (Option ℕ)) → length (with_role is_token_role (spaces_from n cs ds)) ≡ 0
spaces-tokenless n [] ds = refl
spaces-tokenless n (c ∷ cs) [] = refl
spaces-tokenless n (c ∷ cs) (None ∷ ds) = spaces-tokenless (suc n) cs ds
spaces-tokenless n (c ∷ cs) (Some k ∷ ds) = spaces-tokenless (suc n) cs ds

-- the ordered net has no more channels than a net may have, where it gets no more than an own channel an actor, and those of the orders
pub ordered-room : (g : GraphFile) (gamma : List ℕ) (apart : Bool) (ds : List (Option ℕ)) (orders : List (List ℕ)) → KeepsRules g → length ds ≤ length g.channels → length (order_channels orders) ≤ ORDER_PAIRS
    → (let net : Net = bound (net_of g gamma apart) ds in
    length (ordered net orders).channels ≤ length (with_role is_token_role net.channels) + (length net.times + (length (with_role is_space_role net.channels) + length (order_channels orders))))
    → length (ordered (bound (net_of g gamma apart) ds) orders).channels ≤ NET_CHANNELS
ordered-room g gamma apart ds orders rules over pairs few =
    omega (
      arith,
      few,
      pairs,
      over,
      rules.few_channels,
      rules.few_actors,
      length-map g.actors (λ (r : ActorRow). r.times),
      file-length 0 g.channels,
      with-append is_token_role (file_channels g ++ own_channels_from apart g.channels 0 g.actors) (spaces_from 0 (net_of g gamma apart).channels ds),
      with-append is_token_role (file_channels g) (own_channels_from apart g.channels 0 g.actors),
      with-few is_token_role (file_channels g),
      owns-plain is_token_role (λ a. refl) apart g.channels 0 g.actors,
      spaces-tokenless 0 (net_of g gamma apart).channels ds,
      with-append is_space_role (file_channels g ++ own_channels_from apart g.channels 0 g.actors) (spaces_from 0 (net_of g gamma apart).channels ds),
      with-append is_space_role (file_channels g) (own_channels_from apart g.channels 0 g.actors),
      files-spaceless 0 g.channels,
      owns-plain is_space_role (λ a. refl) apart g.channels 0 g.actors,
      with-few is_space_role (spaces_from 0 (net_of g gamma apart).channels ds),
      spaces-few 0 (net_of g gamma apart).channels ds,
    )
