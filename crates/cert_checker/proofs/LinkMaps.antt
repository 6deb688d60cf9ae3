-- The channels of a net by what they stand for.
use Rattle.std.proofs.Common.{◌≡◌, ◌≢◌, ℕ, ◌+◌, ◌≤◌, ◌<◌, Bool, true, false, Option, None, Some, [], length, Ordering, ⊎_elim, sym, refl, subst, ap, ◌∙◌, true≢false, arith}
use Rattle.std.specs.Prelude.{cond}
use Rattle.std.specs.BTreeMap.{BTreeMap, get, is_at}
use Rattle.std.specs.declared.cmp.Ordering.TheVariants.{Less, Equal, Greater}
use Rattle.std.specs.Ordering.{nat_cmp, is_eq, ordering_then}
use Rattle.std.proofs.lemmas.Bool.{cases_lt}
use Rattle.std.proofs.lemmas.Cmp.{nat_cmp_total, tied_itself}
use Rattle.std.proofs.lemmas.Map.Lookups.{exact_unsigned}
use Rattle.sd_base.specs.declared.role.Role.{Role}
use Rattle.sd_base.specs.declared.role.Role.TheVariants.{Token, Own, Space, Order}
use Rattle.sd_base.specs.Net.{Net, channel_at}
use Rattle.cert_checker.specs.declared.links.Links.{Links}
use Rattle.cert_checker.specs.inside.Links.{AreLinks, IsLink, channel_in, key_cmp, key_of}
use Rattle.cert_checker.proofs.KnownLists.{is-equal}

-- ---- keys

both-equal : (o p : Ordering) → ordering_then o p ≡ Equal → (o ≡ Equal) × (p ≡ Equal)
both-equal Less p h = absurd (cc)
both-equal Equal p h = (refl, h)
both-equal Greater p h = absurd (cc)

key-equal : (x y : ℕ × ℕ × ℕ) → key_cmp x y ≡ Equal → (x.0 ≡ y.0) × (x.1 ≡ y.1) × (x.2 ≡ y.2)
key-equal x y h =
    let outer = both-equal (ordering_then (nat_cmp x.0 y.0) (nat_cmp x.1 y.1)) (nat_cmp x.2 y.2) h in
    let inner = both-equal (nat_cmp x.0 y.0) (nat_cmp x.1 y.1) outer.0 in
    (exact_unsigned x.0 y.0 inner.0, exact_unsigned x.1 y.1 inner.1, exact_unsigned x.2 y.2 outer.1)

key-same : (x : ℕ × ℕ × ℕ) → key_cmp x x ≡ Equal
key-same x = rw (tied_itself nat_cmp_total x.0, tied_itself nat_cmp_total x.1, tied_itself nat_cmp_total x.2) refl

-- a key tells its role
key-role : (r s : Role) → ((key_of r).0 ≡ (key_of s).0) × ((key_of r).1 ≡ (key_of s).1) × ((key_of r).2 ≡ (key_of s).2) → r ≡ s
key-role (Token c) (Token d) same = ap Token same.1
key-role (Token c) (Own d) same = absurd (omega (arith, same.0))
key-role (Token c) (Space d) same = absurd (omega (arith, same.0))
key-role (Token c) (Order d e) same = absurd (omega (arith, same.0))
key-role (Own c) (Token d) same = absurd (omega (arith, same.0))
key-role (Own c) (Own d) same = ap Own same.1
key-role (Own c) (Space d) same = absurd (omega (arith, same.0))
key-role (Own c) (Order d e) same = absurd (omega (arith, same.0))
key-role (Space c) (Token d) same = absurd (omega (arith, same.0))
key-role (Space c) (Own d) same = absurd (omega (arith, same.0))
key-role (Space c) (Space d) same = ap Space same.1
key-role (Space c) (Order d e) same = absurd (omega (arith, same.0))
key-role (Order a b) (Token d) same = absurd (omega (arith, same.0))
key-role (Order a b) (Own d) same = absurd (omega (arith, same.0))
key-role (Order a b) (Space d) same = absurd (omega (arith, same.0))
key-role (Order a b) (Order c d) same = ap (λ (x : ℕ). Order x b) same.1 ∙ ap (λ (x : ℕ). Order c x) same.2

-- ---- the map

pub links-none : (net : Net) (channels : BTreeMap (ℕ × ℕ × ℕ) ℕ) → channels.entries ≡ [] → (role : Role) → IsLink net 0 role (get key_cmp channels (key_of role))
links-none net channels empty role = rw empty (λ i below. absurd (omega (arith, below)))

-- one more channel
pub links-more : (net : Net) (n : ℕ) (old new : BTreeMap (ℕ × ℕ × ℕ) ℕ) (key : ℕ × ℕ × ℕ) → key ≡ key_of (channel_at net n).role
    → ((q : ℕ × ℕ × ℕ) → get key_cmp new q ≡ cond (is_at (key_cmp key) q) (Some n) (get key_cmp old q))
    → ((role : Role) → IsLink net n role (get key_cmp old (key_of role))) → (role : Role) → IsLink net (n + 1) role (get key_cmp new (key_of role))
links-more net n old new key here updates before role = split (is_at (key_cmp key) (key_of role)) refl
  where
    later : is_at (key_cmp key) (key_of role) ≡ false → (o : Option ℕ) → IsLink net n role o → IsLink net (n + 1) role o
    later apart None none = λ i below is. ⊎_elim
        (λ (less : i < n). none i less is)
        (λ (past : n ≤ i).
        let same : i ≡ n = omega (arith, below, past) in
        let found : key ≡ key_of role = here ∙ (ap (λ (k : ℕ). key_of (channel_at net k).role) (sym same) ∙ ap key_of is) in
        let tied : key_cmp key (key_of role) ≡ Equal = subst (λ (k : ℕ × ℕ × ℕ). key_cmp key k ≡ Equal) found (key-same key) in
        true≢false (sym (ap is_eq tied) ∙ apart))
        (cases_lt i n)
    later apart (Some i) (below, is) = (omega (arith, below), is)

    split : (b : Bool) → is_at (key_cmp key) (key_of role) ≡ b → IsLink net (n + 1) role (get key_cmp new (key_of role))
    split true e =
        let found : get key_cmp new (key_of role) ≡ Some n = updates (key_of role) ∙ ap (λ (b : Bool). cond b (Some n) (get key_cmp old (key_of role))) e in
        let same = key-equal key (key_of role) (is-equal (key_cmp key (key_of role)) e) in
        let is : (channel_at net n).role ≡ role = key-role (channel_at net n).role role (subst (λ (k : ℕ × ℕ × ℕ). (k.0 ≡ (key_of role).0) × (k.1 ≡ (key_of role).1) × (k.2 ≡ (key_of role).2)) here same) in
        subst (IsLink net (n + 1) role) (sym found) (omega arith, is)
    split false e =
        let found : get key_cmp new (key_of role) ≡ get key_cmp old (key_of role) = updates (key_of role) ∙ ap (λ (b : Bool). cond b (Some n) (get key_cmp old (key_of role))) e in
        subst (IsLink net (n + 1) role) (sym found) (later e (get key_cmp old (key_of role)) (before role))

-- ---- look-ups

pub link-none : (net : Net) (links : Links) (role : Role) → AreLinks net links → None ≡ channel_in links role → (i : ℕ) → i < length net.channels → (channel_at net i).role ≢ role
link-none net links role are none = subst (IsLink net (length net.channels) role) (sym none) (are role)

pub link-some : (net : Net) (links : Links) (role : Role) (channel : ℕ) → AreLinks net links → Some channel ≡ channel_in links role → (channel < length net.channels) × ((channel_at net channel).role ≡ role)
link-some net links role channel are some = subst (IsLink net (length net.channels) role) (sym some) (are role)
