-- The open nodes, and more put among them: none is lost, and what holds of all of them holds of all that are then open.
use Rattle.std.proofs.Common.{◌≡◌, ℕ, ◌≤◌, ◌⊎◌, List, [], ◌∷◌, ◌++◌, inl, inr, ⊎_elim, refl, sym, ap, ◌∙◌, subst}
use Rattle.std.specs.Prelude.{All, Contains, slice_index, slice_index_or}
use Rattle.std.proofs.lemmas.Cmp.{ranked}
use Rattle.std.proofs.lemmas.List.Elements.{All-contains, Contains-get_or}
use Rattle.std.specs.declared.cmp.Ordering.{Ordering}
use Rattle.std.specs.declared.cmp.Ordering.TheVariants.{Less, Equal, Greater}
use Rattle.std.specs.Ordering.{match_ordering, nat_cmp, ordering_then}
use Rattle.std.specs.Cmp.Lexicographic.{slice_cmp}
use Rattle.std.specs.BTreeSet.{insert_key}
use Rattle.sd_base.proofs.ContainedHavePlaces.{contains-cases, contains-here, contains-later, contains-none}
use Rattle.covers.specs.declared.node.Node.{Node}
use Rattle.covers.specs.Nodes.{StandsFor}
use Rattle.covers.specs.inside.NodeOrder.{node_cmp, vectors_cmp}
use Rattle.covers.specs.inside.Keeping.{put_all}

same-lists : (xs ys : List ℕ) → slice_cmp nat_cmp xs ys ≡ Equal → xs ≡ ys
same-lists [] [] is = refl
same-lists [] (y ∷ ys) is = cc
same-lists (x ∷ xs) [] is = cc
same-lists (x ∷ xs) (y ∷ ys) is = at (nat_cmp x y) refl is (same-lists xs ys)
  where
    at : (o : Ordering) → o ≡ nat_cmp x y → ordering_then o (slice_cmp nat_cmp xs ys) ≡ Equal → (slice_cmp nat_cmp xs ys ≡ Equal → xs ≡ ys) → x ∷ xs ≡ y ∷ ys
    at Less same is rest = cc
    at Equal same is rest = let level : x ≡ y = ranked x y Equal same in ap (λ (z : ℕ). z ∷ xs) level ∙ ap (λ (zs : List ℕ). y ∷ zs) (rest is)
    at Greater same is rest = cc

-- the nodes have the same vectors and least
pub record IsAlike (n m : Node) : Type 0 where
  pub lo : m.lo.items ≡ n.lo.items
  pub hi : m.hi.items ≡ n.hi.items
  pub least : m.least ≡ n.least

alike-vectors : (n m : Node) → m.least ≡ n.least → vectors_cmp n m ≡ Equal → IsAlike n m
alike-vectors n m least is = at (slice_cmp nat_cmp n.lo.items m.lo.items) refl is
  where
    at : (o : Ordering) → o ≡ slice_cmp nat_cmp n.lo.items m.lo.items → ordering_then o (slice_cmp nat_cmp n.hi.items m.hi.items) ≡ Equal → IsAlike n m
    at Less same is = cc
    at Equal same is = record { lo = sym (same-lists n.lo.items m.lo.items (sym same)); hi = sym (same-lists n.hi.items m.hi.items is); least = least }
    at Greater same is = cc

alike : (n m : Node) → node_cmp n m ≡ Equal → IsAlike n m
alike n m is = at (nat_cmp n.least m.least) refl is
  where
    at : (o : Ordering) → o ≡ nat_cmp n.least m.least → ordering_then o (vectors_cmp n m) ≡ Equal → IsAlike n m
    at Less same is = cc
    at Equal same is = alike-vectors n m (sym (ranked n.least m.least Equal same)) is
    at Greater same is = cc

pub insert-old : (ns : List Node) (k n : Node) → Contains ns n → Contains (insert_key node_cmp ns k) n
insert-old [] k n is = absurd (contains-none n is)
insert-old (x ∷ ns) k n is = at (node_cmp k x) (insert-old ns k n) is
  where
    at : (o : Ordering) → (Contains ns n → Contains (insert_key node_cmp ns k) n) → Contains (x ∷ ns) n → Contains (match_ordering o (k ∷ x ∷ ns) (x ∷ ns) (x ∷ insert_key node_cmp ns k)) n
    at Less rest is = contains-later k (x ∷ ns) n is
    at Equal rest is = is
    at Greater rest is =
        ⊎_elim
        (λ (same : x ≡ n). subst (λ (y : Node). Contains (x ∷ insert_key node_cmp ns k) y) same (contains-here x (insert_key node_cmp ns k)))
        (λ (later : Contains ns n). contains-later x (insert_key node_cmp ns k) n (rest later))
        (contains-cases x ns n is)

pub insert-new : (ns : List Node) (k : Node) → (m : Node) × Contains (insert_key node_cmp ns k) m × IsAlike k m
insert-new [] k = (k, contains-here k [], record { lo = refl; hi = refl; least = refl })
insert-new (x ∷ ns) k = at (node_cmp k x) refl (insert-new ns k)
  where
    at : (o : Ordering) → node_cmp k x ≡ o → ((m : Node) × Contains (insert_key node_cmp ns k) m × IsAlike k m) → (m : Node) × Contains (match_ordering o (k ∷ x ∷ ns) (x ∷ ns) (x ∷ insert_key node_cmp ns k)) m × IsAlike k m
    at Less is rest = (k, contains-here k (x ∷ ns), record { lo = refl; hi = refl; least = refl })
    at Equal is rest = (x, contains-here x ns, alike k x is)
    at Greater is rest = (rest.0, contains-later x (insert_key node_cmp ns k) rest.0 rest.1, rest.2)

pub insert-from : (ns : List Node) (k n : Node) → Contains (insert_key node_cmp ns k) n → (k ≡ n) ⊎ Contains ns n
insert-from [] k n is = contains-cases k [] n is
insert-from (x ∷ ns) k n is = at (node_cmp k x) (insert-from ns k n) is
  where
    at : (o : Ordering) → (Contains (insert_key node_cmp ns k) n → (k ≡ n) ⊎ Contains ns n) → Contains (match_ordering o (k ∷ x ∷ ns) (x ∷ ns) (x ∷ insert_key node_cmp ns k)) n → (k ≡ n) ⊎ Contains (x ∷ ns) n
    at Less rest is = contains-cases k (x ∷ ns) n is
    at Equal rest is = inr is
    at Greater rest is =
        ⊎_elim
        (λ (same : x ≡ n). inr (subst (λ (y : Node). Contains (x ∷ ns) y) same (contains-here x ns)))
        (λ (later : Contains (insert_key node_cmp ns k) n). ⊎_elim (λ (new : k ≡ n). inl new) (λ (old : Contains ns n). inr (contains-later x ns n old)) (rest later))
        (contains-cases x (insert_key node_cmp ns k) n is)

pub stands-alike : (n m : Node) → IsAlike n m → (ks : List ℕ) → StandsFor n ks → StandsFor m ks
stands-alike n m like ks s = record {
  above = subst (λ (xs : List ℕ). (i : ℕ) → slice_index xs i ≤ slice_index ks i) (sym like.lo) s.above;
  below = subst (λ (xs : List ℕ). (i : ℕ) → slice_index ks i ≤ slice_index xs i) (sym like.hi) s.below;
}

-- many of them

pub put-old : (nodes ns : List Node) (n : Node) → Contains ns n → Contains (put_all nodes ns) n
put-old [] ns n is = is
put-old (k ∷ nodes) ns n is = put-old nodes (insert_key node_cmp ns k) n (insert-old ns k n is)

pub put-new : (nodes ns : List Node) (n : Node) → Contains nodes n → (m : Node) × Contains (put_all nodes ns) m × IsAlike n m
put-new [] ns n is = absurd (contains-none n is)
put-new (k ∷ nodes) ns n is =
    ⊎_elim
    (λ (same : k ≡ n).
    let m = insert-new ns k in
    (m.0, put-old nodes (insert_key node_cmp ns k) m.0 m.1, subst (λ (x : Node). IsAlike x m.0) same m.2))
    (λ (later : Contains nodes n). put-new nodes (insert_key node_cmp ns k) n later)
    (contains-cases k nodes n is)

pub put-from : (nodes ns : List Node) (n : Node) → Contains (put_all nodes ns) n → Contains nodes n ⊎ Contains ns n
put-from [] ns n is = inr is
put-from (k ∷ nodes) ns n is =
    ⊎_elim
    (λ (new : Contains nodes n). inl (contains-later k nodes n new))
    (λ (old : Contains (insert_key node_cmp ns k) n).
    ⊎_elim (λ (same : k ≡ n). inl (subst (λ (y : Node). Contains (k ∷ nodes) y) same (contains-here k nodes))) (λ (h : Contains ns n). inr h) (insert-from ns k n old))
    (put-from nodes (insert_key node_cmp ns k) n is)

pub put-push : (nodes ns : List Node) (n : Node) → put_all (nodes ++ n ∷ []) ns ≡ insert_key node_cmp (put_all nodes ns) n
put-push [] ns n = refl
put-push (k ∷ nodes) ns n = put-push nodes (insert_key node_cmp ns k) n

-- what holds of the nodes that are put in and of the old ones holds of all
pub put-all-hold : (P : Node → Type 0) (nodes ns : List Node) → All P nodes → All P ns → All P (put_all nodes ns)
put-all-hold P nodes ns new old = λ i d below.
    ⊎_elim
    (λ (h : Contains nodes (slice_index_or (put_all nodes ns) i d)). All-contains P nodes (slice_index_or (put_all nodes ns) i d) new h)
    (λ (h : Contains ns (slice_index_or (put_all nodes ns) i d)). All-contains P ns (slice_index_or (put_all nodes ns) i d) old h)
    (put-from nodes ns (slice_index_or (put_all nodes ns) i d) (Contains-get_or (put_all nodes ns) i d below))
