-- What the nodes that are found say of all of the lattice.
use Rattle.std.proofs.Common.{◌≡◌, ◌≢◌, ℕ, suc, ◌+◌, ◌*◌, ◌≤◌, ◌<◌, ◌⊎◌, inl, inr, ⊎_elim, List, [], ◌∷◌, ◌++◌, length, map, refl, sym, ap, ◌∙◌, subst, arith, Some}
use Rattle.std.specs.Prelude.{All, Contains, slice_index, slice_index_or}
use Rattle.std.specs.declared.cmp.Ordering.{Ordering}
use Rattle.std.specs.declared.cmp.Ordering.TheVariants.{Less, Equal, Greater}
use Rattle.std.specs.Ordering.{nat_cmp, ordering_then}
use Rattle.std.specs.Cmp.Lexicographic.{slice_cmp}
use Rattle.std.proofs.lemmas.Bool.{cases_lt}
use Rattle.std.proofs.lemmas.Cmp.{ranked}
use Rattle.std.proofs.lemmas.List.{length-map}
use Rattle.std.proofs.lemmas.List.Elements.{All-cons, All-contains, All-map, All-nil, All-weaker, Contains-append_cases}
use Rattle.std.proofs.Math.Nat.{mul-le-mul_right}
use Rattle.sd_base.proofs.ContainedHavePlaces.{contains-cases, contains-here, contains-map}
use Rattle.covers.specs.declared.bound.Bound.{Bound}
use Rattle.covers.specs.declared.lattice.Axis.{Axis}
use Rattle.covers.specs.declared.lattice.Lattice.{Lattice}
use Rattle.covers.specs.declared.node.Node.{Node}
use Rattle.covers.specs.declared.search.Level.{Level}
use Rattle.covers.specs.declared.search.Order.TheVariants.{Storage, Lexicographic}
use Rattle.covers.specs.declared.search.Search.{Search}
use Rattle.covers.specs.Lattices.{IsAmong, storage_of}
use Rattle.covers.specs.Bounds.{AreEnough, IsCovered}
use Rattle.covers.specs.Nodes.{IsProper, LiesIn}
use Rattle.covers.specs.Searches.{IsFirst, IsLevel, IsNotAfter, IsSame, IsSearched, IsSettled, IsUncovered}
use Rattle.covers.specs.inside.NodeOrder.{IsBefore, vectors_cmp}
use Rattle.covers.specs.inside.Keeping.{IsFound, IsGathered, IsKept, IsNextAt, IsRoot, Known, known, put_all}
use Rattle.covers.proofs.FewBoundsSuffice.{enough-none}
use Rattle.covers.proofs.NoVectorIsLost.{enough-same, kept-beside, kept-known, kept-put, kept-trans, proper-same, same-known}
use Rattle.covers.proofs.StorageRises.{storage-le}

same-back : (s t : Search) → IsSame s t → IsSame t s
same-back s t same = record { lattice = sym same.lattice; order = sym same.order; bounds = sym same.bounds; acting = sym same.acting; best = sym same.best }

-- each vector is covered or lies in the nodes
abbrev pub IsIn : Known → List Node → Type 0
IsIn k ns = (ks : List ℕ) → IsAmong k.lattice ks → IsCovered k.bounds k.best ks ⊎ LiesIn k.lattice ns ks

in-kept : (k : Known) (a b : List Node) → IsKept k a b → IsIn k a → IsIn k b
in-kept k a b kept all = λ ks i. ⊎_elim (λ (c : IsCovered k.bounds k.best ks). inl c) (λ (l : LiesIn k.lattice a ks). kept.left ks i l) (all ks i)

-- a search whose open nodes were looked at
pub searched-kept : (s t : Search) → IsSame s t → IsKept (known s) s.open.keys t.open.keys → IsSearched s → IsSearched t
searched-kept s t same kept old = record {
  all = subst (λ (k : Known). IsIn k t.open.keys) (sym (same-known s t same)) (in-kept (known s) s.open.keys t.open.keys kept old.all);
  proper = proper-same s t t.open.keys same (kept.proper old.proper);
  acting = enough-same s t same old.acting;
}

over : (a b c : ℕ) → a < b → b ≤ c → c ≤ a → ⊥
over a b c x y z = omega arith

-- no node is left within the limit
pub settled-past : (s t : Search) → IsSame s t → IsKept (known s) s.open.keys t.open.keys → All (λ (n : Node). s.lattice.limit < n.least) t.open.keys → IsSearched s → IsSettled t
settled-past s t same kept past old = λ ks i.
    let new = searched-kept s t same kept old in
    let far : All (λ (n : Node). t.lattice.limit < n.least) t.open.keys = subst (λ (l : Lattice). All (λ (n : Node). l.limit < n.least) t.open.keys) (sym same.lattice) past in
    ⊎_elim
    (λ (c : IsCovered t.bounds.items t.best ks). c)
    (λ (l : LiesIn t.lattice t.open.keys ks). absurd (over _ _ _ (All-contains (λ (n : Node). t.lattice.limit < n.least) t.open.keys l.0 far l.1) l.3 i.within))
    (new.all ks i)

-- a node that is before another has no greater least
pub before-least : (n m : Node) → IsBefore n m → n.least ≤ m.least
before-least n m is = at (nat_cmp n.least m.least) refl is
  where
    at : (o : Ordering) → o ≡ nat_cmp n.least m.least → ordering_then o (vectors_cmp n m) ≡ Less → n.least ≤ m.least
    at Less same is = let less : n.least < m.least = ranked n.least m.least Less same in omega arith
    at Equal same is = let level : n.least ≡ m.least = ranked n.least m.least Equal same in omega arith
    at Greater same is = cc

-- a vector of the same storage that is nowhere greater is the same
pub same-vector : (axes : List Axis) (lo ks : List ℕ) → length lo ≡ length axes → length ks ≡ length axes → ((i : ℕ) → slice_index lo i ≤ slice_index ks i) → storage_of axes lo ≡ storage_of axes ks → lo ≡ ks
same-vector [] [] [] a b le same = refl
same-vector [] [] (k ∷ ks) a b le same = absurd (omega arith)
same-vector [] (x ∷ lo) ks a b le same = absurd (omega arith)
same-vector (d ∷ axes) [] ks a b le same = absurd (omega arith)
same-vector (d ∷ axes) (x ∷ lo) [] a b le same = absurd (omega arith)
same-vector (d ∷ axes) (x ∷ lo) (k ∷ ks) a b le same =
    let first : x ≤ k = le 0 in
    let row : x * d.size ≤ k * d.size = mul-le-mul_right d.size first in
    let rest : storage_of axes lo ≤ storage_of axes ks = storage-le axes lo ks (omega arith) (λ i. le (suc i)) in
    let level : x * d.size ≡ k * d.size = omega arith in
    let head : x ≡ k
    = ⊎_elim
    (λ (more : x < k). absurd (steep x k d.size d.some_size (mul-le-mul_right d.size (above x k more)) level))
    (λ (less : k ≤ x). equal x k first less)
    (cases_lt x k) in
    let tail : lo ≡ ks = same-vector axes lo ks (omega arith) (omega arith) (λ i. le (suc i)) (omega arith) in
    ap (λ (y : ℕ). y ∷ lo) head ∙ ap (λ (ys : List ℕ). k ∷ ys) tail
  where
    above : (x k : ℕ) → x < k → x + 1 ≤ k
    above x k h = omega arith

    steep : (x k s : ℕ) → 1 ≤ s → (x + 1) * s ≤ k * s → x * s ≡ k * s → ⊥
    steep x k s some h level = omega arith

    equal : (x k : ℕ) → x ≤ k → k ≤ x → x ≡ k
    equal x k a b = omega arith

-- the found nodes of one storage are a level

pub record IsRow (t : Search) (most : ℕ) (found open' : List Node) (storage : ℕ) : Type 0 where
  pub all : IsIn (known t) (found ++ open')
  pub each : All (IsFound (known t)) found
  pub within : All (λ (n : Node). n.least ≤ storage) found
  pub from : All (λ (n : Node). storage ≤ n.least) (found ++ open')
  pub whole : length found < most → All (λ (n : Node). storage < n.least) open'

needs : (t : Search) (most : ℕ) (found open' : List Node) (storage : ℕ) → t.order ≡ Storage → IsRow t most found open' storage → (n : Node) → IsFound (known t) n → n.least ≤ storage → storage_of t.lattice.axes n.lo.items ≡ storage
needs t most found open' storage order row n is within =
    ⊎_elim
    (λ (c : IsCovered t.bounds.items t.best n.lo.items). absurd (is.free c))
    (λ (l : LiesIn t.lattice (found ++ open') n.lo.items).
    level _ _ _ _ (is.needs order) within (All-contains (λ (m : Node). storage ≤ m.least) (found ++ open') l.0 row.from l.1) l.3)
    (row.all n.lo.items is.among)
  where
    level : (s least storage other : ℕ) → s ≤ least → least ≤ storage → storage ≤ other → other ≤ s → s ≡ storage
    level s least storage other a b c d = omega arith

needed-all : (t : Search) (most : ℕ) (found open' : List Node) (storage : ℕ) → t.order ≡ Storage → IsRow t most found open' storage → All (λ (n : Node). storage_of t.lattice.axes n.lo.items ≡ storage) found
needed-all t most found open' storage order row = λ i d below. needs t most found open' storage order row (get i d) (row.each i d below) (row.within i d below)
  where
    get : ℕ → Node → Node
    get i d = slice_index_or found i d

pub levelled : (t : Search) (most : ℕ) (found open' : List Node) (l : Level) → t.order ≡ Storage → 0 < length found → IsRow t most found open' l.storage → l.vectors ≡ map (λ (n : Node). n.lo.items) found → IsLevel t most l
levelled t most found open' l order some row is = record {
  below = λ ks i less.
      ⊎_elim
      (λ (c : IsCovered t.bounds.items t.best ks). c)
      (λ (h : LiesIn t.lattice (found ++ open') ks). absurd (over _ _ _ less (All-contains (λ (m : Node). l.storage ≤ m.least) (found ++ open') h.0 row.from h.1) h.3))
      (row.all ks i);
  each = subst (All (IsUncovered t)) (sym is) (All-map (IsUncovered t) (λ (n : Node). n.lo.items) found (λ i d below. record { among = (row.each i d below).among; free = (row.each i d below).free }));
  needed = subst (All (λ (ks : List ℕ). storage_of t.lattice.axes ks ≡ l.storage)) (sym is) (All-map (λ (ks : List ℕ). storage_of t.lattice.axes ks ≡ l.storage) (λ (n : Node). n.lo.items) found (needed-all t most found open' l.storage order row));
  some = omega (arith, ap length is, length-map found (λ (n : Node). n.lo.items), some);
  whole = λ few ks u same.
      ⊎_elim
      (λ (c : IsCovered t.bounds.items t.best ks). absurd (u.free c))
      (λ (h : LiesIn t.lattice (found ++ open') ks).
      ⊎_elim
      (λ (here : Contains found h.0).
      let n : IsFound (known t) h.0 = All-contains (IsFound (known t)) found h.0 row.each here in
      let storage : storage_of t.lattice.axes h.0.lo.items ≡ l.storage = All-contains (λ (m : Node). storage_of t.lattice.axes m.lo.items ≡ l.storage) found h.0 (needed-all t most found open' l.storage order row) here in
      let level : h.0.lo.items ≡ ks = same-vector t.lattice.axes h.0.lo.items ks n.proper.on.long u.among.on.long h.2.above (storage ∙ sym same) in
      subst (λ (vs : List (List ℕ)). Contains vs ks) (sym is) (subst (Contains (map (λ (m : Node). m.lo.items) found)) level (contains-map (λ (m : Node). m.lo.items) found h.0 here)))
      (λ (there : Contains open' h.0).
      let past : All (λ (m : Node). l.storage < m.least) open' = row.whole (omega (arith, few, ap length is, length-map found (λ (n : Node). n.lo.items))) in
      absurd (far _ _ _ (All-contains (λ (m : Node). l.storage < m.least) open' h.0 past there) h.3 same))
      (Contains-append_cases found open' h.0 h.1))
      (row.all ks u.among);
}
  where
    far : (a b c : ℕ) → a < b → b ≤ c → c ≡ a → ⊥
    far a b c x y z = omega arith

-- the first node in the order of vectors begins with the first vector

less-first : (x z : ℕ) (o : Ordering) → x < z → ordering_then (nat_cmp x z) o ≡ Less
less-first x z o less = at (nat_cmp x z) refl
  where
    at : (p : Ordering) → p ≡ nat_cmp x z → ordering_then p o ≡ Less
    at Less same = refl
    at Equal same = let level : x ≡ z = ranked x z Equal same in absurd (omega arith)
    at Greater same = let more : z < x = ranked x z Greater same in absurd (omega arith)

less-not : (o : Ordering) → o ≡ Less → o ≢ Greater
less-not o is more = cc

level-first : (x z : ℕ) (o : Ordering) → x ≡ z → o ≢ Greater → ordering_then (nat_cmp x z) o ≢ Greater
level-first x z o equal rest = at (nat_cmp x z) refl
  where
    at : (p : Ordering) → p ≡ nat_cmp x z → ordering_then p o ≢ Greater
    at Less same = λ h. cc
    at Equal same = rest
    at Greater same = let more : z < x = ranked x z Greater same in absurd (omega arith)

not-after-along : (xs ys zs : List ℕ) → IsNotAfter xs ys → length ys ≡ length zs → ((i : ℕ) → slice_index ys i ≤ slice_index zs i) → IsNotAfter xs zs
not-after-along [] ys [] first long le = λ more. cc
not-after-along [] ys (z ∷ zs) first long le = λ more. cc
not-after-along (x ∷ xs) [] zs first long le = absurd (first refl)
not-after-along (x ∷ xs) (y ∷ ys) [] first long le = absurd (omega arith)
not-after-along (x ∷ xs) (y ∷ ys) (z ∷ zs) first long le = at (nat_cmp x y) refl first (λ h. not-after-along xs ys zs h (omega arith) (λ i. le (suc i)))
  where
    lower : y ≤ z
    lower = le 0

    at : (o : Ordering) → o ≡ nat_cmp x y → ordering_then o (slice_cmp nat_cmp xs ys) ≢ Greater → (IsNotAfter xs ys → IsNotAfter xs zs) → IsNotAfter (x ∷ xs) (z ∷ zs)
    at Less same first rest = let less : x < y = ranked x y Less same in less-not _ (less-first x z (slice_cmp nat_cmp xs zs) (omega (arith, lower)))
    at Greater same first rest = absurd (first refl)
    at Equal same first rest = let level : x ≡ y = ranked x y Equal same in
        ⊎_elim
        (λ (less : x < z). less-not _ (less-first x z (slice_cmp nat_cmp xs zs) less))
        (λ (more : z ≤ x). let equal : x ≡ z = omega (arith, lower) in level-first x z (slice_cmp nat_cmp xs zs) equal (rest first))
        (cases_lt x z)

-- a vector is not after one that is nowhere less
not-after-self : (xs : List ℕ) → IsNotAfter xs xs
not-after-self [] = λ more. cc
not-after-self (x ∷ xs) = level-first x x (slice_cmp nat_cmp xs xs) refl (not-after-self xs)

before-vectors : (n m : Node) → n.least ≡ m.least → IsBefore n m → IsNotAfter n.lo.items m.lo.items
before-vectors n m level is = at (nat_cmp n.least m.least) refl is
  where
    vectors : (o : Ordering) → o ≡ slice_cmp nat_cmp n.lo.items m.lo.items → ordering_then o (slice_cmp nat_cmp n.hi.items m.hi.items) ≡ Less → o ≢ Greater
    vectors Less same is = λ h. cc
    vectors Equal same is = λ h. cc
    vectors Greater same is = λ h. cc

    at : (o : Ordering) → o ≡ nat_cmp n.least m.least → ordering_then o (vectors_cmp n m) ≡ Less → IsNotAfter n.lo.items m.lo.items
    at Less same is = let less : n.least < m.least = ranked n.least m.least Less same in absurd (omega arith)
    at Equal same is = vectors (slice_cmp nat_cmp n.lo.items m.lo.items) refl is
    at Greater same is = cc

pub earliest : (t : Search) (n : Node) (open' : List Node) → t.order ≡ Lexicographic → IsIn (known t) (n ∷ open') → IsFound (known t) n → All (IsBefore n) open' → All (IsProper t.lattice t.order) (n ∷ open') → IsFirst t (Some n.lo.items)
earliest t n open' order all found first proper = (
  record { among = found.among; free = found.free },
  λ js u.
      ⊎_elim
      (λ (c : IsCovered t.bounds.items t.best js). absurd (u.free c))
      (λ (l : LiesIn t.lattice (n ∷ open') js).
      let p : IsProper t.lattice t.order l.0 = All-contains (IsProper t.lattice t.order) (n ∷ open') l.0 proper l.1 in
      let along : IsNotAfter n.lo.items l.0.lo.items → IsNotAfter n.lo.items js = λ h. not-after-along n.lo.items l.0.lo.items js h (p.on.long ∙ sym u.among.on.long) l.2.above in
      ⊎_elim
      (λ (same : n ≡ l.0). along (subst (λ (m : Node). IsNotAfter n.lo.items m.lo.items) same (not-after-self n.lo.items)))
      (λ (later : Contains open' l.0). along (before-vectors n l.0 (found.proper.flat order ∙ sym (p.flat order)) (All-contains (IsBefore n) open' l.0 first later)))
      (contains-cases n open' l.0 l.1))
      (all js u.among),
)

-- all of the lattice in one open node, and no bounds
pub searched-root : (s : Search) (root : Node) → s.open.keys ≡ root ∷ [] → s.bounds.items ≡ [] → s.acting.items ≡ [] → IsRoot s.lattice root → IsSearched s
searched-root s root keys bounds acting is = record {
  all = λ ks i. inr (root, subst (λ (ns : List Node). Contains ns root) (sym keys) (contains-here root []), is.all ks i, none _ _ is.least);
  proper = subst (All (IsProper s.lattice s.order)) (sym keys) (All-cons (IsProper s.lattice s.order) root [] (record { on = is.on; flat = λ _. is.least }) (All-nil (IsProper s.lattice s.order)));
  acting = subst (λ (bs : List Bound). AreEnough bs s.best s.acting.items) (sym bounds) (subst (AreEnough [] s.best) (sym acting) (enough-none s.best));
}
  where
    none : (a b : ℕ) → a ≡ 0 → a ≤ b
    none a b same = omega arith

-- what was found, and what is open beside it

kept-found : (s t u : Search) (total most : ℕ) (first : Node) (found : List Node) → IsGathered t first.least most (first ∷ []) found u → IsKept (known t) (first ∷ t.open.keys) (found ++ u.open.keys)
kept-found s t u total most first found g =
    subst (λ (ns : List Node). IsKept (known t) (first ∷ t.open.keys) (ns ++ u.open.keys)) (sym g.longer) (kept-beside (known t) (first ∷ []) t.open.keys (g.more ++ u.open.keys) g.kept)

pub kept-row : (s t u : Search) (total most : ℕ) (first : Node) (found : List Node) → IsSame s t → IsNextAt s total t first → IsGathered t first.least most (first ∷ []) found u → IsKept (known s) s.open.keys (found ++ u.open.keys)
kept-row s t u total most first found same next g =
    kept-trans (known s) s.open.keys (first ∷ t.open.keys) (found ++ u.open.keys) next.kept (kept-known s t (first ∷ t.open.keys) (found ++ u.open.keys) same (kept-found s t u total most first found g))

pub row : (s t u w : Search) (total most : ℕ) (first : Node) (found : List Node) → IsSame s t → IsSame s w → IsSearched s → IsNextAt s total t first → IsGathered t first.least most (first ∷ []) found u → IsRow w most found u.open.keys first.least
row s t u w total most first found same last old next g = record {
  all = subst (λ (k : Known). IsIn k (found ++ u.open.keys)) (sym (same-known s w last)) (in-kept (known s) s.open.keys (found ++ u.open.keys) (kept-row s t u total most first found same next g) old.all);
  each = subst (λ (k : Known). All (IsFound k) found) (sym (same-known s w last)) (subst (All (IsFound (known s))) (sym g.longer)
      (All-cons (IsFound (known s)) first g.more next.found (subst (λ (k : Known). All (IsFound k) g.more) (same-known s t same) g.found)));
  within = subst (All (λ (n : Node). n.least ≤ first.least)) (sym g.longer) (All-cons (λ (n : Node). n.least ≤ first.least) first g.more (omega arith) g.within);
  from = (kept-found s t u total most first found g).risen first.least (All-cons (λ (n : Node). first.least ≤ n.least) first t.open.keys (omega arith) (All-weaker (IsBefore first) (λ (n : Node). first.least ≤ n.least) (before-least first) t.open.keys next.first));
  whole = g.whole;
}

pub some-found : (s t u : Search) (total most : ℕ) (first : Node) (found : List Node) → IsGathered t first.least most (first ∷ []) found u → 0 < length found
some-found s t u total most first found g = omega (arith, ap length g.longer)

-- and all of them open again
pub searched-again : (s t u w : Search) (total most : ℕ) (first : Node) (found : List Node) → IsSame s t → IsSame s w → IsSearched s → IsNextAt s total t first → IsGathered t first.least most (first ∷ []) found u → w.open.keys ≡ put_all found u.open.keys → IsSearched w
searched-again s t u w total most first found same last old next g keys =
    searched-kept s w last
    (kept-trans (known s) s.open.keys (found ++ u.open.keys) w.open.keys (kept-row s t u total most first found same next g)
    (subst (IsKept (known s) (found ++ u.open.keys)) (sym keys) (kept-put (known s) found u.open.keys)))
    old

-- the first node alone, and it again
pub searched-first : (s t w : Search) (total : ℕ) (n : Node) → IsSame s w → IsSearched s → IsNextAt s total t n → w.open.keys ≡ put_all (n ∷ []) t.open.keys → IsSearched w
searched-first s t w total n last old next keys =
    searched-kept s w last
    (kept-trans (known s) s.open.keys (n ∷ t.open.keys) w.open.keys next.kept (subst (IsKept (known s) (n ∷ t.open.keys)) (sym keys) (kept-put (known s) (n ∷ []) t.open.keys)))
    old

pub first-of : (s t w : Search) (total : ℕ) (n : Node) → IsSame s w → IsSearched s → s.order ≡ Lexicographic → IsNextAt s total t n → IsFirst w (Some n.lo.items)
first-of s t w total n last old order next =
    earliest w n t.open.keys (last.order ∙ order)
    (subst (λ (k : Known). IsIn k (n ∷ t.open.keys)) (sym (same-known s w last)) (in-kept (known s) s.open.keys (n ∷ t.open.keys) next.kept old.all))
    (subst (λ (k : Known). IsFound k n) (sym (same-known s w last)) next.found)
    next.first
    (proper-same s w (n ∷ t.open.keys) last (next.kept.proper old.proper))
