-- What lies in open nodes stays in them or is covered, as nodes are looked at, taken aside and put back.
use Rattle.std.proofs.Common.{◌≡◌, ℕ, ◌+◌, ◌*◌, ◌≤◌, ◌<◌, ◌⊎◌, List, [], ◌∷◌, ◌++◌, inl, inr, ⊎_elim, refl, sym, ap, ◌∙◌, subst, arith}
use Rattle.std.specs.Prelude.{All, Contains, slice_index}
use Rattle.std.proofs.lemmas.List.Elements.{All-append, All-cons, All-contains, All-head, All-tail, Contains-append_cases, Contains-append_left, Contains-append_right}
use Rattle.std.proofs.Math.Nat.{mul-le-mul_right}
use Rattle.sd_base.proofs.ContainedHavePlaces.{contains-cases, contains-here, contains-later}
use Rattle.sd_base.specs.declared.numbers.Fraction.{Fraction}
use Rattle.covers.specs.declared.lattice.Lattice.{Lattice}
use Rattle.covers.specs.declared.bound.Bound.{Bound}
use Rattle.covers.specs.declared.node.Node.{Node}
use Rattle.covers.specs.declared.search.Search.{Search}
use Rattle.covers.specs.declared.ways.Way.{Way}
use Rattle.covers.specs.Lattices.{storage_of}
use Rattle.covers.specs.Bounds.{AreEnough, Covers, IsCovered}
use Rattle.covers.specs.Nodes.{IsProper, LiesIn, StandsFor}
use Rattle.covers.specs.Searches.{IsSame}
use Rattle.covers.specs.inside.Ways.{IsInside}
use Rattle.covers.specs.inside.Rooms.{room_of, weight, weight_of}
use Rattle.covers.specs.inside.Splits.{IsSplit, StandsAmong}
use Rattle.covers.specs.inside.Surveys.{AllCovered, IsNarrowing}
use Rattle.covers.specs.inside.Keeping.{IsBranched, IsKept, Known, known, put_all}
use Rattle.covers.proofs.InsertsKeepNodes.{put-all-hold, put-new, put-old, stands-alike}
use Rattle.covers.proofs.RoomsShrink.{narrow-weight, narrower, put-weight, raised-weight, some-room, split-weight}
use Rattle.covers.proofs.CapsSplitNodes.{HasGone, goes, goes-on, gone-room}

-- only open nodes changed, so what is known is the same
pub same-known : (s t : Search) → IsSame s t → known t ≡ known s
same-known s t same =
    ap (λ (l : Lattice). known (record t { lattice = l })) same.lattice
    ∙ (ap (λ o. known (record t { lattice = s.lattice; order = o })) same.order
    ∙ (ap (λ b. known (record t { lattice = s.lattice; order = s.order; bounds = b })) same.bounds
    ∙ ap (λ r. known (record t { lattice = s.lattice; order = s.order; bounds = s.bounds; best = r })) same.best))

pub kept-refl : (k : Known) (ns : List Node) → IsKept k ns ns
kept-refl k ns = record { left = λ ks i h. inr h; proper = λ h. h; risen = λ t h. h }

pub kept-trans : (k : Known) (a b c : List Node) → IsKept k a b → IsKept k b c → IsKept k a c
kept-trans k a b c x y = record {
  left = λ ks i h. ⊎_elim (λ (g : IsCovered k.bounds k.best ks). inl g) (λ (g : LiesIn k.lattice b ks). y.left ks i g) (x.left ks i h);
  proper = λ h. y.proper (x.proper h);
  risen = λ t h. y.risen t (x.risen t h);
}

pub kept-same : (k : Known) (a b c d : List Node) → a ≡ b → c ≡ d → IsKept k b d → IsKept k a c
kept-same k a b c d x y h = subst (λ (ns : List Node). IsKept k ns c) (sym x) (subst (IsKept k b) (sym y) h)

lies-later : (lattice : Lattice) (n : Node) (ns : List Node) (ks : List ℕ) → LiesIn lattice ns ks → LiesIn lattice (n ∷ ns) ks
lies-later lattice n ns ks h = (h.0, contains-later n ns h.0 h.1, h.2, h.3)

pub All-left : (P : Node → Type 0) (xs ys : List Node) → All P (xs ++ ys) → All P xs
All-left P [] ys all = λ i d below. absurd (omega arith)
All-left P (x ∷ xs) ys all = All-cons P x xs (All-head P x (xs ++ ys) all) (All-left P xs ys (All-tail P x (xs ++ ys) all))

pub All-right : (P : Node → Type 0) (xs ys : List Node) → All P (xs ++ ys) → All P ys
All-right P [] ys all = all
All-right P (x ∷ xs) ys all = All-right P xs ys (All-tail P x (xs ++ ys) all)

-- nodes that are taken aside stay as they are
pub kept-beside : (k : Known) (aside a b : List Node) → IsKept k a b → IsKept k (aside ++ a) (aside ++ b)
kept-beside k aside a b h = record {
  left = λ ks i l.
      ⊎_elim
      (λ (here : Contains aside l.0). inr (l.0, Contains-append_left aside b l.0 here, l.2, l.3))
      (λ (there : Contains a l.0).
      ⊎_elim
      (λ (c : IsCovered k.bounds k.best ks). inl c)
      (λ (g : LiesIn k.lattice b ks). inr (g.0, Contains-append_right aside b g.0 g.1, g.2, g.3))
      (h.left ks i (l.0, there, l.2, l.3)))
      (Contains-append_cases aside a l.0 l.1);
  proper = λ p. All-append (IsProper k.lattice k.order) aside b (All-left (IsProper k.lattice k.order) aside a p) (h.proper (All-right (IsProper k.lattice k.order) aside a p));
  risen = λ t r. All-append (λ (n : Node). t ≤ n.least) aside b (All-left (λ (n : Node). t ≤ n.least) aside a r) (h.risen t (All-right (λ (n : Node). t ≤ n.least) aside a r));
}

-- nodes that are put back
pub kept-put : (k : Known) (nodes ns : List Node) → IsKept k (nodes ++ ns) (put_all nodes ns)
kept-put k nodes ns = record {
  left = λ ks i l.
      ⊎_elim
      (λ (new : Contains nodes l.0).
      let m = put-new nodes ns l.0 new in
      inr (m.0, m.1, stands-alike l.0 m.0 m.2 ks l.2, subst (λ (x : ℕ). x ≤ storage_of k.lattice.axes ks) (sym m.2.least) l.3))
      (λ (old : Contains ns l.0). inr (l.0, put-old nodes ns l.0 old, l.2, l.3))
      (Contains-append_cases nodes ns l.0 l.1);
  proper = λ p. put-all-hold (IsProper k.lattice k.order) nodes ns (All-left (IsProper k.lattice k.order) nodes ns p) (All-right (IsProper k.lattice k.order) nodes ns p);
  risen = λ t r. put-all-hold (λ (n : Node). t ≤ n.least) nodes ns (All-left (λ (n : Node). t ≤ n.least) nodes ns r) (All-right (λ (n : Node). t ≤ n.least) nodes ns r);
}

-- the parts of a node, in place of it
pub record AreParts (k : Known) (n : Node) (parts : List Node) : Type 0 where
  pub left : (ks : List ℕ) → IsInside k.lattice n ks → n.least ≤ storage_of k.lattice.axes ks → IsCovered k.bounds k.best ks ⊎ LiesIn k.lattice parts ks
  pub proper : All (IsProper k.lattice k.order) parts
  pub risen : All (λ (m : Node). n.least ≤ m.least) parts

pub kept-parts : (k : Known) (n : Node) (parts ns : List Node) → AreParts k n parts → IsKept k (n ∷ ns) (parts ++ ns)
kept-parts k n parts ns are = record {
  left = λ ks i l.
      ⊎_elim
      (λ (first : n ≡ l.0).
      ⊎_elim
      (λ (c : IsCovered k.bounds k.best ks). inl c)
      (λ (g : LiesIn k.lattice parts ks). inr (g.0, Contains-append_left parts ns g.0 g.1, g.2, g.3))
      (are.left ks (record { among = i; between = subst (λ (x : Node). StandsFor x ks) (sym first) l.2 }) (subst (λ (x : Node). x.least ≤ storage_of k.lattice.axes ks) (sym first) l.3)))
      (λ (later : Contains ns l.0). inr (l.0, Contains-append_right parts ns l.0 later, l.2, l.3))
      (contains-cases n ns l.0 l.1);
  proper = λ p. All-append (IsProper k.lattice k.order) parts ns are.proper (All-tail (IsProper k.lattice k.order) n ns p);
  risen = λ t r. All-append (λ (m : Node). t ≤ m.least) parts ns (higher t (All-head (λ (m : Node). t ≤ m.least) n ns r)) (All-tail (λ (m : Node). t ≤ m.least) n ns r);
}
  where
    higher : (t : ℕ) → t ≤ n.least → All (λ (m : Node). t ≤ m.least) parts
    higher t le = λ i d below. along _ _ _ le (are.risen i d below)
      where
        along : (x y z : ℕ) → x ≤ y → y ≤ z → x ≤ z
        along x y z a b = omega arith

-- a node was taken off, and its parts were put back
pub branched : (s t : Search) (n : Node) (parts : List Node) → t.open.keys ≡ put_all parts s.open.keys → AreParts (known s) n parts → weight_of s.lattice.limit parts < weight s.lattice.limit n → IsBranched s n t
branched s t n parts keys are less = record {
  kept = kept-same (known s) (n ∷ s.open.keys) (n ∷ s.open.keys) t.open.keys (put_all parts s.open.keys) refl keys
      (kept-trans (known s) (n ∷ s.open.keys) (parts ++ s.open.keys) (put_all parts s.open.keys) (kept-parts (known s) n parts s.open.keys are) (kept-put (known s) parts s.open.keys));
  less = subst (λ (ns : List Node). weight_of s.lattice.limit ns < weight_of s.lattice.limit (n ∷ s.open.keys)) (sym keys) (omega (arith, put-weight s.lattice.limit parts s.open.keys, less));
}

none-of : (P : Node → Type 0) → All P []
none-of P = λ i d below. absurd (omega arith)

one-of : (P : Node → Type 0) (n : Node) → P n → All P (n ∷ [])
one-of P n p = All-cons P n [] p (none-of P)

-- nothing of it is left
pub closed : (s t : Search) (n : Node) → t.open.keys ≡ s.open.keys → n.least ≤ s.lattice.limit → AllCovered s.lattice s.bounds.items s.best n → IsBranched s n t
closed s t n keys within all = branched s t n [] keys (record { left = λ ks i _. inl (all ks i); proper = none-of (IsProper s.lattice s.order); risen = none-of (λ (m : Node). n.least ≤ m.least) }) some
  where
    some : 0 < weight s.lattice.limit n
    some = let most : 1 * (s.lattice.limit + 1) ≤ room_of n * (s.lattice.limit + 1) = mul-le-mul_right (s.lattice.limit + 1) (some-room n.lo.items n.hi.items) in omega (arith, most, within)

-- it was put back with another least
pub raised : (s t : Search) (n m : Node) → t.open.keys ≡ put_all (m ∷ []) s.open.keys → m.lo ≡ n.lo → m.hi ≡ n.hi → IsProper s.lattice s.order m → n.least ≤ s.lattice.limit → n.least < m.least →
    ((ks : List ℕ) → IsInside s.lattice n ks → IsCovered s.bounds.items s.best ks ⊎ (m.least ≤ storage_of s.lattice.axes ks)) → IsBranched s n t
raised s t n m keys lo hi proper within more least = branched s t n (m ∷ []) keys (record {
  left = λ ks i _. ⊎_elim (λ (c : IsCovered s.bounds.items s.best ks). inl c) (λ (h : m.least ≤ storage_of s.lattice.axes ks). inr (m, contains-here m [], moved ks i.between, h)) (least ks i);
  proper = one-of (IsProper s.lattice s.order) m proper;
  risen = one-of (λ (x : Node). n.least ≤ x.least) m (omega arith);
}) (omega (arith, raised-weight s.lattice.limit n m lo hi more within))
  where
    moved : (ks : List ℕ) → StandsFor n ks → StandsFor m ks
    moved ks s = record {
      above = λ i. subst (λ (xs : List ℕ). slice_index xs i ≤ slice_index ks i) (sym (ap (λ v. v.items) lo)) (s.above i);
      below = λ i. subst (λ (xs : List ℕ). slice_index ks i ≤ slice_index xs i) (sym (ap (λ v. v.items) hi)) (s.below i);
    }

-- it was narrowed
pub narrowed : (s t : Search) (n m : Node) (w : Way) → t.open.keys ≡ put_all (m ∷ []) s.open.keys → HasGone n w m → IsProper s.lattice s.order n → n.least ≤ s.lattice.limit → IsNarrowing s.lattice s.bounds.items s.best n w → IsBranched s n t
narrowed s t n m w keys gone proper within narrow = branched s t n (m ∷ []) keys (record {
  left = λ ks i above.
      ⊎_elim
      (λ (c : IsCovered s.bounds.items s.best ks). inl c)
      (λ (h : w.capacity ≤ slice_index ks w.channel). inr (m, contains-here m [], goes n m w ks gone i.between h, subst (λ (x : ℕ). x ≤ storage_of s.lattice.axes ks) (sym gone.least) above))
      (narrow.left ks i);
  proper = one-of (IsProper s.lattice s.order) m (record { on = goes-on s.lattice n m w gone narrow.room proper.on; flat = λ o. gone.least ∙ proper.flat o });
  risen = one-of (λ (x : Node). n.least ≤ x.least) m (omega (arith, gone.least));
}) (omega (arith, narrow-weight s.lattice.limit n m room-less gone.least within))
  where
    room-less : room_of m < room_of n
    room-less = omega (arith, gone-room n m w gone, narrower n.lo.items n.hi.items w.channel w.capacity (omega (arith, proper.on.long, narrow.room.place)) narrow.above narrow.room.high)

-- it was split
pub parted : (s t : Search) (n : Node) (b : Bound) (children : List Node) → t.open.keys ≡ put_all children s.open.keys → IsProper s.lattice s.order n → n.least ≤ s.lattice.limit → IsSplit s.lattice b n children →
    ((ks : List ℕ) → Covers b ks → IsCovered s.bounds.items s.best ks) → IsBranched s n t
parted s t n b children keys proper within split covered = branched s t n children keys (record {
  left = λ ks i above.
      ⊎_elim
      (λ (c : Covers b ks). inl (covered ks c))
      (λ (h : StandsAmong children ks).
      let least : h.0.least ≡ n.least = All-contains (λ (child : Node). child.least ≡ n.least) children h.0 split.least h.1 in
      inr (h.0, h.1, h.2, subst (λ (x : ℕ). x ≤ storage_of s.lattice.axes ks) (sym least) above))
      (split.left ks i);
  proper = λ i d below. record { on = split.on i d below; flat = λ o. split.least i d below ∙ proper.flat o };
  risen = λ i d below. level _ _ (split.least i d below);
}) (split-weight s.lattice.limit n children split.least split.less within)
  where
    level : (x y : ℕ) → x ≡ y → y ≤ x
    level x y same = omega arith

pub same-trans : (a b c : Search) → IsSame a b → IsSame b c → IsSame a c
same-trans a b c x y = record { lattice = y.lattice ∙ x.lattice; order = y.order ∙ x.order; bounds = y.bounds ∙ x.bounds; acting = y.acting ∙ x.acting; best = y.best ∙ x.best }

-- what was known before is known still
pub kept-known : (s t : Search) (a b : List Node) → IsSame s t → IsKept (known t) a b → IsKept (known s) a b
kept-known s t a b same h = subst (λ (k : Known). IsKept k a b) (same-known s t same) h

-- nodes that are proper are so where only open nodes changed
pub proper-same : (s t : Search) (ns : List Node) → IsSame s t → All (IsProper s.lattice s.order) ns → All (IsProper t.lattice t.order) ns
proper-same s t ns same all = subst (λ (k : Known). All (IsProper k.lattice k.order) ns) (sym (same-known s t same)) all

-- the bounds that act are enough still
pub enough-same : (s t : Search) → IsSame s t → AreEnough s.bounds.items s.best s.acting.items → AreEnough t.bounds.items t.best t.acting.items
enough-same s t same enough =
    subst (λ (bs : List Bound). AreEnough bs t.best t.acting.items) (sym (ap (λ v. v.items) same.bounds))
    (subst (λ (r : Fraction). AreEnough s.bounds.items r t.acting.items) (sym same.best)
    (subst (AreEnough s.bounds.items s.best) (sym (ap (λ v. v.items) same.acting)) enough))
