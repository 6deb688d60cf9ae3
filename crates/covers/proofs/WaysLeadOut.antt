-- The way out on one channel, and those of a bound.
use Rattle.std.proofs.Common.{◌≡◌, ℕ, ◌+◌, ◌-◌, ◌*◌, ◌≤◌, ◌<◌, ◌⊎◌, inl, inr, ⊎_elim, List, length, take, get_or, min, sym, ap, ◌∙◌, subst, arith}
use Rattle.std.specs.Prelude.{All, slice_index, slice_index_or}
use Rattle.std.proofs.lemmas.Bool.{cases_lt}
use Rattle.std.proofs.lemmas.List.{get_or_default}
use Rattle.std.proofs.Math.Nat.{mul-le-mul_right}
use Rattle.std.proofs.lemmas.List.Elements.{All-more, All-weaker}
use Rattle.covers.specs.declared.lattice.Axis.{Axis}
use Rattle.covers.specs.declared.lattice.Lattice.{Lattice}
use Rattle.covers.specs.declared.bound.Cap.{Cap}
use Rattle.covers.specs.declared.node.Node.{Node}
use Rattle.covers.specs.declared.ways.Way.{Way}
use Rattle.covers.specs.declared.ways.Ways.{Ways}
use Rattle.covers.specs.declared.ways.Ways.TheVariants.{Nowhere, One, Several}
use Rattle.covers.specs.Lattices.{IsOnAxis, storage_of}
use Rattle.covers.specs.Bounds.{IsWithin}
use Rattle.covers.specs.inside.Ways.{AreWays, IsInside, IsNextOn, IsOnlyWay, IsToll, IsWayOut, IsWith, StaysWithin, rise_of}
use Rattle.covers.proofs.StorageRises.{storage-rise}

on-axis : (lattice : Lattice) (n : Node) (c : ℕ) (a : Axis) → c < length lattice.axes → a ≡ slice_index_or lattice.axes c a → (ks : List ℕ) → IsInside lattice n ks → IsOnAxis a (slice_index ks c)
on-axis lattice n c a below is ks i = let P : Axis → Type 0 = λ (x : Axis). IsOnAxis x (slice_index ks c) in subst P (sym is) (i.among.on.each c a below)

pub on-axis-at : (axes : List Axis) (c : ℕ) (a b : Axis) (v : ℕ) → c < length axes → a ≡ slice_index_or axes c a → IsOnAxis a v → IsOnAxis (slice_index_or axes c b) v
on-axis-at axes c a b v below is on = subst (λ (x : Axis). IsOnAxis x v) (is ∙ get_or_default axes c a b below) on

-- no capacity of the axis in the node is above the cap
pub stays-axis : (lattice : Lattice) (n : Node) (cap : Cap) (a : Axis) → cap.channel < length lattice.axes → a ≡ slice_index_or lattice.axes cap.channel a → ((k : ℕ) → IsOnAxis a k → k ≤ slice_index n.hi.items cap.channel → k ≤ cap.capacity) → StaysWithin lattice n cap
stays-axis lattice n cap a below is most = λ ks i. most (slice_index ks cap.channel) (on-axis lattice n cap.channel a below is ks i) (i.between.below cap.channel)

-- what has more than the cap's capacity has at least the next one
pub next-taken : (lattice : Lattice) (n : Node) (cap : Cap) (a : Axis) (v : ℕ) → cap.channel < length lattice.axes → a ≡ slice_index_or lattice.axes cap.channel a → IsNextOn a cap.capacity v → (ks : List ℕ) → IsInside lattice n ks → IsWithin ks cap ⊎ (v ≤ slice_index ks cap.channel)
next-taken lattice n cap a v below is next ks i =
    ⊎_elim
    (λ (more : cap.capacity < slice_index ks cap.channel). inr (next.least (slice_index ks cap.channel) (on-axis lattice n cap.channel a below is ks i) more))
    (λ (less : slice_index ks cap.channel ≤ cap.capacity). inl less)
    (cases_lt cap.capacity (slice_index ks cap.channel))

-- what takes the next capacity needs more than the limit
pub stays-limit : (lattice : Lattice) (n : Node) (cap : Cap) (a : Axis) (v storage : ℕ) → cap.channel < length lattice.axes → a ≡ slice_index_or lattice.axes cap.channel a → IsNextOn a cap.capacity v →
    storage ≡ storage_of lattice.axes n.lo.items → storage ≤ lattice.limit → lattice.limit - storage < (v - slice_index n.lo.items cap.channel) * a.size → StaysWithin lattice n cap
stays-limit lattice n cap a v storage below is next total within dear = λ ks i.
    ⊎_elim
    (λ (less : IsWithin ks cap). less)
    (λ (more : v ≤ slice_index ks cap.channel).
    let rise : storage_of lattice.axes n.lo.items + (v - slice_index n.lo.items cap.channel) * (slice_index_or lattice.axes cap.channel a).size ≤ storage_of lattice.axes ks
    = storage-rise lattice.axes n.lo.items ks cap.channel v a below i.among.on.long i.between.above more in
    let size : a.size ≡ (slice_index_or lattice.axes cap.channel a).size = ap (λ (x : Axis). x.size) is in
    let same : (v - slice_index n.lo.items cap.channel) * a.size ≡ (v - slice_index n.lo.items cap.channel) * (slice_index_or lattice.axes cap.channel a).size = ap (λ (s : ℕ). (v - slice_index n.lo.items cap.channel) * s) size in
    let most : storage_of lattice.axes ks ≤ lattice.limit = i.among.within in
    absurd (far _ _ _ _ _ total within dear rise same most))
    (next-taken lattice n cap a v below is next ks i)
  where
    far : (s0 storage limit p q : ℕ) {t : ℕ} → storage ≡ s0 → storage ≤ limit → limit - storage < p → s0 + q ≤ t → p ≡ q → t ≤ limit → ⊥
    far s0 storage limit p q total within dear rise same most = omega arith

-- what isn't within the cap pays for the next capacity at least
pub toll-paid : (lattice : Lattice) (n : Node) (cap : Cap) (a : Axis) (v cost : ℕ) → cap.channel < length lattice.axes → a ≡ slice_index_or lattice.axes cap.channel a → IsNextOn a cap.capacity v →
    cost ≡ (v - slice_index n.lo.items cap.channel) * a.size → IsToll lattice n cost cap
toll-paid lattice n cap a v cost below is next paid = λ ks i.
    ⊎_elim
    (λ (less : IsWithin ks cap). inl less)
    (λ (more : v ≤ slice_index ks cap.channel).
    inr
    (λ b.
    let size : a.size ≡ (slice_index_or lattice.axes cap.channel b).size = ap (λ (x : Axis). x.size) (is ∙ get_or_default lattice.axes cap.channel a b below) in
    let rise : (v - slice_index n.lo.items cap.channel) * a.size ≤ (slice_index ks cap.channel - slice_index n.lo.items cap.channel) * a.size
    = mul-le-mul_right a.size (differ v (slice_index ks cap.channel) (slice_index n.lo.items cap.channel) more) in
    let same : (slice_index ks cap.channel - slice_index n.lo.items cap.channel) * a.size ≡ rise_of lattice n ks cap.channel b
    = ap (λ (s : ℕ). (slice_index ks cap.channel - slice_index n.lo.items cap.channel) * s) size in
    along _ _ _ _ paid rise same))
    (next-taken lattice n cap a v below is next ks i)
  where
    differ : (x y z : ℕ) → x ≤ y → x - z ≤ y - z
    differ x y z le = omega arith

    along : (x y z w : ℕ) → x ≡ y → y ≤ z → z ≡ w → x ≤ w
    along x y z w a b c = omega arith

toll-less : (lattice : Lattice) (n : Node) (cost less : ℕ) (cap : Cap) → less ≤ cost → IsToll lattice n cost cap → IsToll lattice n less cap
toll-less lattice n cost less cap le toll = λ ks i.
    ⊎_elim
    (λ (h : IsWithin ks cap). inl h)
    (λ (h : (a : Axis) → cost ≤ rise_of lattice n ks cap.channel a). inr (λ a. along less cost (rise_of lattice n ks cap.channel a) le (h a)))
    (toll ks i)
  where
    along : (x y z : ℕ) → x ≤ y → y ≤ z → x ≤ z
    along x y z a b = omega arith

toll-none : (lattice : Lattice) (n : Node) (cost : ℕ) (cap : Cap) → StaysWithin lattice n cap → IsToll lattice n cost cap
toll-none lattice n cost cap stays = λ ks i. inl (stays ks i)

-- a cap of a bound more

pub more-stays : (lattice : Lattice) (n : Node) (caps : List Cap) (i : ℕ) (d : Cap) (ways : Ways) → i < length caps → AreWays lattice n (take i caps) ways → StaysWithin lattice n (get_or caps i d) → AreWays lattice n (take (i + 1) caps) ways
more-stays lattice n caps i d Nowhere below all here = λ ks in'. All-more (IsWithin ks) caps i d below (all ks in') (here ks in')
more-stays lattice n caps i d (One w) below one here = record {
  left = λ ks in'. ⊎_elim (λ (h : All (IsWithin ks) (take i caps)). inl (All-more (IsWithin ks) caps i d below h (here ks in'))) (λ (h : w.capacity ≤ slice_index ks w.channel). inr h) (one.left ks in');
  above = one.above;
  room = one.room;
  toll = All-more (IsToll lattice n w.cost) caps i d below one.toll (toll-none lattice n w.cost (get_or caps i d) here);
}
more-stays lattice n caps i d (Several number cost) below all here = All-more (IsToll lattice n cost) caps i d below all (toll-none lattice n cost (get_or caps i d) here)

more-tolls : (lattice : Lattice) (n : Node) (caps : List Cap) (i : ℕ) (d : Cap) (old new : ℕ) → i < length caps → All (IsToll lattice n old) (take i caps) → IsToll lattice n new (get_or caps i d) → All (IsToll lattice n (min old new)) (take (i + 1) caps)
more-tolls lattice n caps i d old new below all here =
    All-more (IsToll lattice n (min old new)) caps i d below
    (All-weaker (IsToll lattice n old) (IsToll lattice n (min old new)) (λ cap. toll-less lattice n old (min old new) cap (omega arith)) (take i caps) all)
    (toll-less lattice n new (min old new) (get_or caps i d) (omega arith) here)

raised : (lattice : Lattice) (n : Node) (cap : Cap) (w : Way) → IsWithin n.lo.items cap → IsWayOut lattice n cap w → slice_index n.lo.items w.channel < w.capacity
raised lattice n cap w within out = subst (λ (c : ℕ). slice_index n.lo.items c < w.capacity) (sym out.channel) (along _ _ _ within out.above)
  where
    along : (x y z : ℕ) → x ≤ y → y < z → x < z
    along x y z a b = omega arith

pub more-way : (lattice : Lattice) (n : Node) (caps : List Cap) (i : ℕ) (d : Cap) (old new : Ways) (w : Way) → i < length caps → All (IsWithin n.lo.items) caps → AreWays lattice n (take i caps) old → IsWayOut lattice n (get_or caps i d) w → IsWith old w new → AreWays lattice n (take (i + 1) caps) new
more-way lattice n caps i d Nowhere new w below covers all out with' =
    let P : Ways → Type 0 = λ (ways : Ways). AreWays lattice n (take (i + 1) caps) ways in
    let one : IsOnlyWay lattice n (take (i + 1) caps) w = record {
      left = λ ks in'. ⊎_elim (λ (h : IsWithin ks (get_or caps i d)). inl (All-more (IsWithin ks) caps i d below (all ks in') h)) (λ (h : w.capacity ≤ slice_index ks w.channel). inr h) (out.taken ks in');
      above = raised lattice n (get_or caps i d) w (covers i d below) out;
      room = out.room;
      toll = All-more (IsToll lattice n w.cost) caps i d below (λ k e under ks in'. inl (all ks in' k e under)) out.toll;
    } in
    subst P (sym with') one
more-way lattice n caps i d (One v) new w below covers one out with' =
    let P : Ways → Type 0 = λ (ways : Ways). AreWays lattice n (take (i + 1) caps) ways in
    subst P (sym with'.1) (more-tolls lattice n caps i d v.cost w.cost below one.toll out.toll)
more-way lattice n caps i d (Several number cost) new w below covers all out with' =
    let P : Ways → Type 0 = λ (ways : Ways). AreWays lattice n (take (i + 1) caps) ways in
    subst P (sym with'.1) (more-tolls lattice n caps i d cost w.cost below all out.toll)
