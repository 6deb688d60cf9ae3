-- Each firing at the earlier of its starts in two admissible schedules makes an admissible one.
use Rattle.std.proofs.Common.{◌≡◌, ℕ, zero, suc, ◌+◌, ◌≤◌, ◌<◌, ◌⊎◌, inl, inr, Bool, true, false, List, [], ◌∷◌, length, sym, refl, ap, ◌∙◌, arith}
use Rattle.std.specs.Prelude.{slice_index, slice_index_or, nat_le, if◌then◌else◌}
use Rattle.std.proofs.lemmas.Bool.{leb-true, leb-false}
use Rattle.sd_base.specs.Net.{Net, channel_at}
use Rattle.sd_base.specs.Schedules.{Schedule, Admissible, Needs, count_of, start_of, end_of}

abbrev pub lesser : ℕ → ℕ → ℕ
lesser x y = if nat_le x y then x else y

abbrev pub earlier_row : List ℕ → List ℕ → List ℕ
earlier_row [] ys = ys
earlier_row (x ∷ xs) [] = x ∷ xs
earlier_row (x ∷ xs) (y ∷ ys) = lesser x y ∷ earlier_row xs ys

abbrev pub earlier : Schedule → Schedule → Schedule
earlier [] vs = vs
earlier (u ∷ us) [] = u ∷ us
earlier (u ∷ us) (v ∷ vs) = earlier_row u v ∷ earlier us vs

-- what is known of a row
pub record IsEarlierRow (xs ys zs : List ℕ) : Type 0 where
  pub left : (m : ℕ) → m < length xs → (m < length zs) × (slice_index zs m ≤ slice_index xs m)
  pub right : (m : ℕ) → m < length ys → (m < length zs) × (slice_index zs m ≤ slice_index ys m)
  pub from : (m : ℕ) → m < length zs → ((m < length xs) × (slice_index zs m ≡ slice_index xs m)) ⊎ ((m < length ys) × (slice_index zs m ≡ slice_index ys m))

row-same : (xs zs : List ℕ) → zs ≡ xs → IsEarlierRow xs [] zs
row-same xs zs e = rw e (record { left = λ m h. (h, omega arith); right = λ m h. absurd (omega arith); from = λ m h. inl (h, refl) })

row-other : (ys : List ℕ) → IsEarlierRow [] ys ys
row-other ys = record { left = λ m h. absurd (omega arith); right = λ m h. (h, omega arith); from = λ m h. inr (h, refl) }

lesser-cases : (x y : ℕ) → ((lesser x y ≡ x) × (x ≤ y)) ⊎ ((lesser x y ≡ y) × (y ≤ x))
lesser-cases x y = at (nat_le x y) refl
  where
    at : (b : Bool) → nat_le x y ≡ b → (((if b then x else y) ≡ x) × (x ≤ y)) ⊎ (((if b then x else y) ≡ y) × (y ≤ x))
    at true e = inl (refl, leb-true x y e)
    at false e = inr (refl, let h : y < x = leb-false x y e in omega arith)

row-cons : (x y : ℕ) (xs ys zs : List ℕ) → IsEarlierRow xs ys zs → IsEarlierRow (x ∷ xs) (y ∷ ys) (lesser x y ∷ zs)
row-cons x y xs ys zs is = record { left = left; right = right; from = from }
  where
    left : (m : ℕ) → m < length (x ∷ xs) → (m < length (lesser x y ∷ zs)) × (slice_index (lesser x y ∷ zs) m ≤ slice_index (x ∷ xs) m)
    left zero h = (omega arith, at (lesser-cases x y))
      where
        at : ((lesser x y ≡ x) × (x ≤ y)) ⊎ ((lesser x y ≡ y) × (y ≤ x)) → lesser x y ≤ x
        at (inl c) = omega (arith, c.0)
        at (inr c) = omega (arith, c.0, c.1)
    left (suc m) h = let r = is.left m (omega arith) in (omega (arith, r.0), r.1)

    right : (m : ℕ) → m < length (y ∷ ys) → (m < length (lesser x y ∷ zs)) × (slice_index (lesser x y ∷ zs) m ≤ slice_index (y ∷ ys) m)
    right zero h = (omega arith, at (lesser-cases x y))
      where
        at : ((lesser x y ≡ x) × (x ≤ y)) ⊎ ((lesser x y ≡ y) × (y ≤ x)) → lesser x y ≤ y
        at (inl c) = omega (arith, c.0, c.1)
        at (inr c) = omega (arith, c.0)
    right (suc m) h = let r = is.right m (omega arith) in (omega (arith, r.0), r.1)

    from : (m : ℕ) → m < length (lesser x y ∷ zs) → ((m < length (x ∷ xs)) × (slice_index (lesser x y ∷ zs) m ≡ slice_index (x ∷ xs) m)) ⊎ ((m < length (y ∷ ys)) × (slice_index (lesser x y ∷ zs) m ≡ slice_index (y ∷ ys) m))
    from zero h = at (lesser-cases x y)
      where
        at : ((lesser x y ≡ x) × (x ≤ y)) ⊎ ((lesser x y ≡ y) × (y ≤ x)) → ((0 < length (x ∷ xs)) × (lesser x y ≡ x)) ⊎ ((0 < length (y ∷ ys)) × (lesser x y ≡ y))
        at (inl c) = inl (omega arith, c.0)
        at (inr c) = inr (omega arith, c.0)
    from (suc m) h = at (is.from m (omega arith))
      where
        at : ((m < length xs) × (slice_index zs m ≡ slice_index xs m)) ⊎ ((m < length ys) × (slice_index zs m ≡ slice_index ys m)) → ((suc m < length (x ∷ xs)) × (slice_index zs m ≡ slice_index xs m)) ⊎ ((suc m < length (y ∷ ys)) × (slice_index zs m ≡ slice_index ys m))
        at (inl c) = inl (omega (arith, c.0), c.1)
        at (inr c) = inr (omega (arith, c.0), c.1)

earlier-row : (xs ys : List ℕ) → IsEarlierRow xs ys (earlier_row xs ys)
earlier-row [] ys = row-other ys
earlier-row (x ∷ xs) [] = row-same (x ∷ xs) (x ∷ xs) refl
earlier-row (x ∷ xs) (y ∷ ys) = row-cons x y xs ys (earlier_row xs ys) (earlier-row xs ys)

pub earlier-rows : (u v : Schedule) (a : ℕ) → IsEarlierRow (slice_index_or u a []) (slice_index_or v a []) (slice_index_or (earlier u v) a [])
earlier-rows [] vs a = row-other (slice_index_or vs a [])
earlier-rows (u ∷ us) [] a = row-same _ _ refl
earlier-rows (u ∷ us) (v ∷ vs) zero = earlier-row u v
earlier-rows (u ∷ us) (v ∷ vs) (suc a) = earlier-rows us vs a

earlier-length : (u v : Schedule) → length u ≡ length v → length (earlier u v) ≡ length u
earlier-length [] vs e = sym e
earlier-length (u ∷ us) [] e = refl
earlier-length (u ∷ us) (v ∷ vs) e = ap suc (earlier-length us vs (omega arith))

-- each firing at its earlier start: what it needs is there in that schedule, and no later here
pub earlier-admissible : (net : Net) (u v : Schedule) → Admissible net u → Admissible net v → Admissible net (earlier u v)
earlier-admissible net u v good fine = record {
  actors = earlier-length u v (good.actors ∙ sym fine.actors) ∙ good.actors;
  rising = λ a k more. rises a k more ((earlier-rows u v a).from (k + 1) more);
  fed = λ i j m place there need. feeds i j m place need ((earlier-rows u v (channel_at net i).target).from j there);
}
  where
    rises : (a k : ℕ) → k + 1 < count_of (earlier u v) a → ((k + 1 < count_of u a) × (start_of (earlier u v) a (k + 1) ≡ start_of u a (k + 1))) ⊎ ((k + 1 < count_of v a) × (start_of (earlier u v) a (k + 1) ≡ start_of v a (k + 1)))
        → start_of (earlier u v) a k ≤ start_of (earlier u v) a (k + 1)
    rises a k more (inl here) = omega (arith, here.1, good.rising a k here.0, ((earlier-rows u v a).left k (omega (arith, here.0))).1)
    rises a k more (inr here) = omega (arith, here.1, fine.rising a k here.0, ((earlier-rows u v a).right k (omega (arith, here.0))).1)

    feeds : (i j m : ℕ) → i < length net.channels → Needs (channel_at net i) j m →
        ((j < count_of u (channel_at net i).target) × (start_of (earlier u v) (channel_at net i).target j ≡ start_of u (channel_at net i).target j)) ⊎ ((j < count_of v (channel_at net i).target) × (start_of (earlier u v) (channel_at net i).target j ≡ start_of v (channel_at net i).target j))
        → (m < count_of (earlier u v) (channel_at net i).source) × (end_of net (earlier u v) (channel_at net i).source m ≤ start_of (earlier u v) (channel_at net i).target j)
    feeds i j m place need (inl here) =
        let done = good.fed i j m place here.0 need in
        let mine = (earlier-rows u v (channel_at net i).source).left m done.0 in
        (mine.0, omega (arith, here.1, done.1, mine.1))
    feeds i j m place need (inr here) =
        let done = fine.fed i j m place here.0 need in
        let mine = (earlier-rows u v (channel_at net i).source).right m done.0 in
        (mine.0, omega (arith, here.1, done.1, mine.1))
