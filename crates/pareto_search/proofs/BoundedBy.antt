-- A vector as the distribution of what a corner bounds, and a distribution as its vector.
use Rattle.std.proofs.Common.{◌≡◌, ℕ, zero, suc, ◌+◌, ◌≤◌, ◌<◌, Option, None, Some, List, [], ◌∷◌, ◌++◌, length, take, min, refl, ap, ◌∙◌, arith}
use Rattle.std.specs.Prelude.{slice_index, slice_index_or, slice_set}
use Rattle.storage.specs.Distributions.{AtMost, capacity_at, enlarged}
use Rattle.guide.specs.Covering.{HasNoMore}
use Rattle.pareto_search.specs.inside.Vectors.{bounded_by, room_in, vector_of, with_room}

-- ---- made entry by entry

pub bounded-more : (ds : List (Option ℕ)) (ks : List ℕ) (i : ℕ) → i < length ds → i < length ks → bounded_by (take (suc i) ds) (take (suc i) ks) ≡ bounded_by (take i ds) (take i ks) ++ with_room (slice_index_or ds i None) (slice_index ks i) ∷ []
bounded-more [] ks i first second = absurd (omega arith)
bounded-more (d ∷ ds) [] i first second = absurd (omega arith)
bounded-more (d ∷ ds) (k ∷ ks) zero first second = refl
bounded-more (d ∷ ds) (k ∷ ks) (suc i) first second = ap (λ (es : List (Option ℕ)). with_room d k ∷ es) (bounded-more ds ks i (omega arith) (omega arith))

pub bounded-all : (ds : List (Option ℕ)) (ks : List ℕ) (n : ℕ) → min (length ds) (length ks) ≤ n → bounded_by (take n ds) (take n ks) ≡ bounded_by ds ks
bounded-all [] ks zero all = refl
bounded-all [] ks (suc n) all = refl
bounded-all (d ∷ ds) [] zero all = refl
bounded-all (d ∷ ds) [] (suc n) all = refl
bounded-all (d ∷ ds) (k ∷ ks) zero all = absurd (omega arith)
bounded-all (d ∷ ds) (k ∷ ks) (suc n) all = ap (λ (es : List (Option ℕ)). with_room d k ∷ es) (bounded-all ds ks n (omega arith))

-- ---- there and back

pub bounded-vector : (corner ds : List (Option ℕ)) → AtMost corner ds → bounded_by corner (vector_of ds) ≡ ds
bounded-vector [] [] most = refl
bounded-vector (None ∷ corner) (None ∷ ds) most = ap (λ (es : List (Option ℕ)). None ∷ es) (bounded-vector corner ds most)
bounded-vector (Some n ∷ corner) (Some k ∷ ds) most = ap (λ (es : List (Option ℕ)). Some k ∷ es) (bounded-vector corner ds most.1)
bounded-vector corner ds most = absurd most

-- ---- the capacity of a channel

-- it is the vector's, where the corner has one
pub bounded-at : (corner : List (Option ℕ)) (ks : List ℕ) (c k : ℕ) → capacity_at (bounded_by corner ks) c ≡ Some k → (n : ℕ) × (capacity_at corner c ≡ Some n)
bounded-at [] ks c k at = cc
bounded-at (d ∷ corner) [] c k at = cc
bounded-at (None ∷ corner) (j ∷ ks) zero k at = cc
bounded-at (Some n ∷ corner) (j ∷ ks) zero k at = (n, refl)
bounded-at (d ∷ corner) (j ∷ ks) (suc c) k at = bounded-at corner ks c k at

-- so vectors that agree there give the same
pub bounded-same : (corner : List (Option ℕ)) (ks js : List ℕ) (c : ℕ) → length ks ≡ length js → slice_index ks c ≡ slice_index js c → capacity_at (bounded_by corner ks) c ≡ capacity_at (bounded_by corner js) c
bounded-same [] ks js c long same = refl
bounded-same (d ∷ corner) [] [] c long same = refl
bounded-same (d ∷ corner) [] (j ∷ js) c long same = absurd (omega arith)
bounded-same (d ∷ corner) (k ∷ ks) [] c long same = absurd (omega arith)
bounded-same (d ∷ corner) (k ∷ ks) (j ∷ js) zero long same = ap (with_room d) same
bounded-same (d ∷ corner) (k ∷ ks) (j ∷ js) (suc c) long same = bounded-same corner ks js c (omega arith) same

-- and one that has no more there gives no more room
pub bounded-no-more : (corner : List (Option ℕ)) (js ks : List ℕ) (c : ℕ) → length js ≡ length ks → slice_index js c ≤ slice_index ks c → HasNoMore (capacity_at (bounded_by corner js) c) (capacity_at (bounded_by corner ks) c)
bounded-no-more [] js ks c long less = tt
bounded-no-more (d ∷ corner) [] [] c long less = tt
bounded-no-more (d ∷ corner) [] (k ∷ ks) c long less = absurd (omega arith)
bounded-no-more (d ∷ corner) (j ∷ js) [] c long less = absurd (omega arith)
bounded-no-more (None ∷ corner) (j ∷ js) (k ∷ ks) zero long less = tt
bounded-no-more (Some n ∷ corner) (j ∷ js) (k ∷ ks) zero long less = less
bounded-no-more (d ∷ corner) (j ∷ js) (k ∷ ks) (suc c) long less = bounded-no-more corner js ks c (omega arith) less

-- so it is the lesser one, where the other has one
pub bounded-room : (corner : List (Option ℕ)) (js ks : List ℕ) (c k : ℕ) → length js ≡ length ks → slice_index js c ≤ slice_index ks c → capacity_at (bounded_by corner ks) c ≡ Some k → (n : ℕ) × (capacity_at (bounded_by corner js) c ≡ Some n) × (n ≤ k)
bounded-room [] js ks c k long less has = cc
bounded-room (d ∷ corner) [] [] c k long less has = cc
bounded-room (d ∷ corner) [] (x ∷ ks) c k long less has = absurd (omega arith)
bounded-room (d ∷ corner) (j ∷ js) [] c k long less has = absurd (omega arith)
bounded-room (None ∷ corner) (j ∷ js) (x ∷ ks) zero k long less has = cc
bounded-room (Some m ∷ corner) (j ∷ js) (x ∷ ks) zero k long less has =
    let same : x ≡ k = cc in
    let low : j ≤ x = less in
    (j, refl, omega (arith, same, low))
bounded-room (d ∷ corner) (j ∷ js) (x ∷ ks) (suc c) k long less has = bounded-room corner js ks c k (omega arith) less has

-- ---- the order by channel

pub bounded-under : (corner : List (Option ℕ)) (ks js : List ℕ) → length ks ≡ length js → ((c : ℕ) → slice_index ks c ≤ slice_index js c) → AtMost (bounded_by corner ks) (bounded_by corner js)
bounded-under [] ks js long under = tt
bounded-under (d ∷ corner) [] [] long under = tt
bounded-under (d ∷ corner) [] (j ∷ js) long under = absurd (omega arith)
bounded-under (d ∷ corner) (k ∷ ks) [] long under = absurd (omega arith)
bounded-under (None ∷ corner) (k ∷ ks) (j ∷ js) long under = bounded-under corner ks js (omega arith) (λ c. under (suc c))
bounded-under (Some n ∷ corner) (k ∷ ks) (j ∷ js) long under = (under 0, bounded-under corner ks js (omega arith) (λ c. under (suc c)))

pub vector-under : (ds es : List (Option ℕ)) → AtMost ds es → (c : ℕ) → slice_index (vector_of ds) c ≤ slice_index (vector_of es) c
vector-under [] [] most c = omega arith
vector-under (None ∷ ds) (None ∷ es) most zero = omega arith
vector-under (None ∷ ds) (None ∷ es) most (suc c) = vector-under ds es most c
vector-under (Some a ∷ ds) (Some b ∷ es) most zero = most.0
vector-under (Some a ∷ ds) (Some b ∷ es) most (suc c) = vector-under ds es most.1 c
vector-under ds es most c = absurd most

-- ---- more room on one channel

pub bounded-enlarged : (corner : List (Option ℕ)) (ks : List ℕ) (c by n v : ℕ) → capacity_at corner c ≡ Some n → c < length ks → v ≡ slice_index ks c + by → bounded_by corner (slice_set ks c v) ≡ enlarged (bounded_by corner ks) c by
bounded-enlarged [] ks c by n v at below is = cc
bounded-enlarged (d ∷ corner) [] c by n v at below is = absurd (omega arith)
bounded-enlarged (None ∷ corner) (k ∷ ks) zero by n v at below is = cc
bounded-enlarged (Some m ∷ corner) (k ∷ ks) zero by n v at below is = ap (λ (x : ℕ). Some x ∷ bounded_by corner ks) is
bounded-enlarged (d ∷ corner) (k ∷ ks) (suc c) by n v at below is = ap (λ (es : List (Option ℕ)). with_room d k ∷ es) (bounded-enlarged corner ks c by n v at (omega arith) is)

-- a vector that is the one of its distribution stays so
pub flat-set : (corner : List (Option ℕ)) (ks : List ℕ) (c n v : ℕ) → capacity_at corner c ≡ Some n → vector_of (bounded_by corner ks) ≡ ks → vector_of (bounded_by corner (slice_set ks c v)) ≡ slice_set ks c v
flat-set [] ks c n v at flat = cc
flat-set (d ∷ corner) [] c n v at flat = refl
flat-set (None ∷ corner) (k ∷ ks) zero n v at flat = cc
flat-set (Some m ∷ corner) (k ∷ ks) zero n v at flat =
    let rest : vector_of (bounded_by corner ks) ≡ ks = cc in ap (λ (js : List ℕ). v ∷ js) rest
flat-set (d ∷ corner) (k ∷ ks) (suc c) n v at flat =
    let first : room_in (with_room d k) ≡ k = cc in
    let rest : vector_of (bounded_by corner ks) ≡ ks = cc in
    ap (λ (x : ℕ). x ∷ vector_of (bounded_by corner (slice_set ks c v))) first ∙ ap (λ (js : List ℕ). k ∷ js) (flat-set corner ks c n v at rest)
