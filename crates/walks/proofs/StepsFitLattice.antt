-- A step is at least 1, fits where one lacks, and leads on to the lattice; where none lacks, the goal has no more.
use Rattle.std.proofs.Common.{◌≡◌, ℕ, zero, suc, ◌+◌, ◌-◌, ◌*◌, ◌/◌, ◌≤◌, ◌<◌, ⊎_elim, List, [], ◌∷◌, length, arith}
use Rattle.std.specs.Prelude.{slice_index, slice_index_or}
use Rattle.std.proofs.lemmas.Bool.{cases_lt}
use Rattle.std.proofs.lemmas.List.{get_or-map, get_or_past}
use Rattle.std.proofs.lemmas.Nat.{le-div}
use Rattle.std.proofs.Math.Nat.{mul-div-le, mul-le-mul_left, mul-le-mul_right}
use Rattle.covers.specs.declared.lattice.Axis.{Axis}
use Rattle.covers.specs.Lattices.{IsOnAxis, IsOnLattice}
use Rattle.covers.proofs.ChangesKeepOrder.{set-on}
use Rattle.walks.specs.Walks.{step_at, with_step}
use Rattle.walks.specs.inside.Lacks.{lack_of}

pub step-here : (axes : List Axis) (c : ℕ) (d : Axis) → c < length axes → step_at axes c ≡ (slice_index_or axes c d).step
step-here axes c d below = get_or-map (λ (a : Axis). a.step) axes c d 1 below

pub step-past : (axes : List Axis) (c : ℕ) → length axes ≤ c → step_at axes c ≡ 1
step-past [] c past = get_or_past [] c 1 (omega arith)
step-past (a ∷ axes) zero past = absurd (omega arith)
step-past (a ∷ axes) (suc c) past = step-past axes c (omega arith)

pub step-some : (axes : List Axis) (c : ℕ) → 1 ≤ step_at axes c
step-some [] c = omega arith
step-some (a ∷ axes) zero = a.steps
step-some (a ∷ axes) (suc c) = step-some axes c

-- where a step lacks, it fits
pub lack-fits : (axes : List Axis) (goal ks : List ℕ) (c : ℕ) → 1 ≤ lack_of axes goal ks c → slice_index ks c + step_at axes c ≤ slice_index goal c
lack-fits axes goal ks c lacks = fits (slice_index goal c) (slice_index ks c) (step_at axes c) (step-some axes c) lacks
  where
    fits : (g k s : ℕ) → 1 ≤ s → 1 ≤ (g - k) / s → k + s ≤ g
    fits g k s some one =
        let room : s * 1 ≤ s * ((g - k) / s) = mul-le-mul_left s one in
        let most : s * ((g - k) / s) ≤ g - k = mul-div-le (g - k) s in
        omega (arith, some, room, most)

-- a channel on which a step fits is one of the lattice
fits-within : (axes : List Axis) (goal : List ℕ) (c k : ℕ) → length goal ≡ length axes → k + step_at axes c ≤ slice_index goal c → c < length axes
fits-within axes goal c k long fits =
    ⊎_elim
    (λ (below : c < length axes). below)
    (λ (past : length axes ≤ c).
    let none : slice_index goal c ≡ 0 = get_or_past goal c 0 (omega (arith, past, long)) in
    absurd (omega (arith, none, fits, step-some axes c)))
    (cases_lt c (length axes))

next-on : (axes : List Axis) (ks : List ℕ) (c : ℕ) → c < length axes → IsOnLattice axes ks → (a : Axis) → IsOnAxis (slice_index_or axes c a) (slice_index ks c + step_at axes c)
next-on axes ks c below on a =
    let here : IsOnAxis (slice_index_or axes c a) (slice_index ks c) = on.each c a below in
    (here.0 + 1, more (slice_index ks c) (slice_index_or axes c a).corner here.0 (slice_index_or axes c a).step (step_at axes c) here.1 (step-here axes c a below))
  where
    more : (k corner n s t : ℕ) → k ≡ corner + n * s → t ≡ s → k + t ≡ corner + (n + 1) * s
    more k corner n s t is same = omega (arith, is, same)

-- a step leads from the lattice to the lattice
pub step-on : (axes : List Axis) (goal ks : List ℕ) (c : ℕ) → IsOnLattice axes goal → IsOnLattice axes ks → slice_index ks c + step_at axes c ≤ slice_index goal c → IsOnLattice axes (with_step axes ks c)
step-on axes goal ks c there here fits =
    set-on axes ks c (slice_index ks c + step_at axes c) here (next-on axes ks c (fits-within axes goal c (slice_index ks c) there.long fits) here)

some_axis : Axis
some_axis = record { corner = 0; step = 1; size = 1; steps = omega arith; some_size = omega arith }

-- where no step lacks, the goal has no more
pub none-lacks : (axes : List Axis) (goal ks : List ℕ) (c : ℕ) → IsOnLattice axes goal → IsOnLattice axes ks → lack_of axes goal ks c ≡ 0 → slice_index goal c ≤ slice_index ks c
none-lacks axes goal ks c there here none =
    ⊎_elim
    (λ (below : c < length axes).
    let far : IsOnAxis (slice_index_or axes c some_axis) (slice_index goal c) = there.each c some_axis below in
    let near : IsOnAxis (slice_index_or axes c some_axis) (slice_index ks c) = here.each c some_axis below in
    apart (slice_index goal c) (slice_index ks c) (slice_index_or axes c some_axis).corner far.0 near.0 (slice_index_or axes c some_axis).step (step_at axes c) (step-some axes c) (step-here axes c some_axis below) far.1 near.1 none)
    (λ (past : length axes ≤ c).
    let nothing : slice_index goal c ≡ 0 = get_or_past goal c 0 (omega (arith, past, there.long)) in
    omega (arith, nothing))
    (cases_lt c (length axes))
  where
    apart : (g k corner m n s t : ℕ) → 1 ≤ t → t ≡ s → g ≡ corner + m * s → k ≡ corner + n * s → (g - k) / t ≡ 0 → g ≤ k
    apart g k corner m n s t some same far near none =
        ⊎_elim
        (λ (more : n < m).
        let rows : (n + 1) * s ≤ m * s = mul-le-mul_right s (omega (arith, more)) in
        let room : 1 * t ≤ g - k = omega (arith, rows, far, near, same) in
        let one : 1 ≤ (g - k) / t = le-div 1 (g - k) t some room in
        absurd (omega (arith, one, none)))
        (λ (less : m ≤ n).
        let rows : m * s ≤ n * s = mul-le-mul_right s less in
        omega (arith, rows, far, near))
        (cases_lt n m)
