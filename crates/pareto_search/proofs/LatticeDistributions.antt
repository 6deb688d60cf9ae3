-- The vectors of the lattice are the distributions on the grid that are at least the corner, and need the storage of these.
use Rattle.std.proofs.Common.{◌≡◌, ℕ, ◌+◌, ◌-◌, ◌*◌, ◌≤◌, ◌<◌, Option, None, Some, List, [], ◌∷◌, ⊎_elim, refl, sym, ap, ◌∙◌, arith, mul-le-mul_right}
use Rattle.std.proofs.lemmas.Bool.{cases_lt}
use Rattle.sd_base.specs.Net.{Channel}
use Rattle.storage.specs.Distributions.{AtMost, IsDistribution, storage_of}
use Rattle.storage.specs.Steps.{IsOnGrid, step_of}
use Rattle.covers.specs.declared.lattice.Axis.{Axis}
use Rattle.covers.specs.Lattices.{IsOnAxis, IsOnLattice, storage_of as needed}
use Rattle.pareto_search.specs.inside.Vectors.{AreAxesOf, bounded_by, vector_of}
use Rattle.pareto_search.proofs.OnLattice.{both-on, first-on, none-left, none-on, rest-on}

pub bounded-distribution : (cs : List Channel) (corner : List (Option ℕ)) (axes : List Axis) (ks : List ℕ) → AreAxesOf cs corner axes → IsOnLattice axes ks → IsDistribution cs corner → IsDistribution cs (bounded_by corner ks)
bounded-distribution [] [] [] ks are on dist = tt
bounded-distribution (c ∷ cs) [] [] ks are on dist = dist
bounded-distribution (c ∷ cs) (d ∷ corner) (a ∷ axes) [] are on dist = absurd (none-left a axes on)
bounded-distribution (c ∷ cs) (None ∷ corner) (a ∷ axes) (k ∷ ks) are on dist = (dist.0, dist.1, bounded-distribution cs corner axes ks are.1 (rest-on a axes k ks on) dist.2)
bounded-distribution (c ∷ cs) (Some n ∷ corner) (a ∷ axes) (k ∷ ks) are on dist =
    let here : IsOnAxis a k = first-on a axes k ks on in
    let covers : c.tokens ≤ k = omega (arith, here.1, are.0.0, dist.2) in
    (dist.0, dist.1, covers, bounded-distribution cs corner axes ks are.1 (rest-on a axes k ks on) dist.3)
bounded-distribution cs corner axes ks are on dist = absurd are

on-step : (t s x m n k : ℕ) → n ≡ t + x * s → k ≡ n + m * s → k ≡ t + (x + m) * s
on-step t s x m n k low is = omega (arith, low, is)

pub bounded-grid : (cs : List Channel) (corner : List (Option ℕ)) (axes : List Axis) (ks : List ℕ) → AreAxesOf cs corner axes → IsOnLattice axes ks → IsOnGrid cs corner → IsOnGrid cs (bounded_by corner ks)
bounded-grid [] [] [] ks are on grid = tt
bounded-grid (c ∷ cs) [] [] ks are on grid = tt
bounded-grid (c ∷ cs) (d ∷ corner) (a ∷ axes) [] are on grid = absurd (none-left a axes on)
bounded-grid (c ∷ cs) (None ∷ corner) (a ∷ axes) (k ∷ ks) are on grid = bounded-grid cs corner axes ks are.1 (rest-on a axes k ks on) grid
bounded-grid (c ∷ cs) (Some n ∷ corner) (a ∷ axes) (k ∷ ks) are on grid =
    let here : IsOnAxis a k = first-on a axes k ks on in
    let is : k ≡ n + here.0 * step_of c = here.1 ∙ (ap (λ (x : ℕ). x + here.0 * a.step) are.0.0 ∙ ap (λ (s : ℕ). n + here.0 * s) are.0.1) in
    ((grid.0.0 + here.0, on-step c.tokens (step_of c) grid.0.0 here.0 n k grid.0.1 is), bounded-grid cs corner axes ks are.1 (rest-on a axes k ks on) grid.1)
bounded-grid cs corner axes ks are on grid = absurd are

pub bounded-most : (cs : List Channel) (corner : List (Option ℕ)) (axes : List Axis) (ks : List ℕ) → AreAxesOf cs corner axes → IsOnLattice axes ks → AtMost corner (bounded_by corner ks)
bounded-most [] [] [] ks are on = tt
bounded-most (c ∷ cs) [] [] ks are on = tt
bounded-most (c ∷ cs) (d ∷ corner) (a ∷ axes) [] are on = absurd (none-left a axes on)
bounded-most (c ∷ cs) (None ∷ corner) (a ∷ axes) (k ∷ ks) are on = bounded-most cs corner axes ks are.1 (rest-on a axes k ks on)
bounded-most (c ∷ cs) (Some n ∷ corner) (a ∷ axes) (k ∷ ks) are on =
    let here : IsOnAxis a k = first-on a axes k ks on in
    let more : n ≤ k = omega (arith, here.1, are.0.0) in
    (more, bounded-most cs corner axes ks are.1 (rest-on a axes k ks on))
bounded-most cs corner axes ks are on = absurd are

-- what the vector has for a self-loop, the distribution doesn't need
pub bounded-storage : (cs : List Channel) (corner : List (Option ℕ)) (axes : List Axis) (ks : List ℕ) → AreAxesOf cs corner axes → storage_of cs (bounded_by corner ks) ≤ needed axes ks
bounded-storage [] [] [] ks are = omega arith
bounded-storage (c ∷ cs) [] [] ks are = omega arith
bounded-storage (c ∷ cs) (d ∷ corner) (a ∷ axes) [] are = omega arith
bounded-storage (c ∷ cs) (None ∷ corner) (a ∷ axes) (k ∷ ks) are = omega (arith, bounded-storage cs corner axes ks are.1)
bounded-storage (c ∷ cs) (Some n ∷ corner) (a ∷ axes) (k ∷ ks) are =
    let row : k * a.size ≡ k * c.size = ap (λ (s : ℕ). k * s) are.0.2 in
    omega (arith, row, bounded-storage cs corner axes ks are.1)
bounded-storage cs corner axes ks are = absurd are

-- ---- back

-- of two capacities on the grid the greater is whole steps above the other
step-apart : (t s x y n k : ℕ) → n ≡ t + x * s → k ≡ t + y * s → n ≤ k → (m : ℕ) × (k ≡ n + m * s)
step-apart t s x y n k low high more =
    ⊎_elim
    (λ (less : y < x). let down : y * s ≤ x * s = mul-le-mul_right s (omega arith) in (0, level n k (omega (arith, low, high, more, down))))
    (λ (some : x ≤ y). let apart : y ≡ x + (y - x) = omega arith in (y - x, by t s x (y - x) n k low (high ∙ ap (λ (m : ℕ). t + m * s) apart)))
    (cases_lt y x)
  where
    level : (n k : ℕ) → k ≡ n → k ≡ n + 0 * s
    level n k same = omega (arith, same)

    by : (t s x d n k : ℕ) → n ≡ t + x * s → k ≡ t + (x + d) * s → k ≡ n + d * s
    by t s x d n k low high = omega (arith, low, high)

pub vector-on : (cs : List Channel) (corner ds : List (Option ℕ)) (axes : List Axis) → AreAxesOf cs corner axes → IsOnGrid cs corner → IsOnGrid cs ds → AtMost corner ds → IsOnLattice axes (vector_of ds)
vector-on [] [] [] [] are low high most = none-on
vector-on [] [] [] (a ∷ axes) are low high most = absurd are
vector-on [] [] (d ∷ ds) axes are low high most = absurd high
vector-on [] (e ∷ corner) ds axes are low high most = absurd low
vector-on (c ∷ cs) [] [] [] are low high most = none-on
vector-on (c ∷ cs) [] [] (a ∷ axes) are low high most = absurd are
vector-on (c ∷ cs) (None ∷ corner) (None ∷ ds) [] are low high most = absurd are
vector-on (c ∷ cs) (None ∷ corner) (None ∷ ds) (a ∷ axes) are low high most = both-on a axes 0 (vector_of ds) (0, omega (arith, are.0.0)) (vector-on cs corner ds axes are.1 low high most)
vector-on (c ∷ cs) (Some n ∷ corner) (Some k ∷ ds) [] are low high most = absurd are
vector-on (c ∷ cs) (Some n ∷ corner) (Some k ∷ ds) (a ∷ axes) are low high most =
    let apart : (m : ℕ) × (k ≡ n + m * step_of c) = step-apart c.tokens (step_of c) low.0.0 high.0.0 n k low.0.1 high.0.1 most.0 in
    let is : k ≡ a.corner + apart.0 * a.step = apart.1 ∙ (ap (λ (x : ℕ). x + apart.0 * step_of c) (sym are.0.0) ∙ ap (λ (s : ℕ). a.corner + apart.0 * s) (sym are.0.1)) in
    both-on a axes k (vector_of ds) (apart.0, is) (vector-on cs corner ds axes are.1 low.1 high.1 most.1)
vector-on cs corner ds axes are low high most = absurd most

pub vector-storage : (cs : List Channel) (corner ds : List (Option ℕ)) (axes : List Axis) → AreAxesOf cs corner axes → AtMost corner ds → needed axes (vector_of ds) ≡ storage_of cs ds
vector-storage [] [] [] [] are most = refl
vector-storage [] [] [] (a ∷ axes) are most = absurd are
vector-storage [] (e ∷ corner) ds [] are most = absurd are
vector-storage [] (e ∷ corner) ds (a ∷ axes) are most = absurd are
vector-storage (c ∷ cs) [] [] [] are most = refl
vector-storage (c ∷ cs) [] [] (a ∷ axes) are most = absurd are
vector-storage (c ∷ cs) (None ∷ corner) (None ∷ ds) [] are most = absurd are
vector-storage (c ∷ cs) (None ∷ corner) (None ∷ ds) (a ∷ axes) are most = omega (arith, vector-storage cs corner ds axes are.1 most)
vector-storage (c ∷ cs) (Some n ∷ corner) (Some k ∷ ds) [] are most = absurd are
vector-storage (c ∷ cs) (Some n ∷ corner) (Some k ∷ ds) (a ∷ axes) are most =
    let row : k * a.size ≡ k * c.size = ap (λ (s : ℕ). k * s) are.0.2 in
    omega (arith, row, vector-storage cs corner ds axes are.1 most.1)
vector-storage cs corner ds axes are most = absurd most
