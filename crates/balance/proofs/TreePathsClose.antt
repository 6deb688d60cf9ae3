-- The closed walk over a channel that doesn't keep the ratios, and its ratio.
use Rattle.std.proofs.Common.{◌≡◌, ℕ, ◌*◌, ◌<◌, true, Some, List, ◌∷◌, ◌++◌, sym, refl, ap, subst, ◌∙◌, arith}
use Rattle.std.specs.Prelude.{slice_get}
use Rattle.std.proofs.Math.Nat.{eq_of_mul-eq-mul_right, mul-pos}
use Rattle.balance.specs.declared.walk.WalkStep.{WalkStep}
use Rattle.balance.specs.declared.walk.Link.{Link}
use Rattle.balance.specs.Walks.{IsLinkWalk, IsLowest, walk_num, walk_den, turned}
use Rattle.balance.specs.Repetition.{IsTreePath}
use Rattle.balance.specs.inside.Search.{HasSums}
use Rattle.balance.proofs.WalksJoinAndTurn.{parts_pos, walk-append, walk_split, same_end, walk-turned, num-append, den-append, num-turned, den-turned}

-- a tree path is a walk
pub tree_walk : (ls : List Link) (a b : ℕ) (path : List WalkStep) → IsTreePath ls a b path → IsLinkWalk ls a path b
tree_walk ls a b path t =
    let (v, to_v, back) = walk_split ls t.common t.back 0 a t.from.0 in
    let (u, to_u, on) = walk_split ls t.common t.on 0 b t.to.0 in
    let same : v ≡ u = same_end ls t.common 0 v u to_v to_u in
    let whole : IsLinkWalk ls a (turned t.back ++ t.on) b =
    walk-append ls (turned t.back) t.on a v b (walk-turned ls t.back v a back) (subst (λ n. IsLinkWalk ls n t.on b) (sym same) on) in
    subst (λ (p : List WalkStep). IsLinkWalk ls a p b) (sym t.path_is) whole

pub closed_walk : (ls : List Link) (c : ℕ) (l : Link) (path : List WalkStep) → slice_get ls c ≡ Some l → IsTreePath ls l.target l.source path
    → IsLinkWalk ls l.source (record { channel = c; forward = true } ∷ path) l.source
closed_walk ls c l path is tree = (l, is, refl, tree_walk ls l.target l.source path tree)

-- the parts of the closed walk's ratio, against those of its ends' ratios
crossed : (M T ns ds nt dt Nc Dc Nb Db No Do : ℕ) → nt * (Dc * Db) ≡ dt * (Nc * Nb) → ns * (Dc * Do) ≡ ds * (Nc * No) → 0 < Nc → 0 < Dc
    → (M * (Db * No)) * (nt * T * ds) ≡ (T * (Nb * Do)) * (ns * M * dt)
crossed M T ns ds nt dt Nc Dc Nb Db No Do et es sn sd =
    let left : (M * (Db * No)) * (nt * T * ds) * (Dc * Nc) ≡ (T * (Nb * Do)) * (ns * M * dt) * (Dc * Nc) =
    omega (arith, ap (λ x. x * (M * T * ds * Nc * No)) et, ap (λ x. x * (M * T * dt * Nc * Nb)) es) in
    eq_of_mul-eq-mul_right (Dc * Nc) (mul-pos sd sn) ((M * (Db * No)) * (nt * T * ds)) ((T * (Nb * Do)) * (ns * M * dt)) left

-- a ratio in lowest terms is in lowest terms of each equal ratio
lowest_of_equal : (n d X Y N D : ℕ) → IsLowest n d X Y → N * Y ≡ D * X → 0 < X → IsLowest n d N D
lowest_of_equal n d X Y N D (e, coprime, some) same sx =
    let cross : n * D * X ≡ d * N * X = omega (arith, ap (λ t. t * N) e, ap (λ t. t * n) same) in
    (eq_of_mul-eq-mul_right X sx (n * D) (d * N) cross, coprime, some)

pub closed_ratio : (ls : List Link) → HasSums ls → (c : ℕ) (l : Link) (path : List WalkStep) → slice_get ls c ≡ Some l → (t : IsTreePath ls l.target l.source path)
    → (ns ds nt dt num den : ℕ) → 0 < ns → 0 < dt
    → ns * walk_den ls (t.common ++ t.on) ≡ ds * walk_num ls (t.common ++ t.on)
    → nt * walk_den ls (t.common ++ t.back) ≡ dt * walk_num ls (t.common ++ t.back)
    → IsLowest num den (ns * l.made * dt) (nt * l.taken * ds)
    → IsLowest num den (walk_num ls (record { channel = c; forward = true } ∷ path)) (walk_den ls (record { channel = c; forward = true } ∷ path))
closed_ratio ls sums c l path is t ns ds nt dt num den sns sdt es et low =
    let pc = parts_pos ls sums t.common in
    let es' : ns * (walk_den ls t.common * walk_den ls t.on) ≡ ds * (walk_num ls t.common * walk_num ls t.on) =
    ap (λ x. ns * x) (sym (den-append ls t.common t.on)) ∙ es ∙ ap (λ x. ds * x) (num-append ls t.common t.on) in
    let et' : nt * (walk_den ls t.common * walk_den ls t.back) ≡ dt * (walk_num ls t.common * walk_num ls t.back) =
    ap (λ x. nt * x) (sym (den-append ls t.common t.back)) ∙ et ∙ ap (λ x. dt * x) (num-append ls t.common t.back) in
    let cross = crossed l.made l.taken ns ds nt dt (walk_num ls t.common) (walk_den ls t.common) (walk_num ls t.back) (walk_den ls t.back) (walk_num ls t.on) (walk_den ls t.on)
    et' es' pc.0 pc.1 in
    let num_is : walk_num ls path ≡ walk_den ls t.back * walk_num ls t.on =
    ap (walk_num ls) t.path_is ∙ num-append ls (turned t.back) t.on ∙ ap (λ x. x * walk_num ls t.on) (num-turned ls t.back) in
    let den_is : walk_den ls path ≡ walk_num ls t.back * walk_den ls t.on =
    ap (walk_den ls) t.path_is ∙ den-append ls (turned t.back) t.on ∙ ap (λ x. x * walk_den ls t.on) (den-turned ls t.back) in
    let big : 0 < ns * l.made * dt = mul-pos (mul-pos sns (sums.made c l is)) sdt in
    let found : IsLowest num den (l.made * (walk_den ls t.back * walk_num ls t.on)) (l.taken * (walk_num ls t.back * walk_den ls t.on)) =
    lowest_of_equal num den (ns * l.made * dt) (nt * l.taken * ds) (l.made * (walk_den ls t.back * walk_num ls t.on)) (l.taken * (walk_num ls t.back * walk_den ls t.on)) low cross big in
    rw is (subst (λ x. IsLowest num den (l.made * x) (l.taken * walk_den ls path)) (sym num_is)
    (subst (λ y. IsLowest num den (l.made * (walk_den ls t.back * walk_num ls t.on)) (l.taken * y)) (sym den_is) found))

-- equal parts only where the two products are equal
pub parts_equal : (n d X Y : ℕ) → IsLowest n d X Y → n ≡ d → Y ≡ X
parts_equal n d X Y (e, coprime, some) same =
    let e' : Y * d ≡ X * d = omega (arith, e, ap (λ t. t * Y) same) in
    eq_of_mul-eq-mul_right d some Y X e'
