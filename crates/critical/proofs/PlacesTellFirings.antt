-- The firings of a pass have places in one list, actor by actor, and two firings at one place are one.
use Rattle.std.proofs.Common.{◌≡◌, ℕ, zero, suc, ◌+◌, ◌-◌, ◌≤◌, ◌<◌, List, [], length, ⊎_elim, subst, sym, refl, ap, ◌∙◌, arith, add-one}
use Rattle.std.specs.Prelude.{slice_index, slice_index_or}
use Rattle.std.proofs.lemmas.Bool.{cases_lt}
use Rattle.std.proofs.lemmas.List.{get_or_default}
use Rattle.firing.specs.declared.table.LoopTable.{LoopTable}
use Rattle.critical.specs.declared.cycle.FiringNo.{FiringNo}
use Rattle.sd_base.specs.Schedules.{count_of}
use Rattle.critical.specs.inside.Trails.{offset_of, IsShort, IsSecond, second_of, class_at}

pub offset-next : (rows : List (List ℕ)) (n : ℕ) → offset_of rows (n + 1) ≡ offset_of rows n + count_of rows n
offset-next rows n = rw add-one refl

offset-along : (rows : List (List ℕ)) (m d : ℕ) → offset_of rows m ≤ offset_of rows (d + m)
offset-along rows m zero = let e : 0 + m ≡ m = omega arith in rw e (omega arith)
offset-along rows m (suc d) = let e : suc d + m ≡ (d + m) + 1 = omega arith in rw e (omega (arith, offset-along rows m d, offset-next rows (d + m)))

pub offset-rise : (rows : List (List ℕ)) (m n : ℕ) → m ≤ n → offset_of rows m ≤ offset_of rows n
offset-rise rows m n le = let e : (n - m) + m ≡ n = omega arith in subst (λ (k : ℕ). offset_of rows m ≤ offset_of rows k) e (offset-along rows m (n - m))

-- the first n offsets
pub record OffsetsBelow (rows : List (List ℕ)) (offsets : List ℕ) (n : ℕ) : Type 0 where
  pub long : length offsets ≡ n
  pub each : (a : ℕ) → a < n → slice_index offsets a ≡ offset_of rows a

-- a firing has its place within the list
pub class-below : (table : LoopTable) (x : FiringNo) → IsSecond table x → class_at table x < offset_of table.starts (length table.starts)
class-below table x second =
    let next : offset_of table.starts (x.actor + 1) ≤ offset_of table.starts (length table.starts) = offset-rise table.starts (x.actor + 1) (length table.starts) (omega (arith, second.actor)) in
    omega (arith, offset-next table.starts x.actor, second.from, second.below)

actors-le : (table : LoopTable) (x y : FiringNo) → IsSecond table x → IsSecond table y → class_at table x ≡ class_at table y → x.actor ≤ y.actor
actors-le table x y one other same = ⊎_elim
    (λ (more : y.actor < x.actor). absurd (
    let next : offset_of table.starts (y.actor + 1) ≤ offset_of table.starts x.actor = offset-rise table.starts (y.actor + 1) x.actor (omega arith) in
    omega (arith, offset-next table.starts y.actor, other.from, other.below)))
    (λ (h : x.actor ≤ y.actor). h) (cases_lt y.actor x.actor)

pub firing-same : (x y : FiringNo) → x.actor ≡ y.actor → x.number ≡ y.number → x ≡ y
firing-same x y actor number = λ i. record { actor = actor i; number = number i }

-- two firings at one place are one
pub class-one : (table : LoopTable) (x y : FiringNo) → IsSecond table x → IsSecond table y → class_at table x ≡ class_at table y → x ≡ y
class-one table x y one other same =
    let actor : x.actor ≡ y.actor = omega (arith, actors-le table x y one other same, actors-le table y x other one (sym same)) in
    let offset : offset_of table.starts x.actor ≡ offset_of table.starts y.actor = ap (offset_of table.starts) actor in
    let begins : second_of table x.actor ≡ second_of table y.actor = ap (second_of table) actor in
    firing-same x y actor (omega (arith, one.from, other.from))

-- a row read with another default has as many entries
pub row-many : (rows : List (List ℕ)) (row : List ℕ) (n many : ℕ) → n < length rows → row ≡ slice_index_or rows n row → many ≡ length row → many ≡ count_of rows n
row-many rows row n many below read is = is ∙ (ap length read ∙ ap length (get_or_default rows n row [] below))

pub sum-next : (table : LoopTable) (n sum many : ℕ) → IsShort table → n < length table.starts → sum ≡ offset_of table.starts n → many ≡ count_of table.starts n → (sum + many ≡ offset_of table.starts (n + 1)) × (sum + many ≤ 4000000)
sum-next table n sum many short below is more =
    let le : offset_of table.starts (n + 1) ≤ offset_of table.starts (length table.starts) = offset-rise table.starts (n + 1) (length table.starts) (omega arith) in
    (omega (arith, offset-next table.starts n), omega (arith, offset-next table.starts n, short.all))
