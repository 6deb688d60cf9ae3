-- One pass round the loop as the code moves it back: turns, the two parts of a pass, the least start, and rows.
use Rattle.std.proofs.Common.{◌≡◌, ℕ, zero, suc, ◌+◌, ◌-◌, ◌*◌, ◌/◌, ◌%◌, ◌^◌, ◌≤◌, ◌<◌, List, [], ◌∷◌, ◌++◌, length, map, min, take, append_assoc, ⊎_elim, subst, sym, ap, ◌∙◌, arith, mod-lt, div-add-mod', mul-le-mul_right}
use Rattle.std.proofs.lemmas.Bool.{cases_lt}
use Rattle.std.proofs.lemmas.Nat.{le-div}
use Rattle.std.proofs.lemmas.List.{map_more, get_or_append_left, get_or-append-add, get_or-map, get_or_push, length-append, length-map, ext_get_or}
use Rattle.std.proofs.lemmas.List.FromFn.{length-map-range_with_len, get_or-map-range_with_len}
use Rattle.std.specs.Prelude.{slice_index, slice_index_or}
use Rattle.std.specs.List.{range_with_len}
use Rattle.sd_base.specs.Schedules.{count_of}
use Rattle.firing.specs.declared.table.LoopTable.{LoopTable}
use Rattle.periodic.specs.inside.Passes.{turns_back, back_start, back_at, AreParts, IsLeast, IsLeastStart, IsMoved}

-- ---- turns

-- the firing at place k stands in the pass
pub record InPass (before turn k : ℕ) : Type 0 where
  pub from : before ≤ turns_back before turn k * turn + k
  pub below : turns_back before turn k * turn + k < before + turn

pub in-pass : (before turn k : ℕ) → k < turn → InPass before turn k
in-pass before turn k below =
    let n : ℕ = before + (turn - 1 - k) in
    let split : n / turn * turn + n % turn ≡ n = div-add-mod' n turn in
    let rest : n % turn < turn = mod-lt n (omega arith) in
    record { from = omega arith; below = omega arith }

-- the later its place, the fewer whole turns lie before a firing
pub fewer-turns : (before turn k : ℕ) → k < turn → turns_back before turn k ≤ turns_back before turn 0
fewer-turns before turn k below =
    let at : InPass before turn k = in-pass before turn k below in
    le-div (turns_back before turn k) (before + (turn - 1 - 0)) turn (omega arith) (omega (arith, at.below))

pub turns-within : (before turn k period up turns : ℕ) → k < turn → turns ≡ turns_back before turn k → turns_back before turn 0 * period ≤ up → turns * period ≤ up
turns-within before turn k period up turns below same enough =
    let le : turns * period ≤ turns_back before turn 0 * period = mul-le-mul_right period (omega (arith, fewer-turns before turn k below)) in
    omega arith

fewer : (before turn k t p : ℕ) → before ≤ t * turn + k → p * turn + k < before + turn → p ≤ t
fewer before turn k t p from below = ⊎_elim
    (λ (more : t < p). absurd (
    let le : (t + 1) * turn ≤ p * turn = mul-le-mul_right turn (omega arith) in
    omega arith))
    (λ (h : p ≤ t). h)
    (cases_lt t p)

-- the one firing of a pass at a place
pub one-turn : (before turn k p : ℕ) → k < turn → before ≤ p * turn + k → p * turn + k < before + turn → turns_back before turn k ≡ p
one-turn before turn k p below from under =
    let at : InPass before turn k = in-pass before turn k below in
    let up : turns_back before turn k ≤ p = fewer before turn k p (turns_back before turn k) from at.below in
    let down : p ≤ turns_back before turn k = fewer before turn k (turns_back before turn k) p at.from under in
    omega arith

-- ---- the two parts of a pass

module _ (period before turns up : ℕ) (pass early late : List ℕ) (whole : pass ≡ early ++ late) (begun : before + length early ≡ turns * length pass) (some_late : 0 < length late) (enough : turns * period ≤ up) where
  long : length late + length early ≡ length pass
  long = omega (arith, ap length whole, length-append early late)

  -- the starts of the turn that begins in the pass have the first places
  late-start : (k : ℕ) → k < length late → slice_index late k + (up - turns * period) ≡ back_start period before pass up k
  unfolding back_start
  late-start k below =
      let from : before ≤ turns * length pass + k = omega (arith, begun) in
      let under : turns * length pass + k < before + length pass = omega (arith, begun, long) in
      let same : turns_back before (length pass) k ≡ turns = one-turn before (length pass) k turns (omega (arith, long)) from under in
      let place : turns * length pass + k - before ≡ length early + k = omega (arith, begun) in
      let read : slice_index pass (turns * length pass + k - before) ≡ slice_index late k =
      ap (slice_index pass) place ∙ (ap (λ (xs : List ℕ). slice_index xs (length early + k)) whole ∙ get_or-append-add early late k 0) in
      rw same (omega (arith, read, enough))

  -- and those before it the last ones, one turn earlier
  early-start : (p k : ℕ) → turns ≡ p + 1 → k < length early → slice_index early k + (up - turns * period + period) ≡ back_start period before pass up (length late + k)
  unfolding back_start
  early-start p k is below =
      let turn : turns * length pass ≡ p * length pass + length pass = rw is (omega arith) in
      let time : turns * period ≡ p * period + period = rw is (omega arith) in
      let from : before ≤ p * length pass + (length late + k) = omega (arith, begun, long, turn) in
      let under : p * length pass + (length late + k) < before + length pass = omega (arith, begun, long, turn) in
      let same : turns_back before (length pass) (length late + k) ≡ p = one-turn before (length pass) (length late + k) p (omega (arith, long)) from under in
      let place : p * length pass + (length late + k) - before ≡ k = omega (arith, begun, long, turn) in
      let read : slice_index pass (p * length pass + (length late + k) - before) ≡ slice_index early k =
      ap (slice_index pass) place ∙ (ap (λ (xs : List ℕ). slice_index xs k) whole ∙ get_or_append_left early late 0 k below) in
      rw same (omega (arith, read, enough, time))

  -- where there are any, some turn lies before the one that begins
  some-turn : 0 < length early → 0 < turns
  some-turn some = ⊎_elim
      (λ (h : 0 < turns). h)
      (λ (none : turns ≤ 0). absurd (
      let le : turns * length pass ≤ 0 * length pass = mul-le-mul_right (length pass) none in
      omega (arith, begun)))
      (cases_lt 0 turns)

  pub are-parts : AreParts period before pass up late (up - turns * period) early (up - turns * period + period)
  are-parts = record {
    whole = long;
    some_late = some_late;
    first = late-start;
    last = λ k below. early-start (turns - 1) k (omega (arith, some-turn (omega arith))) below;
  }

-- ---- the least of several numbers

least-same : (f g : ℕ → ℕ) (n x : ℕ) → IsLeast g n x → ((k : ℕ) → k < n → g k ≡ f k) → IsLeast f n x
least-same f g n x least same = record {
  below = λ k under. omega (arith, least.below k under, same k under);
  place = least.place;
  within = least.within;
  there = sym (same least.place least.within) ∙ least.there;
}

least-both : (f : ℕ → ℕ) (n m x y : ℕ) → IsLeast f n x → IsLeast (λ k. f (n + k)) m y → IsLeast f (n + m) (min x y)
least-both f n m x y first last = ⊎_elim
    (λ (less : y < x).
    let here : min x y ≡ y = omega arith in
    rw here (record { below = below y (omega arith) (omega arith); place = n + last.place; within = omega (arith, last.within); there = last.there }))
    (λ (more : x ≤ y).
    let here : min x y ≡ x = omega arith in
    rw here (record { below = below x (omega arith) more; place = first.place; within = omega (arith, first.within); there = first.there }))
    (cases_lt y x)
  where
    below : (z : ℕ) → z ≤ x → z ≤ y → (k : ℕ) → k < n + m → z ≤ f k
    below z low lower k under = ⊎_elim
        (λ (early : k < n). omega (arith, first.below k early))
        (λ (late : n ≤ k).
        let at : n + (k - n) ≡ k = omega arith in
        let here : f (n + (k - n)) ≡ f k = ap f at in
        omega (arith, last.below (k - n) (omega arith)))
        (cases_lt k n)

pub least-more : (f : ℕ → ℕ) (n x y : ℕ) → IsLeast f n x → y ≡ f n → IsLeast f (n + 1) (min x y)
least-more f n x y least next = least-both f n 1 x y least (record {
  below = λ k under. let here : f (n + k) ≡ f n = ap f (omega arith) in omega arith;
  place = 0;
  within = omega arith;
  there = ap f (omega arith) ∙ sym next;
})

pub least-late : (period before up late_up early_up x : ℕ) (pass late early : List ℕ) → AreParts period before pass up late late_up early early_up → length early ≡ 0 →
    IsLeast (λ k. slice_index late k + late_up) (length late) x → IsLeast (back_start period before pass up) (length pass) x
least-late period before up late_up early_up x pass late early parts none least =
    let same : length late ≡ length pass = omega (arith, parts.whole) in
    subst (λ (n : ℕ). IsLeast (back_start period before pass up) n x) same (least-same (back_start period before pass up) (λ (k : ℕ). slice_index late k + late_up) (length late) x least parts.first)

pub least-parts : (period before up late_up early_up x y : ℕ) (pass late early : List ℕ) → AreParts period before pass up late late_up early early_up →
    IsLeast (λ k. slice_index late k + late_up) (length late) x → IsLeast (λ k. slice_index early k + early_up) (length early) y → IsLeast (back_start period before pass up) (length pass) (min x y)
least-parts period before up late_up early_up x y pass late early parts first last =
    subst (λ (n : ℕ). IsLeast (back_start period before pass up) n (min x y)) parts.whole
    (least-both (back_start period before pass up) (length late) (length early) x y
    (least-same (back_start period before pass up) (λ (k : ℕ). slice_index late k + late_up) (length late) x first parts.first)
    (least-same (λ (k : ℕ). back_start period before pass up (length late + k)) (λ (k : ℕ). slice_index early k + early_up) (length early) y last parts.last))

-- ---- the rows

pub push-more : (f : ℕ → ℕ) (starts first old new : List ℕ) (i : ℕ) → i < length starts → old ≡ first ++ map f (take i starts) → new ≡ old ++ f (slice_index starts i) ∷ [] →
    new ≡ first ++ map f (take (i + 1) starts)
push-more f starts first old new i below so_far pushed =
    pushed
    ∙ (ap (λ (xs : List ℕ). xs ++ f (slice_index starts i) ∷ []) so_far
    ∙ (append_assoc first (map f (take i starts)) (f (slice_index starts i) ∷ []) ∙ ap (λ (xs : List ℕ). first ++ xs) (sym (map_more f starts i 0 below))))

small-pushed : (xs : List ℕ) (x most : ℕ) → ((k : ℕ) → slice_index xs k ≤ most) → x ≤ most → (k : ℕ) → slice_index (xs ++ x ∷ []) k ≤ most
small-pushed [] x most small here zero = here
small-pushed [] x most small here (suc k) = omega arith
small-pushed (y ∷ xs) x most small here zero = small 0
small-pushed (y ∷ xs) x most small here (suc k) = small-pushed xs x most (λ j. small (suc j)) here k

pub small-more : (old new : List ℕ) (x most : ℕ) → ((k : ℕ) → slice_index old k ≤ most) → x ≤ most → new ≡ old ++ x ∷ [] → (k : ℕ) → slice_index new k ≤ most
small-more old new x most small here pushed k = rw pushed (small-pushed old x most small here k)

joined : (f g h : ℕ → ℕ) (xs ys : List ℕ) (n : ℕ) → length xs + length ys ≡ n → ((k : ℕ) → k < length xs → f (slice_index xs k) ≡ h k) →
    ((k : ℕ) → k < length ys → g (slice_index ys k) ≡ h (length xs + k)) → map f xs ++ map g ys ≡ map h (range_with_len 0 n)
joined f g h xs ys n long first last =
    ext_get_or 0 (map f xs ++ map g ys) (map h (range_with_len 0 n)) (omega (arith, sums, length-map-range_with_len h 0 n)) (λ i below.
    let within : i < n = omega (arith, sums) in
    at i within ∙ sym (get_or-map-range_with_len h 0 n i i 0 within (omega arith)))
  where
    sums : length (map f xs ++ map g ys) ≡ n
    sums = omega (arith, length-append (map f xs) (map g ys), length-map xs f, length-map ys g)

    at : (i : ℕ) → i < n → slice_index (map f xs ++ map g ys) i ≡ h i
    at i within = ⊎_elim
        (λ (early : i < length xs).
        let here : i < length (map f xs) = omega (arith, length-map xs f) in
        get_or_append_left (map f xs) (map g ys) 0 i here ∙ (get_or-map f xs i 0 0 early ∙ first i early))
        (λ (late : length xs ≤ i).
        let k : ℕ = i - length xs in
        let place : length (map f xs) + k ≡ i = omega (arith, length-map xs f) in
        let under : k < length ys = omega arith in
        ap (slice_index (map f xs ++ map g ys)) (sym place) ∙ (get_or-append-add (map f xs) (map g ys) k 0 ∙ (get_or-map g ys k 0 0 under ∙ (last k under ∙ ap h (omega arith)))))
        (cases_lt i (length xs))

pub row-parts : (period before up late_up early_up down : ℕ) (pass late early : List ℕ) → AreParts period before pass up late late_up early early_up →
    map (λ s. s + late_up - down) late ++ map (λ s. s + early_up - down) early ≡ map (λ k. back_start period before pass up k - down) (range_with_len 0 (length pass))
row-parts period before up late_up early_up down pass late early parts =
    joined (λ (s : ℕ). s + late_up - down) (λ (s : ℕ). s + early_up - down) (λ (k : ℕ). back_start period before pass up k - down) late early (length pass) parts.whole
    (λ k below. ap (λ (x : ℕ). x - down) (parts.first k below))
    (λ k below. ap (λ (x : ℕ). x - down) (parts.last k below))

-- ---- by actor

-- what a method on a pass says, as said of the table
pub back-same : (table : LoopTable) (up a period before : ℕ) (pass : List ℕ) → period ≡ table.period → before ≡ slice_index table.before a → pass ≡ slice_index_or table.starts a [] →
    (k : ℕ) → back_start period before pass up k ≡ back_at table up a k
back-same table up a period before pass at_period at_before at_pass k =
    ap (λ (p : ℕ). back_start p before pass up k) at_period ∙ (ap (λ (b : ℕ). back_start table.period b pass up k) at_before ∙ ap (λ (q : List ℕ). back_start table.period (slice_index table.before a) q up k) at_pass)

pub starts-more : (table : LoopTable) (up n x y r : ℕ) (f : ℕ → ℕ) → ((k : ℕ) → f k ≡ back_at table up n k) → r ≡ count_of table.starts n → IsLeastStart table up n x → IsLeast f r y →
    IsLeastStart table up (n + 1) (min x y)
starts-more table up n x y r f same long early least = ⊎_elim
    (λ (less : y < x).
    let here : min x y ≡ y = omega arith in
    rw here (record { below = below y (omega arith) (omega arith); actor = n; place = least.place; known = omega arith; within = omega (arith, least.within); there = sym (same least.place) ∙ least.there }))
    (λ (more : x ≤ y).
    let here : min x y ≡ x = omega arith in
    rw here (record { below = below x (omega arith) more; actor = early.actor; place = early.place; known = omega (arith, early.known); within = early.within; there = early.there }))
    (cases_lt y x)
  where
    below : (z : ℕ) → z ≤ x → z ≤ y → (a k : ℕ) → a < n + 1 → k < count_of table.starts a → z ≤ back_at table up a k
    below z low lower a k actor under = ⊎_elim
        (λ (before : a < n). omega (arith, early.below a k before under))
        (λ (last : n ≤ a).
        let at : a ≡ n = omega arith in
        let here : k < count_of table.starts n = rw at at under in
        rw at (omega (arith, same k, least.below k (omega arith))))
        (cases_lt a n)

-- a fact of each row, with one more row
each-pushed : (P : ℕ → List ℕ → Type 0) (rows : List (List ℕ)) (row : List ℕ) (n : ℕ) → length rows ≡ n → ((a : ℕ) → a < n → P a (slice_index_or rows a [])) → P n row →
    (a : ℕ) → a < n + 1 → P a (slice_index_or (rows ++ row ∷ []) a [])
each-pushed P rows row n long each last a below = ⊎_elim
    (λ (early : a < n). subst (P a) (sym (get_or_append_left rows (row ∷ []) [] a (omega arith))) (each a early))
    (λ (late : n ≤ a).
    let at : a ≡ n = omega arith in
    rw at (subst (P n) (sym (get_or_push rows row [] n long)) last))
    (cases_lt a n)

-- the row that is made of a pass is as wanted
pub row-moved : (table : LoopTable) (up down n a r : ℕ) (f : ℕ → ℕ) (row : List ℕ) → IsLeastStart table up n down → a < n → ((k : ℕ) → f k ≡ back_at table up a k) →
    r ≡ count_of table.starts a → row ≡ map (λ k. f k - down) (range_with_len 0 r) → ((k : ℕ) → slice_index row k ≤ 2 ^ 100) → IsMoved table up down a row
row-moved table up down n a r f row least actor same long made small = record {
  count = ap length made ∙ (length-map-range_with_len (λ (k : ℕ). f k - down) 0 r ∙ long);
  moved = λ k below.
      let read : slice_index (map (λ k. f k - down) (range_with_len 0 r)) k ≡ f k - down = get_or-map-range_with_len (λ (j : ℕ). f j - down) 0 r k k 0 (omega arith) (omega arith) in
      let here : slice_index row k ≡ f k - down = ap (λ (xs : List ℕ). slice_index xs k) made ∙ read in
      omega (arith, same k, least.below a k actor below);
  small = small;
}

pub rows-more : (table : LoopTable) (up down n : ℕ) (old new : List (List ℕ)) (row : List ℕ) → length old ≡ n → ((a : ℕ) → a < n → IsMoved table up down a (slice_index_or old a [])) →
    IsMoved table up down n row → new ≡ old ++ row ∷ [] → (a : ℕ) → a < n + 1 → IsMoved table up down a (slice_index_or new a [])
rows-more table up down n old new row long each last pushed a below = rw pushed (each-pushed (IsMoved table up down) old row n long each last a below)
