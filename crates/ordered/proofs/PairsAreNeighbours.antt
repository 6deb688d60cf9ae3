-- The pairs that are gone through are those of neighbouring entries, each once, and give the order channels.
use Rattle.std.proofs.Common.{◌≡◌, ℕ, zero, suc, ◌+◌, ◌-◌, ◌*◌, ◌≤◌, ◌<◌, Bool, true, false, List, [], ◌∷◌, ◌++◌, length, map, take, sym, refl, ap, ◌∙◌, arith, eq-eqb, eqb-true, append-nil}
use Rattle.std.proofs.Math.Seq.{take-append_seam}
use Rattle.std.specs.Prelude.{pred, not, slice_index, slice_index_or, ◌==◌, ◌&&◌, ◌||◌, if◌then◌else◌}
use Rattle.std.specs.List.{list_any}
use Rattle.std.specs.Cmp.{first_so, second_so}
use Rattle.std.proofs.lemmas.List.{take_all}
use Rattle.std.proofs.lemmas.List.Folds.{list_any-append}
use Rattle.sd_base.specs.declared.role.Role.TheVariants.{Order}
use Rattle.sd_base.specs.Net.{Channel}
use Rattle.sd_base.proofs.ByteTestsDecide.{or-none}
use Rattle.ordered.specs.Orders.{entry_at, one_if}
use Rattle.ordered.specs.OrderedNets.{picked, before, leads, led, order_channel, order_channels_from}
use Rattle.ordered.specs.inside.Steps.{pairs_from}
use Rattle.ordered.proofs.CountsRepeatByTurns.{many-zero, many-hit, many-miss}
use Rattle.ordered.proofs.RatesCountEntries.{entry-turns}
use Rattle.ordered.proofs.FiringsHaveEntries.{entry-here}

pub before-first : (order : List ℕ) (place : ℕ) → place < length order → place ≡ 0 → slice_index order (length order - 1) ≡ entry_at order (before order place)
before-first order place below first =
    let e : place + pred (length order) ≡ length order - 1 = omega arith in
    rw e (sym (entry-here order (length order - 1) (omega arith)))

pub before-later : (order : List ℕ) (place : ℕ) → place < length order → (place ≡ 0 → ⊥) → slice_index order (place - 1) ≡ entry_at order (before order place)
before-later order place below later =
    let e : place + pred (length order) ≡ (place - 1) + 1 * length order = omega arith in
    rw e (sym (entry-turns order (place - 1) 1 ∙ entry-here order (place - 1) (omega arith)))

-- one entry more among those of an actor
pub picked-more : (order : List ℕ) (a : ℕ) (test : ℕ → Bool) (m n : ℕ) →
    picked order a test m (n + 1) ≡ picked order a test m n ++ (if entry_at order (m + n) == a then one_if (test (m + n)) ∷ [] else [])
picked-more order a test m zero =
    let e : m + 0 ≡ m = omega arith in let f : 0 + 1 ≡ suc 0 = omega arith in rw (e, f) refl
picked-more order a test m (suc n) =
    let e : m + suc n ≡ suc m + n = omega arith in let f : suc n + 1 ≡ suc (n + 1) = omega arith in
    rw (e, f) (at (entry_at order m == a) (picked-more order a test (suc m) n))
  where
    at : (b : Bool) → picked order a test (suc m) (n + 1) ≡ picked order a test (suc m) n ++ (if entry_at order (suc m + n) == a then one_if (test (suc m + n)) ∷ [] else [])
        → (if b then one_if (test m) ∷ picked order a test (suc m) (n + 1) else picked order a test (suc m) (n + 1))
        ≡ (if b then one_if (test m) ∷ picked order a test (suc m) n else picked order a test (suc m) n) ++ (if entry_at order (suc m + n) == a then one_if (test (suc m + n)) ∷ [] else [])
    at true rest = ap (λ (xs : List ℕ). one_if (test m) ∷ xs) rest
    at false rest = rest

-- one pair more among those that come for the first time
pub pairs-more : (order : List ℕ) (m n : ℕ) →
    pairs_from order m (n + 1) ≡ pairs_from order m n ++ (if led order (entry_at order (m + n)) (entry_at order (suc (m + n))) (m + n) == 0 then (entry_at order (m + n), entry_at order (suc (m + n))) ∷ [] else [])
pairs-more order m zero =
    let e : m + 0 ≡ m = omega arith in rw e refl
pairs-more order m (suc n) =
    let e : m + suc n ≡ suc m + n = omega arith in let f : suc n + 1 ≡ suc (n + 1) = omega arith in
    rw (e, f) (at (led order (entry_at order m) (entry_at order (suc m)) m == 0) (pairs-more order (suc m) n))
  where
    at : (b : Bool) → pairs_from order (suc m) (n + 1) ≡ pairs_from order (suc m) n ++ (if led order (entry_at order (suc m + n)) (entry_at order (suc (suc m + n))) (suc m + n) == 0 then (entry_at order (suc m + n), entry_at order (suc (suc m + n))) ∷ [] else [])
        → (if b then (entry_at order m, entry_at order (suc m)) ∷ pairs_from order (suc m) (n + 1) else pairs_from order (suc m) (n + 1))
        ≡ (if b then (entry_at order m, entry_at order (suc m)) ∷ pairs_from order (suc m) n else pairs_from order (suc m) n) ++ (if led order (entry_at order (suc m + n)) (entry_at order (suc (suc m + n))) (suc m + n) == 0 then (entry_at order (suc m + n), entry_at order (suc (suc m + n))) ∷ [] else [])
    at true rest = ap (λ (xs : List (ℕ × ℕ)). (entry_at order m, entry_at order (suc m)) ∷ xs) rest
    at false rest = rest

-- the pairs of some entries are the first ones
pub pairs-front : (order : List ℕ) (m n r : ℕ) → (rest : List (ℕ × ℕ)) × (pairs_from order m (n + r) ≡ pairs_from order m n ++ rest)
pairs-front order m zero r = (pairs_from order m r, let e : 0 + r ≡ r = omega arith in rw e refl)
pairs-front order m (suc n) r =
    let e : suc n + r ≡ suc (n + r) = omega arith in
    let rest = pairs-front order (suc m) n r in
    (rest.0, rw e (at (led order (entry_at order m) (entry_at order (suc m)) m == 0) rest.0 rest.1))
  where
    at : (b : Bool) (rest : List (ℕ × ℕ)) → pairs_from order (suc m) (n + r) ≡ pairs_from order (suc m) n ++ rest
        → (if b then (entry_at order m, entry_at order (suc m)) ∷ pairs_from order (suc m) (n + r) else pairs_from order (suc m) (n + r))
        ≡ (if b then (entry_at order m, entry_at order (suc m)) ∷ pairs_from order (suc m) n else pairs_from order (suc m) n) ++ rest
    at true rest is = ap (λ (xs : List (ℕ × ℕ)). (entry_at order m, entry_at order (suc m)) ∷ xs) is
    at false rest is = is

-- each entry has one at most
pub pairs-few : (order : List ℕ) (m n : ℕ) → length (pairs_from order m n) ≤ n
pairs-few order m zero = omega arith
pairs-few order m (suc n) = at (led order (entry_at order m) (entry_at order (suc m)) m == 0) (pairs-few order (suc m) n)
  where
    at : (b : Bool) → length (pairs_from order (suc m) n) ≤ n
        → length (if b then (entry_at order m, entry_at order (suc m)) ∷ pairs_from order (suc m) n else pairs_from order (suc m) n) ≤ suc n
    at true few = omega arith
    at false few = omega arith

-- as many as there are entries, they are all
pub pairs-all : (order : List ℕ) (n : ℕ) → n ≡ length order → take n (pairs_from order 0 (length order)) ≡ pairs_from order 0 (length order)
pairs-all order n many = take_all n (pairs_from order 0 (length order)) (omega (arith, many, pairs-few order 0 (length order)))

-- where those of some entries are as many as are wanted, they are all that are
pub pairs-cut : (order : List ℕ) (n most : ℕ) → n ≤ length order → length (pairs_from order 0 n) ≡ most → pairs_from order 0 n ≡ take most (pairs_from order 0 (length order))
pairs-cut order n most below many =
    let e : n + (length order - n) ≡ length order = omega arith in
    let split : pairs_from order 0 (n + (length order - n)) ≡ pairs_from order 0 n ++ (pairs-front order 0 n (length order - n)).0 = (pairs-front order 0 n (length order - n)).1 in
    sym (ap (λ (k : ℕ). take k (pairs_from order 0 (length order))) (sym many)
    ∙ (ap (take (length (pairs_from order 0 n))) (rw e at split) ∙ take-append_seam (pairs_from order 0 n) (pairs-front order 0 n (length order - n)).0))

not-zero : (k : ℕ) → (suc k == 0) ≡ false
not-zero k = at (suc k == 0) refl
  where
    at : (b : Bool) → (suc k == 0) ≡ b → b ≡ false
    at true is = let e : suc k ≡ 0 = eqb-true (suc k) 0 is in absurd (omega arith)
    at false is = refl

-- a pair is known by entry m just where it came before
pub pair-known : (order : List ℕ) (x y m : ℕ) → list_any (λ (p : ℕ × ℕ). (p.0 == x) && (p.1 == y)) (pairs_from order 0 m) ≡ not (led order x y m == 0)
pair-known order x y zero = rw many-zero refl
pair-known order x y (suc m) =
    let f : suc m ≡ m + 1 = omega arith in
    let z : 0 + m ≡ m = omega arith in
    let more : pairs_from order 0 (m + 1) ≡ pairs_from order 0 m ++ (if led order (entry_at order m) (entry_at order (suc m)) m == 0 then (entry_at order m, entry_at order (suc m)) ∷ [] else []) = rw z at (pairs-more order 0 m) in
    ap (λ (n : ℕ). list_any (λ (p : ℕ × ℕ). (p.0 == x) && (p.1 == y)) (pairs_from order 0 n)) f ∙ (ap (list_any (λ (p : ℕ × ℕ). (p.0 == x) && (p.1 == y))) more
    ∙ (list_any-append (λ (p : ℕ × ℕ). (p.0 == x) && (p.1 == y)) (pairs_from order 0 m) (if led order (entry_at order m) (entry_at order (suc m)) m == 0 then (entry_at order m, entry_at order (suc m)) ∷ [] else [])
    ∙ (ap (λ (b : Bool). b || list_any (λ (p : ℕ × ℕ). (p.0 == x) && (p.1 == y)) (if led order (entry_at order m) (entry_at order (suc m)) m == 0 then (entry_at order m, entry_at order (suc m)) ∷ [] else [])) (pair-known order x y m)
    ∙ at (leads order x y m) refl)))
  where
    hit : leads order x y m ≡ true → (b : Bool) → (led order x y m == 0) ≡ b
        → (not b || list_any (λ (p : ℕ × ℕ). (p.0 == x) && (p.1 == y)) (if b then (x, y) ∷ [] else [])) ≡ not (led order x y (suc m) == 0)
    hit is true none =
        let more = many-hit (leads order x y) m is in
        let zero' = eqb-true (led order x y m) 0 none in
        let e : led order x y (suc m) ≡ 1 = omega arith in
        rw (e, eq-eqb x x refl, eq-eqb y y refl) refl
    hit is false some =
        let more = many-hit (leads order x y) m is in
        let e : led order x y (suc m) ≡ suc (led order x y m) = omega arith in
        rw (e, not-zero (led order x y m)) refl

    one-miss : (b : Bool) → leads order x y m ≡ false → list_any (λ (p : ℕ × ℕ). (p.0 == x) && (p.1 == y)) (if b then (entry_at order m, entry_at order (suc m)) ∷ [] else []) ≡ false
    one-miss true is = rw is refl
    one-miss false is = refl

    at : (b : Bool) → leads order x y m ≡ b
        → (not (led order x y m == 0) || list_any (λ (p : ℕ × ℕ). (p.0 == x) && (p.1 == y)) (if led order (entry_at order m) (entry_at order (suc m)) m == 0 then (entry_at order m, entry_at order (suc m)) ∷ [] else [])) ≡ not (led order x y (suc m) == 0)
    at true is =
        let p : entry_at order m ≡ x = eqb-true (entry_at order m) x (first_so (entry_at order m == x) (entry_at order (suc m) == y) is) in
        let q : entry_at order (suc m) ≡ y = eqb-true (entry_at order (suc m)) y (second_so (entry_at order m == x) (entry_at order (suc m) == y) is) in
        rw (p, q) (hit is (led order x y m == 0) refl)
    at false is =
        let more : led order x y (suc m) ≡ led order x y m = many-miss (leads order x y) m is in
        rw (one-miss (led order (entry_at order m) (entry_at order (suc m)) m == 0) is, more) (or-none (not (led order x y m == 0)))

-- the order channels are those of the pairs
pub channels-of-pairs : (order : List ℕ) (m n : ℕ) → order_channels_from order m n ≡ map (λ (p : ℕ × ℕ). order_channel order p.0 p.1) (pairs_from order m n)
channels-of-pairs order m zero = refl
channels-of-pairs order m (suc n) = at (led order (entry_at order m) (entry_at order (suc m)) m == 0) (channels-of-pairs order (suc m) n)
  where
    at : (b : Bool) → order_channels_from order (suc m) n ≡ map (λ (p : ℕ × ℕ). order_channel order p.0 p.1) (pairs_from order (suc m) n)
        → (if b then order_channel order (entry_at order m) (entry_at order (suc m)) ∷ order_channels_from order (suc m) n else order_channels_from order (suc m) n)
        ≡ map (λ (p : ℕ × ℕ). order_channel order p.0 p.1) (if b then (entry_at order m, entry_at order (suc m)) ∷ pairs_from order (suc m) n else pairs_from order (suc m) n)
    at true rest = ap (λ (cs : List Channel). order_channel order (entry_at order m) (entry_at order (suc m)) ∷ cs) rest
    at false rest = rest

-- where a pair stands
pub record PairAt (order : List ℕ) (m n : ℕ) (pair : ℕ × ℕ) : Type 0 where
  pub place : ℕ
  pub below : place < m + n
  pub is : pair ≡ (entry_at order place, entry_at order (suc place))

pub pair-at : (order : List ℕ) (m n i : ℕ) (d : ℕ × ℕ) → i < length (pairs_from order m n) → PairAt order m n (slice_index_or (pairs_from order m n) i d)
pair-at order m zero i d below = absurd (omega arith)
pair-at order m (suc n) i d below = at i (led order (entry_at order m) (entry_at order (suc m)) m == 0) below (pair-at order (suc m) n)
  where
    later : {p : ℕ × ℕ} → PairAt order (suc m) n p → PairAt order m (suc n) p
    later q = record { place = q.place; below = omega (arith, q.below); is = q.is }

    at : (i : ℕ) (b : Bool) → i < length (if b then (entry_at order m, entry_at order (suc m)) ∷ pairs_from order (suc m) n else pairs_from order (suc m) n)
        → ((i : ℕ) (d : ℕ × ℕ) → i < length (pairs_from order (suc m) n) → PairAt order (suc m) n (slice_index_or (pairs_from order (suc m) n) i d))
        → PairAt order m (suc n) (slice_index_or (if b then (entry_at order m, entry_at order (suc m)) ∷ pairs_from order (suc m) n else pairs_from order (suc m) n) i d)
    at zero true below rest = record { place = m; below = omega arith; is = refl }
    at (suc i) true below rest = later (rest i d (omega arith))
    at i false below rest = later (rest i d below)

-- ---- the turns of loops

module _ (order : List ℕ) (place : ℕ) (below : place < length order) where
  here : entry_at order (0 + place) ≡ slice_index order place
  here = let e : 0 + place ≡ place = omega arith in rw e (entry-here order place below)

  pub picked-hit : (a r : ℕ) (test : ℕ → Bool) → slice_index order place ≡ a → r ≡ one_if (test place) → picked order a test 0 (place + 1) ≡ picked order a test 0 place ++ r ∷ []
  picked-hit a r test is rate =
      let e : 0 + place ≡ place = omega arith in
      let hit : (entry_at order (0 + place) == a) ≡ true = eq-eqb (entry_at order (0 + place)) a (here ∙ is) in
      let one : one_if (test (0 + place)) ≡ r = ap (λ (m : ℕ). one_if (test m)) e ∙ sym rate in
      picked-more order a test 0 place ∙ (ap (λ (b : Bool). picked order a test 0 place ++ (if b then one_if (test (0 + place)) ∷ [] else [])) hit ∙ ap (λ (n : ℕ). picked order a test 0 place ++ n ∷ []) one)

  pub picked-miss : (a : ℕ) (test : ℕ → Bool) → (slice_index order place ≡ a → ⊥) → picked order a test 0 (place + 1) ≡ picked order a test 0 place
  picked-miss a test other =
      let miss : (entry_at order (0 + place) == a) ≡ false = ap (λ (x : ℕ). x == a) here ∙ apart in
      picked-more order a test 0 place ∙ (ap (λ (b : Bool). picked order a test 0 place ++ (if b then one_if (test (0 + place)) ∷ [] else [])) miss ∙ append-nil (picked order a test 0 place))
    where
      apart : (slice_index order place == a) ≡ false
      apart = at (slice_index order place == a) refl
        where
          at : (b : Bool) → (slice_index order place == a) ≡ b → b ≡ false
          at true is = absurd (other (eqb-true (slice_index order place) a is))
          at false is = refl

  known : (x y : ℕ) (b : Bool) (pairs : List (ℕ × ℕ)) → x ≡ slice_index order place → y ≡ entry_at order (suc place) → pairs ≡ pairs_from order 0 place
      → b ≡ list_any (λ (p : ℕ × ℕ). (p.0 == x) && (p.1 == y)) pairs → pairs_from order 0 (place + 1) ≡ pairs_from order 0 place ++ (if not b then (x, y) ∷ [] else [])
  known x y b pairs first second so test =
      let e : 0 + place ≡ place = omega arith in
      let x' : entry_at order (0 + place) ≡ x = here ∙ sym first in
      let y' : entry_at order (suc (0 + place)) ≡ y = ap (λ (m : ℕ). entry_at order (suc m)) e ∙ sym second in
      let came : b ≡ not (led order x y place == 0) = test ∙ (ap (list_any (λ (p : ℕ × ℕ). (p.0 == x) && (p.1 == y))) so ∙ pair-known order x y place) in
      let new : (led order x y (0 + place) == 0) ≡ not b = ap (λ (m : ℕ). led order x y m == 0) e ∙ turn (led order x y place == 0) came in
      let more : pairs_from order 0 (place + 1) ≡ pairs_from order 0 place ++ (if led order x y (0 + place) == 0 then (x, y) ∷ [] else []) = rw (x', y') at (pairs-more order 0 place) in
      more ∙ ap (λ (c : Bool). pairs_from order 0 place ++ (if c then (x, y) ∷ [] else [])) new
    where
      turn : (c : Bool) → b ≡ not c → c ≡ not b
      turn true is = ap not (sym is)
      turn false is = ap not (sym is)

  pub pairs-new : (x y : ℕ) (b : Bool) (pairs : List (ℕ × ℕ)) → x ≡ slice_index order place → y ≡ entry_at order (suc place) → pairs ≡ pairs_from order 0 place
      → b ≡ list_any (λ (p : ℕ × ℕ). (p.0 == x) && (p.1 == y)) pairs → b ≡ false → pairs_from order 0 (place + 1) ≡ pairs_from order 0 place ++ (x, y) ∷ []
  pairs-new x y b pairs first second so test none = known x y b pairs first second so test ∙ ap (λ (c : Bool). pairs_from order 0 place ++ (if not c then (x, y) ∷ [] else [])) none

  pub pairs-same : (x y : ℕ) (b : Bool) (pairs : List (ℕ × ℕ)) → x ≡ slice_index order place → y ≡ entry_at order (suc place) → pairs ≡ pairs_from order 0 place
      → b ≡ list_any (λ (p : ℕ × ℕ). (p.0 == x) && (p.1 == y)) pairs → b ≡ true → pairs_from order 0 (place + 1) ≡ pairs_from order 0 place
  pairs-same x y b pairs first second so test came =
      known x y b pairs first second so test ∙ (ap (λ (c : Bool). pairs_from order 0 place ++ (if not c then (x, y) ∷ [] else [])) came ∙ append-nil (pairs_from order 0 place))

-- an order channel by its parts
pub step-is : (order : List ℕ) (x y : ℕ) (made taken : List ℕ) (tokens : ℕ) → made ≡ (order_channel order x y).made → taken ≡ (order_channel order x y).taken → tokens ≡ (order_channel order x y).tokens
    → record { source = x; target = y; made = made; taken = taken; tokens = tokens; size = 1; role = Order x y } ≡ order_channel order x y
step-is order x y made taken tokens one other some = rw (one, other, some) refl
