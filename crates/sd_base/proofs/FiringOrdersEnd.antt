-- Firing actors one after another comes to an end.
use Rattle.std.proofs.Common.{◌≡◌, ℕ, zero, suc, ◌+◌, ◌-◌, ◌≤◌, ◌<◌, ◌⊎◌, true, false, List, [], ◌∷◌, ◌++◌, length, inl, inr, ⊎_elim, refl, arith}
use Rattle.std.specs.Prelude.{slice_index}
use Rattle.std.proofs.lemmas.Bool.{cases_lt, cases_order, cases_eq, cases_Bool}
use Rattle.sd_base.specs.Net.{Net}
use Rattle.sd_base.specs.Schedules.{Lacks}
use Rattle.sd_base.specs.SelfTimed.{allows}
use Rattle.sd_base.specs.Untimed.{none_fired, one_more, CanFire, Fires, counts_after, IsLive, Closed, Blocks, IsEnd}
use Rattle.sd_base.proofs.EarliestExists.{allows-true, allows-false}
use Rattle.sd_base.proofs.ClosedCountsBoundRuns.{bump-same, bump-other, end-decides}

unfoldable pub sum_to : (ℕ → ℕ) → ℕ → ℕ
sum_to f zero = 0
sum_to f (suc n) = sum_to f n + f n

pub sum_to-le : (f g : ℕ → ℕ) (n : ℕ) → ((b : ℕ) → b < n → f b ≤ g b) → sum_to f n ≤ sum_to g n
unfolding sum_to
sum_to-le f g zero below = omega arith
sum_to-le f g (suc n) below = omega (arith, sum_to-le f g n (λ b h. below b (omega arith)), below n (omega arith))

pub sum_to-lt : (f g : ℕ → ℕ) (n a : ℕ) → ((b : ℕ) → b < n → f b ≤ g b) → a < n → f a < g a → sum_to f n < sum_to g n
unfolding sum_to
sum_to-lt f g zero a below place less = absurd (omega arith)
sum_to-lt f g (suc n) a below place less = ⊎_elim
    (λ (same : a ≡ n). let here : f n < g n = rw same at less in omega (arith, sum_to-le f g n (λ b h. below b (omega arith))))
    (λ (apart : (a < n) ⊎ (n < a)). ⊎_elim (λ (h : a < n). omega (arith, sum_to-lt f g n a (λ b is. below b (omega arith)) h less, below n (omega arith))) (λ (h : n < a). absurd (omega arith)) apart)
    (cases_order a n)

-- one of the first n actors can fire, or each of them that is below its round lacks tokens
abbrev Found : Net → (ℕ → ℕ) → ℕ → Type 0
Found net v n = ((a : ℕ) × (a < n) × (v a < slice_index net.round a) × CanFire net v a) ⊎ ((a : ℕ) → a < n → v a < slice_index net.round a → Lacks net v a (v a))

find : (net : Net) (v : ℕ → ℕ) (n : ℕ) → Found net v n
find net v zero = inr (λ a h less. absurd (omega arith))
find net v (suc n) = step (find net v n) (cases_lt (v n) (slice_index net.round n)) (cases_Bool (allows net.channels v n (v n)))
  where
    step : Found net v n → (v n < slice_index net.round n) ⊎ (slice_index net.round n ≤ v n) → (allows net.channels v n (v n) ≡ true) ⊎ (allows net.channels v n (v n) ≡ false) → Found net v (suc n)
    step (inl found) short test = inl (found.0, omega (arith, found.1), found.2, found.3)
    step (inr none) (inl less) (inl can) = inl (n, omega arith, less, allows-true net.channels v n (v n) can)
    step (inr none) (inl less) (inr lack) = inr (λ a h small. ⊎_elim
        (λ (same : a ≡ n). rw same (allows-false net.channels v n (v n) lack))
        (λ (apart : (a < n) ⊎ (n < a)). ⊎_elim (λ (below : a < n). none a below small) (λ (above : n < a). absurd (omega arith)) apart) (cases_order a n))
    step (inr none) (inr whole) test = inr (λ a h small. ⊎_elim
        (λ (same : a ≡ n). absurd (let mine : v n < slice_index net.round n = rw same at small in omega arith))
        (λ (apart : (a < n) ⊎ (n < a)). ⊎_elim (λ (below : a < n). none a below small) (λ (above : n < a). absurd (omega arith)) apart) (cases_order a n))

-- what is left of the round
unfoldable pub left_of : Net → (ℕ → ℕ) → ℕ
left_of net v = sum_to (λ (a : ℕ). slice_index net.round a - v a) (length net.times)

-- one more firing leaves less
pub left-more : (net : Net) (v w : ℕ → ℕ) (a : ℕ) → a < length net.times → v a < slice_index net.round a → w a ≡ v a + 1 → ((b : ℕ) → (b ≡ a → ⊥) → w b ≡ v b) → left_of net w < left_of net v
unfolding left_of
left-more net v w a actor less here others = sum_to-lt (λ (b : ℕ). slice_index net.round b - w b) (λ (b : ℕ). slice_index net.round b - v b) (length net.times) a each actor (omega arith)
  where
    each : (b : ℕ) → b < length net.times → slice_index net.round b - w b ≤ slice_index net.round b - v b
    each b h = ⊎_elim (λ (same : b ≡ a). rw same (omega arith)) (λ (apart : b ≡ a → ⊥). omega (arith, others b apart)) (cases_eq b a)

left-bump : (net : Net) (v : ℕ → ℕ) (a : ℕ) → a < length net.times → v a < slice_index net.round a → left_of net (one_more v a) < left_of net v
left-bump net v a actor less = left-more net v (one_more v a) a actor less (bump-same v a) (λ b apart. bump-other v a b apart)

abbrev EndsFrom : Net → (ℕ → ℕ) → Type 0
EndsFrom net v = (order : List ℕ) × Fires net v order × Closed net (counts_after v order)

ends-from : (net : Net) (fuel : ℕ) (v : ℕ → ℕ) → left_of net v < fuel → EndsFrom net v
ends-from net zero v few = absurd (omega arith)
ends-from net (suc fuel) v few = step (find net v (length net.times)) (λ a less. ends-from net fuel (one_more v a) less)
  where
    step : Found net v (length net.times) → ((a : ℕ) → left_of net (one_more v a) < fuel → EndsFrom net (one_more v a)) → EndsFrom net v
    step (inl found) next =
        let rest : EndsFrom net (one_more v found.0) = next found.0 (omega (arith, left-bump net v found.0 found.1 found.2)) in
        (found.0 ∷ rest.0, (found.1, found.2, found.3, rest.1), rest.2)
    step (inr none) next = ([], tt, none)

-- one more firing at the end of an order
pub fires-push : (net : Net) (order : List ℕ) (v : ℕ → ℕ) (a : ℕ) → Fires net v order → a < length net.times → counts_after v order a < slice_index net.round a → CanFire net (counts_after v order) a → Fires net v (order ++ a ∷ [])
fires-push net [] v a fires actor less can = (actor, less, can, tt)
fires-push net (b ∷ order) v a fires actor less can = (fires.0, fires.1, fires.2, fires-push net order (one_more v b) a fires.3 actor less can)

pub after-push : (order : List ℕ) (v : ℕ → ℕ) (a b : ℕ) → counts_after v (order ++ a ∷ []) b ≡ one_more (counts_after v order) a b
after-push [] v a b = refl
after-push (c ∷ order) v a b = after-push order (one_more v c) a b

pub end-exists : (net : Net) → (v : ℕ → ℕ) × IsEnd net v
end-exists net =
    let ends : EndsFrom net none_fired = ends-from net (suc (left_of net none_fired)) none_fired (omega arith) in
    (counts_after none_fired ends.0, record { order = ends.0; fires = ends.1; counts = λ a actor. refl; closed = ends.2 })

-- a round can be completed, or the ending counts block the net
pub live_or_blocked : (net : Net) → IsLive net ⊎ ((v : ℕ → ℕ) × IsEnd net v × Blocks net v)
live_or_blocked net =
    let end = end-exists net in
    ⊎_elim (λ (live : IsLive net). inl live) (λ (blocks : Blocks net end.0). inr (end.0, end.1, blocks)) (end-decides net end.0 end.1)
