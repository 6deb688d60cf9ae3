-- What order channels need: the firing of each entry that of the one before.
use Rattle.std.proofs.Common.{◌≡◌, ℕ, zero, suc, ◌+◌, ◌*◌, ◌≤◌, ◌<◌, Bool, true, false, List, length, subst, sym, refl, ap, ◌∙◌, arith, eq-eqb}
use Rattle.std.specs.Prelude.{pred, ◌==◌, ◌&&◌}
use Rattle.std.proofs.Math.Bool.{and_comm}
use Rattle.sd_base.specs.Net.{total}
use Rattle.sd_base.specs.Schedules.{Needs}
use Rattle.ordered.specs.Orders.{entry_at, one_if, how_many, fired}
use Rattle.ordered.specs.OrderedNets.{before, leads, led, order_channel}
use Rattle.ordered.proofs.CountsRepeatByTurns.{many-zero, many-suc, many-hit, many-before}
use Rattle.ordered.proofs.RatesCountEntries.{entry-turns, is_of, fired-here, rates-sum}

module _ (order : List ℕ) (some : 1 ≤ length order) (x y : ℕ) where
  pub after-turns : (k q : ℕ) → (entry_at order (suc (k + q * length order)) == y) ≡ (entry_at order (suc k) == y)
  after-turns k q =
      let e : suc (k + q * length order) ≡ suc k + q * length order = omega arith in
      ap (λ (a : ℕ). a == y) (ap (entry_at order) e ∙ entry-turns order (suc k) q)

  pub before-turns : (k q : ℕ) → (entry_at order (before order (k + q * length order)) == x) ≡ (entry_at order (before order k) == x)
  before-turns k q =
      let e : k + q * length order + pred (length order) ≡ k + pred (length order) + q * length order = omega arith in
      ap (λ (a : ℕ). a == x) (ap (entry_at order) e ∙ entry-turns order (k + pred (length order)) q)

  -- the entry before the one after m is m
  back : (m : ℕ) → entry_at order (before order (suc m)) ≡ entry_at order m
  back m =
      let e : suc m + pred (length order) ≡ m + 1 * length order = omega arith in
      ap (entry_at order) e ∙ entry-turns order m 1

  round-on : entry_at order (suc (before order 0)) ≡ entry_at order 0
  round-on =
      let e : suc (0 + pred (length order)) ≡ 0 + 1 * length order = omega arith in
      ap (entry_at order) e ∙ entry-turns order 0 1

  pub made-led : (m : ℕ) → total (order_channel order x y).made (fired order x m) ≡ led order x y m
  made-led m = rates-sum order x (λ k. entry_at order (suc k) == y) some after-turns m

  -- how often y has come after x by entry m, and once more where the last entry is of x and the first of y
  arrived : (m : ℕ) → how_many (λ k. is_of order y k && (entry_at order (before order k) == x)) (suc m) ≡ (order_channel order x y).tokens + led order x y m
  arrived zero =
      let one : how_many (λ k. is_of order y k && (entry_at order (before order k) == x)) 1 ≡ 0 + one_if (is_of order y 0 && (entry_at order (before order 0) == x))
      = many-suc (λ k. is_of order y k && (entry_at order (before order k) == x)) 0 ∙ ap (λ (n : ℕ). n + one_if (is_of order y 0 && (entry_at order (before order 0) == x))) (many-zero (λ k. is_of order y k && (entry_at order (before order k) == x))) in
      let turn : one_if (is_of order y 0 && (entry_at order (before order 0) == x)) ≡ one_if (leads order x y (before order 0))
      = ap one_if (and_comm (is_of order y 0) (entry_at order (before order 0) == x) ∙ ap (λ (a : ℕ). (entry_at order (before order 0) == x) && (a == y)) (sym round-on)) in
      let none : led order x y 0 ≡ 0 = many-zero (leads order x y) in
      omega (arith, one, turn, none)
  arrived (suc m) =
      let more = many-suc (λ k. is_of order y k && (entry_at order (before order k) == x)) (suc m) in
      let turn : one_if (is_of order y (suc m) && (entry_at order (before order (suc m)) == x)) ≡ one_if (leads order x y m)
      = ap one_if (ap (λ (a : ℕ). is_of order y (suc m) && (a == x)) (back m) ∙ and_comm (is_of order y (suc m)) (entry_at order m == x)) in
      let also = many-suc (leads order x y) m in
      omega (arith, more, turn, also, arrived m)

  pub taken-led : (m : ℕ) → total (order_channel order x y).taken (fired order y (suc m)) ≡ (order_channel order x y).tokens + led order x y m
  taken-led m = rates-sum order y (λ k. entry_at order (before order k) == x) some before-turns (suc m) ∙ arrived m

  -- the entry of a firing that another one needs stands before that one's
  pub needs-earlier : (m n : ℕ) → entry_at order n ≡ y → Needs (order_channel order x y) (fired order y n) (fired order x m) → m < n
  needs-earlier m n here need =
      let e : fired order y n + 1 ≡ fired order y (suc n) = sym (fired-here order y n here) in
      let taken : total (order_channel order x y).taken (fired order y n + 1) ≡ (order_channel order x y).tokens + led order x y n = ap (total (order_channel order x y).taken) e ∙ taken-led n in
      let less : led order x y m < led order x y n = omega (arith, taken, made-led m) in
      many-before (leads order x y) m n less

  -- the firing of an entry needs that of the one before
  pub needs-last : (m : ℕ) → entry_at order m ≡ x → entry_at order (suc m) ≡ y → Needs (order_channel order x y) (fired order y (suc m)) (fired order x m)
  needs-last m one other =
      let e : fired order y (suc m) + 1 ≡ fired order y (suc (suc m)) = sym (fired-here order y (suc m) other) in
      let taken : total (order_channel order x y).taken (fired order y (suc m) + 1) ≡ (order_channel order x y).tokens + led order x y (suc m) = ap (total (order_channel order x y).taken) e ∙ taken-led (suc m) in
      let hit : leads order x y m ≡ true = ap (λ (b : Bool). b && (entry_at order (suc m) == y)) (eq-eqb (entry_at order m) x one) ∙ eq-eqb (entry_at order (suc m)) y other in
      let more : led order x y (suc m) ≡ led order x y m + 1 = many-hit (leads order x y) m hit in
      omega (arith, taken, made-led m, more)
