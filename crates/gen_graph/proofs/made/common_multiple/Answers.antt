use Rattle.std.proofs.Common.{◌≡◌, ℕ, zero, suc, ◌*◌, ◌%◌, ◌<◌, ◌≤◌, refl, arith}
use Rattle.std.proofs.lemmas.Nat.Gcd.{dvd_of_mod-eq-zero, mod-eq-zero_of_dvd}
use Rattle.sd_base.specs.Numbers.{IsLcm}
use Rattle.gen_graph.proofs.made.common_multiple.Goals as goal

by_rests : (v w m : ℕ) → 0 < m → m % v ≡ 0 → m % w ≡ 0 → ((n : ℕ) → n % v ≡ 0 → n % w ≡ 0 → n % m ≡ 0) → IsLcm v w m
by_rests v w m some one other least =
    (some, dvd_of_mod-eq-zero v one, dvd_of_mod-eq-zero w other, λ n a b. dvd_of_mod-eq-zero m (least n (mod-eq-zero_of_dvd v a) (mod-eq-zero_of_dvd w b)))

least : (v w : ℕ) → 1 ≤ v → v ≤ 3 → 1 ≤ w → w ≤ 3 → (v ≡ w → ⊥) → IsLcm v w (v * w)
least zero w a b c d e = absurd (omega (arith, a))
least (suc zero) zero a b c d e = absurd (omega (arith, c))
least (suc zero) (suc zero) a b c d e = absurd (e refl)
least (suc zero) (suc (suc zero)) a b c d e = by_rests 1 2 2 (omega arith) refl refl (λ n x y. y)
least (suc zero) (suc (suc (suc zero))) a b c d e = by_rests 1 3 3 (omega arith) refl refl (λ n x y. y)
least (suc zero) (suc (suc (suc (suc w)))) a b c d e = absurd (omega (arith, d))
least (suc (suc zero)) zero a b c d e = absurd (omega (arith, c))
least (suc (suc zero)) (suc zero) a b c d e = by_rests 2 1 2 (omega arith) refl refl (λ n x y. x)
least (suc (suc zero)) (suc (suc zero)) a b c d e = absurd (e refl)
least (suc (suc zero)) (suc (suc (suc zero))) a b c d e = by_rests 2 3 6 (omega arith) refl refl (λ n x y. omega (arith, x, y))
least (suc (suc zero)) (suc (suc (suc (suc w)))) a b c d e = absurd (omega (arith, d))
least (suc (suc (suc zero))) zero a b c d e = absurd (omega (arith, c))
least (suc (suc (suc zero))) (suc zero) a b c d e = by_rests 3 1 3 (omega arith) refl refl (λ n x y. x)
least (suc (suc (suc zero))) (suc (suc zero)) a b c d e = by_rests 3 2 6 (omega arith) refl refl (λ n x y. omega (arith, x, y))
least (suc (suc (suc zero))) (suc (suc (suc zero))) a b c d e = absurd (e refl)
least (suc (suc (suc zero))) (suc (suc (suc (suc w)))) a b c d e = absurd (omega (arith, d))
least (suc (suc (suc (suc v)))) w a b c d e = absurd (omega (arith, b))

pub returns-else-v-w-clause-least : goal.returns-else-v-w-clause-least
returns-else-v-w-clause-least c = least c.args.v c.args.w c.requires.v.0 c.requires.v.1 c.requires.w.0 c.requires.w.1 c.if-v-w.false
