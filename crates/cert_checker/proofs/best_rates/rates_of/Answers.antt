use Rattle.std.proofs.Common.{◌≡◌, ◌≤◌, ◌+◌, ◌↔◌, ℕ, Vec, Global, ap, length, refl, subst, sym, ◌∙◌, arith}
use Rattle.cert_text.specs.declared.certificates.PointLine.{PointLine}
use Rattle.cert_checker.specs.declared.best_rates.Best.{Best}
use Rattle.cert_checker.specs.StorageCertificates.{no_point, point_at}
use Rattle.cert_checker.specs.inside.Bests.{HasUpTo}
use Rattle.cert_checker.proofs.BestRates.{AreRates, HasBelowFirst, rates-none, rates-push, rates-skip}
use Rattle.cert_checker.proofs.AnswersJudgeLines.{item-of}
use Rattle.cert_checker.proofs.best_rates.rates_of.Goals as goal
use Rattle.cert_checker.proofs.best_rates.rates_of.Goals.{then-point-ne0+in_ok-push, else-point-ne0}

pub loop-point-init : goal.loop-point-init
loop-point-init c = rates-none c.args.points.now c.new-rates.result.items c.new-rates.ensures.items

pub loop-point-preserved : goal.loop-point-preserved
loop-point-preserved c =
    let n = c.loop-point.point-index in
    let p : c.point-item.result ≡ point_at c.args.points.now n = item-of c.args.points.now c.args.points.now n c.point-item.result no_point refl c.loop-point-test.true c.point-item.is in
    let P : Vec Best Global → Type 0 = λ v. AreRates c.args.points.now (n + 1) v.items in
    elim c.if-point-ne0.branch [
      | then-point-ne0+in_ok-push w ↦
          let some : 1 ≤ c.point-item.result.rate.1 = omega (arith, w.if-point-ne0.true) in
          subst P (sym w.rates-is) (rates-push c.args.points.now n c.loop-point.rates.items w.push.new.self.items (record { storage = c.point-item.result.total; rate = c.point-item.result.rate })
          (ap (λ (x : PointLine). let b : Best = record { storage = x.total; rate = x.rate } in b) p) (subst (λ (x : PointLine). 1 ≤ x.rate.1) p some) w.in_ok-push.ensures.items c.loop-point.invariant)
      | else-point-ne0 w ↦ subst P (sym w.rates-is) (rates-skip c.args.points.now n c.loop-point.rates.items (ap (λ (x : PointLine). x.rate.1) (sym p) ∙ w.if-point-ne0.false) c.loop-point.invariant)
    ]

pub returns-clause-same : goal.returns-clause-same
returns-clause-same c = λ storage rate.
    let e : c.loop-point.point-index ≡ length c.args.points.now = omega (arith, c.loop-point-test.false, c.loop-point.auto.point-index-end) in
    subst (λ (n : ℕ). HasUpTo c.loop-point.rates.items storage rate ↔ HasBelowFirst c.args.points.now n storage rate) e (c.loop-point.invariant.same storage rate)
