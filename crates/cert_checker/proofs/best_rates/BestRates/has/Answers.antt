use Rattle.std.proofs.Common.{◌≡◌, ◌<◌, ◌-◌, List, length, eq-eqb, refl, subst, sym, ap, true≢false, ◌∙◌, arith}
use Rattle.std.specs.Prelude.{not}
use Rattle.cert_checker.specs.declared.best_rates.Best.{Best}
use Rattle.cert_checker.specs.inside.Bests.{IsAtMost, best_at, no_best}
use Rattle.cert_checker.proofs.BestRates.{best-found}
use Rattle.cert_checker.proofs.AnswersJudgeLines.{item-of}
use Rattle.cert_checker.proofs.best_rates.BestRates.has.Goals as goal

pub returns-then-count-ne0 : goal.returns-then-count-ne0
returns-then-count-ne0 c = λ points are.
    let steps = c.args.self.now.steps.items in
    let count = c.count_within-count.result in
    let both = best-found points c.args.self.now c.args.storage c.args.rate c.deref.result.now count c.deref.ensures.value c.count_within-count.ensures.within c.count_within-count.ensures.split are in
    let inside : count - 1 < length steps = omega (arith, c.if-count-ne0.true, c.count_within-count.ensures.within, c.deref.ensures.len, ap (λ (l : List Best). length l) c.deref.ensures.value) in
    let item : c.index.result.now ≡ best_at steps (count - 1) = item-of steps steps (count - 1) c.index.result.now no_best refl inside c.index.ensures in (
      λ yes. both.0 (omega (arith, c.if-count-ne0.true), subst (λ (x : Best). IsAtMost c.args.rate x.rate) item (c.is_at_most.ensures.0 yes)),
      λ has. c.is_at_most.ensures.1 (subst (λ (x : Best). IsAtMost c.args.rate x.rate) (sym item) (both.1 has).1),
    )

pub returns-else-count-ne0 : goal.returns-else-count-ne0
returns-else-count-ne0 c = λ points are.
    let both = best-found points c.args.self.now c.args.storage c.args.rate c.deref.result.now c.count_within-count.result c.deref.ensures.value c.count_within-count.ensures.within c.count_within-count.ensures.split are in (
      λ yes. absurd (true≢false (sym yes ∙ ap not (eq-eqb c.count_within-count.result 0 c.if-count-ne0.false))),
      λ has. absurd (omega (arith, (both.1 has).0, c.if-count-ne0.false)),
    )
