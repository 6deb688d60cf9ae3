-- Chains split at each of their steps, and join where one ends at the firing that the other starts from.
use Rattle.std.proofs.Common.{◌≡◌, ℕ, ◌+◌, ◌*◌, ◌≤◌, List, [], ◌∷◌, ◌++◌, drop, subst, sym, refl, ap, ◌∙◌, arith}
use Rattle.critical.specs.declared.cycle.FiringNo.{FiringNo}
use Rattle.critical.specs.declared.cycle.CycleStep.{CycleStep}
use Rattle.sd_base.specs.Net.{Net}
use Rattle.sd_base.specs.Schedules.{time_of}
use Rattle.critical.specs.Cycles.{IsStep, IsChain, last_of, time_along}

-- after the first i steps the chain stands at a firing, so much time on, and the other steps decide the rest
pub record Follows (net : Net) (from : FiringNo) (steps : List CycleStep) (i : ℕ) (at : FiringNo) (time : ℕ) : Type 0 where
  pub chain : IsChain net from steps → IsChain net at (drop i steps)
  pub back : IsChain net at (drop i steps) → IsChain net from steps
  pub last : last_of from steps ≡ last_of at (drop i steps)
  pub all : time_along net from steps ≡ time + time_along net at (drop i steps)
  pub small : time ≤ i * 1000000000

module _ (net : Net) (from : FiringNo) (steps : List CycleStep) (i : ℕ) (at : FiringNo) (time : ℕ) (walk : Follows net from steps i at time) where
  pub follows-next : (step : CycleStep) → drop i steps ≡ step ∷ drop (i + 1) steps → IsStep net at step → (more : ℕ) → more ≡ time_of net at.actor at.number → more ≤ 1000000000 →
      Follows net from steps (i + 1) step.to (time + more)
  follows-next step split leads more takes short =
      let same_last : last_of at (drop i steps) ≡ last_of step.to (drop (i + 1) steps) = ap (last_of at) split in
      let same_time : time_along net at (drop i steps) ≡ time_of net at.actor at.number + time_along net step.to (drop (i + 1) steps) = ap (time_along net at) split in
      record {
        chain = λ c. (subst (λ (rest : List CycleStep). IsChain net at rest) split (walk.chain c)).1;
        back = λ c. walk.back (subst (λ (rest : List CycleStep). IsChain net at rest) (sym split) (leads, c));
        last = walk.last ∙ same_last;
        all = omega (arith, walk.all);
        small = omega (arith, walk.small);
      }

  pub follows-stop : (step : CycleStep) → drop i steps ≡ step ∷ drop (i + 1) steps → ¬ IsStep net at step → ¬ IsChain net from steps
  follows-stop step split stops = λ c. stops (subst (λ (rest : List CycleStep). IsChain net at rest) split (walk.chain c)).0

  pub follows-all : drop i steps ≡ [] → IsChain net from steps × (at ≡ last_of from steps) × (time ≡ time_along net from steps)
  follows-all done =
      let same_last : last_of at (drop i steps) ≡ at = ap (last_of at) done in
      let same_time : time_along net at (drop i steps) ≡ 0 = ap (time_along net at) done in
      (walk.back (subst (λ (rest : List CycleStep). IsChain net at rest) (sym done) tt), sym (walk.last ∙ same_last), omega (arith, walk.all))

module _ (net : Net) where
  -- a chain that goes on along further steps
  pub chain-front : (from : FiringNo) (xs ys : List CycleStep) → IsChain net from (xs ++ ys) → IsChain net from xs
  chain-front from [] ys chain = tt
  chain-front from (x ∷ xs) ys chain = (chain.0, chain-front x.to xs ys chain.1)

  pub chain-back : (from : FiringNo) (xs ys : List CycleStep) → IsChain net from (xs ++ ys) → IsChain net (last_of from xs) ys
  chain-back from [] ys chain = chain
  chain-back from (x ∷ xs) ys chain = chain-back x.to xs ys chain.1

  pub chain-both : (from : FiringNo) (xs ys : List CycleStep) → IsChain net from xs → IsChain net (last_of from xs) ys → IsChain net from (xs ++ ys)
  chain-both from [] ys front back = back
  chain-both from (x ∷ xs) ys front back = (front.0, chain-both x.to xs ys front.1 back)

  pub last-both : (from : FiringNo) (xs ys : List CycleStep) → last_of from (xs ++ ys) ≡ last_of (last_of from xs) ys
  last-both from [] ys = refl
  last-both from (x ∷ xs) ys = last-both x.to xs ys

  pub time-both : (from : FiringNo) (xs ys : List CycleStep) → time_along net from (xs ++ ys) ≡ time_along net from xs + time_along net (last_of from xs) ys
  time-both from [] ys = omega arith
  time-both from (x ∷ xs) ys = omega (arith, time-both x.to xs ys)
